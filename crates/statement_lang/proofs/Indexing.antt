-- Ranges found by an index: what the range that has an address says of all of them.
use Rattle.std.proofs.Common.{◌≡◌, ℕ, zero, suc, ◌+◌, ◌-◌, ◌^◌, ◌<◌, ◌≤◌, Bool, true, false, cond, List, [], ◌∷◌, ◌++◌, map, Some, None, length, get_or, set, insert, Option, refl, sym, ◌∙◌, ap, subst, arith, inl, inr}
use Rattle.std.specs.Prelude.{◌⊎◌, ◌&&◌, ◌||◌, IfNone, IfSome, is_some, nat_le, nat_lt, slice_get, slice_index, slice_set, All, AllPairs}
use Rattle.std.specs.List.{list_all}
use Rattle.std.proofs.Math.Nat.{eq-or-lt_of_le}
use Rattle.std.proofs.lemmas.Bool.{and_from, and_parts, cases_Bool, cases_lt, cond_both, false≢true, le-leb, leb-true, lt-ltb, ltb-true, or_cases, or_left, or_right, and_right}
use Rattle.std.proofs.lemmas.List.{get_or_append_left, get_or_default, get_or_push, get_or_read, length-set, length_push}
use Rattle.std.proofs.lemmas.List.Edits.{get_or-insert_above, get_or-insert_at, get_or-insert_below, length-insert}
use Rattle.std.proofs.lemmas.List.Elements.{All-from_get_or, All-get_or, All-head, All-push, All-tail, All-weaker}
use Rattle.std.proofs.lemmas.List.Folds.{list_all_at, map_fixed}
use Rattle.std.proofs.lemmas.List.Sums.{AllPass-from_list_all, list_all-from_AllPass}
use Rattle.std.proofs.lemmas.List.Quantifiers.{all_pairs_push}
use Rattle.memory_map.specs.Map.{is_in_user_space}
use Rattle.memory_map.specs.Range.{AreApart, IsInUserSpace, Range, byte_at, code_at, end_of, has, mapping_of, may_write}
use Rattle.memory_map.specs.Spans.{AreAll}
use Rattle.memory_map.proofs.Faults.{user_space}
use Rattle.memory_map.proofs.Lists.{byte_at-here, byte_at-none, byte_at-there, code_at-here, code_at-none, code_at-not_code, code_at-not_here}
use Rattle.memory_map.proofs.Mappings.{apart_mapped, apart_not_in, inside_mapped, mapped_inside, pairs_head, pairs_tail, same_at, same_length, written_mapped}
use Rattle.memory_map.specs.State.{MachineState, memory}
use Rattle.bit_words.specs.declared.width.Width.{Width}
use Rattle.bit_words.specs.declared.width.Width.TheVariants.{B8, B16, B32}
use Rattle.x86_semantics.specs.Memory.{next_byte, number_at, put_byte, with_low_byte, word_at}
use Rattle.statement_lang.specs.Filling.{fill_byte}
use Rattle.statement_lang.specs.Indexed.{IsIndex, IsIndexed, IsListed, IsMemory, IsPlaced, IsRank, is_clear, may_map, nowhere, range_at}
use Rattle.statement_lang.proofs.Blocks.{may_write-found, may_write-none, may_write-passed}

-- ---- whether a range has an address

pub has_in : (r : Range) (a : ℕ) → r.low ≤ a → a < end_of r → has a r ≡ true
has_in r a low end = and_from (nat_le r.low a) (nat_lt a (end_of r)) (le-leb r.low a low) (lt-ltb a (end_of r) end)

record IsIn (r : Range) (a : ℕ) : Type 0 where
  low : r.low ≤ a
  end : a < end_of r

in_from : (r : Range) (a : ℕ) → has a r ≡ true → IsIn r a
in_from r a h =
    let parts = and_parts (nat_le r.low a) (nat_lt a (end_of r)) h in
    record { low = leb-true r.low a parts.0; end = ltb-true a (end_of r) parts.1 }

off_from : (r : Range) (a : ℕ) → (IsIn r a → ⊥) → has a r ≡ false
off_from r a off = elim (cases_Bool (has a r)) [ inl h ↦ absurd (off (in_from r a h)) | inr h ↦ h ]

pub off_above : (r : Range) (a : ℕ) → a < r.low → has a r ≡ false
off_above r a h = off_from r a (λ i. let low : r.low ≤ a = i.low in omega arith)

pub off_below : (r : Range) (a : ℕ) → end_of r ≤ a → has a r ≡ false
off_below r a h = off_from r a (λ i. let end : a < end_of r = i.end in omega arith)

-- ---- ranges in the order of an index

ends_after : (r : Range) → r.low ≤ end_of r
ends_after r = omega arith

pub lows_ascend : (ranges : List Range) (order : List ℕ) → IsIndex ranges order → (j k : ℕ) → j ≤ k → k < length order
    → (range_at ranges (slice_index order j)).low ≤ (range_at ranges (slice_index order k)).low
lows_ascend ranges order index j k le within =
    elim (eq-or-lt_of_le le) [
      | inl same ↦ (let e : (range_at ranges (slice_index order j)).low ≡ (range_at ranges (slice_index order k)).low = ap (λ i. (range_at ranges (slice_index order i)).low) same in omega (arith, e))
      | inr less ↦
          let first = ends_after (range_at ranges (slice_index order j)) in
          let next = index.ascending j k less within in
          omega (arith, first, next)
    ]

-- ---- the one range that has an address

off_head : (r : Range) (rs : List Range) (a p : ℕ) → All (AreApart r) rs → IsPlaced rs a p → has a r ≡ false
off_head r rs a p apart at =
    let low = at.low in
    let end = at.end in
    elim (All-get_or (AreApart r) rs p nowhere at.within apart) [
      | inl before ↦ off_below r a (omega (arith, before, low))
      | inr behind ↦ off_above r a (omega (arith, behind, end))
    ]

off_rest : (r : Range) (rs : List Range) (a : ℕ) → All (AreApart r) rs → r.low ≤ a → a < end_of r → All (λ s. has a s ≡ false) rs
off_rest r rs a apart low end =
    All-weaker (AreApart r) (λ s. has a s ≡ false) (λ s h. elim h [
      | inl before ↦ off_above s a (omega (arith, before, end))
      | inr behind ↦ off_below s a (omega (arith, behind, low))
    ]) rs apart

tail_placed : (r : Range) (rs : List Range) (a p : ℕ) → IsPlaced (r ∷ rs) a (suc p) → IsPlaced rs a p
tail_placed r rs a p at = (let w = at.within in record { within = omega (arith, w); low = at.low; end = at.end })

-- ---- what is found at an address that no range has

pub byte_off : (rs : List Range) (a : ℕ) → All (λ r. has a r ≡ false) rs → byte_at rs a ≡ None
byte_off [] a off = byte_at-none a
byte_off (r ∷ rs) a off =
    byte_at-there r rs a (All-head (λ s. has a s ≡ false) r rs off) ∙ byte_off rs a (All-tail (λ s. has a s ≡ false) r rs off)

pub code_off : (rs : List Range) (a : ℕ) → All (λ r. has a r ≡ false) rs → code_at rs a ≡ None
code_off [] a off = code_at-none a
code_off (r ∷ rs) a off =
    code_at-not_here r rs a (All-head (λ s. has a s ≡ false) r rs off) ∙ code_off rs a (All-tail (λ s. has a s ≡ false) r rs off)

pub write_off : (rs : List Range) (a : ℕ) → All (λ r. has a r ≡ false) rs → may_write rs a ≡ false
write_off [] a off = may_write-none a
write_off (r ∷ rs) a off =
    may_write-passed r rs a (and_right r.write (has a r) (All-head (λ s. has a s ≡ false) r rs off))
    ∙ write_off rs a (All-tail (λ s. has a s ≡ false) r rs off)

-- a change of the ranges that have an address alone
abbrev pub ChangesAt : ℕ → (Range → Range) → Type 0
ChangesAt a f = (r : Range) → has a r ≡ false → f r ≡ r

pub map_off : (f : Range → Range) (rs : List Range) (a : ℕ) → ChangesAt a f → All (λ r. has a r ≡ false) rs → map f rs ≡ rs
map_off f rs a at off = map_fixed f rs (All-weaker (λ r. has a r ≡ false) (λ r. f r ≡ r) at rs off)

-- ---- what is found at an address of the range at a place

placed_has : (rs : List Range) (a p : ℕ) → IsPlaced rs a p → has a (range_at rs p) ≡ true
placed_has rs a p at = has_in (range_at rs p) a at.low at.end

nothing_placed : (a p : ℕ) → IsPlaced [] a p → ⊥
nothing_placed a p at = (let w = at.within in absurd (omega (arith, w)))

-- the first range has an address
pub first_placed : (r : Range) (rs : List Range) (a : ℕ) → has a r ≡ true → IsPlaced (r ∷ rs) a 0
first_placed r rs a h = (let i = in_from r a h in record { within = omega arith; low = i.low; end = i.end })

pub byte_placed : (rs : List Range) (a p : ℕ) → AllPairs AreApart rs → IsPlaced rs a p → byte_at rs a ≡ slice_get (range_at rs p).bytes (a - (range_at rs p).low)
byte_placed [] a p apart at = absurd (nothing_placed a p at)
byte_placed (r ∷ rs) a zero apart at = byte_at-here r rs a (placed_has (r ∷ rs) a zero at)
byte_placed (r ∷ rs) a (suc p) apart at =
    byte_at-there r rs a (off_head r rs a p (pairs_head r rs apart) (tail_placed r rs a p at))
    ∙ byte_placed rs a p (pairs_tail r rs apart) (tail_placed r rs a p at)

code_first : (r : Range) (rs : List Range) (a : ℕ) (b : Bool) → r.execute ≡ b → All (AreApart r) rs → r.low ≤ a → a < end_of r
    → code_at (r ∷ rs) a ≡ cond b (slice_get r.bytes (a - r.low)) None
code_first r rs a true is apart low end = code_at-here r rs a is (has_in r a low end)
code_first r rs a false is apart low end = code_at-not_code r rs a is ∙ code_off rs a (off_rest r rs a apart low end)

pub code_placed : (rs : List Range) (a p : ℕ) → AllPairs AreApart rs → IsPlaced rs a p
    → code_at rs a ≡ cond (range_at rs p).execute (slice_get (range_at rs p).bytes (a - (range_at rs p).low)) None
code_placed [] a p apart at = absurd (nothing_placed a p at)
code_placed (r ∷ rs) a zero apart at = code_first r rs a r.execute refl (pairs_head r rs apart) at.low at.end
code_placed (r ∷ rs) a (suc p) apart at =
    code_at-not_here r rs a (off_head r rs a p (pairs_head r rs apart) (tail_placed r rs a p at))
    ∙ code_placed rs a p (pairs_tail r rs apart) (tail_placed r rs a p at)

write_first : (r : Range) (rs : List Range) (a : ℕ) (b : Bool) → r.write ≡ b → All (AreApart r) rs → r.low ≤ a → a < end_of r → may_write (r ∷ rs) a ≡ b
write_first r rs a true is apart low end = may_write-found r rs a (ap (λ w. w && has a r) is ∙ has_in r a low end)
write_first r rs a false is apart low end = may_write-passed r rs a (ap (λ w. w && has a r) is) ∙ write_off rs a (off_rest r rs a apart low end)

pub write_placed : (rs : List Range) (a p : ℕ) → AllPairs AreApart rs → IsPlaced rs a p → may_write rs a ≡ (range_at rs p).write
write_placed [] a p apart at = absurd (nothing_placed a p at)
write_placed (r ∷ rs) a zero apart at = write_first r rs a r.write refl (pairs_head r rs apart) at.low at.end
write_placed (r ∷ rs) a (suc p) apart at =
    may_write-passed r rs a (and_right r.write (has a r) (off_head r rs a p (pairs_head r rs apart) (tail_placed r rs a p at)))
    ∙ write_placed rs a p (pairs_tail r rs apart) (tail_placed r rs a p at)

pub map_placed : (f : Range → Range) (rs : List Range) (a p : ℕ) → ChangesAt a f → AllPairs AreApart rs → IsPlaced rs a p
    → set rs p (f (range_at rs p)) ≡ map f rs
map_placed f [] a p changes apart at = absurd (nothing_placed a p at)
map_placed f (r ∷ rs) a zero changes apart at =
    ap (λ l. f r ∷ l) (sym (map_off f rs a changes (off_rest r rs a (pairs_head r rs apart) at.low at.end)))
map_placed f (r ∷ rs) a (suc p) changes apart at =
    ap (λ (s : Range). s ∷ set rs p (f (range_at rs p))) (sym (changes r (off_head r rs a p (pairs_head r rs apart) (tail_placed r rs a p at))))
    ∙ ap (λ l. f r ∷ l) (map_placed f rs a p changes (pairs_tail r rs apart) (tail_placed r rs a p at))

-- ---- as the code finds it

-- the range that was read at a place where a list has an address
pub record IsFound (ranges : List Range) (block : Range) (a p : ℕ) : Type 0 where
  pub is : block ≡ range_at ranges p
  pub placed : IsPlaced ranges a p

pub found : (held list : List Range) (block : Range) (a p : ℕ) → list ≡ held → IsPlaced list a p → block ≡ get_or held p block → IsFound held block a p
found held list block a p same at read =
    let P : List Range → Type 0 = λ l. IsPlaced l a p in
    let here : IsPlaced held a p = subst P same at in
    record { is = get_or_read held p block here.within read nowhere; placed = here }

-- where the range ends that has an address, if it may be written
pub record IsUntil (ranges : List Range) (a : ℕ) (answer : Option ℕ) : Type 0 where
  pub on : IfSome answer (λ end. a < end)
  pub each : IfSome answer (AreAll (may_write ranges) true a)
  pub none : IfNone answer (may_write ranges a ≡ false)

until_by : (ranges : List Range) (a p : ℕ) (b : Bool) → (range_at ranges p).write ≡ b → AllPairs AreApart ranges → IsPlaced ranges a p
    → IsUntil ranges a (cond b (Some (end_of (range_at ranges p))) None)
until_by ranges a p true is apart at =
    record {
      on = at.end;
      each = record { each = λ c from to. (let low = at.low in write_placed ranges c p apart (record { within = at.within; low = omega (arith, low, from); end = to }) ∙ is) };
      none = tt;
    }
until_by ranges a p false is apart at = record { on = tt; each = tt; none = write_placed ranges a p apart at ∙ is }

pub until_placed : (ranges now : List Range) (block : Range) (a p : ℕ) (answer : Option ℕ) → ranges ≡ now → AllPairs AreApart ranges → IsFound ranges block a p
    → answer ≡ cond block.write (Some (end_of block)) None
    → IsUntil now a answer
until_placed ranges now block a p answer same apart at is =
    let P : List Range → Type 0 = λ l. IsUntil l a answer in
    let Q : Option ℕ → Type 0 = λ r. IsUntil ranges a r in
    let R : Range → Type 0 = λ r. IsUntil ranges a (cond r.write (Some (end_of r)) None) in
    subst P same (subst Q (sym is) (subst R (sym at.is) (until_by ranges a p (range_at ranges p).write refl apart at.placed)))

pub until_none : (list now : List Range) (a : ℕ) → list ≡ now → All (λ r. has a r ≡ false) list → IsUntil now a None
until_none list now a same off =
    record { on = tt; each = tt; none = sym (ap (λ l. may_write l a) same) ∙ write_off list a off }

-- behind a first range that has it not
pub until_behind : (r : Range) (rs : List Range) (a : ℕ) (answer : Option ℕ) → AllPairs AreApart (r ∷ rs) → has a r ≡ false → IsUntil rs a answer → IsUntil (r ∷ rs) a answer
until_behind r rs a None apart off until =
    record { on = tt; each = tt; none = may_write-passed r rs a (and_right r.write (has a r) off) ∙ until.none }
until_behind r rs a (Some end) apart off until =
    record {
      on = until.on;
      each = record {
        each = λ c from to.
            let writes = until.each.each c from to in
            let lacks = apart_not_in r rs c (pairs_head r rs apart) (written_mapped rs c writes) in
            may_write-passed r rs c (and_right r.write (has c r) lacks) ∙ writes;
      };
      none = tt;
    }

-- ---- other bytes at an address

module _ (a b : ℕ) where
  pub fill-mapping : (r : Range) → mapping_of (fill_byte a b r) ≡ mapping_of r
  fill-mapping r =
      cond_both (has a r) (record r { bytes = slice_set r.bytes (a - r.low) b }) r (λ s. mapping_of s ≡ mapping_of r)
      (λ e. ap (λ (n : ℕ). record { low = r.low; size = n; write = r.write; execute = r.execute }) (length-set r.bytes (a - r.low) b)) (λ e. refl)

  pub fills-mapping : (rs : List Range) → map mapping_of (map (fill_byte a b) rs) ≡ map mapping_of rs
  fills-mapping [] = refl
  fills-mapping (r ∷ rs) = ap (λ k. k ∷ map mapping_of (map (fill_byte a b) rs)) (fill-mapping r) ∙ ap (λ ks. mapping_of r ∷ ks) (fills-mapping rs)

  pub fill-off : (r : Range) → has a r ≡ false → fill_byte a b r ≡ r
  fill-off r off = ap (λ t. cond t (record r { bytes = slice_set r.bytes (a - r.low) b }) r) off

  pub put-off : (r : Range) → has a r ≡ false → put_byte a b r ≡ r
  put-off r off = ap (λ t. cond (t && r.write) (record r { bytes = slice_set r.bytes (a - r.low) b }) r) off

-- memory with other bytes at the same addresses
pub still_memory : (rs ss : List Range) → map mapping_of rs ≡ map mapping_of ss → IsMemory rs → IsMemory ss
still_memory rs ss same memory = record { inside = inside_mapped rs ss same memory.inside; apart = apart_mapped rs ss same memory.apart }

-- ---- by the count of ranges that begin at or below an address

module _ (ranges : List Range) (order : List ℕ) (indexed : IsIndexed ranges order) (a c : ℕ) (rank : IsRank ranges order a c) where
  abbrev at_index : ℕ → Range
  at_index k = range_at ranges (slice_index order k)

  -- none has it where the last of these has not
  each_off : ((k : ℕ) → c ≡ k + 1 → has a (at_index k) ≡ false) → (k : ℕ) → k < length order → has a (at_index k) ≡ false
  each_off last k within =
      elim (cases_lt k c) [
        | inl below ↦ elim (cases_lt (k + 1) c) [
          | inl before ↦
              let most = rank.within in
              let next = indexed.index.ascending k (c - 1) (omega (arith, before)) (omega (arith, before, most)) in
              let low = rank.below (c - 1) (omega (arith, before)) in
              off_below (at_index k) a (omega (arith, next, low))
          | inr here ↦ last k (omega (arith, below, here))
        ]
        | inr above ↦ off_above (at_index k) a (rank.above k above within)
      ]

  pub none_has : ((k : ℕ) → c ≡ k + 1 → has a (at_index k) ≡ false) → All (λ r. has a r ≡ false) ranges
  none_has last =
      All-from_get_or (λ r. has a r ≡ false) ranges nowhere (λ p within.
      let l = indexed.index.each p within in
      ap (λ i. has a (range_at ranges i)) (sym l.is) ∙ each_off last l.k l.below)

  pub placed_last : (k : ℕ) → c ≡ k + 1 → has a (at_index k) ≡ true → IsPlaced ranges a (slice_index order k)
  placed_last k last h =
      let most = rank.within in
      let i = in_from (at_index k) a h in
      record { within = indexed.index.within k (omega (arith, last, most)); low = i.low; end = i.end }

pub rank_same : (list ranges : List Range) (given order : List ℕ) (a c : ℕ) → list ≡ ranges → given ≡ order → IsRank list given a c → IsRank ranges order a c
rank_same list ranges given order a c one two rank =
    let P : List Range → Type 0 = λ l. IsRank l order a c in
    let Q : List ℕ → Type 0 = λ o. IsRank list o a c in
    subst P one (subst Q two rank)

-- whether addresses are clear is told by the last range that begins below their end
module _ (ranges : List Range) (order : List ℕ) (indexed : IsIndexed ranges order) (low end c : ℕ) (less : low < end) (rank : IsRank ranges order (end - 1) c) where
  abbrev in_order : ℕ → Range
  in_order k = range_at ranges (slice_index order k)

  clear_after : (k : ℕ) → c ≤ k → k < length order → is_clear low end (in_order k) ≡ true
  clear_after k after within =
      let above = rank.above k after within in
      or_left (nat_le end (in_order k).low) _ (le-leb end (in_order k).low (omega (arith, above, less)))

  ends_before : (k : ℕ) → c ≡ k + 1 → is_clear low end (in_order k) ≡ true → end_of (in_order k) ≤ low
  ends_before k last h =
      elim (or_cases (nat_le end (in_order k).low) (nat_le (end_of (in_order k)) low) h) [
        | inl over ↦
            let begins = rank.below k (omega (arith, last)) in
            let ends = leb-true end (in_order k).low over in
            absurd (omega (arith, begins, ends, less))
        | inr under ↦ leb-true (end_of (in_order k)) low under
      ]

  one_clear : ((k : ℕ) → c ≡ k + 1 → is_clear low end (in_order k) ≡ true) → (k : ℕ) → k < length order → is_clear low end (in_order k) ≡ true
  one_clear last k within =
      elim (cases_lt k c) [
        | inl below ↦ elim (cases_lt (k + 1) c) [
          | inl before ↦
              let most = rank.within in
              let is_last : c ≡ (c - 1) + 1 = omega (arith, before) in
              let next = indexed.index.ascending k (c - 1) (omega (arith, before)) (omega (arith, before, most)) in
              let begins = ends_after (in_order (c - 1)) in
              let ends = ends_before (c - 1) is_last (last (c - 1) is_last) in
              or_right (nat_le end (in_order k).low) _ (le-leb (end_of (in_order k)) low (omega (arith, next, begins, ends)))
          | inr here ↦ last k (omega (arith, below, here))
        ]
        | inr above ↦ clear_after k above within
      ]

  pub all_clear : ((k : ℕ) → c ≡ k + 1 → is_clear low end (in_order k) ≡ true) → list_all (is_clear low end) ranges ≡ true
  all_clear last =
      list_all-from_AllPass (is_clear low end) ranges (All-from_get_or (λ r. is_clear low end r ≡ true) ranges nowhere (λ p within.
      let l = indexed.index.each p within in
      ap (λ i. is_clear low end (range_at ranges i)) (sym l.is) ∙ one_clear last l.k l.below))

  pub clear_by_none : c ≡ 0 → true ≡ list_all (is_clear low end) ranges
  clear_by_none none = sym (all_clear (λ k last. absurd (omega (arith, none, last))))

  by_last : (k : ℕ) (t : Bool) → c ≡ k + 1 → is_clear low end (in_order k) ≡ t → t ≡ list_all (is_clear low end) ranges
  by_last k true last is = sym (all_clear (λ j other. ap (λ i. is_clear low end (in_order i)) (let e : j ≡ k = omega (arith, last, other) in e) ∙ is))
  by_last k false last is =
      let most = rank.within in
      sym (list_all_at (is_clear low end) ranges (slice_index order k) nowhere (indexed.index.within k (omega (arith, last, most))) is)

  pub clear_by_last : (k : ℕ) → c ≡ k + 1 → is_clear low end (in_order k) ≡ list_all (is_clear low end) ranges
  clear_by_last k last = by_last k (is_clear low end (in_order k)) last refl

-- ---- the same ranges with other bytes

pub still_indexed : (rs ss : List Range) (order : List ℕ) → map mapping_of rs ≡ map mapping_of ss → IsIndexed rs order → IsIndexed ss order
still_indexed rs ss order same indexed =
    let long = same_length rs ss same in
    let lows : (p : ℕ) → p < length ss → mapping_of (range_at rs p) ≡ mapping_of (range_at ss p) = λ p within. same_at rs ss p nowhere same within in
    let place : (k : ℕ) → k < length order → slice_index order k < length ss = λ k within. (let w = indexed.index.within k within in omega (arith, w, long)) in
    record {
      memory = still_memory rs ss same indexed.memory;
      index = record {
        within = place;
        ascending = λ j k less within.
            let first = ap (λ m. m.low + m.size) (lows (slice_index order j) (place j (omega (arith, less, within)))) in
            let next = ap (λ m. m.low) (lows (slice_index order k) (place k within)) in
            let before = indexed.index.ascending j k less within in
            omega (arith, first, next, before);
        each = λ p within. indexed.index.each p (omega (arith, within, long));
      };
    }

-- ---- no word is from 2^32 on

no_byte : (o : Option ℕ) → (is_some o ≡ true → ⊥) → o ≡ None
no_byte None off = refl
no_byte (Some b) off = absurd (off refl)

byte_far : (rs : List Range) (a : ℕ) → All IsInUserSpace rs → 2 ^ 32 ≤ a → byte_at rs a ≡ None
byte_far rs a inside far = no_byte (byte_at rs a) (λ is. (let k = mapped_inside rs a is inside in omega (arith, k.1, far)))

pub word_far : (w : Width) (a : ℕ) (m : MachineState) → All IsInUserSpace (memory m) → 2 ^ 32 ≤ a → word_at w a m ≡ None
unfolding word_at number_at
word_far B8 a m inside far = ap (λ o. with_low_byte o (number_at (memory m) 0 (next_byte a))) (byte_far (memory m) a inside far)
word_far B16 a m inside far = ap (λ o. with_low_byte o (number_at (memory m) 1 (next_byte a))) (byte_far (memory m) a inside far)
word_far B32 a m inside far = ap (λ o. with_low_byte o (number_at (memory m) 3 (next_byte a))) (byte_far (memory m) a inside far)

-- ---- a range more

module _ (ranges : List Range) (block : Range) (may : may_map ranges block ≡ true) where
  has_some : 0 < length block.bytes
  has_some = ltb-true 0 (length block.bytes) (and_parts (nat_lt 0 (length block.bytes)) _ may).0

  user : IsInUserSpace block
  user = user_space block (and_parts (is_in_user_space block) _ (and_parts (nat_lt 0 (length block.bytes)) _ may).1).0

  clear_of : (p : ℕ) → p < length ranges → (end_of block ≤ (range_at ranges p).low) ⊎ (end_of (range_at ranges p) ≤ block.low)
  clear_of p within =
      let all = (and_parts (is_in_user_space block) _ (and_parts (nat_lt 0 (length block.bytes)) _ may).1).1 in
      let one = AllPass-from_list_all (is_clear block.low (end_of block)) ranges all p nowhere within in
      elim (or_cases (nat_le (end_of block) (range_at ranges p).low) (nat_le (end_of (range_at ranges p)) block.low) one) [
        | inl before ↦ inl (leb-true (end_of block) (range_at ranges p).low before)
        | inr behind ↦ inr (leb-true (end_of (range_at ranges p)) block.low behind)
      ]

  pub memory_more : IsMemory ranges → IsMemory (ranges ++ block ∷ [])
  memory_more memory =
      record {
        inside = All-push IsInUserSpace ranges block memory.inside user;
        apart = all_pairs_push AreApart ranges block memory.apart (λ k d within.
            let R : Range → Type 0 = λ r. AreApart r block in
            subst R (get_or_default ranges k nowhere d within) (elim (clear_of k within) [ inl before ↦ inr before | inr behind ↦ inl behind ]));
      }

module _ (ranges : List Range) (order : List ℕ) (indexed : IsIndexed ranges order) (block : Range) (c : ℕ) (rank : IsRank ranges order block.low c) (may : may_map ranges block ≡ true) where
  abbrev more_ranges : List Range
  more_ranges = ranges ++ block ∷ []

  abbrev more_order : List ℕ
  more_order = insert order c (length ranges)

  abbrev old_at : ℕ → Range
  old_at k = range_at ranges (slice_index order k)

  abbrev new_at : ℕ → Range
  new_at k = range_at more_ranges (slice_index more_order k)

  order_length : length more_order ≡ length order + 1
  order_length = length-insert order c (length ranges) rank.within

  old_place : (p : ℕ) → p < length ranges → range_at more_ranges p ≡ range_at ranges p
  old_place p within = get_or_append_left ranges (block ∷ []) nowhere p within

  at_below : (k : ℕ) → k < c → slice_index more_order k ≡ slice_index order k
  at_below k less = get_or-insert_below order c (length ranges) 0 k less rank.within

  at_here : slice_index more_order c ≡ length ranges
  at_here = get_or-insert_at order c (length ranges) 0 rank.within

  at_above : (k : ℕ) → c ≤ k → slice_index more_order (k + 1) ≡ slice_index order k
  at_above k le = get_or-insert_above order c (length ranges) 0 k le rank.within

  new_below : (k : ℕ) → k < c → k < length order → new_at k ≡ old_at k
  new_below k less within = ap (range_at more_ranges) (at_below k less) ∙ old_place (slice_index order k) (indexed.index.within k within)

  new_here : new_at c ≡ block
  new_here = ap (range_at more_ranges) at_here ∙ get_or_push ranges block nowhere (length ranges) refl

  new_above : (k : ℕ) → c ≤ k → k < length order → new_at (k + 1) ≡ old_at k
  new_above k le within = ap (range_at more_ranges) (at_above k le) ∙ old_place (slice_index order k) (indexed.index.within k within)

  -- the ranges before it end at or below its first address
  ends_below : (k : ℕ) → k < c → end_of (old_at k) ≤ block.low
  ends_below k less =
      let most = rank.within in
      let low = rank.below k less in
      let some = has_some ranges block may in
      elim (clear_of ranges block may (slice_index order k) (indexed.index.within k (omega (arith, less, most)))) [
        | inl before ↦ absurd (omega (arith, before, low, some))
        | inr behind ↦ behind
      ]

  -- those after it begin at or above its end
  begins_above : (k : ℕ) → c ≤ k → k < length order → end_of block ≤ (old_at k).low
  begins_above k le within =
      let above = rank.above k le within in
      elim (clear_of ranges block may (slice_index order k) (indexed.index.within k within)) [
        | inl before ↦ before
        | inr behind ↦ (let ends = ends_after (old_at k) in absurd (omega (arith, behind, above, ends)))
      ]

  abbrev Ascends : Range → Range → Type 0
  Ascends r s = end_of r ≤ s.low

  moved : (r s t u : Range) → r ≡ t → s ≡ u → Ascends t u → Ascends r s
  moved r s t u first next h = omega (arith, ap end_of first, ap (λ x. x.low) next, h)

  abbrev before_it : ℕ → ℕ
  before_it k = k - 1

  after_it : (k : ℕ) → c < k → k < length more_order → new_at k ≡ old_at (before_it k)
  after_it k above within =
      let long = order_length in
      ap new_at (let e : k ≡ before_it k + 1 = omega (arith, above) in e) ∙ new_above (before_it k) (omega (arith, above)) (omega (arith, above, within, long))

  behind : (j k : ℕ) → j < k → k < length more_order → c < k → (j < c) ⊎ (c ≤ j) → Ascends (new_at j) (new_at k)
  behind j k less within above (inl below) =
      let long = order_length in
      let most = rank.within in
      moved (new_at j) (new_at k) (old_at j) (old_at (before_it k)) (new_below j below (omega (arith, below, most))) (after_it k above within)
      (indexed.index.ascending j (before_it k) (omega (arith, below, above)) (omega (arith, above, within, long)))
  behind j k less within above (inr from) =
      let long = order_length in
      elim (cases_lt c j) [
        | inr last ↦
            let e : j ≡ c = omega (arith, from, last) in
            moved (new_at j) (new_at k) block (old_at (before_it k)) (ap new_at e ∙ new_here) (after_it k above within)
            (begins_above (before_it k) (omega (arith, above)) (omega (arith, above, within, long)))
        | inl over ↦
            moved (new_at j) (new_at k) (old_at (before_it j)) (old_at (before_it k)) (after_it j over (omega (arith, less, within))) (after_it k above within)
            (indexed.index.ascending (before_it j) (before_it k) (omega (arith, less, over)) (omega (arith, above, within, long)))
      ]

  ascends : (j k : ℕ) → j < k → k < length more_order → Ascends (new_at j) (new_at k)
  ascends j k less within =
      let long = order_length in
      let most = rank.within in
      elim (cases_lt k c) [
        | inl below ↦
            moved (new_at j) (new_at k) (old_at j) (old_at k) (new_below j (omega (arith, less, below)) (omega (arith, less, below, most))) (new_below k below (omega (arith, below, most)))
            (indexed.index.ascending j k less (omega (arith, below, most)))
        | inr from ↦ elim (cases_lt c k) [
          | inr last ↦
              let e : k ≡ c = omega (arith, from, last) in
              moved (new_at j) (new_at k) (old_at j) block (new_below j (omega (arith, less, last)) (omega (arith, less, last, most))) (ap new_at e ∙ new_here)
              (ends_below j (omega (arith, less, last)))
          | inl above ↦ behind j k less within above (cases_lt j c)
        ]
      ]

  places : (k : ℕ) → k < length more_order → slice_index more_order k < length more_ranges
  places k within =
      let long = order_length in
      let pushed = length_push ranges block in
      let most = rank.within in
      elim (cases_lt k c) [
        | inl below ↦ (let e = at_below k below in let w = indexed.index.within k (omega (arith, below, most)) in omega (arith, e, w, pushed))
        | inr from ↦ elim (cases_lt c k) [
          | inr last ↦ (let same : k ≡ c = omega (arith, from, last) in let e = ap (slice_index more_order) same ∙ at_here in omega (arith, e, pushed))
          | inl above ↦
              let same : k ≡ before_it k + 1 = omega (arith, above) in
              let e = ap (slice_index more_order) same ∙ at_above (before_it k) (omega (arith, above)) in
              let w = indexed.index.within (before_it k) (omega (arith, above, within, long)) in
              omega (arith, e, w, pushed)
        ]
      ]

  old_listed : (p : ℕ) → (l : IsListed order p) → (l.k < c) ⊎ (c ≤ l.k) → IsListed more_order p
  old_listed p l (inl below) = (let long = order_length in let w = l.below in record { k = l.k; below = omega (arith, w, long); is = at_below l.k below ∙ l.is })
  old_listed p l (inr from) = (let long = order_length in let w = l.below in record { k = l.k + 1; below = omega (arith, w, long); is = at_above l.k from ∙ l.is })

  listed : (p : ℕ) → p < length more_ranges → IsListed more_order p
  listed p within =
      let long = order_length in
      let most = rank.within in
      let pushed = length_push ranges block in
      elim (cases_lt p (length ranges)) [
        | inl old ↦ (let l = indexed.index.each p old in old_listed p l (cases_lt l.k c))
        | inr own ↦ record { k = c; below = omega (arith, most, long); is = at_here ∙ (let e : length ranges ≡ p = omega (arith, own, within, pushed) in e) }
      ]

  pub more_indexed : IsIndexed more_ranges more_order
  more_indexed = record { memory = memory_more ranges block may indexed.memory; index = record { within = places; ascending = ascends; each = listed } }
