-- Each state from which a run may begin is stated by some start file: one that fills in each free byte by itself.
use Rattle.std.proofs.Common.{◌≡◌, ℕ, zero, suc, ◌+◌, ◌-◌, ◌*◌, ◌%◌, ◌^◌, ◌<◌, ◌≤◌, Bool, true, false, cond, List, [], ◌∷◌, ◌++◌, drop, map, length, get_or, Option, Some, None, Ok, refl, sym, ◌∙◌, ap, subst, arith, inl, inr}
use Rattle.std.specs.Prelude.{◌⊎◌, ◌&&◌, ◌||◌, not, filter, flat_map, nat_le, nat_lt, position, slice_get, unwrap_or, All, AllPairs}
use Rattle.std.specs.List.{AllZip, list_all, list_any, range_with_len}
use Rattle.std.specs.Option.{option_map}
use Rattle.std.proofs.lemmas.Bool.{and_from, and_parts, cases_Bool, cases_lt, eq-eqb, false≢true, le-leb, leb-true, ltb-true, or_left, or_right}
use Rattle.std.proofs.lemmas.List.{ext_get_or, get_or-append-add, get_or_append_left, get_or_at, get_or-map, length-append, length-map, map-append}
use Rattle.std.proofs.lemmas.List.Elements.{All-cons, All-get_or, All-map, All-nil, All-weaker, AllZip-get_or, filter_passes, length_all_zip}
use Rattle.std.proofs.lemmas.List.Quantifiers.{position-Some}
use Rattle.std.proofs.lemmas.List.Sums.{list_all-from_AllPass}
use Rattle.std.proofs.lemmas.Nat.{or_lt}
use Rattle.std.proofs.lemmas.Option.{slice_get-get_or, unwrap_or-slice_get}
use Rattle.bit_words.specs.Flags.{FlagBits, bits_if, packed_bits}
use Rattle.bit_words.proofs.FlagLaws.{unpacked-packed}
use Rattle.memory_map.specs.declared.choice.Fill.{Fill as Filling}
use Rattle.memory_map.specs.declared.span.Span.{Span}
use Rattle.memory_map.specs.Image.{EXIT_PLACE, Image, IsLoaded, has_exit_word}
use Rattle.memory_map.specs.Map.{all_apart, are_apart, is_in_user_space}
use Rattle.memory_map.specs.Range.{AreApart, IsInUserSpace, Mapping, Range, USER_END, USER_LOW, end_of, has, mapping_of}
use Rattle.memory_map.specs.Spans.{is_in_ranges, is_in_span}
use Rattle.memory_map.specs.Start.{BASE_REACH, HasWord, HoldsLoaded, IsWindow, STACK_ABOVE, STACK_BELOW, Start}
use Rattle.memory_map.specs.State.{Flags, MachineState, memory}
use Rattle.memory_map.proofs.Lists.{all_apart-cons, all_apart-nil}
use Rattle.memory_map.proofs.Mappings.{apart_mapped, pairs_head, pairs_tail, same_at, same_length}
use Rattle.x86_semantics.proofs.Storing.{byte-fits, byte_of}
use Rattle.statement_lang.specs.Filling.{bytes_of_fills, fill_byte}
use Rattle.statement_lang.specs.Indexed.{nowhere}
use Rattle.statement_lang.proofs.Indexing.{byte_placed, has_in}
use Rattle.x86_machine.specs.declared.start_fault.StartFault.{StartFault}
use Rattle.x86_machine.specs.declared.start_file.StartFile.{StartFile}
use Rattle.x86_machine.specs.Started.{bare_state, base_window, exit_word, exit_word_span, is_free_byte, is_free_fill, stack_window, start_bytes, start_fault, start_state, started, state_unless, unset_zeros, windows, zero_window}
use Rattle.x86_machine.specs.StartLaws.{IsFill, IsStartFile, StatesAreStated}
use Rattle.x86_machine.proofs.Apart.{zeros_size}
use Rattle.x86_machine.proofs.Enumerated.{fold-append}
use Rattle.x86_machine.proofs.Filled.{AgreesWith, IsFilledIn, IsSameOrFilled, filled, filled-mapping, filled-other, filled_leads, fills_each}
use Rattle.x86_machine.proofs.StatesMeet.{in_unset}
use Rattle.x86_machine.proofs.Zeroing.{in_left, in_right}

-- ---- addresses of a list

abbrev IsOne : List ℕ → ℕ → Type 0
IsOne [] a = ⊥
IsOne (x ∷ xs) a = (x ≡ a) ⊎ IsOne xs a

one_left : (xs ys : List ℕ) (a : ℕ) → IsOne xs a → IsOne (xs ++ ys) a
one_left [] ys a h = absurd h
one_left (x ∷ xs) ys a (inl e) = inl e
one_left (x ∷ xs) ys a (inr h) = inr (one_left xs ys a h)

one_right : (xs ys : List ℕ) (a : ℕ) → IsOne ys a → IsOne (xs ++ ys) a
one_right [] ys a h = h
one_right (x ∷ xs) ys a h = inr (one_right xs ys a h)

one_range : (n low a : ℕ) → low ≤ a → a < low + n → IsOne (range_with_len low n) a
one_range zero low a from to = absurd (omega (arith, from, to))
one_range (suc n) low a from to =
    elim (cases_lt low a) [
      | inl less ↦ inr (one_range n (low + 1) a (omega (arith, less)) (omega (arith, to)))
      | inr least ↦ inl (omega (arith, from, least))
    ]

kept_one : (p : ℕ → Bool) (x : ℕ) (xs : List ℕ) (a : ℕ) (b : Bool) → IsOne (filter p xs) a → IsOne (cond b (x ∷ filter p xs) (filter p xs)) a
kept_one p x xs a true h = inr h
kept_one p x xs a false h = h

one_filter : (p : ℕ → Bool) (xs : List ℕ) (a : ℕ) → p a ≡ true → IsOne xs a → IsOne (filter p xs) a
one_filter p [] a passes h = h
one_filter p (x ∷ xs) a passes (inl e) = (let P : Bool → Type 0 = λ b. IsOne (cond b (x ∷ filter p xs) (filter p xs)) a in subst P (sym (ap p e ∙ passes)) (inl e))
one_filter p (x ∷ xs) a passes (inr h) = kept_one p x xs a (p x) (one_filter p xs a passes h)

one_map : (g : ℕ → ℕ) (xs : List ℕ) (a : ℕ) → IsOne xs a → IsFilledIn (map (λ b. (b, g b)) xs) a
one_map g [] a h = h
one_map g (x ∷ xs) a (inl e) = inl e
one_map g (x ∷ xs) a (inr h) = inr (one_map g xs a h)

agrees_both : (t : Range) (xs ys : List (ℕ × ℕ)) → AgreesWith t xs → AgreesWith t ys → AgreesWith t (xs ++ ys)
agrees_both t [] ys h k = k
agrees_both t (x ∷ xs) ys h k = (h.0, agrees_both t xs ys h.1 k)

-- all addresses of ranges
abbrev addresses : List Range → List ℕ
addresses rs = flat_map (λ r. range_with_len r.low (length r.bytes)) rs

one_address : (rs : List Range) (p a : ℕ) → p < length rs → (get_or rs p nowhere).low ≤ a → a < end_of (get_or rs p nowhere) → IsOne (addresses rs) a
one_address [] p a within low end = absurd (omega (arith, within))
one_address (r ∷ rs) zero a within low end = one_left (range_with_len r.low (length r.bytes)) (addresses rs) a (one_range (length r.bytes) r.low a low end)
one_address (r ∷ rs) (suc p) a within low end = one_right (range_with_len r.low (length r.bytes)) (addresses rs) a (one_address rs p a (omega (arith, within)) low end)

range_one : (n low a : ℕ) → IsOne (range_with_len low n) a → (low ≤ a) × (a < low + n)
range_one zero low a h = absurd h
range_one (suc n) low a (inl e) = (omega (arith, e), omega (arith, e))
range_one (suc n) low a (inr h) = (let i = range_one n (low + 1) a h in (omega (arith, i.0), omega (arith, i.1)))

one_cases : (xs ys : List ℕ) (a : ℕ) → IsOne (xs ++ ys) a → IsOne xs a ⊎ IsOne ys a
one_cases [] ys a h = inr h
one_cases (x ∷ xs) ys a (inl e) = inl (inl e)
one_cases (x ∷ xs) ys a (inr h) = elim (one_cases xs ys a h) [ inl l ↦ inl (inr l) | inr r ↦ inr r ]

each_address : (P : ℕ → Type 0) (rs : List Range) → ((p : ℕ) → p < length rs → (a : ℕ) → (get_or rs p nowhere).low ≤ a → a < end_of (get_or rs p nowhere) → P a) → (a : ℕ) → IsOne (addresses rs) a → P a
each_address P [] each a h = absurd h
each_address P (r ∷ rs) each a h =
    elim (one_cases (range_with_len r.low (length r.bytes)) (addresses rs) a h) [
      | inl own ↦ (let i = range_one (length r.bytes) r.low a own in each 0 (omega arith) a i.0 i.1)
      | inr rest ↦ each_address P rs (λ p within. each (suc p) (omega (arith, within))) a rest
    ]

one_passes : (P : ℕ → Type 0) (xs : List ℕ) → ((a : ℕ) → IsOne xs a → P a) → All P xs
one_passes P [] each = All-nil P
one_passes P (x ∷ xs) each = All-cons P x xs (each x (inl refl)) (one_passes P xs (λ a h. each a (inr h)))

-- ---- windows and segments with other bytes

same_mapping : (r t : Range) → r.low ≡ t.low → length r.bytes ≡ length t.bytes → r.write ≡ t.write → r.execute ≡ t.execute → mapping_of r ≡ mapping_of t
same_mapping r t low size write execute =
    ap (λ (n : ℕ). record { low = n; size = length r.bytes; write = r.write; execute = r.execute }) low
    ∙ ap (λ (n : ℕ). record { low = t.low; size = n; write = r.write; execute = r.execute }) size
    ∙ ap (λ (b : Bool). record { low = t.low; size = length t.bytes; write = b; execute = r.execute }) write
    ∙ ap (λ (b : Bool). record { low = t.low; size = length t.bytes; write = t.write; execute = b }) execute

window_mapping : (below above base : ℕ) (w : Range) → IsWindow below above base w → mapping_of (zero_window below above base) ≡ mapping_of w
window_mapping below above base w is =
    let low = is.low in
    let size = is.size in
    let zeros = zeros_size (below + above) in
    same_mapping (zero_window below above base) w (omega (arith, low)) (omega (arith, size, zeros)) (sym is.write) (sym is.execute)

held_mapping : (unset : List Span) (seg held : Range) → HoldsLoaded unset seg held → mapping_of seg ≡ mapping_of held
held_mapping unset seg held h = same_mapping seg held (sym h.low) (sym h.size) (sym h.write) (sym h.execute)

zip_mapping : (unset : List Span) (xs ys : List Range) → AllZip (HoldsLoaded unset) xs ys → map mapping_of xs ≡ map mapping_of ys
zip_mapping unset [] [] h = refl
zip_mapping unset [] (y ∷ ys) h = absurd h
zip_mapping unset (x ∷ xs) [] h = absurd h
zip_mapping unset (x ∷ xs) (y ∷ ys) h =
    ap (λ k. k ∷ map mapping_of xs) (held_mapping unset x y h.0) ∙ ap (λ ks. mapping_of y ∷ ks) (zip_mapping unset xs ys h.1)

-- ---- tests that pass

user_true : (r t : Range) → mapping_of r ≡ mapping_of t → IsInUserSpace t → is_in_user_space r ≡ true
user_true r t same user =
    let low = ap (λ (k : Mapping). k.low) same in
    let size = ap (λ (k : Mapping). k.size) same in
    let above = user.above in
    let below = user.below in
    and_from (nat_le USER_LOW r.low) (nat_le (end_of r) USER_END) (le-leb USER_LOW r.low (omega (arith, low, above))) (le-leb (end_of r) USER_END (omega (arith, low, size, below)))

apart_true : (r s : Range) → AreApart r s → are_apart r s ≡ true
apart_true r s (inl before) = or_left (nat_le (end_of r) s.low) _ (le-leb (end_of r) s.low before)
apart_true r s (inr behind) = or_right (nat_le (end_of r) s.low) _ (le-leb (end_of s) r.low behind)

pairs_true : (rs : List Range) → AllPairs AreApart rs → all_apart rs ≡ true
pairs_true [] pairs = all_apart-nil
pairs_true (r ∷ rs) pairs =
    all_apart-cons r rs
    ∙ and_from (list_all (are_apart r) rs) (all_apart rs)
    (list_all-from_AllPass (are_apart r) rs (All-weaker (AreApart r) (λ s. are_apart r s ≡ true) (λ s. apart_true r s) rs (pairs_head r rs pairs)))
    (pairs_true rs (pairs_tail r rs pairs))

none_first : {X : Type 0} (q : X → Bool) (xs : List X) → All (λ x. q x ≡ true) xs → (o : Option ℕ) → position (λ x. not (q x)) xs ≡ o → o ≡ None
none_first q xs all None is = refl
none_first q [] all (Some i) is = (sym is)
none_first q (x ∷ xs) all (Some i) is =
    let at = position-Some (λ y. not (q y)) (x ∷ xs) i x is in
    let passes = all i x at.0 in
    absurd (false≢true (ap not (sym passes) ∙ at.1))

no_fault : (a b c : Bool) (p : Option ℕ) (x y z : Option StartFault) (f : ℕ → StartFault) → a ≡ true → b ≡ true → c ≡ true → p ≡ None
    → cond (not a) x (cond (not b) y (cond (not c) z (option_map f p))) ≡ None
no_fault a b c p x y z f is_a is_b is_c is_p =
    ap (λ t. cond (not t) x (cond (not b) y (cond (not c) z (option_map f p)))) is_a
    ∙ ap (λ t. cond (not t) y (cond (not c) z (option_map f p))) is_b
    ∙ ap (λ t. cond (not t) z (option_map f p)) is_c
    ∙ ap (option_map f) is_p

-- ---- the exit word

exit_bytes : (b0 b1 b2 b3 : ℕ) → b0 < 256 → b1 < 256 → b2 < 256 → b3 < 256 → EXIT_PLACE ≡ b0 + 256 * b1 + 65536 * b2 + 16777216 * b3 → (b0 ≡ 0) × (b1 ≡ 0) × (b2 ≡ 0) × (b3 ≡ 0xF0)
exit_bytes b0 b1 b2 b3 h0 h1 h2 h3 is = (omega arith, omega arith, omega arith, omega arith)

all_eight : (P : ℕ → Type 0) (a b c d e f g h : ℕ) → P a → P b → P c → P d → P e → P f → P g → P h → All P (a ∷ b ∷ c ∷ d ∷ e ∷ f ∷ g ∷ h ∷ [])
all_eight P a b c d e f g h pa pb pc pd pe pf pg ph =
    All-cons P a (b ∷ c ∷ d ∷ e ∷ f ∷ g ∷ h ∷ []) pa
    (All-cons P b (c ∷ d ∷ e ∷ f ∷ g ∷ h ∷ []) pb
    (All-cons P c (d ∷ e ∷ f ∷ g ∷ h ∷ []) pc
    (All-cons P d (e ∷ f ∷ g ∷ h ∷ []) pd
    (All-cons P e (f ∷ g ∷ h ∷ []) pe
    (All-cons P f (g ∷ h ∷ []) pf
    (All-cons P g (h ∷ []) pg
    (All-cons P h [] ph (All-nil P))))))))

-- ---- the file of a state

module _ (image : Image) (m : MachineState) (loaded : IsLoaded image) (start : Start image m) where
  abbrev mem : List Range
  mem = memory m

  abbrev esp : ℕ
  esp = m.registers.esp

  abbrev flag_bits : FlagBits
  flag_bits = record {
    carry = m.flags.carry;
    parity = m.flags.parity;
    adjust = m.flags.adjust;
    zero = m.flags.zero;
    sign = m.flags.sign;
    overflow = m.flags.overflow;
    direction = false;
  }

  bit_fits : (t : Bool) (b : ℕ) → b < 64 → bits_if t b < 2 ^ 6
  bit_fits true b h = omega (arith, h)
  bit_fits false b h = omega arith

  flags_fit : packed_bits flag_bits < 64
  flags_fit =
      or_lt 6 _ _ (or_lt 6 _ _ (or_lt 6 _ _ (or_lt 6 _ _ (or_lt 6 _ _ (or_lt 6 _ _ (bit_fits m.flags.carry 1 (omega arith)) (bit_fits m.flags.parity 2 (omega arith))) (bit_fits m.flags.adjust 4 (omega arith))) (bit_fits m.flags.zero 8 (omega arith))) (bit_fits m.flags.sign 16 (omega arith))) (bit_fits m.flags.overflow 32 (omega arith))) (omega arith)

  abbrev file_with : List Filling → StartFile
  file_with fills = record {
    regs = m.registers.eax ∷ m.registers.ecx ∷ m.registers.edx ∷ m.registers.ebx ∷ m.registers.esp ∷ m.registers.ebp ∷ m.registers.esi ∷ m.registers.edi ∷ [];
    flags = packed_bits flag_bits;
    fs = m.fs;
    gs = m.gs;
    fill = fills;
    choices = [];
    six_flags = flags_fit;
  }

  abbrev free : ℕ → Bool
  free a = is_free_byte image (file_with []) a

  abbrev free_addresses : List ℕ
  free_addresses = filter free (addresses mem)

  abbrev fill_at : ℕ → Filling
  fill_at a = record { at = a; bytes = byte_of mem a ∷ [] }

  abbrev file : StartFile
  file = file_with (map fill_at free_addresses)

  abbrev entries : List (ℕ × ℕ)
  entries = map (λ a. (a, byte_of mem a)) free_addresses

  abbrev exit : List (ℕ × ℕ)
  exit = exit_word (has_exit_word image) esp

  fills_are : (xs : List ℕ) → bytes_of_fills (map fill_at xs) ≡ map (λ a. (a, byte_of mem a)) xs
  fills_are [] = refl
  fills_are (x ∷ xs) = ap (λ l. (x, byte_of mem x) ∷ l) (fills_are xs)

  -- the byte at an address of a range
  byte_there : (p a i : ℕ) → p < length mem → (get_or mem p nowhere).low + i ≡ a → i < length (get_or mem p nowhere).bytes → byte_of mem a ≡ get_or (get_or mem p nowhere).bytes i 0
  byte_there p a i within at few =
      let t = get_or mem p nowhere in
      let place : a - t.low ≡ i = omega (arith, at) in
      ap (λ o. unwrap_or o 0)
      (byte_placed mem a p start.apart (record { within = within; low = omega (arith, at); end = omega (arith, at, few) })
      ∙ ap (slice_get t.bytes) place
      ∙ slice_get-get_or t.bytes i 0 few)

  agrees_entries : (t : Range) (xs : List ℕ) → ((a i : ℕ) → t.low + i ≡ a → i < length t.bytes → byte_of mem a ≡ get_or t.bytes i 0) → AgreesWith t (map (λ a. (a, byte_of mem a)) xs)
  agrees_entries t [] each = tt
  agrees_entries t (x ∷ xs) each = (each x, agrees_entries t xs each)

  word_bytes : (h : HasWord mem esp EXIT_PLACE) → (byte_of mem esp ≡ 0) × (byte_of mem (esp + 1) ≡ 0) × (byte_of mem (esp + 2) ≡ 0) × (byte_of mem (esp + 3) ≡ 0xF0)
  word_bytes h =
      let at0 = ap (λ o. unwrap_or o 0) h.at0 in
      let at1 = ap (λ o. unwrap_or o 0) h.at1 in
      let at2 = ap (λ o. unwrap_or o 0) h.at2 in
      let at3 = ap (λ o. unwrap_or o 0) h.at3 in
      let fits : (a b : ℕ) → byte_of mem a ≡ b → b < 256 = λ a b e. (let f = byte-fits mem a start.bytes in omega (arith, f, e)) in
      let known = exit_bytes h.b0 h.b1 h.b2 h.b3 (fits esp h.b0 at0) (fits (esp + 1) h.b1 at1) (fits (esp + 2) h.b2 at2) (fits (esp + 3) h.b3 at3) h.word_is in
      (at0 ∙ known.0, at1 ∙ known.1, at2 ∙ known.2, at3 ∙ known.3)

  agrees_exit : (t : Range) (asked : Bool) → has_exit_word image ≡ asked → ((a i : ℕ) → t.low + i ≡ a → i < length t.bytes → byte_of mem a ≡ get_or t.bytes i 0) → AgreesWith t (exit_word asked esp)
  agrees_exit t false is each = tt
  agrees_exit t true is each =
      let w = word_bytes (start.exit is) in (
        λ i at few. sym w.0 ∙ each esp i at few,
        (λ i at few. sym w.1 ∙ each (esp + 1) i at few, (λ i at few. sym w.2 ∙ each (esp + 2) i at few, (λ i at few. sym w.3 ∙ each (esp + 3) i at few, tt))),
      )

  is_exit : (asked : Bool) (a : ℕ) → (asked && is_in_span a (record { low = esp; size = 4 })) ≡ true → IsFilledIn (exit_word asked esp) a
  is_exit false a h = absurd (false≢true h)
  is_exit true a h =
      let parts = and_parts (nat_le esp a) (nat_lt a (esp + 4)) h in
      let low = leb-true esp a parts.0 in
      let end = ltb-true a (esp + 4) parts.1 in
      elim (cases_lt esp a) [
        | inr first ↦ inl (omega (arith, low, first))
        | inl more ↦ elim (cases_lt (esp + 1) a) [
          | inr second ↦ inr (inl (omega (arith, more, second)))
          | inl more' ↦ elim (cases_lt (esp + 2) a) [
            | inr third ↦ inr (inr (inl (omega (arith, more', third))))
            | inl last ↦ inr (inr (inr (inl (omega (arith, last, end)))))
          ]
        ]
      ]

  -- why a byte of a bare range is that of the state, or is filled in
  abbrev IsKnown : Range → Range → ℕ → Type 0
  IsKnown r t i = (list_any (has (r.low + i)) (windows file) ≡ true) ⊎ ((is_in_ranges (r.low + i) image.unset ≡ true) ⊎ (get_or r.bytes i 0 ≡ get_or t.bytes i 0))

  leads : (r : Range) (p : ℕ) → p < length mem → mapping_of r ≡ mapping_of (get_or mem p nowhere) → ((i : ℕ) → i < length (get_or mem p nowhere).bytes → IsKnown r (get_or mem p nowhere) i)
      → filled (start_bytes image file) r ≡ get_or mem p nowhere
  leads r p within same known =
      let t = get_or mem p nowhere in
      let unset = unset_zeros image.unset in
      let low = ap (λ (k : Mapping). k.low) same in
      let size = ap (λ (k : Mapping). k.size) same in
      let next = filled unset r in
      let kept = filled-mapping unset r in
      let next_low : next.low ≡ r.low = ap (λ (k : Mapping). k.low) kept in
      let there : (a i : ℕ) → t.low + i ≡ a → i < length t.bytes → byte_of mem a ≡ get_or t.bytes i 0 = λ a i at few. byte_there p a i within at few in
      let listed : (a : ℕ) → t.low ≤ a → a < end_of t → free a ≡ true → IsFilledIn (entries ++ exit) a =
      λ a from to passes. in_left entries exit a (one_map (byte_of mem) free_addresses a (one_filter free (addresses mem) a passes (one_address mem p a within from to))) in
      let each : (i : ℕ) → i < length t.bytes → IsSameOrFilled (entries ++ exit) next t i =
      λ i few.
      let a = next.low + i in
      let at : r.low + i ≡ a = omega (arith, next_low) in
      let from : t.low ≤ a = omega (arith, next_low, low) in
      let to : a < end_of t = omega (arith, next_low, low, few) in
      let away = has_exit_word image && is_in_span a (exit_word_span file) in
      let some = list_any (has a) (windows file) || is_in_ranges a image.unset in
      let open' : some ≡ true → IsSameOrFilled (entries ++ exit) next t i = λ is_open. elim (cases_Bool away) [
        | inl in' ↦ inr (in_right entries exit a (is_exit (has_exit_word image) a in'))
        | inr out ↦ inr (listed a from to (and_from some (not away) is_open (ap not out)))
      ] in
      elim (known i few) [
        | inl window ↦ open' (or_left (list_any (has a) (windows file)) _ (ap (λ n. list_any (has n) (windows file)) (sym at) ∙ window))
        | inr (inl unset_there) ↦ open' (or_right (list_any (has a) (windows file)) _ (ap (λ n. is_in_ranges n image.unset) (sym at) ∙ unset_there))
        | inr (inr equal) ↦ elim (cases_Bool (is_in_ranges a image.unset)) [
          | inl unset_here ↦ open' (or_right (list_any (has a) (windows file)) _ unset_here)
          | inr no' ↦ inl (filled-other unset r i (λ h. false≢true (sym (ap (λ n. is_in_ranges n image.unset) at ∙ no') ∙ in_unset image.unset (r.low + i) h)) ∙ equal)
        ]
      ] in
      ap (λ l. filled l r) (ap (λ l. unset ++ (l ++ exit)) (fills_are free_addresses))
      ∙ fold-append (λ (s : Range) (x : ℕ × ℕ). fill_byte x.0 x.1 s) r unset (entries ++ exit)
      ∙ filled_leads (entries ++ exit) next t (kept ∙ same) (agrees_both t entries exit (agrees_entries t free_addresses there) (agrees_exit t (has_exit_word image) refl there)) each

  abbrev bare : MachineState
  bare = bare_state image file

  abbrev windows_above : List Range
  windows_above = base_window m.fs ∷ base_window m.gs ∷ []

  n : ℕ
  n = length image.segments

  same_memory : map mapping_of (memory bare) ≡ map mapping_of mem
  same_memory =
      let held = start.mapped.held in
      let fsw = start.mapped.fs_window in
      let gsw = start.mapped.gs_window in
      ap (λ k. k ∷ map mapping_of (image.segments ++ windows_above)) (window_mapping STACK_BELOW STACK_ABOVE esp m.stack start.mapped.stack)
      ∙ ap (λ ks. mapping_of m.stack ∷ ks)
      (map-append mapping_of image.segments windows_above
      ∙ ap (λ ks. ks ++ map mapping_of windows_above) (zip_mapping image.unset image.segments held start.mapped.segments)
      ∙ ap (λ k. map mapping_of held ++ (k ∷ mapping_of (base_window m.gs) ∷ [])) (window_mapping BASE_REACH BASE_REACH m.fs fsw start.mapped.fs)
      ∙ ap (λ k. map mapping_of held ++ (mapping_of fsw ∷ k ∷ [])) (window_mapping BASE_REACH BASE_REACH m.gs gsw start.mapped.gs)
      ∙ sym (map-append mapping_of held (fsw ∷ gsw ∷ []))
      ∙ ap (map mapping_of) (sym start.mapped.ranges))

  window_known : (below above base i : ℕ) → i < length (zero_window below above base).bytes → has ((zero_window below above base).low + i) (zero_window below above base) ≡ true
  window_known below above base i few = has_in (zero_window below above base) ((zero_window below above base).low + i) (omega arith) (omega (arith, few))

  sizes : (p : ℕ) → p < length mem → length (get_or (memory bare) p nowhere).bytes ≡ length (get_or mem p nowhere).bytes
  sizes p within = ap (λ (k : Mapping). k.size) (same_at (memory bare) mem p nowhere same_memory within)

  abbrev Known : ℕ → ℕ → Type 0
  Known p i = IsKnown (get_or (memory bare) p nowhere) (get_or mem p nowhere) i

  -- the range at a place of the bare memory, by another name
  known_as : (p i : ℕ) (r : Range) → r ≡ get_or (memory bare) p nowhere → IsKnown r (get_or mem p nowhere) i → Known p i
  known_as p i r is h = (let P : Range → Type 0 = λ x. IsKnown x (get_or mem p nowhere) i in subst P is h)

  segment_known : (k i : ℕ) → k < n → Known (suc k) i
  unfolding n
  segment_known k i few =
      let held = start.mapped.held in
      let gaps = start.mapped.fs_window ∷ start.mapped.gs_window ∷ [] in
      let long = length_all_zip (HoldsLoaded image.unset) image.segments held start.mapped.segments in
      let seg = get_or image.segments k nowhere in
      let loaded_at = AllZip-get_or (HoldsLoaded image.unset) image.segments held k nowhere nowhere start.mapped.segments few in
      let own : seg ≡ get_or (memory bare) (suc k) nowhere = sym (get_or_append_left image.segments windows_above nowhere k few) in
      let there : get_or mem (suc k) nowhere ≡ get_or held k nowhere =
      ap (λ l. get_or l k nowhere) start.mapped.ranges ∙ get_or_append_left held gaps nowhere k (omega (arith, few, long)) in
      known_as (suc k) i seg own (elim (loaded_at.bytes i) [
        | inl unset ↦ inr (inl unset)
        | inr equal ↦ inr (inr (
            sym (unwrap_or-slice_get seg.bytes i 0)
            ∙ ap (λ o. unwrap_or o 0) (sym equal)
            ∙ unwrap_or-slice_get (get_or held k nowhere).bytes i 0
            ∙ ap (λ (r : Range). get_or r.bytes i 0) (sym there)))
      ])

  fs_known : (i : ℕ) → suc n < length mem → i < length (get_or mem (suc n) nowhere).bytes → Known (suc n) i
  unfolding n
  fs_known i within few =
      let own : base_window m.fs ≡ get_or (memory bare) (suc n) nowhere = sym (get_or_at image.segments (base_window m.fs) (base_window m.gs ∷ []) nowhere n refl) in
      let size = sizes (suc n) within in
      let size' = ap (λ (r : Range). length r.bytes) own in
      known_as (suc n) i (base_window m.fs) own
      (inl (or_right (has ((base_window m.fs).low + i) (stack_window file)) _ (or_left _ _ (window_known BASE_REACH BASE_REACH m.fs i (omega (arith, few, size, size'))))))

  gs_known : (i : ℕ) → suc (n + 1) < length mem → i < length (get_or mem (suc (n + 1)) nowhere).bytes → Known (suc (n + 1)) i
  unfolding n
  gs_known i within few =
      let own : base_window m.gs ≡ get_or (memory bare) (suc (n + 1)) nowhere = sym (get_or-append-add image.segments windows_above 1 nowhere) in
      let size = sizes (suc (n + 1)) within in
      let size' = ap (λ (r : Range). length r.bytes) own in
      known_as (suc (n + 1)) i (base_window m.gs) own
      (inl (or_right (has ((base_window m.gs).low + i) (stack_window file)) _ (or_right (has ((base_window m.gs).low + i) (base_window m.fs)) _ (or_left _ false (window_known BASE_REACH BASE_REACH m.gs i (omega (arith, few, size, size')))))))

  long_memory : length mem ≡ n + 3
  unfolding n
  long_memory =
      let e = same_length (memory bare) mem same_memory in
      let a = length-append image.segments windows_above in
      omega (arith, e, a)

  known : (p i : ℕ) → p < length mem → i < length (get_or mem p nowhere).bytes → Known p i
  known zero i within few =
      let size = sizes 0 within in
      inl (or_left (has ((stack_window file).low + i) (stack_window file)) _ (window_known STACK_BELOW STACK_ABOVE esp i (omega (arith, few, size))))
  known (suc k) i within few =
      let long = long_memory in
      elim (cases_lt k n) [
        | inl below ↦ segment_known k i below
        | inr from ↦ elim (cases_lt n k) [
          | inr first ↦
              let e : n ≡ k = omega (arith, from, first) in
              let P : ℕ → Type 0 = λ j. suc j < length mem → i < length (get_or mem (suc j) nowhere).bytes → Known (suc j) i in
              subst P e (fs_known i) within few
          | inl more ↦
              let e : n + 1 ≡ k = omega (arith, more, within, long) in
              let P : ℕ → Type 0 = λ j. suc j < length mem → i < length (get_or mem (suc j) nowhere).bytes → Known (suc j) i in
              subst P e (gs_known i) within few
        ]
      ]

  abbrev list : List (ℕ × ℕ)
  list = start_bytes image file

  each_place : (p : ℕ) → p < length mem → filled list (get_or (memory bare) p nowhere) ≡ get_or mem p nowhere
  each_place p within = leads (get_or (memory bare) p nowhere) p within (same_at (memory bare) mem p nowhere same_memory within) (λ i few. known p i within few)

  all_places : map (filled list) (memory bare) ≡ mem
  all_places =
      let long = same_length (memory bare) mem same_memory in
      let mapped = length-map (memory bare) (filled list) in
      ext_get_or nowhere (map (filled list) (memory bare)) mem (mapped ∙ long) (λ p within.
      get_or-map (filled list) (memory bare) p nowhere nowhere (omega (arith, within, mapped)) ∙ each_place p (omega (arith, within, mapped, long)))

  stack_is : filled list bare.stack ≡ m.stack
  stack_is = each_place 0 (let long = long_memory in omega (arith, long))

  ranges_are : map (filled list) bare.ranges ≡ m.ranges
  ranges_are = ap (drop 1) all_places

  flags_are : bare.flags ≡ m.flags
  flags_are =
      let of_bits : FlagBits → Flags = λ f. record { carry = f.carry; parity = f.parity; adjust = f.adjust; zero = f.zero; sign = f.sign; overflow = f.overflow; direction = false } in
      ap of_bits (unpacked-packed flag_bits) ∙ ap (λ b. record m.flags { direction = b }) (sym start.direction)

  state_is : start_state image file ≡ m
  unfolding start_state
  state_is =
      fills_each list bare
      ∙ ap (λ (e : ℕ). record bare { eip = e; stack = filled list bare.stack; ranges = map (filled list) bare.ranges }) (sym start.entry)
      ∙ ap (λ (f : Flags). record m { flags = f; stack = filled list bare.stack; ranges = map (filled list) bare.ranges }) flags_are
      ∙ ap (λ (r : Range). record m { stack = r; ranges = map (filled list) bare.ranges }) stack_is
      ∙ ap (λ (rs : List Range). record m { ranges = rs }) ranges_are

  -- ---- it has no fault

  fills_pass : All (λ f. is_free_fill image file f ≡ true) (map fill_at free_addresses)
  fills_pass =
      All-map (λ f. is_free_fill image file f ≡ true) fill_at free_addresses
      (All-weaker (λ a. free a ≡ true) (λ a. is_free_fill image file (fill_at a) ≡ true) (λ a passes. ap (λ b. b && true) passes) free_addresses (filter_passes free (addresses mem)))

  windows_pass : list_all is_in_user_space (windows file) ≡ true
  windows_pass =
      let user : (p : ℕ) → p < length mem → is_in_user_space (get_or (memory bare) p nowhere) ≡ true =
      λ p within. user_true _ _ (same_at (memory bare) mem p nowhere same_memory within) (All-get_or IsInUserSpace mem p nowhere within start.inside) in
      let long = long_memory in
      let fs_at : get_or (memory bare) (suc (length image.segments)) nowhere ≡ base_window m.fs = get_or_at image.segments (base_window m.fs) (base_window m.gs ∷ []) nowhere (length image.segments) refl in
      let gs_at : get_or (memory bare) (suc (length image.segments + 1)) nowhere ≡ base_window m.gs = get_or-append-add image.segments windows_above 1 nowhere in
      let bound = same_length (memory bare) mem same_memory in
      let a = length-append image.segments windows_above in
      and_from (is_in_user_space (stack_window file)) _ (user 0 (omega (arith, long)))
      (and_from (is_in_user_space (base_window m.fs)) _ (sym (ap is_in_user_space fs_at) ∙ user (suc (length image.segments)) (omega (arith, bound, a)))
      (and_from (is_in_user_space (base_window m.gs)) true (sym (ap is_in_user_space gs_at) ∙ user (suc (length image.segments + 1)) (omega (arith, bound, a))) refl))

  no_start_fault : start_fault image file ≡ None
  unfolding start_fault
  no_start_fault =
      no_fault _ _ _ _ _ _ _ _ (eq-eqb (esp % image.align) 0 start.aligned) windows_pass (pairs_true (memory bare) (apart_mapped mem (memory bare) (sym same_memory) start.apart))
      (none_first (is_free_fill image file) (map fill_at free_addresses) fills_pass (position (λ f. not (is_free_fill image file f)) (map fill_at free_addresses)) refl)

  address_fits : (a : ℕ) → IsOne (addresses mem) a → a < 2 ^ 32
  address_fits =
      each_address (λ a. a < 2 ^ 32) mem (λ p within a low end.
      let user = All-get_or IsInUserSpace mem p nowhere within start.inside in
      let below = user.below in
      omega (arith, end, below))

  one_of_filter : (p : ℕ → Bool) (xs : List ℕ) (a : ℕ) → IsOne (filter p xs) a → IsOne xs a
  one_of_filter p [] a h = h
  one_of_filter p (x ∷ xs) a h =
      elim (cases_Bool (p x)) [
        | inl passes ↦ (let P : Bool → Type 0 = λ b. IsOne (cond b (x ∷ filter p xs) (filter p xs)) a in elim (subst P passes h) [ inl e ↦ inl e | inr rest ↦ inr (one_of_filter p xs a rest) ])
        | inr off ↦ (let P : Bool → Type 0 = λ b. IsOne (cond b (x ∷ filter p xs) (filter p xs)) a in inr (one_of_filter p xs a (subst P off h)))
      ]

  file_kept : IsStartFile file
  file_kept =
      let w = start.words in
      let g = m.registers in
      let N : ℕ → Type 0 = λ x. x < 2 ^ 32 in
      record {
        registers = refl;
        words = all_eight N g.eax g.ecx g.edx g.ebx g.esp g.ebp g.esi g.edi w.eax w.ecx w.edx w.ebx w.esp w.ebp w.esi w.edi;
        fs = w.fs;
        gs = w.gs;
        fill = All-map IsFill fill_at free_addresses (one_passes (λ a. IsFill (fill_at a)) free_addresses (λ a h. record {
          at = address_fits a (one_of_filter free (addresses mem) a h);
          some = omega arith;
          most = omega arith;
          bytes = All-cons (λ b. b < 256) (byte_of mem a) [] (byte-fits mem a start.bytes) (All-nil (λ b. b < 256));
        }));
      }

  stated : started image file ≡ Ok m
  stated = ap (λ f. state_unless f (start_state image file)) no_start_fault ∙ ap Ok state_is

pub states_are_stated : StatesAreStated
states_are_stated image m loaded start = (file image m loaded start, file_kept image m loaded start, stated image m loaded start)
