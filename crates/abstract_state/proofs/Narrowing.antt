-- What a condition that is met tells of the noted word is right, and keeps what is always so of a state.
use Rattle.std.proofs.Common.{◌≡◌, ℕ, zero, suc, ◌+◌, ◌-◌, ◌%◌, ◌/◌, ◌^◌, ◌<◌, ◌≤◌, ◌⊎◌, Bool, true, false, cond, List, [], ◌∷◌, map, Option, Some, None, refl, sym, ◌∙◌, ap, subst, arith, ℤ, pos, ◌+ℤ◌, inl, inr}
use Rattle.std.specs.Prelude.{◌||◌, ◌==◌, nat_le, Contains, unwrap_or, slice_get, All}
use Rattle.std.specs.List.{range_with_len}
use Rattle.std.specs.Option.{ForSome}
use Rattle.std.proofs.Math.Bool.{xor}
use Rattle.std.proofs.lemmas.Bool.{eqb-true, ltb-true, or_cases}
use Rattle.std.proofs.lemmas.Bool.Decides.{nat_tests}
use Rattle.std.proofs.lemmas.List.Elements.{All-get_or, All-head, All-tail}
use Rattle.std.proofs.lemmas.Option.{slice_get_cases}
use Rattle.std.proofs.lemmas.Grind.{common_steps}
use Rattle.flow_log.proofs.Members.{Contains-here, Contains-later, Contains-map, Contains-none, Contains-cases}
use Rattle.bit_words.specs.declared.width.Width.TheVariants.{B32}
use Rattle.bit_words.specs.Width.{cut}
use Rattle.bit_words.proofs.FlagLaws.{difference-below, difference-equal}
use Rattle.x86_syntax.specs.declared.instr.Cond.{Cond}
use Rattle.x86_semantics.specs.Condition.{is_met, tests}
use Rattle.memory_map.specs.declared.registers.Regs.{Regs}
use Rattle.memory_map.specs.Image.{Image}
use Rattle.memory_map.specs.declared.span.Span.{Span}
use Rattle.memory_map.specs.Range.{HasBytes, Range, byte_at, has}
use Rattle.memory_map.proofs.Lists.{byte_at-here, byte_at-none, byte_at-there}
use Rattle.memory_map.specs.Registers.{register, with_register}
use Rattle.memory_map.specs.State.{Flags, HasWords, MachineState, memory}
use Rattle.address_regions.specs.declared.region.Region.TheVariants.{Stack}
use Rattle.address_regions.specs.Places.{IsValid, Places, place_at}
use Rattle.domain_laws.specs.Laws.{IsLawful, Values}
use Rattle.domain_laws.specs.Reached.{named}
use Rattle.partitioned_memory.specs.declared.area.Area.TheVariants.{In}
use Rattle.partitioned_memory.specs.declared.fact.Counted.{Counted}
use Rattle.partitioned_memory.specs.declared.fact.Dirty.{Dirty}
use Rattle.partitioned_memory.specs.Describes.{number_in}
use Rattle.partitioned_memory.specs.Held.{after_exact, found, is_dirty, low_with_high, known_byte, known_half, known_number, value_read}
use Rattle.partitioned_memory.specs.Lists.{Every}
use Rattle.partitioned_memory.specs.Well.{MayHold}
use Rattle.partitioned_memory.proofs.FactsKept.{exact-keeps}
use Rattle.partitioned_memory.proofs.CallsKept.{read-stands}
use Rattle.partitioned_memory.proofs.Holding.{any-holds, found-holds, number-holds}
use Rattle.partitioned_memory.proofs.ListLaws.{Every-map}
use Rattle.abstract_state.specs.declared.note.Note.{Note}
use Rattle.abstract_state.specs.declared.note.Note.TheVariants.{Register, Word}
use Rattle.abstract_state.specs.Describes.{AreOfComparison, Describes, NoteStands, byte_in}
use Rattle.abstract_state.specs.Notes.{IsWellNote, compared_with}
use Rattle.abstract_state.specs.Refining.{at_most, below, is_settled, narrowed, narrowed_states, noted_value, refined, refined_by, with_noted_value}
use Rattle.abstract_state.specs.Accessing.{value_at}
use Rattle.abstract_state.specs.Registers.{RegistersStand}
use Rattle.abstract_state.specs.State.{IsWellState, Known, with_parts}
use Rattle.abstract_state.specs.Laws.{RefiningIsSound, RefiningKeepsWell}
use Rattle.abstract_state.proofs.BridgeBytes.{region-bytes}
use Rattle.abstract_state.proofs.BridgeFits.{fits-apart}
use Rattle.abstract_state.proofs.Keeping.{each-register, exact-state, with_register-each}
use Rattle.abstract_state.proofs.Raising.{count-named}

-- ---- lists

every-member : {X : Type 0} (P : X → Type 0) (x : X) (xs : List X) → Every P xs → Contains xs x → P x
every-member P x [] h k = absurd (Contains-none x k)
every-member P x (y ∷ ys) h k =
    elim (Contains-cases y x ys k) [ inl e ↦ subst P e h.0 | inr later ↦ every-member P x ys h.1 later ]

range-every : (P : ℕ → Type 0) (a n : ℕ) → ((x : ℕ) → x < a + n → P x) → Every P (range_with_len a n)
range-every P a zero h = tt
range-every P a (suc n) h = (h a (omega arith), range-every P (a + 1) n (λ x less. h x (omega arith)))

member-range : (x a n : ℕ) → a ≤ x → x < a + n → Contains (range_with_len a n) x
member-range x a zero low high = absurd (omega arith)
member-range x a (suc n) low high =
    elim (first-or-later x a low) [
      | inl e ↦ subst (λ (y : ℕ). Contains (a ∷ range_with_len (a + 1) n) y) e (Contains-here a (range_with_len (a + 1) n))
      | inr more ↦ Contains-later a x (range_with_len (a + 1) n) (member-range x (a + 1) n more (omega arith))
    ]
  where
    first-or-later : (x a : ℕ) → a ≤ x → (a ≡ x) ⊎ (a + 1 ≤ x)
    first-or-later x a le = grind arith

-- ---- what a comparison tells

cut-word : (x : ℕ) → x < 2 ^ 32 → cut B32 x ≡ x
cut-word x less = omega arith

same-number : (a b : ℕ) → (a == b) ≡ true → a ≡ b
same-number a b e = first_of (grind (arith, common_steps), grind (arith, nat_tests))

equal-is : (x c : ℕ) (f : Flags) → x < 2 ^ 32 → c < 2 ^ 32 → AreOfComparison x c f → f.zero ≡ true → x ≡ c
equal-is x c f xs cs h e =
    sym (cut-word x xs) ∙ eqb-true (cut B32 x) (cut B32 c) (sym (difference-equal B32 x c) ∙ sym h.zero ∙ e) ∙ cut-word c cs

below-is : (x c : ℕ) (f : Flags) → x < 2 ^ 32 → c < 2 ^ 32 → AreOfComparison x c f → f.carry ≡ true → x < c
below-is x c f xs cs h e =
    let less : cut B32 x < cut B32 c = ltb-true (cut B32 x) (cut B32 c) (sym (difference-below B32 x c) ∙ sym h.carry ∙ e) in
    let a = cut-word x xs in let b = cut-word c cs in
    omega arith

-- what is met where a condition of a number is
test-of : (condition : Cond) (f : Flags) → is_met condition f ≡ xor (condition.0 % 2 == 1) (unwrap_or (slice_get (tests f) (condition.0 / 2)) false)
unfolding is_met
test-of condition f = refl

xor-false : (b : Bool) → xor false b ≡ b
unfolding xor
xor-false true = refl
xor-false false = refl

met-equal : (condition : Cond) (f : Flags) → condition.0 ≡ 4 → is_met condition f ≡ true → f.zero ≡ true
met-equal condition f e h =
    sym (xor-false f.zero) ∙ sym (ap (λ n. xor (n % 2 == 1) (unwrap_or (slice_get (tests f) (n / 2)) false)) e) ∙ sym (test-of condition f) ∙ h

met-at_most : (condition : Cond) (f : Flags) → condition.0 ≡ 6 → is_met condition f ≡ true → (f.carry || f.zero) ≡ true
met-at_most condition f e h =
    sym (xor-false (f.carry || f.zero)) ∙ sym (ap (λ n. xor (n % 2 == 1) (unwrap_or (slice_get (tests f) (n / 2)) false)) e) ∙ sym (test-of condition f) ∙ h

met-below : (condition : Cond) (f : Flags) → condition.0 ≡ 2 → is_met condition f ≡ true → f.carry ≡ true
met-below condition f e h =
    sym (xor-false f.carry) ∙ sym (ap (λ n. xor (n % 2 == 1) (unwrap_or (slice_get (tests f) (n / 2)) false)) e) ∙ sym (test-of condition f) ∙ h

at_most-is : (x c : ℕ) (f : Flags) → x < 2 ^ 32 → c < 2 ^ 32 → AreOfComparison x c f → (f.carry || f.zero) ≡ true → x ≤ c
at_most-is x c f xs cs h e =
    elim (or_cases f.carry f.zero e) [
      | inl less ↦ let l = below-is x c f xs cs h less in omega arith
      | inr same ↦ let s = equal-is x c f xs cs h same in omega arith
    ]

-- ---- the values

module _ {D : Type 0} (d : Values D) (l : IsLawful d) where
  -- ---- they may be held

  up_to-holds : (blocks : List Counted) (v : D) (c : ℕ) → c < 2 ^ 32 → MayHold d blocks B32 v → MayHold d blocks B32 (d.up_to v c)
  up_to-holds blocks v c less h = record {
    fits = λ n e. elim (l.up_to_number v c n e) [ inl own ↦ h.fits n own | inr le ↦ omega arith ];
    counted = count-named blocks (named (d.reach (d.up_to v c))) (named (d.reach v)) (l.up_to_names v c) h.counted;
  }

  at_most-hold : (blocks : List Counted) (k : ℕ) (v : D) (c : ℕ) → c < 2 ^ 32 → MayHold d blocks B32 v → Every (MayHold d blocks B32) (at_most d k v c)
  at_most-hold blocks k v c less h =
      elim (nat_le (c + 1) k) as (λ b. Every (MayHold d blocks B32) (cond b (map d.number (range_with_len 0 (c + 1))) (d.up_to v c ∷ []))) [
        | true ↦ Every-map (λ x. x < 2 ^ 32) (MayHold d blocks B32) d.number (range_with_len 0 (c + 1)) (λ x q. number-holds d l blocks B32 x q) (range-every (λ x. x < 2 ^ 32) 0 (c + 1) (λ x q. omega arith))
        | false ↦ (up_to-holds blocks v c less h, tt)
      ]

  below-hold : (blocks : List Counted) (k : ℕ) (v : D) (c : ℕ) → c < 2 ^ 32 → MayHold d blocks B32 v → Every (MayHold d blocks B32) (below d k v c)
  below-hold blocks k v c less h =
      elim (c == 0) as (λ b. Every (MayHold d blocks B32) (cond b [] (at_most d k v (c - 1)))) [
        | true ↦ tt
        | false ↦ at_most-hold blocks k v (c - 1) (omega arith) h
      ]

  -- what holds of the values, where there are some
  abbrev Narrowed : (List D → Type 0) → Option (List D) → Type 0
  Narrowed P None = Unit {0}
  Narrowed P (Some values) = P values

  pub narrowed-hold : (blocks : List Counted) (k : ℕ) (condition : Cond) (v : D) (c : ℕ) → c < 2 ^ 32 → MayHold d blocks B32 v → Narrowed (Every (MayHold d blocks B32)) (narrowed d k condition v c)
  narrowed-hold blocks k condition v c less h =
      let All = Narrowed (Every (MayHold d blocks B32)) in
      elim (is_settled d v) as (λ b. All (cond b None (cond (condition.0 == 4) (Some (d.number c ∷ [])) (cond (condition.0 == 6) (Some (at_most d k v c)) (cond (condition.0 == 2) (Some (below d k v c)) None))))) [
        | true ↦ tt
        | false ↦ elim (condition.0 == 4) as (λ b. All (cond b (Some (d.number c ∷ [])) (cond (condition.0 == 6) (Some (at_most d k v c)) (cond (condition.0 == 2) (Some (below d k v c)) None)))) [
          | true ↦ (number-holds d l blocks B32 c less, tt)
          | false ↦ elim (condition.0 == 6) as (λ b. All (cond b (Some (at_most d k v c)) (cond (condition.0 == 2) (Some (below d k v c)) None))) [
            | true ↦ at_most-hold blocks k v c less h
            | false ↦ elim (condition.0 == 2) as (λ b. All (cond b (Some (below d k v c)) None)) [ true ↦ below-hold blocks k v c less h | false ↦ tt ]
          ]
        ]
      ]

  -- ---- one of them stands

  pub record StandsIn (p : Places) (x : ℕ) (values : List D) : Type 0 where
    pub value : D
    pub among : Contains values value
    pub stands : d.stands value p x

  at_most-stands : (k : ℕ) (v : D) (c x : ℕ) (p : Places) → IsValid p → x ≤ c → d.stands v p x → StandsIn p x (at_most d k v c)
  at_most-stands k v c x p valid less h =
      elim (nat_le (c + 1) k) as (λ b. StandsIn p x (cond b (map d.number (range_with_len 0 (c + 1))) (d.up_to v c ∷ []))) [
        | true ↦ record { value = d.number x; among = Contains-map d.number (range_with_len 0 (c + 1)) x (member-range x 0 (c + 1) (omega arith) (omega arith)); stands = l.number_stands x p valid }
        | false ↦ record { value = d.up_to v c; among = Contains-here (d.up_to v c) []; stands = l.up_to_stands v c p x valid less h }
      ]

  below-stands : (k : ℕ) (v : D) (c x : ℕ) (p : Places) → IsValid p → x < c → d.stands v p x → StandsIn p x (below d k v c)
  below-stands k v c x p valid less h =
      elim (c == 0) as (λ b. (c == 0) ≡ b → StandsIn p x (cond b [] (at_most d k v (c - 1)))) [
        | true ↦ λ e. let zero_is : c ≡ 0 = same-number c 0 e in absurd (omega arith)
        | false ↦ λ e. at_most-stands k v (c - 1) x p valid (omega arith) h
      ] refl

  pub narrowed-stands : (k : ℕ) (condition : Cond) (v : D) (c x : ℕ) (f : Flags) (p : Places) → IsValid p → x < 2 ^ 32 → c < 2 ^ 32 → AreOfComparison x c f → is_met condition f ≡ true → d.stands v p x → Narrowed (StandsIn p x) (narrowed d k condition v c)
  narrowed-stands k condition v c x f p valid xs cs compared met h =
      let One = Narrowed (StandsIn p x) in
      elim (is_settled d v) as (λ b. One (cond b None (cond (condition.0 == 4) (Some (d.number c ∷ [])) (cond (condition.0 == 6) (Some (at_most d k v c)) (cond (condition.0 == 2) (Some (below d k v c)) None))))) [
        | true ↦ tt
        | false ↦ elim (condition.0 == 4) as (λ b. (condition.0 == 4) ≡ b → One (cond b (Some (d.number c ∷ [])) (cond (condition.0 == 6) (Some (at_most d k v c)) (cond (condition.0 == 2) (Some (below d k v c)) None)))) [
          | true ↦ λ e.
              let same : x ≡ c = equal-is x c f xs cs compared (met-equal condition f (same-number condition.0 4 e) met) in
              record { value = d.number c; among = Contains-here (d.number c) []; stands = subst (λ (y : ℕ). d.stands (d.number c) p y) (sym same) (l.number_stands c p valid) }
          | false ↦ λ _. elim (condition.0 == 6) as (λ b. (condition.0 == 6) ≡ b → One (cond b (Some (at_most d k v c)) (cond (condition.0 == 2) (Some (below d k v c)) None))) [
            | true ↦ λ e. at_most-stands k v c x p valid (at_most-is x c f xs cs compared (met-at_most condition f (same-number condition.0 6 e) met)) h
            | false ↦ λ _. elim (condition.0 == 2) as (λ b. (condition.0 == 2) ≡ b → One (cond b (Some (below d k v c)) None)) [
              | true ↦ λ e. below-stands k v c x p valid (below-is x c f xs cs compared (met-below condition f (same-number condition.0 2 e) met)) h
              | false ↦ λ _. tt
            ] refl
          ] refl
        ] refl
      ]

-- ---- numbers that are found

bytes-small : (bytes : List ℕ) (i : ℕ) → All (λ b. b < 256) bytes → unwrap_or (slice_get bytes i) 0 < 256
bytes-small bytes i h =
    elim (slice_get_cases bytes i).1 as (λ _. unwrap_or (slice_get bytes i) 0 < 256) [
      | inl there ↦ subst (λ (o : Option ℕ). unwrap_or o 0 < 256) (sym there.2) (subst (λ (x : ℕ). x < 256) there.3 (All-get_or (λ b. b < 256) bytes i there.0 there.1 h))
      | inr past ↦ subst (λ (o : Option ℕ). unwrap_or o 0 < 256) (sym past.1) (omega arith)
    ]

byte-small : (ranges : List Range) (a : ℕ) → All HasBytes ranges → unwrap_or (byte_at ranges a) 0 < 256
byte-small [] a h = subst (λ (o : Option ℕ). unwrap_or o 0 < 256) (sym (byte_at-none a)) (omega arith)
byte-small (r ∷ rs) a h =
    elim (has a r) as (λ b. has a r ≡ b → unwrap_or (byte_at (r ∷ rs) a) 0 < 256) [
      | true ↦ λ e. subst (λ (o : Option ℕ). unwrap_or o 0 < 256) (sym (byte_at-here r rs a e)) (bytes-small r.bytes (a - r.low) (All-head HasBytes r rs h))
      | false ↦ λ e. subst (λ (o : Option ℕ). unwrap_or o 0 < 256) (sym (byte_at-there r rs a e)) (byte-small rs a (All-tail HasBytes r rs h))
    ] refl

word-small : (b : ℕ → ℕ) (base : ℕ) (o : ℤ) → ((a : ℕ) → b a < 256) → number_in b base o B32 < 2 ^ 32
word-small b base o h =
    let b0 = h (place_at base o) in
    let b1 = h (place_at base (o +ℤ pos 1)) in
    let b2 = h (place_at base (o +ℤ pos 2)) in
    let b3 = h (place_at base ((o +ℤ pos 2) +ℤ pos 1)) in
    omega arith

-- the number of the noted register or word
noted_number : Note → Places → MachineState → ℕ
noted_number (Register r c) p m = register m.registers r
noted_number (Word o c) p m = number_in (byte_in m) p.stack o B32

noted-small : (n : Note) (p : Places) (m : MachineState) → HasWords m → All HasBytes (memory m) → noted_number n p m < 2 ^ 32
unfolding noted_number
noted-small (Register r c) p m w h = each-register (λ x. x < 2 ^ 32) m.registers w.eax w.ecx w.edx w.ebx w.esp w.ebp w.esi w.edi r
noted-small (Word o c) p m w h = word-small (byte_in m) p.stack o (λ a. byte-small (memory m) a h)

pub number-well : (n : Note) → IsWellNote n → compared_with n < 2 ^ 32
number-well (Register r c) h = h.1
number-well (Word o c) h = h.1

compared-of : (n : Note) (p : Places) (m : MachineState) → NoteStands (Some n) p m → AreOfComparison (noted_number n p m) (compared_with n) m.flags
unfolding noted_number
compared-of (Register r c) p m h = h
compared-of (Word o c) p m h = h

-- ---- the states

-- nothing is known of the stack's bytes but by facts
stack-unknown : (ranges : List Range) (unset : List Span) (dirty : List Dirty) (o : ℤ) → known_byte ranges unset dirty (In Stack) o ≡ None
stack-unknown ranges unset dirty o = elim (is_dirty (In Stack) o dirty) as (λ b. (let o : Option ℕ = cond b None None in o) ≡ None) [ true ↦ refl | false ↦ refl ]

word-unknown : (ranges : List Range) (unset : List Span) (dirty : List Dirty) (o : ℤ) → known_number (known_byte ranges unset dirty (In Stack)) o B32 ≡ None
word-unknown ranges unset dirty o =
    let look = known_byte ranges unset dirty (In Stack) in
    ap (λ (x : Option ℕ). low_with_high 65536 (low_with_high 256 x (look (o +ℤ pos 1))) (known_half look (o +ℤ pos 2))) (stack-unknown ranges unset dirty o)

module _ {D : Type 0} (d : Values D) (l : IsLawful d) where
  stack-value_holds : (image : Image) (o : ℤ) (s : Known D) → IsWellState d s → MayHold d s.parts.blocks B32 (value_at d image (In Stack) o B32 s)
  stack-value_holds image o s w =
      subst (λ (k : Option ℕ). MayHold d s.parts.blocks B32 (value_read d (found (In Stack) o B32 s.parts.facts) k)) (sym (word-unknown image.segments image.unset s.parts.dirty o))
      (elim (found (In Stack) o B32 s.parts.facts) as (λ f. found (In Stack) o B32 s.parts.facts ≡ f → MayHold d s.parts.blocks B32 (value_read d f None)) [
        | Some v ↦ λ e. found-holds d s.parts.blocks (In Stack) o B32 v s.parts.facts w.parts.facts e
        | None ↦ λ e. any-holds d l s.parts.blocks B32
      ] refl)

  noted-holds : (image : Image) (n : Note) (s : Known D) → IsWellState d s → MayHold d s.parts.blocks B32 (noted_value d image n s)
  noted-holds image (Register r c) s w = w.registers r
  noted-holds image (Word o c) s w = stack-value_holds image o s w

  with-noted-well : (n : Note) (s : Known D) (v : D) → IsWellState d s → IsWellNote n → MayHold d s.parts.blocks B32 v → IsWellState d (with_noted_value d n s v)
  with-noted-well (Register r c) s v w k h = record { parts = w.parts; registers = with_register-each (MayHold d s.parts.blocks B32) s.regs r v h w.registers; small = w.small; note = w.note }
  with-noted-well (Word o c) s v w k h =
      elim (d.rank v == 0) as (λ b. IsWellState d (cond b s (with_parts (after_exact d (In Stack) o B32 v s.parts) s))) [
        | true ↦ w
        | false ↦ exact-state d s.regs s.flags s.note s.parts (after_exact d (In Stack) o B32 v s.parts) (In Stack) o B32 v k.0 tt h refl w
      ]

  states-well : (n : Note) (s : Known D) (o : Option (List D)) → IsWellState d s → IsWellNote n → Narrowed d l (Every (MayHold d s.parts.blocks B32)) o → Every (IsWellState d) (narrowed_states d n s o)
  states-well n s None w k h = (w, tt)
  states-well n s (Some values) w k h = Every-map (MayHold d s.parts.blocks B32) (IsWellState d) (with_noted_value d n s) values (λ v q. with-noted-well n s v w k q) h

  by-well : (image : Image) (k : ℕ) (condition : Cond) (s : Known D) (o : Option Note) → IsWellState d s → ForSome o IsWellNote → Every (IsWellState d) (refined_by d image k condition o s)
  by-well image k condition s None w h = (w, tt)
  by-well image k condition s (Some n) w h =
      let well = h n refl in
      states-well n s (narrowed d k condition (noted_value d image n s) (compared_with n)) w well
      (narrowed-hold d l s.parts.blocks k condition (noted_value d image n s) (compared_with n) (number-well n well) (noted-holds image n s w))

  pub refining-keeps_well : RefiningKeepsWell d
  unfolding refined
  refining-keeps_well image k condition s t w member =
      every-member (IsWellState d) t (refined_by d image k condition s.note s) (by-well image k condition s s.note w w.note) member

  -- ---- sound

  field-stands : (p : Places) (r i : ℕ) (v u : D) (x : ℕ) (look : ℕ → ℕ) → d.stands v p (look r) → look i ≡ x → d.stands u p x → d.stands (cond (r == i) v u) p x
  field-stands p r i v u x look h e k =
      elim (r == i) as (λ b. (r == i) ≡ b → d.stands (cond b v u) p x) [
        | true ↦ λ q. subst (λ (y : ℕ). d.stands v p y) (ap look (same-number r i q) ∙ e) h
        | false ↦ λ q. k
      ] refl

  with-register-stands : (p : Places) (g : Regs D) (m : Regs ℕ) (r : ℕ) (v : D) → d.stands v p (register m r) → RegistersStand d g p m → RegistersStand d (with_register g r v) p m
  unfolding register with_register
  with-register-stands p g m r v h k = record {
    eax = field-stands p r 0 v g.eax m.eax (register m) h refl k.eax;
    ecx = field-stands p r 1 v g.ecx m.ecx (register m) h refl k.ecx;
    edx = field-stands p r 2 v g.edx m.edx (register m) h refl k.edx;
    ebx = field-stands p r 3 v g.ebx m.ebx (register m) h refl k.ebx;
    esp = field-stands p r 4 v g.esp m.esp (register m) h refl k.esp;
    ebp = field-stands p r 5 v g.ebp m.ebp (register m) h refl k.ebp;
    esi = field-stands p r 6 v g.esi m.esi (register m) h refl k.esi;
    edi = field-stands p r 7 v g.edi m.edi (register m) h refl k.edi;
  }

  register-stands : (p : Places) (g : Regs D) (m : Regs ℕ) (r : ℕ) → RegistersStand d g p m → d.stands (register g r) p (register m r)
  unfolding register
  register-stands p g m r k =
      both-stand (r == 0) k.eax (both-stand (r == 1) k.ecx (both-stand (r == 2) k.edx (both-stand (r == 3) k.ebx (both-stand (r == 4) k.esp (both-stand (r == 5) k.ebp (both-stand (r == 6) k.esi k.edi))))))
    where
      both-stand : (b : Bool) {v u : D} {x y : ℕ} → d.stands v p x → d.stands u p y → d.stands (cond b v u) p (cond b x y)
      both-stand true h q = h
      both-stand false h q = q

  with-noted-describes : (image : Image) (n : Note) (s : Known D) (v : D) (p : Places) (m : MachineState) → IsWellNote n → d.stands v p (noted_number n p m) → Describes d image s p m → Describes d image (with_noted_value d n s v) p m
  unfolding noted_number
  with-noted-describes image (Register r c) s v p m k h x = record { fits = x.fits; words = x.words; registers = with-register-stands p s.regs m.registers r v h x.registers; flags = x.flags; note = x.note; parts = x.parts }
  with-noted-describes image (Word o c) s v p m k h x =
      elim (d.rank v == 0) as (λ b. Describes d image (cond b s (with_parts (after_exact d (In Stack) o B32 v s.parts) s)) p m) [
        | true ↦ x
        | false ↦ record {
          fits = x.fits;
          words = x.words;
          registers = x.registers;
          flags = x.flags;
          note = x.note;
          parts = exact-keeps d image.segments image.unset p (byte_in m) (byte_in m) s.parts (In Stack) p.stack o B32 v (fits-apart image p m x.fits) refl
              (region-bytes image.segments Stack o (o +ℤ pos 4) k.0.low k.0.end) tt (λ a q. refl) h x.parts;
        }
      ]

  noted-stands : (image : Image) (n : Note) (s : Known D) (p : Places) (m : MachineState) → IsWellNote n → Describes d image s p m → d.stands (noted_value d image n s) p (noted_number n p m)
  unfolding noted_number
  noted-stands image (Register r c) s p m k x = register-stands p s.regs m.registers r x.registers
  noted-stands image (Word o c) s p m k x =
      read-stands d l image.segments image.unset p (byte_in m) s.parts (In Stack) p.stack o B32 x.fits.valid refl (region-bytes image.segments Stack o (o +ℤ pos 4) k.0.low k.0.end) x.parts

  pub record IsDescribedIn (image : Image) (p : Places) (m : MachineState) (states : List (Known D)) : Type 0 where
    pub state : Known D
    pub among : Contains states state
    pub describes : Describes d image state p m

  states-describe : (image : Image) (n : Note) (s : Known D) (p : Places) (m : MachineState) (o : Option (List D)) → IsWellNote n → Narrowed d l (StandsIn d l p (noted_number n p m)) o → Describes d image s p m → IsDescribedIn image p m (narrowed_states d n s o)
  states-describe image n s p m None k h x = record { state = s; among = Contains-here s []; describes = x }
  states-describe image n s p m (Some values) k h x = record {
    state = with_noted_value d n s h.value;
    among = Contains-map (with_noted_value d n s) values h.value h.among;
    describes = with-noted-describes image n s h.value p m k h.stands x;
  }

  by-describe : (image : Image) (k : ℕ) (condition : Cond) (s : Known D) (p : Places) (m : MachineState) (o : Option Note) → s.note ≡ o → ForSome o IsWellNote → is_met condition m.flags ≡ true → Describes d image s p m → IsDescribedIn image p m (refined_by d image k condition o s)
  by-describe image k condition s p m None e h met x = record { state = s; among = Contains-here s []; describes = x }
  by-describe image k condition s p m (Some n) e h met x =
      let well = h n refl in
      let stands : NoteStands (Some n) p m = subst (λ (q : Option Note). NoteStands q p m) e x.note in
      states-describe image n s p m (narrowed d k condition (noted_value d image n s) (compared_with n)) well
      (narrowed-stands d l k condition (noted_value d image n s) (compared_with n) (noted_number n p m) m.flags p x.fits.valid (noted-small n p m x.words x.fits.bytes) (number-well n well) (compared-of n p m stands) met (noted-stands image n s p m well x))
      x

  pub refining-is_sound : RefiningIsSound d
  unfolding refined
  refining-is_sound image k condition s p m w unknown met x =
      let one = by-describe image k condition s p m s.note refl w.note met x in
      (one.state, one.among, one.describes)

  -- as the code has them
  pub narrowed-some : (blocks : List Counted) (k : ℕ) (condition : Cond) (v : D) (c n : ℕ) (values : List D) → c < 2 ^ 32 → MayHold d blocks B32 v → n ≡ c → Some values ≡ narrowed d k condition v n → Every (MayHold d blocks B32) values
  narrowed-some blocks k condition v c n values less h same e =
      let hold = narrowed-hold d l blocks k condition v c less h in
      subst (Narrowed d l (Every (MayHold d blocks B32))) (sym (e ∙ ap (narrowed d k condition v) same)) hold
