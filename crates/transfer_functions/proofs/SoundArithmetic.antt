-- Sums, differences, logic and comparisons: their expansion stands for what they do.
use Rattle.std.proofs.Common.{◌≡◌, ℕ, ◌+◌, ◌<◌, ◌≤◌, ◌%◌, ◌^◌, Bool, true, false, not, ◌==◌, ◌&&◌, cond, List, Option, Some, None, refl, sym, ◌∙◌, ap, subst, arith, ◌⊎◌, inl, inr}
use Rattle.std.specs.Prelude.{All, nat_lt, int_le, ℤ, pos, ◌+ℤ◌, ◌-ℤ◌}
use Rattle.std.specs.Option.{ForSome}
use Rattle.std.specs.Ordering.{int_eq}
use Rattle.std.proofs.lemmas.Bool.Decides.{nat_tests}
use Rattle.std.proofs.lemmas.Int.{ints}
use Rattle.address_regions.specs.declared.region.Region.TheVariants.{Stack}
use Rattle.domain_laws.specs.declared.reach.Reach.{Reach}
use Rattle.domain_laws.specs.declared.reach.Reach.TheVariants as reaches
use Rattle.domain_laws.specs.Reached.{IsPlaceOf, IsReached}
use Rattle.x86_syntax.specs.declared.instr.Address.{Address}
use Rattle.bit_words.specs.Flags.{difference_flags, difference_of, has_even_parity, has_sign, logic_flags}
use Rattle.bit_words.proofs.SignedLaws.{is_signed-signed_of}
use Rattle.memory_map.specs.Registers.{register}
use Rattle.x86_semantics.specs.Memory.{word_at}
use Rattle.abstract_state.specs.declared.note.Note.{Note}
use Rattle.abstract_state.specs.declared.note.Note.TheVariants as notes
use Rattle.abstract_state.specs.Describes.{AreOfComparison, NoteStands, byte_in}
use Rattle.abstract_state.specs.Notes.{IsWellNote}
use Rattle.abstract_state.specs.State.{with_note}
use Rattle.std.proofs.lemmas.Bool.{and_parts, eqb-true, and_from}
use Rattle.address_regions.specs.Extents.{low_of, high_of}
use Rattle.address_regions.specs.Places.{Places, place_at}
use Rattle.partitioned_memory.specs.declared.area.Area.TheVariants.{In}
use Rattle.partitioned_memory.specs.Areas.{IsInside, interval_at}
use Rattle.partitioned_memory.specs.Describes.{number_in}
use Rattle.partitioned_memory.proofs.Orders.{int_le-true, int_eq-true}
use Rattle.memory_map.specs.Range.{HasBytes, IsInUserSpace}
use Rattle.memory_map.proofs.Mappings.{mapped_inside}
use Rattle.x86_semantics.proofs.Storing.{number_from, word-loaded}
use Rattle.abstract_state.proofs.BridgeBytes.{number_in-is}
use Rattle.bit_words.specs.declared.width.Width.{Width}
use Rattle.bit_words.specs.declared.width.Width.TheVariants.{B8, B16, B32}
use Rattle.bit_words.specs.declared.op.Op.{Op}
use Rattle.bit_words.specs.declared.op.Op.TheVariants.{Add, Sub, And, Or, Xor, Neg}
use Rattle.bit_words.specs.Width.{bits_of, cut, is_signed, signed_of}
use Rattle.bit_words.specs.Operators.{apply_op, one_if}
use Rattle.bit_words.proofs.Laws.{cut_fit}
use Rattle.domain_laws.specs.Laws.{Values, IsLawful}
use Rattle.memory_map.specs.declared.choice.Choice.{Choice}
use Rattle.memory_map.specs.Image.{Image}
use Rattle.memory_map.specs.State.{MachineState, Flags, memory}
use Rattle.partitioned_memory.specs.declared.fact.Counted.{Counted}
use Rattle.x86_syntax.specs.declared.instr.Operand.{Operand}
use Rattle.x86_syntax.specs.declared.instr.Operand.TheVariants.{Register, Number, Memory, Offset}
use Rattle.x86_semantics.specs.declared.flag_rule.FlagRule.{FlagRule}
use Rattle.x86_semantics.specs.declared.flag_rule.FlagRule.TheVariants.{Sum, SumWithCarry, Difference, DifferenceWithBorrow, Increment, Decrement, Negation, Logic}
use Rattle.x86_semantics.specs.FlagRules.{flags_after, free_of, freed, ruled, with_status}
use Rattle.x86_semantics.specs.Operands.{Ended, address_of, with_flags as with_flags_of, reading as reading_of, writing as writing_of}
use Rattle.x86_semantics.specs.Arithmetic.{combine as combine_of, compare as compare_of, carry as carry_of, carried as carried_of, flagged as flagged_of}
use Rattle.x86_semantics.specs.Registers.{part as part_of, register as register_of}
use Rattle.x86_semantics.specs.Widths.{has_place, has_width, is_place, is_value, is_width, width_of}
use Rattle.abstract_state.specs.declared.truth.Truth.{Truth}
use Rattle.abstract_state.specs.declared.truth.Truth.TheVariants.{Yes, No, Unknown}
use Rattle.abstract_state.specs.declared.flags.Truths.{Truths}
use Rattle.abstract_state.specs.Accessing.{after_load, lies_in_extent}
use Rattle.abstract_state.specs.Expanding.{Expanded, Path, Written, lands}
use Rattle.abstract_state.specs.Flags.{FlagsStand}
use Rattle.abstract_state.specs.Truth.{StandsFor}
use Rattle.abstract_state.proofs.Bridge.{any_known, number_known}
use Rattle.transfer_functions.specs.Arithmetic.{cancels, carried, carry, combine, combined, compare, compared_with, flagged, is_same_register, keeps, note_of, note_with, noted, noted_place, reading_both, with_ruled}
use Rattle.transfer_functions.specs.Flags.{ruled_truths}
use Rattle.transfer_functions.specs.Values.{address_value, after_pair, on_state, operand_value, pair_of, value_of_truth, writing}
use Rattle.transfer_functions.proofs.FlagsSound.{IsResult, is_counted, ruled_stand}
use Rattle.transfer_functions.proofs.Knowing.{KnownWord}
use Rattle.transfer_functions.proofs.Steps.{S, H, E, IsRead, address_stands, noted_holds, eval_stands, part_stands, reading_ends, writing_ends, with_flags_holds, lands_ends}
use Rattle.transfer_functions.proofs.Words.{zero_fits, one_fits, carry_fits, sub_itself, xor_itself, and_itself, or_itself, flags_itself, word_fits}

-- ---- widths

pub same_width : (v w : Width) → is_width v w ≡ true → v ≡ w
same_width B8 B8 e = refl
same_width B8 B16 e = cc
same_width B8 B32 e = cc
same_width B16 B8 e = cc
same_width B16 B16 e = refl
same_width B16 B32 e = cc
same_width B32 B8 e = cc
same_width B32 B16 e = cc
same_width B32 B32 e = refl

pub place_is_value : (o : Operand) → is_place o ≡ true → is_value o ≡ true
place_is_value (Register w r) e = refl
place_is_value (Memory w a) e = refl
place_is_value (Number w n) e = cc
place_is_value (Offset o) e = cc

-- a place of a width is a value of it
pub place_has_width : (w : Width) (o : Operand) → has_place w o ≡ true → has_width w o ≡ true
place_has_width w o e = let parts = and_parts (is_place o) (is_width (width_of o) w) e in and_from (is_value o) _ (place_is_value o parts.0) parts.1

-- what follows two reads
module _ {D : Type 0} (d : Values D) (image : Image) where
  pub pairs : (ws : List Written) (a b : Option D) (k : D → D → Expanded D) → after_load d image ws a (λ v. after_load d image ws b (λ u. k v u)) ≡ after_pair ws (pair_of a b) k
  pairs ws None b k = refl
  pairs ws (Some v) None k = refl
  pairs ws (Some v) (Some u) k = refl

-- ---- the same register twice

no_number : (left : Operand) (w : Width) (n : ℕ) → is_same_register left (Number w n) ≡ true → ⊥
no_number (Register v q) w n e = cc
no_number (Number v q) w n e = cc
no_number (Memory v q) w n e = cc
no_number (Offset o) w n e = cc

no_memory : (left : Operand) (w : Width) (a : Address) → is_same_register left (Memory w a) ≡ true → ⊥
no_memory (Register v q) w a e = cc
no_memory (Number v q) w a e = cc
no_memory (Memory v q) w a e = cc
no_memory (Offset o) w a e = cc

no_offset : (left : Operand) (z : ℤ) → is_same_register left (Offset z) ≡ true → ⊥
no_offset (Register v q) z e = cc
no_offset (Number v q) z e = cc
no_offset (Memory v q) z e = cc
no_offset (Offset o) z e = cc

-- ---- facts on comparisons

none_below : (n : ℕ) → nat_lt n (0 + 0) ≡ false
none_below n = grind (arith, nat_tests)

nothing_less : (z : ℤ) → z -ℤ pos 0 -ℤ pos 0 ≡ z
nothing_less z = omega (arith, ints)

pub place_inside : (low : ℤ) → lies_in_extent Stack low (low +ℤ pos 4) ≡ true → IsInside (interval_at (In Stack) low (pos 4))
place_inside low e =
    let parts = and_parts (int_le (low_of Stack) low) (int_le (low +ℤ pos 4) (high_of Stack)) e in
    let above = int_le-true (low_of Stack) low parts.0 in
    let below = int_le-true (low +ℤ pos 4) (high_of Stack) parts.1 in
    record { low = above; end = below; bounded = record { least = omega (arith, ints, above); greatest = omega (arith, ints, below); ordered = omega (arith, ints) } }

pub some_note : (n : Note) → IsWellNote n → ForSome (Some n) IsWellNote
some_note n h k e = let same : n ≡ k = cc in subst IsWellNote same h

module _ {D : Type 0} (d : Values D) (l : IsLawful d) (image : Image) (p : Places) (blocks : List Counted) where
  same_read : (left right : Operand) (m : MachineState) (x y : ℕ) → is_same_register left right ≡ true → IsRead d l image p blocks left m x → IsRead d l image p blocks right m y → x ≡ y
  same_read (Register v q) (Register w r) m x y e h k =
      let parts = and_parts (is_width v w) (q == r) e in
      h ∙ ap (λ u. part_of u q m) (same_width v w parts.0) ∙ ap (λ n. part_of w n m) (eqb-true q r parts.1) ∙ sym k
  same_read _ _ m x y e h k = cc

  -- both operands were read: each value stands for its number, or a register with itself was read as 0
  pub record IsTwice (op : Op) (left right : Operand) (v u : D) (x y : ℕ) : Type 0 where
    pub twice : (cancels op && is_same_register left right) ≡ true
    pub left_zero : v ≡ d.number 0
    pub right_zero : u ≡ d.number 0
    pub same : x ≡ y

  pub record IsEach (w : Width) (v u : D) (x y : ℕ) : Type 0 where
    pub left : S d l image p blocks w v x
    pub right : S d l image p blocks w u y

  pub record AreRead (op : Op) (w : Width) (left right : Operand) (m : MachineState) (v u : D) (x y : ℕ) : Type 0 where
    pub either : (IsEach w v u x y) ⊎ (IsTwice op left right v u x y)
    pub left_read : IsRead d l image p blocks left m x
    pub right_read : IsRead d l image p blocks right m y
    pub right_fits : y < 2 ^ bits_of w

  reading_twice : (op : Op) (left right : Operand) (q : Path D) (m : MachineState) (k : D → D → Expanded D) (go : ℕ → ℕ → Ended) → (cancels op && is_same_register left right) ≡ true → is_same_register left right ≡ true → H d l image p blocks q m
      → ((v u : D) (x y : ℕ) → AreRead op (width_of left) left right m v u x y → E d l image p blocks (k v u) (go x y))
      → E d l image p blocks (k (d.number 0) (d.number 0)) (reading_of m left (λ x. reading_of m right (λ y. go x y)))
  reading_twice op (Register v r) (Register w t) q m k go e same h then =
      let parts = and_parts (is_width v w) (r == t) same in
      let here = ap (λ u. part_of u r m) (same_width v w parts.0) ∙ ap (λ n. part_of w n m) (eqb-true r t parts.1) in
      then _ _ _ _ (record {
        either = inr (record { twice = e; left_zero = refl; right_zero = refl; same = here });
        left_read = refl;
        right_read = refl;
        right_fits = subst (λ n. n < 2 ^ bits_of v) here (part_stands d l image p blocks v r q m h).fits;
      })
  reading_twice op _ _ q m k go e same h then = cc

  reading_each : (op : Op) (w : Width) (left right : Operand) (q : Path D) (m : MachineState) (k : D → D → Expanded D) (go : ℕ → ℕ → Ended) → has_width w left ≡ true → has_width w right ≡ true → H d l image p blocks q m
      → ((v u : D) (x y : ℕ) → AreRead op w left right m v u x y → E d l image p blocks (k v u) (go x y))
      → E d l image p blocks (after_pair q.writes (pair_of (operand_value d image left q.state) (operand_value d image right q.state)) k) (reading_of m left (λ x. reading_of m right (λ y. go x y)))
  reading_each op w left right q m k go is also h then =
      let first = and_parts (is_value left) (is_width (width_of left) w) is in
      let second = and_parts (is_value right) (is_width (width_of right) w) also in
      let wide = λ (v : D) (x : ℕ) (s : S d l image p blocks (width_of left) v x). subst (λ z. S d l image p blocks z v x) (same_width (width_of left) w first.1) s in
      let other = λ (v : D) (x : ℕ) (s : S d l image p blocks (width_of right) v x). subst (λ z. S d l image p blocks z v x) (same_width (width_of right) w second.1) s in
      subst (λ z. E d l image p blocks z (reading_of m left (λ x. reading_of m right (λ y. go x y)))) (pairs d image q.writes (operand_value d image left q.state) (operand_value d image right q.state) k)
      (reading_ends d l image p blocks left q m _ _ first.0 h (λ v x s read.
      reading_ends d l image p blocks right q m _ _ second.0 h (λ u y t also_read.
      then v u x y (record { either = inl (record { left = wide v x s; right = other u y t }); left_read = read; right_read = also_read; right_fits = (other u y t).fits }))))

  pub both_ends : (op : Op) (w : Width) (left right : Operand) (q : Path D) (m : MachineState) (k : D → D → Expanded D) (go : ℕ → ℕ → Ended) → has_width w left ≡ true → has_width w right ≡ true → H d l image p blocks q m
      → ((v u : D) (x y : ℕ) → AreRead op w left right m v u x y → E d l image p blocks (k v u) (go x y))
      → E d l image p blocks (reading_both d image op q left right k) (reading_of m left (λ x. reading_of m right (λ y. go x y)))
  both_ends op w left right q m k go is also h then =
      elim (cancels op && is_same_register left right) as (λ b. (cancels op && is_same_register left right) ≡ b
      → E d l image p blocks (after_pair q.writes (cond b (Some (d.number 0, d.number 0)) (pair_of (operand_value d image left q.state) (operand_value d image right q.state))) k) (reading_of m left (λ x. reading_of m right (λ y. go x y)))) [
        | true ↦ λ e.
            let width = same_width (width_of left) w (and_parts (is_value left) (is_width (width_of left) w) is).1 in
            reading_twice op left right q m k go e (and_parts (cancels op) (is_same_register left right) e).1 h
            (λ v u x y r. then v u x y (subst (λ z. AreRead op z left right m v u x y) width r))
        | false ↦ λ e. reading_each op w left right q m k go is also h then
      ] refl

  -- ---- results

  -- a word with itself, where the operator gives 0, is as 0 with 0
  cancelled : (op : Op) (w : Width) (x : ℕ) → cancels op ≡ true → apply_op op w x x ≡ apply_op op w 0 0
  cancelled Sub w x e = sub_itself w x
  cancelled Xor w x e = xor_itself w x
  cancelled op w x e = cc

  zeros : (op : Op) (w : Width) (left right : Operand) (v u : D) (x y : ℕ) (q : Path D) (m : MachineState) → H d l image p blocks q m → IsTwice op left right v u x y
      → S d l image p blocks w (d.eval op w v u image.align) (apply_op op w x y)
  zeros op w left right v u x y q m h t =
      let zero = number_known d l image p blocks w 0 q m h (zero_fits w) in
      let e : apply_op op w 0 0 ≡ apply_op op w x y = sym (cancelled op w x (and_parts (cancels op) (is_same_register left right) t.twice).0) ∙ ap (apply_op op w x) t.same in
      let P : D → Type 0 = λ a. S d l image p blocks w (d.eval op w a u image.align) (apply_op op w x y) in
      let Q : D → Type 0 = λ b. S d l image p blocks w (d.eval op w (d.number 0) b image.align) (apply_op op w x y) in
      subst P (sym t.left_zero) (subst Q (sym t.right_zero) (subst (S d l image p blocks w (d.eval op w (d.number 0) (d.number 0) image.align)) e (eval_stands d l image p blocks op w _ _ 0 0 q m h zero zero)))

  evaluated : (op : Op) (w : Width) (left right : Operand) (v u : D) (x y : ℕ) (q : Path D) (m : MachineState) → H d l image p blocks q m → AreRead op w left right m v u x y
      → S d l image p blocks w (d.eval op w v u image.align) (apply_op op w x y)
  evaluated op w left right v u x y q m h r = elim r.either [
    | inl each ↦ eval_stands d l image p blocks op w v u x y q m h each.left each.right
    | inr twice ↦ zeros op w left right v u x y q m h twice
  ]

  -- AND and OR of a register with itself
  kept : (op : Op) (w : Width) (left right : Operand) (v u : D) (x y : ℕ) (m : MachineState) → keeps op ≡ true → is_same_register left right ≡ true → AreRead op w left right m v u x y
      → S d l image p blocks w v (apply_op op w x y)
  kept And w left right v u x y m e same r = elim r.either [
    | inl each ↦
        let here = same_read left right m x y same r.left_read r.right_read in
        subst (S d l image p blocks w v) (sym (and_itself w x each.left.fits) ∙ ap (apply_op And w x) here) each.left
    | inr twice ↦ let none = twice.twice in cc
  ]
  kept Or w left right v u x y m e same r = elim r.either [
    | inl each ↦
        let here = same_read left right m x y same r.left_read r.right_read in
        subst (S d l image p blocks w v) (sym (or_itself w x each.left.fits) ∙ ap (apply_op Or w x) here) each.left
    | inr twice ↦ let none = twice.twice in cc
  ]
  kept op w left right v u x y m e same r = cc

  pub combined_stands : (op : Op) (w : Width) (left right : Operand) (v u : D) (x y : ℕ) (q : Path D) (m : MachineState) → H d l image p blocks q m → AreRead op w left right m v u x y
      → S d l image p blocks w (combined d image.align op w left right v u) (apply_op op w x y)
  combined_stands op w left right v u x y q m h r =
      elim (keeps op && is_same_register left right) as (λ b. (keeps op && is_same_register left right) ≡ b → S d l image p blocks w (cond b v (d.eval op w v u image.align)) (apply_op op w x y)) [
        | true ↦ λ e. let parts = and_parts (keeps op) (is_same_register left right) e in kept op w left right v u x y m parts.0 parts.1 r
        | false ↦ λ e. evaluated op w left right v u x y q m h r
      ] refl

  -- CF as a number
  truth_stands : (w : Width) (t : Truth) (c : Bool) (q : Path D) (m : MachineState) → H d l image p blocks q m → StandsFor t c → S d l image p blocks w (value_of_truth d t) (one_if c)
  truth_stands w Yes c q m h s = subst (λ b. S d l image p blocks w (d.number 1) (one_if b)) (sym s) (number_known d l image p blocks w 1 q m h (one_fits w))
  truth_stands w No c q m h s = subst (λ b. S d l image p blocks w (d.number 0) (one_if b)) (sym s) (number_known d l image p blocks w 0 q m h (zero_fits w))
  truth_stands w Unknown c q m h s = any_known d l image p blocks w (one_if c) q m h (carry_fits w c)

  pub carried_stands : (op : Op) (w : Width) (left right : Operand) (v u : D) (x y : ℕ) (q : Path D) (m : MachineState) → H d l image p blocks q m → AreRead op w left right m v u x y
      → S d l image p blocks w (carried d image.align op w v u q.state) (carried_of op w x y m)
  carried_stands op w left right v u x y q m h r =
      eval_stands d l image p blocks op w _ _ _ _ q m h (evaluated op w left right v u x y q m h r)
      (truth_stands w q.state.flags.carry m.flags.carry q m h h.describes.flags.carry)

  -- ---- flags

  -- what is shown of a rule with an operator, once for each pair of them: `result` is the number that the instruction makes of its operands and CF
  pub record HasRule (rule : FlagRule) (op : Op) (w : Width) (left right : Operand) (result : ℕ → ℕ → Bool → ℕ) : Type 0 where
    pub plain : is_counted rule ≡ false
    -- the result is the rule's
    pub gives : (m : MachineState) (x y : ℕ) (f : Flags) → IsRead d l image p blocks right m y → IsResult rule w x y f (result x y f.carry)
    -- a word with itself, where it is read as 0, is as 0 with 0
    pub cancelled_result : (cancels op && is_same_register left right) ≡ true → (x : ℕ) (f : Flags) → IsResult rule w 0 0 f (result x x f.carry)
    pub cancelled_flags : (cancels op && is_same_register left right) ≡ true → (x z : ℕ) (f : Flags) → ruled rule w x x z f ≡ ruled rule w 0 0 z f

  known : (w : Width) (v : D) (x : ℕ) → S d l image p blocks w v x → KnownWord d p w v x
  known w v x s = record { stands = s.stands; fits = s.fits }

  flags_stand : (rule : FlagRule) (op : Op) (w : Width) (left right : Operand) (result : ℕ → ℕ → Bool → ℕ) (v u value : D) (x y : ℕ) (q : Path D) (m : MachineState) (t : Truths) (f : Flags) (choice : Choice)
      → HasRule rule op w left right result → H d l image p blocks q m → AreRead op w left right m v u x y → S d l image p blocks w value (result x y f.carry) → FlagsStand t f
      → FlagsStand (ruled_truths d image.align rule w v u value t) (flags_after rule w x y (result x y f.carry) choice f)
  flags_stand rule op w left right result v u value x y q m t f choice has h r s before =
      let fits = h.describes.fits in
      let P : ℕ → Type 0 = λ a. FlagsStand (ruled_truths d a rule w v u value t) (flags_after rule w x y (result x y f.carry) choice f) in
      subst P fits.align (elim r.either [
        | inl each ↦
            ruled_stand d l p fits.valid rule w v u value x y (result x y f.carry) t f choice has.plain (known w v x each.left) (known w u y each.right) (known w value _ s)
            (has.gives m x y f r.right_read) before
        | inr twice ↦
            let zero : KnownWord d p w (d.number 0) 0 = record { stands = l.number_stands 0 p fits.valid; fits = zero_fits w } in
            let T : D → Type 0 = λ a. FlagsStand (ruled_truths d p.align rule w a u value t) (flags_after rule w x y (result x y f.carry) choice f) in
            let U : D → Type 0 = λ b. FlagsStand (ruled_truths d p.align rule w (d.number 0) b value t) (flags_after rule w x y (result x y f.carry) choice f) in
            let Q : ℕ → Type 0 = λ n. FlagsStand (ruled_truths d p.align rule w (d.number 0) (d.number 0) value t) (flags_after rule w x n (result x n f.carry) choice f) in
            let G : Flags → Type 0 = λ g. FlagsStand (ruled_truths d p.align rule w (d.number 0) (d.number 0) value t) (freed (free_of rule) choice g) in
            let own : KnownWord d p w value (result x x f.carry) = subst (λ n. KnownWord d p w value (result x n f.carry)) (sym twice.same) (known w value _ s) in
            subst T (sym twice.left_zero) (subst U (sym twice.right_zero) (subst Q twice.same (subst G (sym (has.cancelled_flags twice.twice x (result x x f.carry) f))
            (ruled_stand d l p fits.valid rule w _ _ value 0 0 (result x x f.carry) t f choice has.plain zero zero own (has.cancelled_result twice.twice x f) before))))
      ])

  -- ---- the operations

  flagged_ends : (rule : FlagRule) (w : Width) (v u value : D) (x y z next : ℕ) (choice : Choice) (q : Path D) (m : MachineState) → next < 2 ^ 32
      → FlagsStand (ruled_truths d image.align rule w v u value q.state.flags) (flags_after rule w x y z choice m.flags) → H d l image p blocks q m
      → E d l image p blocks (flagged d image rule w v u value next q) (flagged_of rule w x y z next choice m)
  flagged_ends rule w v u value x y z next choice q m less stands h =
      lands_ends d l image p blocks next _ _ less (with_flags_holds d l image p blocks _ _ q m stands h)

  -- both operands were read, and the result is written
  written_ends : (rule : FlagRule) (op : Op) (w : Width) (left right : Operand) (result : ℕ → ℕ → Bool → ℕ) (v u value : D) (x y next : ℕ) (choice : Choice) (q : Path D) (m : MachineState)
      → next < 2 ^ 32 → has_place w left ≡ true → HasRule rule op w left right result → H d l image p blocks q m → AreRead op w left right m v u x y
      → S d l image p blocks w value (result x y m.flags.carry)
      → E d l image p blocks (writing d image q left value (λ r. flagged d image rule w v u value next r))
      (writing_of m left (result x y m.flags.carry) (λ n. flagged_of rule w x y (result x y m.flags.carry) next choice n))
  written_ends rule op w left right result v u value x y next choice q m less place has h read s =
      let parts = and_parts (is_place left) (is_width (width_of left) w) place in
      let own = subst (λ z. S d l image p blocks z value (result x y m.flags.carry)) (sym (same_width (width_of left) w parts.1)) s in
      writing_ends d l image p blocks left value _ q m _ _ parts.0 own h
      (λ r n holds same.
      let C : Flags → Type 0 = λ f. FlagsStand (ruled_truths d image.align rule w v u value r.state.flags) (flags_after rule w x y (result x y f.carry) choice n.flags) in
      let V : Flags → Type 0 = λ f. S d l image p blocks w value (result x y f.carry) in
      let stands = flags_stand rule op w left right result v u value x y q m r.state.flags n.flags choice has h read (subst V (sym same) s) holds.describes.flags in
      flagged_ends rule w v u value x y (result x y m.flags.carry) next choice r n less (subst C same stands) holds)

  pub combine_ends : (op : Op) (rule : FlagRule) (w : Width) (to from : Operand) (next : ℕ) (choice : Choice) (q : Path D) (m : MachineState) → next < 2 ^ 32
      → has_place w to ≡ true → has_width w from ≡ true → HasRule rule op w to from (λ x y c. apply_op op w x y) → H d l image p blocks q m
      → E d l image p blocks (combine d image op rule w to from next q) (combine_of op rule w to from next choice m)
  combine_ends op rule w to from next choice q m less place value has h =
      both_ends op w to from q m _ _ (place_has_width w to place) value h
      (λ v u x y read. written_ends rule op w to from (λ x y c. apply_op op w x y) v u _ x y next choice q m less place has h read (combined_stands op w to from v u x y q m h read))

  pub carry_ends : (op : Op) (rule : FlagRule) (w : Width) (to from : Operand) (next : ℕ) (choice : Choice) (q : Path D) (m : MachineState) → next < 2 ^ 32
      → has_place w to ≡ true → has_width w from ≡ true → HasRule rule op w to from (λ x y c. apply_op op w (apply_op op w x y) (one_if c)) → H d l image p blocks q m
      → E d l image p blocks (carry d image op rule w to from next q) (carry_of op rule w to from next choice m)
  carry_ends op rule w to from next choice q m less place value has h =
      both_ends op w to from q m _ _ (place_has_width w to place) value h
      (λ v u x y read. written_ends rule op w to from (λ x y c. apply_op op w (apply_op op w x y) (one_if c)) v u _ x y next choice q m less place has h read (carried_stands op w to from v u x y q m h read))

  -- ---- the rules of the operators

  pub sum_rule : (w : Width) (left right : Operand) → HasRule Sum Add w left right (λ x y c. apply_op Add w x y)
  sum_rule w left right = record { plain = refl; gives = λ m x y f k. refl; cancelled_result = λ e x f. cc; cancelled_flags = λ e x z f. cc }

  pub sum_with_carry_rule : (w : Width) (left right : Operand) → HasRule SumWithCarry Add w left right (λ x y c. apply_op Add w (apply_op Add w x y) (one_if c))
  sum_with_carry_rule w left right = record { plain = refl; gives = λ m x y f k. refl; cancelled_result = λ e x f. cc; cancelled_flags = λ e x z f. cc }

  difference_same : (w : Width) (x z : ℕ) (f : Flags) → ruled Difference w x x z f ≡ ruled Difference w 0 0 z f
  unfolding ruled
  difference_same w x z f = ap (λ s. with_status s f) (flags_itself w x false)

  borrow_same : (w : Width) (x z : ℕ) (f : Flags) → ruled DifferenceWithBorrow w x x z f ≡ ruled DifferenceWithBorrow w 0 0 z f
  unfolding ruled
  borrow_same w x z f = ap (λ s. with_status s f) (flags_itself w x f.carry)

  logic_same : (w : Width) (x z : ℕ) (f : Flags) → ruled Logic w x x z f ≡ ruled Logic w 0 0 z f
  unfolding ruled
  logic_same w x z f = refl

  pub sub_rule : (w : Width) (left right : Operand) → HasRule Difference Sub w left right (λ x y c. apply_op Sub w x y)
  sub_rule w left right = record { plain = refl; gives = λ m x y f k. refl; cancelled_result = λ e x f. sub_itself w x; cancelled_flags = λ e x z f. difference_same w x z f }

  pub sub_with_borrow_rule : (w : Width) (left right : Operand) → HasRule DifferenceWithBorrow Sub w left right (λ x y c. apply_op Sub w (apply_op Sub w x y) (one_if c))
  sub_with_borrow_rule w left right = record {
    plain = refl;
    gives = λ m x y f k. refl;
    cancelled_result = λ e x f. ap (λ n. apply_op Sub w n (one_if f.carry)) (sub_itself w x);
    cancelled_flags = λ e x z f. borrow_same w x z f;
  }

  -- AND, OR and XOR
  pub logic_rule : (op : Op) (w : Width) (left right : Operand) → HasRule Logic op w left right (λ x y c. apply_op op w x y)
  logic_rule op w left right = record { plain = refl; gives = λ m x y f k. tt; cancelled_result = λ e x f. tt; cancelled_flags = λ e x z f. logic_same w x z f }

  pub neg_rule : (w : Width) (left right : Operand) → HasRule Negation Neg w left right (λ x y c. apply_op Neg w x y)
  neg_rule w left right = record { plain = refl; gives = λ m x y f k. refl; cancelled_result = λ e x f. cc; cancelled_flags = λ e x z f. cc }

  -- INC and DEC, whose second operand is the number 1
  one_read : (w : Width) (y : ℕ) → y ≡ cut w 1 → y ≡ 1
  one_read w y e = e ∙ cut_fit w 1 (one_fits w)

  pub inc_rule : (w : Width) (left : Operand) → HasRule Increment Add w left (Number w 1) (λ x y c. apply_op Add w x y)
  inc_rule w left = record { plain = refl; gives = λ m x y f k. ap (apply_op Add w x) (one_read w y k); cancelled_result = λ e x f. cc; cancelled_flags = λ e x z f. cc }

  pub dec_rule : (w : Width) (left : Operand) → HasRule Decrement Sub w left (Number w 1) (λ x y c. apply_op Sub w x y)
  dec_rule w left = record {
    plain = refl;
    gives = λ m x y f k. ap (apply_op Sub w x) (one_read w y k);
    cancelled_result = λ e x f. absurd (no_number left w 1 e);
    cancelled_flags = λ e x z f. absurd (no_number left w 1 e);
  }

  -- ---- comparisons, and their notes

  -- a number that a value is said to be is the one that it stands for
  told : (w : Width) (v : D) (x c : ℕ) (q : Path D) (m : MachineState) → H d l image p blocks q m → S d l image p blocks w v x → d.number_of v ≡ Some c → x ≡ c
  told w v x c q m h s e = l.number_of_alone v c p x h.describes.fits.valid e s.stands

  -- what CMP compares with is what its second operand holds
  compared_told : (w : Width) (left right : Operand) (v u : D) (x y c : ℕ) (q : Path D) (m : MachineState) → H d l image p blocks q m → AreRead Sub w left right m v u x y
      → d.number_of (compared_with d image.align right u q.state) ≡ Some c → y ≡ c
  compared_told w left (Register z r) v u x y c q m h read e = read.right_read ∙ told z _ _ c q m h (part_stands d l image p blocks z r q m h) e
  compared_told w left (Number z n) v u x y c q m h read e = elim read.either [
    | inl each ↦ told w u y c q m h each.right e
    | inr twice ↦ absurd (no_number left z n twice.twice)
  ]
  compared_told w left (Memory z a) v u x y c q m h read e = elim read.either [
    | inl each ↦ told w u y c q m h each.right e
    | inr twice ↦ absurd (no_memory left z a twice.twice)
  ]
  compared_told w left (Offset o) v u x y c q m h read e = elim read.either [
    | inl each ↦ told w u y c q m h each.right e
    | inr twice ↦ absurd (no_offset left o twice.twice)
  ]

  -- a note that is well made and stands
  record IsNoted (note : Option Note) (m : MachineState) : Type 0 where
    well : ForSome note IsWellNote
    stands : NoteStands note p m

  nothing_noted : (m : MachineState) → IsNoted None m
  nothing_noted m = record { well = λ n e. cc; stands = tt }

  register_noted : (r : ℕ) (o : Option ℕ) (m : MachineState) → ((c : ℕ) → o ≡ Some c → (c < 2 ^ 32) × AreOfComparison (register m.registers (r % 8)) c m.flags)
      → IsNoted (note_with d image.align (notes.Register (r % 8)) o) m
  register_noted r None m h = nothing_noted m
  register_noted r (Some c) m h = record { well = some_note _ (omega arith, (h c refl).0); stands = (h c refl).1 }

  -- a word of the stack is the number that its bytes are
  place_is : (a x : ℕ) (low : ℤ) (m : MachineState) → All IsInUserSpace (memory m) → All HasBytes (memory m) → word_at B32 a m ≡ Some x → a ≡ place_at p.stack low → number_in (byte_in m) p.stack low B32 ≡ x
  place_is a x low m inside bytes word at =
      let k = word-loaded B32 a x m inside bytes word in
      let final = mapped_inside (memory m) (a + 3) (k.mapped 3 (omega arith)) inside in
      let bound : place_at p.stack low + 4 ≤ 2 ^ 32 = omega (arith, final.1, at) in
      number_in-is (byte_in m) p.stack low B32 bound ∙ ap (number_from (byte_in m) 4) (sym at) ∙ k.number

  word_at_place : (a x : ℕ) (low high : ℤ) (o : Option ℕ) (m : MachineState) (f : Flags) → All IsInUserSpace (memory m) → All HasBytes (memory m) → word_at B32 a m ≡ Some x → IsPlaceOf p Stack low high a
      → ((c : ℕ) → o ≡ Some c → (c < 2 ^ 32) × AreOfComparison x c f) → (int_eq low high && lies_in_extent Stack low (low +ℤ pos 4)) ≡ true → IsNoted (note_with d image.align (notes.Word low) o) (with_flags_of f m)
  word_at_place a x low high None m f inside bytes word reached then e = nothing_noted _
  word_at_place a x low high (Some c) m f inside bytes word reached then e =
      let parts = and_parts (int_eq low high) (lies_in_extent Stack low (low +ℤ pos 4)) e in
      let offset : reached.offset ≡ low = omega (arith, ints, int_eq-true low high parts.0, reached.from_low, reached.to_high) in
      let at : a ≡ place_at p.stack low = reached.is ∙ ap (place_at reached.base) offset ∙ ap (λ b. place_at b low) reached.has_base in
      let k = then c refl in
      record { well = some_note _ (place_inside low parts.1, k.0); stands = subst (λ n. AreOfComparison n c f) (sym (place_is a x low m inside bytes word at)) k.1 }

  word_noted : (a x : ℕ) (reach : Reach) (o : Option ℕ) (m : MachineState) (f : Flags) → All IsInUserSpace (memory m) → All HasBytes (memory m) → word_at B32 a m ≡ Some x → IsReached reach p a
      → ((c : ℕ) → o ≡ Some c → (c < 2 ^ 32) × AreOfComparison x c f) → IsNoted (noted_place d image.align reach o) (with_flags_of f m)
  word_noted a x (reaches.Place Stack low high) o m f inside bytes word reached then =
      elim (int_eq low high && lies_in_extent Stack low (low +ℤ pos 4)) as (λ b. (int_eq low high && lies_in_extent Stack low (low +ℤ pos 4)) ≡ b → IsNoted (cond b (note_with d image.align (notes.Word low) o) None) (with_flags_of f m)) [
        | true ↦ λ e. word_at_place a x low high o m f inside bytes word reached then e
        | false ↦ λ e. nothing_noted _
      ] refl
  word_noted a x reach o m f inside bytes word reached then = nothing_noted _

  -- the note of a comparison of a first operand that was read as x
  noted_stands : (left : Operand) (x : ℕ) (o : Option ℕ) (q : Path D) (m : MachineState) (f : Flags) → H d l image p blocks q m → IsRead d l image p blocks left m x
      → (width_of left ≡ B32 → (c : ℕ) → o ≡ Some c → (c < 2 ^ 32) × AreOfComparison x c f) → IsNoted (noted d image.align left o q.state) (with_flags_of f m)
  unfolding register_of
  noted_stands (Register B32 r) x o q m f h read then =
      register_noted r o (with_flags_of f m) (λ c e. let k = then refl c e in (k.0, subst (λ n. AreOfComparison n c f) read k.1))
  noted_stands (Memory B32 a) x o q m f h read then =
      word_noted (address_of a m) x (d.reach (address_value d image.align a q.state)) o m f h.describes.fits.inside h.describes.fits.bytes read
      (l.reach_holds _ p _ h.describes.fits.valid (address_stands d l image p blocks a q m h).stands) (then refl)
  noted_stands left x o q m f h read then = nothing_noted _

  -- the flags of a comparison are those of CMP
  difference_compares : (x y c z : ℕ) (choice : Choice) (f : Flags) → y ≡ c → AreOfComparison x c (flags_after Difference B32 x y z choice f)
  unfolding ruled
  difference_compares x y c z choice f e =
      let P : ℕ → Type 0 = λ n. AreOfComparison x n (flags_after Difference B32 x y z choice f) in
      subst P e (record { carry = refl; parity = refl; zero = refl; sign = refl; overflow = refl })

  -- TEST of a word with itself has the flags of its comparison with 0
  itself_compares : (x y : ℕ) (choice : Choice) (f : Flags) → x ≡ y → x < 2 ^ 32 → AreOfComparison x 0 (flags_after Logic B32 x y (apply_op And B32 x y) choice f)
  unfolding ruled logic_flags difference_flags
  itself_compares x y choice f same less =
      let word : cut B32 (apply_op And B32 x y) ≡ x = ap (λ n. cut B32 (apply_op And B32 x n)) (sym same) ∙ ap (cut B32) (and_itself B32 x less) ∙ cut_fit B32 x less in
      let rest : difference_of B32 x 0 false ≡ x = omega arith in
      let result = word ∙ sym rest in
      let signed : signed_of B32 x -ℤ signed_of B32 0 -ℤ pos 0 ≡ signed_of B32 x = nothing_less (signed_of B32 x) in
      record {
        carry = sym (none_below (cut B32 x));
        parity = ap has_even_parity result;
        zero = ap (λ n. n == 0) result;
        sign = ap (has_sign B32) result;
        overflow = sym (ap (λ z. not (is_signed B32 z)) signed ∙ ap not (is_signed-signed_of B32 x));
      }

  compared_ends : (rule : FlagRule) (w : Width) (v u value : D) (x y z next : ℕ) (note : Option Note) (choice : Choice) (q : Path D) (m : MachineState) → next < 2 ^ 32
      → FlagsStand (ruled_truths d image.align rule w v u value q.state.flags) (flags_after rule w x y z choice m.flags) → IsNoted note (with_flags_of (flags_after rule w x y z choice m.flags) m) → H d l image p blocks q m
      → E d l image p blocks (lands next (on_state (λ s. with_note note (with_ruled d image.align rule w v u value s)) q)) (flagged_of rule w x y z next choice m)
  compared_ends rule w v u value x y z next note choice q m less flags noted h =
      lands_ends d l image p blocks next _ _ less (noted_holds d l image p blocks _ note _ q m flags noted.well noted.stands h)

  -- CMP
  pub compare_ends : (left right : Operand) (w : Width) (next : ℕ) (choice : Choice) (q : Path D) (m : MachineState) → next < 2 ^ 32 → has_width w left ≡ true → has_width w right ≡ true → H d l image p blocks q m
      → E d l image p blocks (compare d image Sub Difference w left right next q) (compare_of Sub Difference w left right next choice m)
  compare_ends left right w next choice q m less is also h =
      both_ends Sub w left right q m _ _ is also h (λ v u x y read.
      compared_ends Difference w v u _ x y _ next (note_of d image.align Sub left right u q.state) choice q m less
      (flags_stand Difference Sub w left right (λ a b c. apply_op Sub w a b) v u _ x y q m q.state.flags m.flags choice (sub_rule w left right) h read (combined_stands Sub w left right v u x y q m h read) h.describes.flags)
      (noted_stands left x (d.number_of (compared_with d image.align right u q.state)) q m _ h read.left_read
      (λ long c e.
      let same = compared_told w left right v u x y c q m h read e in
      let width = sym (same_width (width_of left) w (and_parts (is_value left) (is_width (width_of left) w) is).1) ∙ long in
      let P : Width → Type 0 = λ z. AreOfComparison x c (flags_after Difference z x y (apply_op Sub z x y) choice m.flags) in
      (subst (λ n. n < 2 ^ 32) same (word_fits w y read.right_fits), subst P (sym width) (difference_compares x y c (apply_op Sub B32 x y) choice m.flags same))))
      h)

  -- TEST
  pub test_ends : (left right : Operand) (w : Width) (next : ℕ) (choice : Choice) (q : Path D) (m : MachineState) → next < 2 ^ 32 → has_width w left ≡ true → has_width w right ≡ true → H d l image p blocks q m
      → E d l image p blocks (compare d image And Logic w left right next q) (compare_of And Logic w left right next choice m)
  test_ends left right w next choice q m less is also h =
      both_ends And w left right q m _ _ is also h (λ v u x y read.
      compared_ends Logic w v u _ x y _ next (note_of d image.align And left right u q.state) choice q m less
      (flags_stand Logic And w left right (λ a b c. apply_op And w a b) v u _ x y q m q.state.flags m.flags choice (logic_rule And w left right) h read (combined_stands And w left right v u x y q m h read) h.describes.flags)
      (elim (is_same_register left right) as (λ b. is_same_register left right ≡ b → IsNoted (cond b (noted d image.align left (Some 0) q.state) None) (with_flags_of (flags_after Logic w x y (apply_op And w x y) choice m.flags) m)) [
        | true ↦ λ e. noted_stands left x (Some 0) q m _ h read.left_read (λ long c f.
            let zero : 0 ≡ c = cc in
            let same = same_read left right m x y e read.left_read read.right_read in
            let width = sym (same_width (width_of left) w (and_parts (is_value left) (is_width (width_of left) w) is).1) ∙ long in
            let P : Width → Type 0 = λ z. AreOfComparison x 0 (flags_after Logic z x y (apply_op And z x y) choice m.flags) in
            let fits : x < 2 ^ 32 = subst (λ n. n < 2 ^ 32) (sym same) (word_fits w y read.right_fits) in
            (subst (λ n. n < 2 ^ 32) zero (omega arith), subst (λ n. AreOfComparison x n (flags_after Logic w x y (apply_op And w x y) choice m.flags)) zero (subst P (sym width) (itself_compares x y choice m.flags same fits))))
        | false ↦ λ e. nothing_noted _
      ] refl)
      h)
