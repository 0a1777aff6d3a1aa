-- Arithmetic, shifts, products and single flags keep states well.
use Rattle.std.proofs.Common.{◌≡◌, ℕ, ◌-◌, ◌<◌, ◌%◌, ◌^◌, Bool, true, false, ◌==◌, ◌&&◌, List, cond, Option, Some, None, refl, sym, subst, arith}
use Rattle.memory_map.specs.Range.{HasBytes}
use Rattle.std.specs.Prelude.{All, nat_lt, pos, ◌+ℤ◌}
use Rattle.std.specs.Option.{ForSome}
use Rattle.std.specs.Ordering.{int_eq}
use Rattle.std.proofs.lemmas.Bool.{and_parts}
use Rattle.address_regions.specs.declared.region.Region.TheVariants.{Stack}
use Rattle.bit_words.specs.declared.width.Width.{Width}
use Rattle.bit_words.specs.declared.width.Width.TheVariants.{B8, B32}
use Rattle.bit_words.specs.declared.op.Op.{Op}
use Rattle.bit_words.specs.declared.op.Op.TheVariants.{Sub, And, Or, Mul}
use Rattle.bit_words.specs.Width.{bits_of, cut}
use Rattle.bit_words.proofs.Laws.{apply-lt}
use Rattle.domain_laws.specs.declared.reach.Reach.{Reach}
use Rattle.domain_laws.specs.declared.reach.Reach.TheVariants as reaches
use Rattle.domain_laws.specs.Laws.{Values, IsLawful}
use Rattle.memory_map.specs.Image.{Image}
use Rattle.memory_map.specs.declared.registers.TheConstants.{EAX}
use Rattle.partitioned_memory.specs.declared.fact.Counted.{Counted}
use Rattle.partitioned_memory.specs.Well.{MayHold}
use Rattle.partitioned_memory.proofs.Holding.{any-holds, number-holds}
use Rattle.x86_syntax.specs.declared.instr.Operand.{Operand}
use Rattle.x86_syntax.specs.declared.instr.Operand.TheVariants.{Register, Memory}
use Rattle.x86_semantics.specs.declared.flag_rule.FlagRule.{FlagRule}
use Rattle.x86_semantics.specs.declared.flag_rule.FlagRule.TheVariants.{SignedProduct}
use Rattle.x86_semantics.specs.declared.operation.FlagChange.{FlagChange}
use Rattle.x86_semantics.specs.declared.operation.FlagChange.TheVariants.{FlipCarry, ClearCarry, SetCarry, ClearDirection, SetDirection}
use Rattle.x86_semantics.specs.Bits.{status_byte}
use Rattle.x86_semantics.specs.Registers.{upper_register}
use Rattle.x86_semantics.specs.Widths.{has_place, has_width, is_count, is_place, is_value, is_width, width_of}
use Rattle.x86_semantics.specs.declared.parts.TheConstants.{AH}
use Rattle.abstract_state.specs.declared.note.Note.{Note}
use Rattle.abstract_state.specs.declared.note.Note.TheVariants as notes
use Rattle.abstract_state.specs.declared.truth.Truth.{Truth}
use Rattle.abstract_state.specs.declared.truth.Truth.TheVariants.{Yes, No, Unknown}
use Rattle.abstract_state.specs.declared.flags.Truths.{Truths}
use Rattle.abstract_state.specs.Accessing.{lies_in_extent}
use Rattle.abstract_state.specs.Expanding.{Expanded, Path, ended, lands}
use Rattle.abstract_state.specs.Notes.{IsWellNote}
use Rattle.abstract_state.specs.State.{Known, with_flags}
use Rattle.transfer_functions.specs.Arithmetic.{cancels, carry, combine, combined, compare, compared_with, flagged, is_same_register, keeps, note_of, note_with, noted, noted_place, reading_both}
use Rattle.transfer_functions.specs.Bits.{change_flag, flags_set, has_status, load_status, status_value, store_status}
use Rattle.transfer_functions.specs.Products.{divide, divide_by, divide_halves, divide_known, divided, exact, multiply, multiply_long, on_quotients, with_long}
use Rattle.transfer_functions.specs.Shifts.{double_shift, double_shift_by, double_shifted, double_truths, is_no_shift, or_of_shifts, shift, shifted, unshifted}
use Rattle.transfer_functions.specs.Values.{address_value, after_pair, on_state, operand_value, pair_of, reading, value_of_truth, writing}
use Rattle.transfer_functions.proofs.Holds.{eval-holds}
use Rattle.transfer_functions.proofs.Keeping.{IsWellPath, StoresKeep, KeepsWell, ended_keeps, lands_keeps, noted_keeps, part_holds, reading_keeps, with_flags_keeps, with_part_keeps, writing_keeps}
use Rattle.transfer_functions.proofs.SoundArithmetic.{pairs, place_has_width, place_inside, same_width, some_note}
use Rattle.transfer_functions.proofs.SoundBits.{status_fits}
use Rattle.transfer_functions.proofs.SoundProducts.{AllWords, quotient_words}
use Rattle.transfer_functions.proofs.SoundShifts.{count_is_value, rest_fits}
use Rattle.transfer_functions.proofs.Words.{count_fits, one_fits, word_fits, zero_fits}

module _ {D : Type 0} (d : Values D) (l : IsLawful d) (image : Image) (blocks : List Counted) (bytes : All HasBytes image.segments) (stores : StoresKeep d l image blocks) where
  abbrev K : Expanded D → Type 0
  K x = KeepsWell d l image blocks x

  abbrev W : Path D → Type 0
  W q = IsWellPath d l image blocks q

  abbrev M : Width → D → Type 0
  M w v = MayHold d blocks w v

  -- ---- both operands

  pub value_keeps : (w : Width) (o : Operand) (q : Path D) (k : D → Expanded D) → has_width w o ≡ true → W q → ((v : D) → M w v → K (k v)) → K (reading d image q o k)
  value_keeps w o q k has h then =
      let parts = and_parts (is_value o) (is_width (width_of o) w) has in
      reading_keeps d l image blocks o q k bytes parts.0 h (λ v m. then v (subst (λ z. M z v) (same_width (width_of o) w parts.1) m))

  both_keep : (op : Op) (w : Width) (left right : Operand) (q : Path D) (k : D → D → Expanded D) → has_width w left ≡ true → has_width w right ≡ true → W q
      → ((v u : D) → M w v → M w u → K (k v u)) → K (reading_both d image op q left right k)
  both_keep op w left right q k has also h then =
      elim (cancels op && is_same_register left right) as (λ b. K (after_pair q.writes (cond b (Some (d.number 0, d.number 0)) (pair_of (operand_value d image left q.state) (operand_value d image right q.state))) k)) [
        | true ↦ let zero = number-holds d l blocks w 0 (zero_fits w) in then _ _ zero zero
        | false ↦
            subst K (pairs d image q.writes (operand_value d image left q.state) (operand_value d image right q.state) k)
            (value_keeps w left q _ has h (λ v m. value_keeps w right q _ also h (λ u n. then v u m n)))
      ]

  pub place_keeps : (w : Width) (o : Operand) (v : D) (q : Path D) (k : Path D → Expanded D) → has_place w o ≡ true → M w v → W q → ((r : Path D) → W r → K (k r)) → K (writing d image q o v k)
  place_keeps w o v q k place m h then =
      let parts = and_parts (is_place o) (is_width (width_of o) w) place in
      writing_keeps d l image blocks o v q k stores parts.0 (subst (λ z. M z v) (sym (same_width (width_of o) w parts.1)) m) h then

  pub flagged_keeps : (rule : FlagRule) (w : Width) (v u value : D) (next : ℕ) (q : Path D) → W q → K (flagged d image rule w v u value next q)
  flagged_keeps rule w v u value next q h = lands_keeps d l image blocks next _ (with_flags_keeps d l image blocks _ q h)

  pub eval_holds : (op : Op) (w : Width) (a b : D) → M w a → M w b → M w (d.eval op w a b image.align)
  eval_holds op w a b m n = eval-holds d l blocks op w w w a b image.align m n

  -- ---- sums, differences and logic

  combined_holds : (op : Op) (w : Width) (left right : Operand) (a b : D) → M w a → M w b → M w (combined d image.align op w left right a b)
  combined_holds op w left right a b m n = elim (keeps op && is_same_register left right) as (λ t. M w (cond t a (d.eval op w a b image.align))) [ true ↦ m | false ↦ eval_holds op w a b m n ]

  truth_holds : (w : Width) (t : Truth) → M w (value_of_truth d t)
  truth_holds w Yes = number-holds d l blocks w 1 (one_fits w)
  truth_holds w No = number-holds d l blocks w 0 (zero_fits w)
  truth_holds w Unknown = any-holds d l blocks w

  pub combine_keeps : (op : Op) (rule : FlagRule) (w : Width) (to from : Operand) (next : ℕ) (q : Path D) → has_place w to ≡ true → has_width w from ≡ true → W q → K (combine d image op rule w to from next q)
  combine_keeps op rule w to from next q place has h =
      both_keep op w to from q _ (place_has_width w to place) has h (λ v u m n.
      place_keeps w to _ q _ place (combined_holds op w to from v u m n) h (λ r k. flagged_keeps rule w v u _ next r k))

  pub carry_keeps : (op : Op) (rule : FlagRule) (w : Width) (to from : Operand) (next : ℕ) (q : Path D) → has_place w to ≡ true → has_width w from ≡ true → W q → K (carry d image op rule w to from next q)
  carry_keeps op rule w to from next q place has h =
      both_keep op w to from q _ (place_has_width w to place) has h (λ v u m n.
      place_keeps w to _ q _ place (eval_holds op w _ _ (eval_holds op w v u m n) (truth_holds w q.state.flags.carry)) h (λ r k. flagged_keeps rule w v u _ next r k))

  -- ---- comparisons

  abbrev Words : Option ℕ → Type 0
  Words o = (c : ℕ) → o ≡ Some c → c < 2 ^ 32

  held_words : (w : Width) (v : D) → M w v → Words (d.number_of v)
  held_words w v m c e = word_fits w c (m.fits c e)

  with_well : (note : ℕ → Note) (o : Option ℕ) → ((c : ℕ) → o ≡ Some c → IsWellNote (note c)) → ForSome (note_with d image.align note o) IsWellNote
  with_well note None h = λ n e. cc
  with_well note (Some c) h = some_note (note c) (h c refl)

  place_well : (reach : Reach) (o : Option ℕ) → Words o → ForSome (noted_place d image.align reach o) IsWellNote
  place_well (reaches.Place Stack low high) o h =
      elim (int_eq low high && lies_in_extent Stack low (low +ℤ pos 4)) as (λ b. (int_eq low high && lies_in_extent Stack low (low +ℤ pos 4)) ≡ b → ForSome (cond b (note_with d image.align (notes.Word low) o) None) IsWellNote) [
        | true ↦ λ e. with_well (notes.Word low) o (λ c f. (place_inside low (and_parts (int_eq low high) (lies_in_extent Stack low (low +ℤ pos 4)) e).1, h c f))
        | false ↦ λ e n f. cc
      ] refl
  place_well reach o h = λ n e. cc

  noted_well : (left : Operand) (o : Option ℕ) (s : Known D) → Words o → ForSome (noted d image.align left o s) IsWellNote
  noted_well (Register B32 r) o s h = with_well (notes.Register (r % 8)) o (λ c e. (omega arith, h c e))
  noted_well (Memory B32 a) o s h = place_well (d.reach (address_value d image.align a s)) o h
  noted_well left o s h = λ n e. cc

  compared_words : (w : Width) (right : Operand) (u : D) (q : Path D) → M w u → W q → Words (d.number_of (compared_with d image.align right u q.state))
  compared_words w (Register z r) u q m h = held_words z _ (part_holds d l image blocks z r q h)
  compared_words w right u q m h = held_words w u m

  note_well : (op : Op) (w : Width) (left right : Operand) (u : D) (q : Path D) → M w u → W q → ForSome (note_of d image.align op left right u q.state) IsWellNote
  note_well Sub w left right u q m h = noted_well left _ q.state (compared_words w right u q m h)
  note_well And w left right u q m h =
      elim (is_same_register left right) as (λ b. ForSome (cond b (noted d image.align left (Some 0) q.state) None) IsWellNote) [
        | true ↦ noted_well left (Some 0) q.state (λ c e. let same : 0 ≡ c = cc in omega arith)
        | false ↦ λ n e. cc
      ]
  note_well op w left right u q m h = λ n e. cc

  pub compare_keeps : (op : Op) (rule : FlagRule) (w : Width) (left right : Operand) (next : ℕ) (q : Path D) → has_width w left ≡ true → has_width w right ≡ true → W q → K (compare d image op rule w left right next q)
  compare_keeps op rule w left right next q has also h =
      both_keep op w left right q _ has also h (λ v u m n. lands_keeps d l image blocks next _ (noted_keeps d l image blocks _ _ q (note_well op w left right u q n h) h))

  -- ---- shifts and rotations

  shifted_holds : (op : Op) (w : Width) (a : D) (o : Option ℕ) → M w a → M w (shifted d image.align op w a o)
  shifted_holds op w a None m = any-holds d l blocks w
  shifted_holds op w a (Some n) m = eval_holds op w a _ m (number-holds d l blocks w (n % 32) (count_fits w n))

  unshifted_keeps : (w : Width) (to : Operand) (a : D) (next : ℕ) (q : Path D) → has_place w to ≡ true → M w a → W q → K (unshifted d image to a next q)
  unshifted_keeps w (Memory z b) a next q place m h = place_keeps w (Memory z b) a q _ place m h (λ r k. lands_keeps d l image blocks next r k)
  unshifted_keeps w to a next q place m h = lands_keeps d l image blocks next q h

  pub shift_keeps : (op : Op) (rule : FlagRule) (w : Width) (to count : Operand) (next : ℕ) (q : Path D) → has_place w to ≡ true → is_count count ≡ true → W q → K (shift d image op rule w to count next q)
  shift_keeps op rule w to count next q place byte h =
      value_keeps w to q _ (place_has_width w to place) h (λ a m.
      reading_keeps d l image blocks count q _ bytes (count_is_value count byte) h (λ v n.
      elim (is_no_shift (d.number_of v)) as (λ b. K (cond b (unshifted d image to a next q) (writing d image q to (shifted d image.align op w a (d.number_of v)) (λ r. flagged d image rule w a v (shifted d image.align op w a (d.number_of v)) next r)))) [
        | true ↦ unshifted_keeps w to a next q place m h
        | false ↦ place_keeps w to _ q _ place (shifted_holds op w a (d.number_of v) m) h (λ r k. flagged_keeps rule w a v _ next r k)
      ]))

  shifts_hold : (op other : Op) (w : Width) (a b : D) (n : ℕ) → n < 2 ^ bits_of w → M w a → M w b → M w (or_of_shifts d image.align op other w a b n)
  shifts_hold op other w a b n less m k =
      eval_holds Or w _ _ (eval_holds op w a _ m (number-holds d l blocks w n less)) (eval_holds other w b _ k (number-holds d l blocks w (bits_of w - n) (rest_fits w n)))

  double_holds : (op other : Op) (w : Width) (a b : D) (o : Option ℕ) → M w a → M w b → M w (double_shifted d image.align op other w a b o)
  double_holds op other w a b None m k = any-holds d l blocks w
  double_holds op other w a b (Some n) m k =
      elim (nat_lt (n % 32) (bits_of w)) as (λ z. M w (cond z (or_of_shifts d image.align op other w a b (n % 32)) d.any)) [
        | true ↦ shifts_hold op other w a b (n % 32) (count_fits w n) m k
        | false ↦ any-holds d l blocks w
      ]

  double_by_keeps : (op other : Op) (rule : FlagRule) (w : Width) (to : Operand) (a b v : D) (next : ℕ) (q : Path D) → has_place w to ≡ true → M w a → M w b → W q → K (double_shift_by d image op other rule w to a b v next q)
  double_by_keeps op other rule w to a b v next q place m k h =
      let r = double_shifted d image.align op other w a b (d.number_of v) in
      elim (is_no_shift (d.number_of v)) as (λ z. K (cond z (unshifted d image to a next q) (writing d image q to r (λ t. lands next (on_state (λ s. with_flags (double_truths d image.align rule w a v r s.flags) s) t))))) [
        | true ↦ unshifted_keeps w to a next q place m h
        | false ↦ place_keeps w to r q _ place (double_holds op other w a b (d.number_of v) m k) h (λ t own. lands_keeps d l image blocks next _ (with_flags_keeps d l image blocks _ t own))
      ]

  pub double_shift_keeps : (op other : Op) (rule : FlagRule) (w : Width) (to : Operand) (r : ℕ) (count : Operand) (next : ℕ) (q : Path D) → has_place w to ≡ true → is_count count ≡ true → W q → K (double_shift d image op other rule w to r count next q)
  double_shift_keeps op other rule w to r count next q place byte h =
      value_keeps w to q _ (place_has_width w to place) h (λ a m.
      reading_keeps d l image blocks count q _ bytes (count_is_value count byte) h (λ v n.
      double_by_keeps op other rule w to a _ v next q place m (part_holds d l image blocks w r q h) h))

  -- ---- products and quotients

  exact_holds : (op : Op) (w : Width) (a b : Option ℕ) → M w (exact d op w a b)
  exact_holds op w None b = any-holds d l blocks w
  exact_holds op w (Some x) None = any-holds d l blocks w
  exact_holds op w (Some x) (Some y) = number-holds d l blocks w _ (apply-lt op w x y)

  with_long_keeps : (w : Width) (low high : D) (q : Path D) → M w low → M w high → W q → W (on_state (with_long d image.align w low high) q)
  with_long_keeps w low high q m n h = with_part_keeps d l image blocks w (upper_register w) high _ n (with_part_keeps d l image blocks w EAX low q m h)

  pub multiply_long_keeps : (high : Op) (rule : FlagRule) (w : Width) (from : Operand) (next : ℕ) (q : Path D) → has_width w from ≡ true → W q → K (multiply_long d image high rule w from next q)
  multiply_long_keeps high rule w from next q has h =
      value_keeps w from q _ has h (λ b m. flagged_keeps rule w _ b _ next _ (with_long_keeps w _ _ q (exact_holds Mul w _ _) (exact_holds high w _ _) h))

  pub multiply_keeps : (w : Width) (r : ℕ) (left right : Operand) (next : ℕ) (q : Path D) → has_width w left ≡ true → has_width w right ≡ true → W q → K (multiply d image w r left right next q)
  multiply_keeps w r left right next q has also h =
      value_keeps w left q _ has h (λ a m. value_keeps w right q _ also h (λ b n. flagged_keeps SignedProduct w a b _ next _ (with_part_keeps d l image blocks w r _ q (exact_holds Mul w _ _) h)))

  divided_keeps : (w : Width) (quotient remainder : D) (next : ℕ) (q : Path D) → M w quotient → M w remainder → W q → K (divided d image w quotient remainder next q)
  divided_keeps w quotient remainder next q m n h = lands_keeps d l image blocks next _ (with_flags_keeps d l image blocks _ _ (with_long_keeps w quotient remainder q m n h))

  any_divided : (w : Width) (next : ℕ) (q : Path D) → W q → K (divided d image w d.any d.any next q)
  any_divided w next q h = divided_keeps w d.any d.any next q (any-holds d l blocks w) (any-holds d l blocks w) h

  quotients_keep : (w : Width) (o : Option (ℕ × ℕ)) (next : ℕ) (q : Path D) → AllWords w o → W q → K (on_quotients d image o w next q)
  quotients_keep w None next q words h = ended_keeps d l image blocks q.writes
  quotients_keep w (Some both) next q words h =
      let k = words both refl in divided_keeps w _ _ next q (number-holds d l blocks w both.0 k.first) (number-holds d l blocks w both.1 k.second) h

  halves_keep : (signed : Bool) (w : Width) (by : ℕ) (a b : Option ℕ) (next : ℕ) (q : Path D) → (cut w by == 0) ≡ false → W q → K (divide_halves d image signed w by a b next q)
  halves_keep signed w by None b next q some h = any_divided w next q h
  halves_keep signed w by (Some i) None next q some h = any_divided w next q h
  halves_keep signed w by (Some i) (Some j) next q some h = quotients_keep w _ next q (quotient_words signed w i j by some) h

  divide_by_keeps : (signed : Bool) (w : Width) (o : Option ℕ) (next : ℕ) (q : Path D) → W q → K (divide_by d image signed w o next q)
  divide_by_keeps signed w None next q h = any_divided w next q h
  divide_by_keeps signed w (Some by) next q h =
      elim (cut w by == 0) as (λ b. (cut w by == 0) ≡ b → K (cond b (ended q.writes) (divide_known d image signed w by next q))) [
        | true ↦ λ e. ended_keeps d l image blocks q.writes
        | false ↦ λ e. halves_keep signed w by _ _ next q e h
      ] refl

  pub divide_keeps : (signed : Bool) (w : Width) (by : Operand) (next : ℕ) (q : Path D) → has_width w by ≡ true → W q → K (divide d image signed w by next q)
  divide_keeps signed w by next q has h = value_keeps w by q _ has h (λ v m. divide_by_keeps signed w (d.number_of v) next q h)

  -- ---- single flags, and the status byte

  pub change_flag_keeps : (change : FlagChange) (next : ℕ) (q : Path D) → W q → K (change_flag change next q)
  change_flag_keeps FlipCarry next q h = lands_keeps d l image blocks next _ (with_flags_keeps d l image blocks _ q h)
  change_flag_keeps ClearCarry next q h = lands_keeps d l image blocks next _ (with_flags_keeps d l image blocks _ q h)
  change_flag_keeps SetCarry next q h = lands_keeps d l image blocks next _ (with_flags_keeps d l image blocks _ q h)
  change_flag_keeps ClearDirection next q h = lands_keeps d l image blocks next _ (noted_keeps d l image blocks _ q.state.note q h.well.note h)
  change_flag_keeps SetDirection next q h = lands_keeps d l image blocks next _ (noted_keeps d l image blocks _ q.state.note q h.well.note h)

  status_holds : (t : Truths) → M B8 (status_value d t)
  status_holds t = elim (has_status t) as (λ b. M B8 (cond b (d.number (status_byte (flags_set t))) d.any)) [ true ↦ number-holds d l blocks B8 _ (status_fits (flags_set t)) | false ↦ any-holds d l blocks B8 ]

  pub load_status_keeps : (next : ℕ) (q : Path D) → W q → K (load_status d image next q)
  load_status_keeps next q h = lands_keeps d l image blocks next _ (with_part_keeps d l image blocks B8 AH _ q (status_holds q.state.flags) h)

  pub store_status_keeps : (next : ℕ) (q : Path D) → W q → K (store_status d image next q)
  store_status_keeps next q h = lands_keeps d l image blocks next _ (with_flags_keeps d l image blocks _ q h)
