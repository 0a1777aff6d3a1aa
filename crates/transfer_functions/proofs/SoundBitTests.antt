-- Bits tested, changed and found: their expansion stands for what they do.
use Rattle.std.proofs.Common.{◌≡◌, ℕ, ◌<◌, ◌%◌, ◌^◌, Bool, true, false, ◌==◌, cond, List, Option, Some, None, refl, sym, subst, arith}
use Rattle.std.proofs.lemmas.Bool.{and_parts}
use Rattle.address_regions.specs.Places.{Places}
use Rattle.bit_words.specs.declared.width.Width.{Width}
use Rattle.bit_words.specs.declared.width.Width.TheVariants.{B8, B16, B32}
use Rattle.bit_words.specs.declared.op.Op.{Op}
use Rattle.bit_words.specs.declared.op.Op.TheVariants.{And, Or, Xor, Not, Shl, Eq}
use Rattle.bit_words.specs.Width.{bits_of, cut}
use Rattle.bit_words.specs.Operators.{apply_op}
use Rattle.bit_words.proofs.Laws.{apply-lt, cut-lt, cut_fit}
use Rattle.domain_laws.specs.Laws.{Values, IsLawful}
use Rattle.memory_map.specs.declared.choice.Choice.{Choice}
use Rattle.memory_map.specs.Image.{Image}
use Rattle.memory_map.specs.State.{MachineState}
use Rattle.partitioned_memory.specs.declared.fact.Counted.{Counted}
use Rattle.x86_syntax.specs.declared.instr.Operand.{Operand}
use Rattle.x86_syntax.specs.declared.instr.Operand.TheVariants.{Register, Number, Memory, Offset}
use Rattle.x86_semantics.specs.declared.flag_rule.FlagRule.{FlagRule}
use Rattle.x86_semantics.specs.declared.flag_rule.FlagRule.TheVariants.{BitTest, BitScan}
use Rattle.x86_semantics.specs.declared.operation.BitChange.{BitChange}
use Rattle.x86_semantics.specs.declared.operation.BitChange.TheVariants.{KeepBit, SetBit, ClearBit, FlipBit}
use Rattle.x86_semantics.specs.Arithmetic.{flagged as flagged_of}
use Rattle.x86_semantics.specs.BitTests.{bit, find_bit as find_bit_of, found_bit as found_bit_of, test_bit as test_bit_of, with_bit as with_bit_of}
use Rattle.x86_semantics.specs.FlagRules.{flags_after}
use Rattle.x86_semantics.specs.Widths.{has_width, is_bit_index, is_value, is_width, is_within, width_of}
use Rattle.abstract_state.specs.declared.truth.Truth.{Truth}
use Rattle.abstract_state.specs.declared.truth.Truth.TheVariants.{Yes, No, Unknown}
use Rattle.abstract_state.specs.Expanding.{Path}
use Rattle.abstract_state.specs.Flags.{FlagsStand}
use Rattle.abstract_state.specs.Truth.{StandsFor}
use Rattle.abstract_state.proofs.Bridge.{any_known, number_known}
use Rattle.transfer_functions.specs.Arithmetic.{flagged}
use Rattle.transfer_functions.specs.BitTests.{bit_value, find_bit, found_bit, test_bit, with_bit}
use Rattle.transfer_functions.specs.Flags.{by_operator, ruled_truths}
use Rattle.transfer_functions.specs.Values.{on_state}
use Rattle.transfer_functions.proofs.FlagsSound.{IsResult, is_counted, ruled_stand, zero_stands}
use Rattle.transfer_functions.proofs.Knowing.{KnownWord}
use Rattle.transfer_functions.proofs.SoundArithmetic.{same_width}
use Rattle.transfer_functions.proofs.SoundMoves.{width_within, wider}
use Rattle.transfer_functions.proofs.Steps.{S, H, E, eval_stands, lands_ends, part_stands, reading_ends, with_flags_holds, with_part_holds}
use Rattle.transfer_functions.proofs.Words.{one_fits, zero_fits}

-- ---- the index of a bit

byte_within : (w : Width) → is_within B8 w ≡ true
byte_within B8 = refl
byte_within B16 = refl
byte_within B32 = refl

pub index_is_value : (w : Width) (o : Operand) → is_bit_index w o ≡ true → is_value o ≡ true
index_is_value w (Register v r) e = refl
index_is_value w (Number B8 n) e = refl
index_is_value w (Number B16 n) e = cc
index_is_value w (Number B32 n) e = cc
index_is_value w (Memory v a) e = cc
index_is_value w (Offset o) e = cc

pub index_within : (w : Width) (o : Operand) → is_bit_index w o ≡ true → is_within (width_of o) w ≡ true
index_within w (Register v r) e = width_within v w e
index_within w (Number B8 n) e = byte_within w
index_within w (Number B16 n) e = cc
index_within w (Number B32 n) e = cc
index_within w (Memory v a) e = cc
index_within w (Offset o) e = cc

pub place_fits : (w : Width) (n : ℕ) → n % bits_of w < 2 ^ bits_of w
place_fits B8 n = omega arith
place_fits B16 n = omega arith
place_fits B32 n = omega arith

module _ {D : Type 0} (d : Values D) (l : IsLawful d) (image : Image) (p : Places) (blocks : List Counted) where
  -- ---- flags by a rule of both operands

  known : (w : Width) (v : D) (x : ℕ) → S d l image p blocks w v x → KnownWord d p w v x
  known w v x s = record { stands = s.stands; fits = s.fits }

  pub ruled_ends : (rule : FlagRule) (w : Width) (v u value : D) (x y z next : ℕ) (choice : Choice) (q : Path D) (m : MachineState) → next < 2 ^ 32 → is_counted rule ≡ false
      → S d l image p blocks w v x → S d l image p blocks w u y → S d l image p blocks w value z → IsResult rule w x y m.flags z → H d l image p blocks q m
      → E d l image p blocks (flagged d image rule w v u value next q) (flagged_of rule w x y z next choice m)
  ruled_ends rule w v u value x y z next choice q m less plain s t r is h =
      let fits = h.describes.fits in
      let P : ℕ → Type 0 = λ a. FlagsStand (ruled_truths d a rule w v u value q.state.flags) (flags_after rule w x y z choice m.flags) in
      let stands = subst P fits.align (ruled_stand d l p fits.valid rule w v u value x y z q.state.flags m.flags choice plain (known w v x s) (known w u y t) (known w value z r) is h.describes.flags) in
      lands_ends d l image p blocks next _ _ less (with_flags_holds d l image p blocks _ _ q m stands h)

  -- ---- bits tested

  bit_stands : (w : Width) (o : Option ℕ) (y : ℕ) (q : Path D) (m : MachineState) → ((n : ℕ) → o ≡ Some n → y ≡ n) → H d l image p blocks q m
      → S d l image p blocks w (bit_value d image.align w o) (bit w (y % bits_of w))
  bit_stands w None y q m tells h = any_known d l image p blocks w _ q m h (apply-lt Shl w 1 (y % bits_of w))
  bit_stands w (Some n) y q m tells h =
      let P : ℕ → Type 0 = λ k. S d l image p blocks w (bit_value d image.align w (Some n)) (bit w (k % bits_of w)) in
      subst P (sym (tells n refl))
      (eval_stands d l image p blocks Shl w _ _ 1 (n % bits_of w) q m h (number_known d l image p blocks w 1 q m h (one_fits w)) (number_known d l image p blocks w (n % bits_of w) q m h (place_fits w n)))

  with_bit_holds : (change : BitChange) (w : Width) (r : ℕ) (v : D) (i : ℕ) (q : Path D) (m : MachineState) → S d l image p blocks w v (bit w i) → H d l image p blocks q m
      → H d l image p blocks (on_state (with_bit d image.align change w r v) q) (with_bit_of change w r i m)
  with_bit_holds KeepBit w r v i q m s h = h
  with_bit_holds SetBit w r v i q m s h = with_part_holds d l image p blocks w r _ _ q m (eval_stands d l image p blocks Or w _ _ _ _ q m h (part_stands d l image p blocks w r q m h) s) h
  with_bit_holds ClearBit w r v i q m s h =
      let others = eval_stands d l image p blocks Not w v _ _ 0 q m h s (number_known d l image p blocks w 0 q m h (zero_fits w)) in
      with_part_holds d l image p blocks w r _ _ q m (eval_stands d l image p blocks And w _ _ _ _ q m h (part_stands d l image p blocks w r q m h) others) h
  with_bit_holds FlipBit w r v i q m s h = with_part_holds d l image p blocks w r _ _ q m (eval_stands d l image p blocks Xor w _ _ _ _ q m h (part_stands d l image p blocks w r q m h) s) h

  pub test_bit_ends : (change : BitChange) (w : Width) (r : ℕ) (index : Operand) (next : ℕ) (choice : Choice) (q : Path D) (m : MachineState) → next < 2 ^ 32 → is_bit_index w index ≡ true → H d l image p blocks q m
      → E d l image p blocks (test_bit d image change w r index next q) (test_bit_of change w r index next choice m)
  test_bit_ends change w r index next choice q m less is h =
      reading_ends d l image p blocks index q m _ _ (index_is_value w index is) h (λ v y s _.
      let place = wider d l image p blocks (width_of index) w v y (index_within w index is) s in
      let tells = λ (n : ℕ) (e : d.number_of v ≡ Some n). l.number_of_alone v n p y h.describes.fits.valid e s.stands in
      let none = number_known d l image p blocks w 0 q m h (zero_fits w) in
      ruled_ends BitTest w _ v (d.number 0) _ y 0 next choice _ _ less refl (part_stands d l image p blocks w r q m h) place none tt
      (with_bit_holds change w r _ (y % bits_of w) q m (bit_stands w (d.number_of v) y q m tells h) h))

  -- ---- bits found

  free_fits : (op : Op) (w : Width) (x : ℕ) (choice : Choice) (none : Bool) → cond none (cut w choice.eax) (apply_op op w x 0) < 2 ^ bits_of w
  free_fits op w x choice true = cut-lt w choice.eax
  free_fits op w x choice false = apply-lt op w x 0

  found_by : (t : Truth) (none : Bool) (op : Op) (w : Width) (b : D) (x : ℕ) (choice : Choice) (q : Path D) (m : MachineState) → StandsFor t none → S d l image p blocks w b x → H d l image p blocks q m
      → S d l image p blocks w (found_bit d image.align t op w b) (cond none (cut w choice.eax) (apply_op op w x 0))
  found_by No none op w b x choice q m stands s h =
      let P : Bool → Type 0 = λ z. S d l image p blocks w (d.eval op w b (d.number 0) image.align) (cond z (cut w choice.eax) (apply_op op w x 0)) in
      subst P (sym stands) (eval_stands d l image p blocks op w b _ x 0 q m h s (number_known d l image p blocks w 0 q m h (zero_fits w)))
  found_by Yes none op w b x choice q m stands s h = any_known d l image p blocks w _ q m h (free_fits op w x choice none)
  found_by Unknown none op w b x choice q m stands s h = any_known d l image p blocks w _ q m h (free_fits op w x choice none)

  none_stands : (w : Width) (b : D) (x : ℕ) (q : Path D) (m : MachineState) → S d l image p blocks w b x → H d l image p blocks q m → StandsFor (by_operator d image.align Eq w b (d.number 0)) (cut w x == 0)
  none_stands w b x q m s h =
      let fits = h.describes.fits in
      let P : ℕ → Type 0 = λ a. StandsFor (by_operator d a Eq w b (d.number 0)) (x == 0) in
      let Q : ℕ → Type 0 = λ n. StandsFor (by_operator d image.align Eq w b (d.number 0)) (n == 0) in
      subst Q (sym (cut_fit w x s.fits)) (subst P fits.align (zero_stands d l p fits.valid w b x (known w b x s)))

  pub find_bit_ends : (op : Op) (w : Width) (r : ℕ) (from : Operand) (next : ℕ) (choice : Choice) (q : Path D) (m : MachineState) → next < 2 ^ 32 → has_width w from ≡ true → H d l image p blocks q m
      → E d l image p blocks (find_bit d image op w r from next q) (find_bit_of op w r from next choice m)
  find_bit_ends op w r from next choice q m less has h =
      let parts = and_parts (is_value from) (is_width (width_of from) w) has in
      reading_ends d l image p blocks from q m _ _ parts.0 h (λ b x t _.
      let s = subst (λ z. S d l image p blocks z b x) (same_width (width_of from) w parts.1) t in
      let found = found_by (by_operator d image.align Eq w b (d.number 0)) (cut w x == 0) op w b x choice q m (none_stands w b x q m s h) s h in
      let none = number_known d l image p blocks w 0 q m h (zero_fits w) in
      ruled_ends BitScan w b (d.number 0) _ x 0 (found_bit_of op w x choice) next choice _ _ less refl s none found tt (with_part_holds d l image p blocks w r _ _ q m found h))
