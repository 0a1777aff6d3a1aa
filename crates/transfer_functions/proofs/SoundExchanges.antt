-- Exchanges with a comparison or a sum: their expansion stands for what they do.
use Rattle.std.proofs.Common.{◌≡◌, ℕ, ◌<◌, ◌^◌, Bool, true, false, cond, List, refl, sym, ◌∙◌, ap, subst}
use Rattle.std.proofs.lemmas.Bool.{and_parts}
use Rattle.address_regions.specs.Places.{Places}
use Rattle.bit_words.specs.declared.width.Width.{Width}
use Rattle.bit_words.specs.declared.op.Op.TheVariants.{Add, Sub, Eq}
use Rattle.bit_words.specs.Operators.{apply_op}
use Rattle.domain_laws.specs.Laws.{Values, IsLawful}
use Rattle.memory_map.specs.declared.choice.Choice.{Choice}
use Rattle.memory_map.specs.Image.{Image}
use Rattle.memory_map.specs.State.{MachineState}
use Rattle.memory_map.specs.declared.registers.TheConstants.{EAX}
use Rattle.partitioned_memory.specs.declared.fact.Counted.{Counted}
use Rattle.x86_syntax.specs.declared.instr.Operand.{Operand}
use Rattle.x86_syntax.specs.declared.instr.Operand.TheVariants.{Register, Number, Memory, Offset}
use Rattle.x86_semantics.specs.declared.flag_rule.FlagRule.TheVariants.{Sum, Difference}
use Rattle.x86_semantics.specs.Arithmetic.{flagged as flagged_of}
use Rattle.x86_semantics.specs.Exchanges.{are_equal, compare_exchange as compare_exchange_of, exchange_add as exchange_add_of, is_register_numbered, with_accumulator_unless}
use Rattle.x86_semantics.specs.Operands.{Ended, writing as writing_of}
use Rattle.x86_semantics.specs.Registers.{part as part_of, with_part as with_part_of}
use Rattle.x86_semantics.specs.Widths.{has_place, is_place, is_width, width_of}
use Rattle.abstract_state.specs.Expanding.{Path}
use Rattle.abstract_state.specs.Truth.{StandsFor}
use Rattle.transfer_functions.specs.Exchanges.{compare_exchange, compared_to, exchange_add, exchanged, not_exchanged, taken}
use Rattle.transfer_functions.specs.Flags.{by_operator}
use Rattle.transfer_functions.specs.Values.{either_way, part}
use Rattle.transfer_functions.proofs.Knowing.{operator_stands}
use Rattle.transfer_functions.proofs.Paths.{either_ends}
use Rattle.transfer_functions.proofs.SoundArithmetic.{place_is_value, same_width}
use Rattle.transfer_functions.proofs.SoundBitTests.{ruled_ends}
use Rattle.transfer_functions.proofs.SoundMoves.{writing_width}
use Rattle.transfer_functions.proofs.SoundShifts.{part_itself}
use Rattle.transfer_functions.proofs.Steps.{S, H, E, IsRead, eval_stands, part_stands, reading_ends, register_stands, with_part_holds}
use Rattle.transfer_functions.proofs.Words.{eq_is}

module _ {D : Type 0} (d : Values D) (l : IsLawful d) (image : Image) (p : Places) (blocks : List Counted) where
  -- ---- CMPXCHG

  -- both are known to be equal, or not to be
  equal_stands : (w : Width) (v u : D) (x y : ℕ) (q : Path D) (m : MachineState) → S d l image p blocks w v x → S d l image p blocks w u y → H d l image p blocks q m
      → StandsFor (by_operator d image.align Eq w v u) (are_equal w x y)
  equal_stands w v u x y q m s t h =
      let fits = h.describes.fits in
      let P : ℕ → Type 0 = λ a. StandsFor (by_operator d a Eq w v u) (are_equal w x y) in
      let told = operator_stands d l p fits.valid Eq w v u x y (record { stands = s.stands; fits = s.fits }) (record { stands = t.stands; fits = t.fits }) in
      subst P fits.align (subst (StandsFor (by_operator d p.align Eq w v u)) (eq_is w x y) told)

  compared_ends : (w : Width) (v u : D) (x y next : ℕ) (choice : Choice) (q : Path D) (m : MachineState) → next < 2 ^ 32 → S d l image p blocks w v x → S d l image p blocks w u y → H d l image p blocks q m
      → E d l image p blocks (compared_to d image w v u next q) (flagged_of Difference w x y (apply_op Sub w x y) next choice m)
  compared_ends w v u x y next choice q m less s t h =
      ruled_ends d l image p blocks Difference w v u _ x y _ next choice q m less refl s t (eval_stands d l image p blocks Sub w v u x y q m h s t) refl h

  taken_ends : (w : Width) (v u : D) (x y next : ℕ) (choice : Choice) (q : Path D) (m : MachineState) → next < 2 ^ 32 → S d l image p blocks w v x → S d l image p blocks w u y → H d l image p blocks q m
      → E d l image p blocks (taken d image w v u next q) (flagged_of Difference w x y (apply_op Sub w x y) next choice (with_part_of w EAX y m))
  taken_ends w v u x y next choice q m less s t h = compared_ends w v u x y next choice _ _ less s t (with_part_holds d l image p blocks w EAX u y q m t h)

  -- what the machine does where they are equal, and where they are not
  abbrev on_equal : Operand → Width → ℕ → ℕ → ℕ → ℕ → Choice → MachineState → Ended
  on_equal place w r x y next choice m = writing_of m place (part_of w r m) (λ n. flagged_of Difference w x y (apply_op Sub w x y) next choice n)

  abbrev on_other : Operand → Width → ℕ → ℕ → ℕ → Choice → MachineState → Ended
  on_other place w x y next choice m = writing_of m place y (λ n. flagged_of Difference w x y (apply_op Sub w x y) next choice (with_part_of w EAX y n))

  exchanged_ends : (place : Operand) (w : Width) (r : ℕ) (v u : D) (x y next : ℕ) (choice : Choice) (q : Path D) (m : MachineState) → next < 2 ^ 32 → has_place w place ≡ true
      → S d l image p blocks w v x → S d l image p blocks w u y → H d l image p blocks q m
      → E d l image p blocks (exchanged d image place w r v u next q) (on_equal place w r x y next choice m)
  exchanged_ends place w r v u x y next choice q m less is s t h =
      writing_width d l image p blocks w place _ _ q m _ _ is (part_stands d l image p blocks w r q m h) h (λ o n holds. compared_ends w v u x y next choice o n less s t holds)

  not_exchanged_ends : (place : Operand) (w : Width) (v u : D) (x y next : ℕ) (choice : Choice) (q : Path D) (m : MachineState) → next < 2 ^ 32 → has_place w place ≡ true → IsRead d l image p blocks place m y
      → S d l image p blocks w v x → S d l image p blocks w u y → H d l image p blocks q m
      → E d l image p blocks (not_exchanged d image place w v u next q) (on_other place w x y next choice m)
  not_exchanged_ends (Register z k) w v u x y next choice q m less is read s t h =
      let P : MachineState → Type 0 = λ n. E d l image p blocks (taken d image w v u next q) (flagged_of Difference w x y (apply_op Sub w x y) next choice (with_part_of w EAX y n)) in
      let same = ap (λ b. with_part_of z k b m) read ∙ part_itself z k m (λ j. (register_stands d l image p blocks j q m h).fits) in
      subst P (sym same) (taken_ends w v u x y next choice q m less s t h)
  not_exchanged_ends (Memory z a) w v u x y next choice q m less is read s t h =
      writing_width d l image p blocks w (Memory z a) u y q m _ _ is t h (λ o n holds. taken_ends w v u x y next choice o n less s t holds)
  not_exchanged_ends (Number z n) w v u x y next choice q m less is read s t h = cc
  not_exchanged_ends (Offset o) w v u x y next choice q m less is read s t h = cc

  -- the machine does the one or the other
  by_equality : (place : Operand) (w : Width) (r x y next : ℕ) (choice : Choice) (m : MachineState) (same : Bool)
      → cond same (on_equal place w r x y next choice m) (on_other place w x y next choice m)
      ≡ writing_of m place (cond same (part_of w r m) y) (λ n. flagged_of Difference w x y (apply_op Sub w x y) next choice (with_accumulator_unless same w y n))
  by_equality place w r x y next choice m true = refl
  by_equality place w r x y next choice m false = refl

  pub compare_exchange_ends : (place : Operand) (w : Width) (r next : ℕ) (choice : Choice) (q : Path D) (m : MachineState) → next < 2 ^ 32 → has_place w place ≡ true → H d l image p blocks q m
      → E d l image p blocks (compare_exchange d image place w r next q) (compare_exchange_of place w r next choice m)
  compare_exchange_ends place w r next choice q m less is h =
      let parts = and_parts (is_place place) (is_width (width_of place) w) is in
      reading_ends d l image p blocks place q m _ _ (place_is_value place parts.0) h (λ u y z read.
      let t = subst (λ k. S d l image p blocks k u y) (same_width (width_of place) w parts.1) z in
      let whole = part_of w EAX m in
      let s = part_stands d l image p blocks w EAX q m h in
      let acc = part d image.align w EAX q.state in
      subst (λ e. E d l image p blocks (either_way (by_operator d image.align Eq w acc u) (exchanged d image place w r acc u next q) (not_exchanged d image place w acc u next q)) e) (by_equality place w r whole y next choice m (are_equal w whole y))
      (either_ends d l image p blocks (by_operator d image.align Eq w acc u) (are_equal w whole y) _ _ _ _ (equal_stands w acc u whole y q m s t h)
      (λ _. exchanged_ends place w r acc u whole y next choice q m less is s t h)
      (λ _. not_exchanged_ends place w acc u whole y next choice q m less is read s t h)))

  -- ---- XADD

  either_known : (b : Bool) (w : Width) (v u : D) (x y : ℕ) → S d l image p blocks w v x → S d l image p blocks w u y → S d l image p blocks w (cond b v u) (cond b x y)
  either_known true w v u x y s t = s
  either_known false w v u x y s t = t

  pub exchange_add_ends : (place : Operand) (w : Width) (r next : ℕ) (choice : Choice) (q : Path D) (m : MachineState) → next < 2 ^ 32 → has_place w place ≡ true → H d l image p blocks q m
      → E d l image p blocks (exchange_add d image place w r next q) (exchange_add_of place w r next choice m)
  exchange_add_ends place w r next choice q m less is h =
      let parts = and_parts (is_place place) (is_width (width_of place) w) is in
      reading_ends d l image p blocks place q m _ _ (place_is_value place parts.0) h (λ v x z _.
      let s = subst (λ k. S d l image p blocks k v x) (same_width (width_of place) w parts.1) z in
      let t = part_stands d l image p blocks w r q m h in
      let sum = eval_stands d l image p blocks Add w v _ x (part_of w r m) q m h s t in
      writing_width d l image p blocks w place _ _ q m _ _ is sum h (λ o n holds.
      ruled_ends d l image p blocks Sum w v _ _ x (part_of w r m) _ next choice _ _ less refl s t sum refl
      (with_part_holds d l image p blocks w r _ _ o n (either_known (is_register_numbered r place) w _ v _ x sum s) holds)))
