-- Moves, exchanges and the stack: their expansion stands for what they do.
use Rattle.std.proofs.Common.{◌≡◌, ℕ, ◌<◌, ◌%◌, ◌^◌, Bool, true, false, cond, ◌&&◌, ◌||◌, List, Some, None, refl, sym, ◌∙◌, ap, subst, arith}
use Rattle.std.specs.Prelude.{zero, suc, ◌/◌}
use Rattle.std.proofs.lemmas.Bool.{and_parts}
use Rattle.address_regions.specs.Places.{Places}
use Rattle.bit_words.specs.declared.width.Width.{Width}
use Rattle.bit_words.specs.declared.width.Width.TheVariants.{B8, B16, B32}
use Rattle.bit_words.specs.declared.op.Op.{Op}
use Rattle.bit_words.specs.declared.op.Op.TheVariants.{Add, PutLow16, Sub}
use Rattle.bit_words.specs.Width.{bits_of, bytes_of}
use Rattle.bit_words.specs.Operators.{one_if}
use Rattle.domain_laws.specs.Laws.{Values, IsLawful}
use Rattle.memory_map.specs.Image.{Image}
use Rattle.memory_map.specs.Registers as regs
use Rattle.memory_map.specs.State.{MachineState, memory}
use Rattle.memory_map.specs.declared.registers.Regs.{Regs}
use Rattle.memory_map.specs.declared.registers.TheConstants.{ESP, EBP}
use Rattle.partitioned_memory.specs.declared.fact.Counted.{Counted}
use Rattle.x86_syntax.specs.declared.instr.Address.{Address}
use Rattle.x86_syntax.specs.declared.instr.Cond.{Cond}
use Rattle.x86_syntax.specs.declared.instr.Operand.{Operand}
use Rattle.x86_syntax.specs.declared.instr.Operand.TheVariants.{Register, Number, Memory, Offset}
use Rattle.x86_semantics.specs.Condition.{is_met}
use Rattle.x86_semantics.specs.Memory.{may_write_all, next_byte, stored, with_byte, with_number}
use Rattle.x86_semantics.specs.Moves.{above as above_of, below as below_of, convert as convert_of, exchange as exchange_of, lea as lea_of, leave as leave_of, move as move_of, move_if as move_if_of, pop as pop_of, pop_into as pop_into_of, popped as popped_of, push as push_of, pushing as pushing_of, set as set_of}
use Rattle.x86_semantics.specs.Operands.{Ended, Next, address_of, at_address, reading as reading_of, writing as writing_of, on_stored, storing as storing_of}
use Rattle.x86_semantics.specs.Registers.{register as register_of, with_register as with_register_of}
use Rattle.x86_semantics.specs.Widths.{has_place, has_width, fits_width, is_place, is_register, is_value, is_width, is_within, width_of}
use Rattle.abstract_state.specs.declared.truth.Truth.{Truth}
use Rattle.abstract_state.specs.declared.truth.Truth.TheVariants.{Yes, No, Unknown}
use Rattle.abstract_state.specs.Expanding.{Expanded, Path, lands}
use Rattle.abstract_state.specs.Flags.{truth_met}
use Rattle.abstract_state.specs.Truth.{StandsFor}
use Rattle.abstract_state.proofs.Logic.{met_stands}
use Rattle.abstract_state.proofs.Bridge.{any_known, number_known, loading_ends, storing_ends}
use Rattle.transfer_functions.specs.Moves.{convert, exchange, lea, leave, move, move_if, pop, pop_into, popped, push, pushing, set, stack_pointer}
use Rattle.transfer_functions.specs.Values.{above, below, on_state, reading, value_of_truth, writing}
use Rattle.transfer_functions.proofs.Paths.{either_ends}
use Rattle.transfer_functions.proofs.SoundArithmetic.{place_is_value, same_width}
use Rattle.transfer_functions.proofs.Steps.{S, H, E, eval_stands, lands_ends, offset_stands, part_stands, reading_ends, register_stands, with_part_holds, with_register_holds, writing_ends}

-- ---- widths

-- a number that fits a width fits each wider one
pub within_fits : (v w : Width) (x : ℕ) → is_within v w ≡ true → x < 2 ^ bits_of v → x < 2 ^ bits_of w
within_fits B8 B8 x e h = h
within_fits B8 B16 x e h = omega arith
within_fits B8 B32 x e h = omega arith
within_fits B16 B8 x e h = cc
within_fits B16 B16 x e h = h
within_fits B16 B32 x e h = omega arith
within_fits B32 B8 x e h = cc
within_fits B32 B16 x e h = cc
within_fits B32 B32 x e h = h

own_within : (z : Width) → is_within z z ≡ true
own_within B8 = refl
own_within B16 = refl
own_within B32 = refl

-- widths that are the same, either way
pub width_within : (v w : Width) → is_width v w ≡ true → is_within v w ≡ true
width_within v w e = subst (λ z. is_within v z ≡ true) (same_width v w e) (own_within v)

pub width_back : (v w : Width) → is_width v w ≡ true → is_within w v ≡ true
width_back v w e = subst (λ z. is_within z v ≡ true) (same_width v w e) (own_within v)

-- ---- a store beside other registers

-- registers are not seen by a store
number_beside : (count a v : ℕ) (g : Regs ℕ) (m : MachineState) → with_number count a v (record m { registers = g }) ≡ record (with_number count a v m) { registers = g }
unfolding with_number
number_beside zero a v g m = refl
number_beside (suc count) a v g m = number_beside count (next_byte a) (v / 256) g (with_byte a (v % 256) m)

number_registers : (count a v : ℕ) (m : MachineState) → (with_number count a v m).registers ≡ m.registers
unfolding with_number
number_registers zero a v m = refl
number_registers (suc count) a v m = number_registers count (next_byte a) (v / 256) (with_byte a (v % 256) m)

module _ {D : Type 0} (d : Values D) (l : IsLawful d) (image : Image) (p : Places) (blocks : List Counted) where
  -- a word of a width as one of a wider one
  pub wider : (v w : Width) (u : D) (x : ℕ) → is_within v w ≡ true → S d l image p blocks v u x → S d l image p blocks w u x
  wider v w u x e k = record { stands = k.stands; fits = within_fits v w x e k.fits; counted = k.counted }

  -- a value read, of an operand no wider than a width
  pub reading_within : (w : Width) (o : Operand) (q : Path D) (m : MachineState) (k : D → Expanded D) (go : ℕ → Ended) → fits_width w o ≡ true → H d l image p blocks q m
      → ((v : D) (x : ℕ) → S d l image p blocks w v x → E d l image p blocks (k v) (go x)) → E d l image p blocks (reading d image q o k) (reading_of m o go)
  reading_within w o q m k go is h then =
      let parts = and_parts (is_value o) (is_within (width_of o) w) is in
      reading_ends d l image p blocks o q m k go parts.0 h (λ v x s _. then v x (wider (width_of o) w v x parts.1 s))

  pub reading_width : (w : Width) (o : Operand) (q : Path D) (m : MachineState) (k : D → Expanded D) (go : ℕ → Ended) → has_width w o ≡ true → H d l image p blocks q m
      → ((v : D) (x : ℕ) → S d l image p blocks w v x → E d l image p blocks (k v) (go x)) → E d l image p blocks (reading d image q o k) (reading_of m o go)
  reading_width w o q m k go is h then =
      let parts = and_parts (is_value o) (is_width (width_of o) w) is in
      reading_ends d l image p blocks o q m k go parts.0 h (λ v x s _. then v x (wider (width_of o) w v x (width_within (width_of o) w parts.1) s))

  -- a value written to a place of a width
  pub writing_width : (w : Width) (o : Operand) (v : D) (x : ℕ) (q : Path D) (m : MachineState) (k : Path D → Expanded D) (go : MachineState → Ended) → has_place w o ≡ true → S d l image p blocks w v x
      → H d l image p blocks q m → ((r : Path D) (n : MachineState) → H d l image p blocks r n → E d l image p blocks (k r) (go n)) → E d l image p blocks (writing d image q o v k) (writing_of m o x go)
  writing_width w o v x q m k go is s h then =
      let parts = and_parts (is_place o) (is_width (width_of o) w) is in
      writing_ends d l image p blocks o v x q m k go parts.0 (wider w (width_of o) v x (width_back (width_of o) w parts.1) s) h (λ r n holds _. then r n holds)

  -- ---- moves

  pub move_ends : (to from : Operand) (next : ℕ) (q : Path D) (m : MachineState) → next < 2 ^ 32 → is_place to ≡ true → fits_width (width_of to) from ≡ true → H d l image p blocks q m
      → E d l image p blocks (move d image to from next q) (move_of to from next m)
  move_ends to from next q m less place is h =
      reading_within (width_of to) from q m _ _ is h (λ v x s.
      writing_ends d l image p blocks to v x q m _ _ place s h (λ r n holds _. lands_ends d l image p blocks next r n less holds))

  pub convert_ends : (op : Op) (w : Width) (to from : Operand) (by next : ℕ) (q : Path D) (m : MachineState) → next < 2 ^ 32 → by < 2 ^ bits_of w → has_place w to ≡ true → fits_width w from ≡ true → H d l image p blocks q m
      → E d l image p blocks (convert d image op w to from by next q) (convert_of op w to from by next m)
  convert_ends op w to from by next q m less fits place is h =
      reading_within w from q m _ _ is h (λ v x s.
      writing_width w to _ _ q m _ _ place (eval_stands d l image p blocks op w v (d.number by) x by q m h s (number_known d l image p blocks w by q m h fits)) h (λ r n holds.
      lands_ends d l image p blocks next r n less holds))

  pub lea_ends : (to : Operand) (address : Address) (next : ℕ) (q : Path D) (m : MachineState) → next < 2 ^ 32 → (is_register to && (has_place B16 to || has_place B32 to)) ≡ true → H d l image p blocks q m
      → E d l image p blocks (lea d image to address next q) (lea_of to address next m)
  lea_ends (Register B8 r) address next q m less is h = cc
  lea_ends (Register B16 r) address next q m less is h =
      let sum = eval_stands d l image p blocks PutLow16 B32 _ _ _ _ q m h (register_stands d l image p blocks r q m h) (offset_stands d l image p blocks address q m h) in
      lands_ends d l image p blocks next _ _ less (with_register_holds d l image p blocks r _ _ q m sum h)
  lea_ends (Register B32 r) address next q m less is h =
      lands_ends d l image p blocks next _ _ less (with_register_holds d l image p blocks r _ _ q m (offset_stands d l image p blocks address q m h) h)
  lea_ends (Number w n) address next q m less is h = cc
  lea_ends (Memory w a) address next q m less is h = cc
  lea_ends (Offset o) address next q m less is h = cc

  pub exchange_ends : (place : Operand) (w : Width) (r next : ℕ) (q : Path D) (m : MachineState) → next < 2 ^ 32 → has_place w place ≡ true → H d l image p blocks q m
      → E d l image p blocks (exchange d image place w r next q) (exchange_of place w r next m)
  exchange_ends place w r next q m less is h =
      let parts = and_parts (is_place place) (is_width (width_of place) w) is in
      reading_ends d l image p blocks place q m _ _ (place_is_value place parts.0) h (λ v x s _.
      writing_width w place _ _ q m _ _ is (part_stands d l image p blocks w r q m h) h (λ t n holds.
      lands_ends d l image p blocks next _ _ less (with_part_holds d l image p blocks w r v x t n (wider (width_of place) w v x (width_within (width_of place) w parts.1) s) holds)))

  truth_known : (t : Truth) (b : Bool) (q : Path D) (m : MachineState) → StandsFor t b → H d l image p blocks q m → S d l image p blocks B8 (value_of_truth d t) (one_if b)
  truth_known Yes true q m stands h = number_known d l image p blocks B8 1 q m h (omega arith)
  truth_known Yes false q m stands h = cc
  truth_known No true q m stands h = cc
  truth_known No false q m stands h = number_known d l image p blocks B8 0 q m h (omega arith)
  truth_known Unknown true q m stands h = any_known d l image p blocks B8 1 q m h (omega arith)
  truth_known Unknown false q m stands h = any_known d l image p blocks B8 0 q m h (omega arith)

  pub set_ends : (c : Cond) (to : Operand) (next : ℕ) (q : Path D) (m : MachineState) → next < 2 ^ 32 → has_place B8 to ≡ true → H d l image p blocks q m
      → E d l image p blocks (set d image c to next q) (set_of c to next m)
  set_ends c to next q m less is h =
      writing_width B8 to _ _ q m _ _ is (truth_known (truth_met c q.state.flags) (is_met c m.flags) q m (met_stands c q.state.flags m.flags h.describes.flags) h) h (λ r n holds.
      lands_ends d l image p blocks next r n less holds)

  pub move_if_ends : (c : Cond) (to from : Operand) (next : ℕ) (q : Path D) (m : MachineState) → next < 2 ^ 32 → is_place to ≡ true → has_width (width_of to) from ≡ true → H d l image p blocks q m
      → E d l image p blocks (move_if d image c to from next q) (move_if_of c to from next m)
  move_if_ends c to from next q m less place is h =
      reading_width (width_of to) from q m _ _ is h (λ v x s.
      either_ends d l image p blocks (truth_met c q.state.flags) (is_met c m.flags) _ _ _ _ (met_stands c q.state.flags m.flags h.describes.flags)
      (λ _. writing_ends d l image p blocks to v x q m _ _ place s h (λ r n holds _. lands_ends d l image p blocks next r n less holds))
      (λ _. lands_ends d l image p blocks next q m less h))

  -- ---- the stack

  pub above_stands : (v : D) (x n : ℕ) (q : Path D) (m : MachineState) → n < 2 ^ 32 → S d l image p blocks B32 v x → H d l image p blocks q m → S d l image p blocks B32 (above d image.align v (d.number n)) (above_of x n)
  above_stands v x n q m less s h = eval_stands d l image p blocks Add B32 v (d.number n) x n q m h s (number_known d l image p blocks B32 n q m h less)

  pub below_stands : (v : D) (x n : ℕ) (q : Path D) (m : MachineState) → n < 2 ^ 32 → S d l image p blocks B32 v x → H d l image p blocks q m → S d l image p blocks B32 (below d image.align v (d.number n)) (below_of x n)
  below_stands v x n q m less s h = eval_stands d l image p blocks Sub B32 v (d.number n) x n q m h s (number_known d l image p blocks B32 n q m h less)

  pub pushing_ends : (q : Path D) (m : MachineState) (v : D) (x : ℕ) (k : Path D → Expanded D) (go : MachineState → Ended) → S d l image p blocks B32 v x → H d l image p blocks q m
      → ((r : Path D) (n : MachineState) → H d l image p blocks r n → E d l image p blocks (k r) (go n)) → E d l image p blocks (pushing d image q v k) (pushing_of m x go)
  pushing_ends q m v x k go s h then =
      let to = below_stands (stack_pointer q.state) (register_of ESP m) 4 q m (omega arith) (register_stands d l image p blocks ESP q m h) h in
      storing_ends d l image p blocks q m B32 _ v _ x _ _ h to s (λ r n holds _. then _ _ (with_register_holds d l image p blocks ESP _ _ r n to holds))

  pub push_ends : (from : Operand) (next : ℕ) (q : Path D) (m : MachineState) → next < 2 ^ 32 → has_width B32 from ≡ true → H d l image p blocks q m
      → E d l image p blocks (push d image from next q) (push_of from next m)
  push_ends from next q m less is h =
      reading_width B32 from q m _ _ is h (λ v x s. pushing_ends q m v x (λ r. lands next r) (λ n. Next (at_address next n)) s h (λ r n holds. lands_ends d l image p blocks next r n less holds))

  popped_holds : (q : Path D) (m : MachineState) → H d l image p blocks q m → H d l image p blocks (on_state (popped d image) q) (popped_of m)
  popped_holds q m h =
      with_register_holds d l image p blocks ESP _ _ q m (above_stands (stack_pointer q.state) (register_of ESP m) 4 q m (omega arith) (register_stands d l image p blocks ESP q m h) h) h

  -- a store after ESP moved is one before it moves
  beside_ended : (x : Expanded D) (w : Width) (a v y : ℕ) (m : MachineState) (go : MachineState → Ended) → E d l image p blocks x (storing_of (with_register_of ESP y m) w a v go)
      → E d l image p blocks x (storing_of m w a v (λ n. go (with_register_of ESP y n)))
  unfolding stored with_register_of
  beside_ended x w a v y m go =
      let g = regs.with_register m.registers (ESP % 8) y in
      let n = with_number (bytes_of w) a v m in
      let own : record n { registers = g } ≡ record n { registers = regs.with_register n.registers (ESP % 8) y } =
      ap (λ r. record n { registers = regs.with_register r (ESP % 8) y }) (sym (number_registers (bytes_of w) a v m)) in
      elim (may_write_all (memory m) (bytes_of w) a) as (λ b. E d l image p blocks x (on_stored (record m { registers = g }) (cond b (Some (with_number (bytes_of w) a v (record m { registers = g }))) None) go) → E d l image p blocks x (on_stored m (cond b (Some n) None) (λ n. go (record n { registers = regs.with_register n.registers (ESP % 8) y })))) [
        | true ↦ λ h. subst (λ z. E d l image p blocks x (go z)) (number_beside (bytes_of w) a v g m ∙ own) h
        | false ↦ λ h. tt
      ]

  pop_into_ends : (to : Operand) (v : D) (x next : ℕ) (q : Path D) (m : MachineState) → next < 2 ^ 32 → has_place B32 to ≡ true → S d l image p blocks B32 v x → H d l image p blocks q m
      → E d l image p blocks (pop_into d image to v next q) (pop_into_of to x next m)
  pop_into_ends (Register w r) v x next q m less is s h =
      writing_width B32 (Register w r) v x _ (popped_of m) (λ r. lands next r) (λ n. Next (at_address next n)) is s (popped_holds q m h) (λ t n holds. lands_ends d l image p blocks next t n less holds)
  pop_into_ends (Memory w a) v x next q m less is s h =
      beside_ended _ w (address_of a (popped_of m)) x (above_of (register_of ESP m) 4) m (λ n. Next (at_address next n))
      (writing_width B32 (Memory w a) v x _ (popped_of m) (λ r. lands next r) (λ n. Next (at_address next n)) is s (popped_holds q m h) (λ t n holds. lands_ends d l image p blocks next t n less holds))
  pop_into_ends (Number w n) v x next q m less is s h = cc
  pop_into_ends (Offset o) v x next q m less is s h = cc

  pub pop_ends : (to : Operand) (next : ℕ) (q : Path D) (m : MachineState) → next < 2 ^ 32 → has_place B32 to ≡ true → H d l image p blocks q m
      → E d l image p blocks (pop d image to next q) (pop_of to next m)
  pop_ends to next q m less is h =
      loading_ends d l image p blocks q m B32 _ _ _ _ h (register_stands d l image p blocks ESP q m h) (λ v x s. pop_into_ends to v x next q m less is s h)

  pub leave_ends : (next : ℕ) (q : Path D) (m : MachineState) → next < 2 ^ 32 → H d l image p blocks q m → E d l image p blocks (leave d image next q) (leave_of next m)
  leave_ends next q m less h =
      let base = register_stands d l image p blocks EBP q m h in
      loading_ends d l image p blocks q m B32 _ _ _ _ h base (λ v x s.
      let first = with_register_holds d l image p blocks ESP _ _ q m (above_stands _ _ 4 q m (omega arith) base h) h in
      lands_ends d l image p blocks next _ _ less (with_register_holds d l image p blocks EBP v x _ _ s first))
