-- The expansion of every instruction stands for what it does.
use Rattle.std.proofs.Common.{◌≡◌, ℕ, ◌<◌, ◌^◌, true, List, [], refl, sym, subst, arith, inl, inr}
use Rattle.std.specs.Prelude.{Ok}
use Rattle.std.proofs.lemmas.Bool.{and_parts}
use Rattle.address_regions.specs.Places.{Places}
use Rattle.bit_words.specs.declared.op.Op.{Op}
use Rattle.bit_words.specs.declared.op.Op.TheVariants.{Sub, And}
use Rattle.bit_words.specs.declared.width.Width.{Width}
use Rattle.domain_laws.specs.Laws.{Values, IsLawful}
use Rattle.memory_map.specs.declared.choice.Choice.{Choice}
use Rattle.memory_map.specs.Image.{Image}
use Rattle.memory_map.specs.State.{MachineState}
use Rattle.partitioned_memory.specs.declared.fact.Counted.{Counted}
use Rattle.x86_syntax.specs.declared.instr.Instr.{Instr}
use Rattle.x86_syntax.specs.declared.instr.Operand.{Operand}
use Rattle.x86_semantics.specs.declared.flag_rule.FlagRule.{FlagRule}
use Rattle.x86_semantics.specs.declared.operation.Operation.{Operation}
use Rattle.x86_semantics.specs.declared.operation.Operation.TheVariants.{Combine, Carry, Compare, Move, Convert, Lea, Exchange, Shift, MultiplyLong, Multiply, Divide, Jump, Goto, Loop, JumpIfNoCount, Call, Return, Push, Pop, Leave, Set, MoveIf, Flag, LoadStatus, StoreStatus, Element, Nothing, Stop, DoubleShift, TestBit, FindBit, CompareExchange, ExchangeAdd}
use Rattle.x86_semantics.specs.Arithmetic.{compare as compare_of}
use Rattle.x86_semantics.specs.Does.{does, done, result_of}
use Rattle.x86_semantics.specs.Operands.{Ended, Next, Faulted}
use Rattle.x86_semantics.specs.Operations.{operation_of}
use Rattle.x86_semantics.specs.Widths.{fits_width, has_own_widths, has_place, has_width, is_count, is_place, width_of}
use Rattle.x86_semantics.proofs.Spelled.{spelled_widths}
use Rattle.abstract_state.specs.Describes.{Describes}
use Rattle.abstract_state.specs.Expanding.{Expanded, Path, starts}
use Rattle.abstract_state.specs.Laws.{RefiningIsSound, RefiningKeepsWell}
use Rattle.abstract_state.specs.State.{IsWellState, Known}
use Rattle.abstract_state.proofs.Bridge.{IsFound}
use Rattle.transfer_functions.specs.Arithmetic.{compare}
use Rattle.transfer_functions.specs.Post.{expand_instr, expand_operation}
use Rattle.transfer_functions.proofs.OwnRules.{IsComparison, IsOwn, operations_own}
use Rattle.transfer_functions.proofs.SoundArithmetic.{carry_ends, combine_ends, compare_ends, test_ends}
use Rattle.transfer_functions.proofs.SoundBitTests.{find_bit_ends, test_bit_ends}
use Rattle.transfer_functions.proofs.SoundBits.{change_flag_ends, load_status_ends, store_status_ends}
use Rattle.transfer_functions.proofs.SoundExchanges.{compare_exchange_ends, exchange_add_ends}
use Rattle.transfer_functions.proofs.SoundFlow.{call_ends, goto_ends, jump_ends, jump_if_no_count_ends, loop_ends, return_ends}
use Rattle.transfer_functions.proofs.SoundMoves.{convert_ends, exchange_ends, lea_ends, leave_ends, move_ends, move_if_ends, pop_ends, push_ends, set_ends}
use Rattle.transfer_functions.proofs.SoundProducts.{divide_ends, multiply_ends, multiply_long_ends}
use Rattle.transfer_functions.proofs.SoundShifts.{double_shift_ends, shift_ends}
use Rattle.transfer_functions.proofs.SoundStrings.{string_ends}
use Rattle.transfer_functions.proofs.Steps.{E, H, lands_ends}

module _ {D : Type 0} (d : Values D) (l : IsLawful d) (image : Image) (p : Places) (blocks : List Counted) where
  comparison_ends : (op : Op) (rule : FlagRule) (w : Width) (left right : Operand) (next : ℕ) (choice : Choice) (q : Path D) (m : MachineState) → next < 2 ^ 32 → has_width w left ≡ true → has_width w right ≡ true → IsComparison op rule
      → H d l image p blocks q m → E d l image p blocks (compare d image op rule w left right next q) (compare_of op rule w left right next choice m)
  comparison_ends op rule w left right next choice q m less first second own h = elim own [
    | inl e ↦
        let P : Op → Type 0 = λ o. E d l image p blocks (compare d image o rule w left right next q) (compare_of o rule w left right next choice m) in
        let Q : FlagRule → Type 0 = λ r. E d l image p blocks (compare d image Sub r w left right next q) (compare_of Sub r w left right next choice m) in
        subst P (sym e.0) (subst Q (sym e.1) (compare_ends d l image p blocks left right w next choice q m less first second h))
    | inr e ↦
        let P : Op → Type 0 = λ o. E d l image p blocks (compare d image o rule w left right next q) (compare_of o rule w left right next choice m) in
        let Q : FlagRule → Type 0 = λ r. E d l image p blocks (compare d image And r w left right next q) (compare_of And r w left right next choice m) in
        subst P (sym e.0) (subst Q (sym e.1) (test_ends d l image p blocks left right w next choice q m less first second h))
  ]

  -- an operation whose operands have its widths, and whose operator and rule belong together
  pub operation_ends : (k : ℕ) (operation : Operation) (n : ℕ) (choice : Choice) (q : Path D) (m : MachineState) → RefiningIsSound d → RefiningKeepsWell d → has_own_widths operation ≡ true → IsOwn d l image p blocks operation
      → H d l image p blocks q m → E d l image p blocks (expand_operation d image k operation m.eip n q) (done operation n choice m)
  unfolding has_own_widths
  operation_ends k (Combine op rule w to from) n choice q m sound keeps widths own h =
      let parts = and_parts (has_place w to) (has_width w from) widths in
      combine_ends d l image p blocks op rule w to from _ choice q m (omega arith) parts.0 parts.1 own h
  operation_ends k (Carry op rule w to from) n choice q m sound keeps widths own h =
      let parts = and_parts (has_place w to) (has_width w from) widths in
      carry_ends d l image p blocks op rule w to from _ choice q m (omega arith) parts.0 parts.1 own h
  operation_ends k (Compare op rule w left right) n choice q m sound keeps widths own h =
      let parts = and_parts (has_width w left) (has_width w right) widths in
      comparison_ends op rule w left right _ choice q m (omega arith) parts.0 parts.1 own h
  operation_ends k (Move to from) n choice q m sound keeps widths own h =
      let parts = and_parts (is_place to) (fits_width (width_of to) from) widths in
      move_ends d l image p blocks to from _ q m (omega arith) parts.0 parts.1 h
  operation_ends k (Convert op w to from by) n choice q m sound keeps widths own h =
      let parts = and_parts (has_place w to) (fits_width w from) widths in
      convert_ends d l image p blocks op w to from by _ q m (omega arith) own parts.0 parts.1 h
  operation_ends k (Lea to address) n choice q m sound keeps widths own h = lea_ends d l image p blocks to address _ q m (omega arith) widths h
  operation_ends k (Exchange place w r) n choice q m sound keeps widths own h = exchange_ends d l image p blocks place w r _ q m (omega arith) widths h
  operation_ends k (Shift op rule w to count) n choice q m sound keeps widths own h =
      let parts = and_parts (has_place w to) (is_count count) widths in
      shift_ends d l image p blocks op rule w to count _ choice q m (omega arith) own.0 own.1 parts.0 parts.1 h
  operation_ends k (DoubleShift op other rule w to r count) n choice q m sound keeps widths own h =
      let parts = and_parts (has_place w to) (is_count count) widths in
      double_shift_ends d l image p blocks op other rule w to r count _ choice q m (omega arith) own.0 own.1 parts.0 parts.1 h
  operation_ends k (TestBit change w r index) n choice q m sound keeps widths own h = test_bit_ends d l image p blocks change w r index _ choice q m (omega arith) widths h
  operation_ends k (FindBit op w r from) n choice q m sound keeps widths own h = find_bit_ends d l image p blocks op w r from _ choice q m (omega arith) widths h
  operation_ends k (CompareExchange place w r) n choice q m sound keeps widths own h = compare_exchange_ends d l image p blocks place w r _ choice q m (omega arith) widths h
  operation_ends k (ExchangeAdd place w r) n choice q m sound keeps widths own h = exchange_add_ends d l image p blocks place w r _ choice q m (omega arith) widths h
  operation_ends k (MultiplyLong high rule w from) n choice q m sound keeps widths own h = multiply_long_ends d l image p blocks high rule w from _ choice q m (omega arith) own widths h
  operation_ends k (Multiply w r left right) n choice q m sound keeps widths own h =
      let parts = and_parts (has_width w left) (has_width w right) widths in
      multiply_ends d l image p blocks w r left right _ choice q m (omega arith) parts.0 parts.1 h
  operation_ends k (Divide signed w by) n choice q m sound keeps widths own h = divide_ends d l image p blocks signed w by _ choice q m (omega arith) widths h
  operation_ends k (Jump c offset) n choice q m sound keeps widths own h = jump_ends d l image p blocks k c offset n q m sound keeps h
  operation_ends k (Goto target) n choice q m sound keeps widths own h = goto_ends d l image p blocks target n q m widths h
  operation_ends k (Loop kind offset) n choice q m sound keeps widths own h = loop_ends d l image p blocks kind offset n q m h
  operation_ends k (JumpIfNoCount offset) n choice q m sound keeps widths own h = jump_if_no_count_ends d l image p blocks offset n q m h
  operation_ends k (Call target) n choice q m sound keeps widths own h = call_ends d l image p blocks target n q m widths h
  operation_ends k (Return extra) n choice q m sound keeps widths own h = return_ends d l image p blocks extra q m own h
  operation_ends k (Push from) n choice q m sound keeps widths own h = push_ends d l image p blocks from _ q m (omega arith) widths h
  operation_ends k (Pop to) n choice q m sound keeps widths own h = pop_ends d l image p blocks to _ q m (omega arith) widths h
  operation_ends k Leave n choice q m sound keeps widths own h = leave_ends d l image p blocks _ q m (omega arith) h
  operation_ends k (Set c to) n choice q m sound keeps widths own h = set_ends d l image p blocks c to _ q m (omega arith) widths h
  operation_ends k (MoveIf c to from) n choice q m sound keeps widths own h =
      let parts = and_parts (is_place to) (has_width (width_of to) from) widths in
      move_if_ends d l image p blocks c to from _ q m (omega arith) parts.0 parts.1 h
  operation_ends k (Flag change) n choice q m sound keeps widths own h = change_flag_ends d l image p blocks change _ q m (omega arith) h
  operation_ends k LoadStatus n choice q m sound keeps widths own h = load_status_ends d l image p blocks _ q m (omega arith) h
  operation_ends k StoreStatus n choice q m sound keeps widths own h = store_status_ends d l image p blocks _ q m (omega arith) h
  operation_ends k (Element kind w seg repeat) n choice q m sound keeps widths own h = string_ends d l image p blocks kind w seg repeat _ choice q m (omega arith) h
  operation_ends k Nothing n choice q m sound keeps widths own h = lands_ends d l image p blocks _ q m (omega arith) h
  operation_ends k (Stop kind) n choice q m sound keeps widths own h = tt

  -- an instruction, whose operation has both
  pub instruction_ends : (k : ℕ) (i : Instr) (n : ℕ) (choice : Choice) (q : Path D) (m : MachineState) → RefiningIsSound d → RefiningKeepsWell d → H d l image p blocks q m
      → E d l image p blocks (expand_operation d image k (operation_of i) m.eip n q) (done (operation_of i) n choice m)
  instruction_ends k i n choice q m sound keeps h =
      operation_ends k (operation_of i) n choice q m sound keeps (spelled_widths i) (operations_own d l image p blocks i) h

  -- where the machine goes on, its next state is found, unless a cause leaves the expansion open
  found_of : (x : Expanded D) (e : Ended) (next : MachineState) → E d l image p blocks x e → result_of e ≡ Ok next → x.causes ≡ [] → IsFound d l image p blocks x next
  found_of x (Next n) next ends is none = let same : n ≡ next = cc in subst (IsFound d l image p blocks x) same (ends none)
  found_of x (Faulted kind n) next ends is none = cc

module _ {D : Type 0} (d : Values D) (l : IsLawful d) (image : Image) (p : Places) where
  -- what an instruction does in a machine state that is described is found in its expansion
  pub instructions_are_sound : (k : ℕ) (i : Instr) (n : ℕ) (choice : Choice) (s : Known D) (m next : MachineState) → RefiningIsSound d → RefiningKeepsWell d → IsWellState d s → Describes d image s p m
      → does i n choice m ≡ Ok next → (expand_instr d image k i m.eip n s).causes ≡ [] → IsFound d l image p s.parts.blocks (expand_instr d image k i m.eip n s) next
  unfolding does expand_instr
  instructions_are_sound k i n choice s m next sound keeps well describes is none =
      found_of d l image p s.parts.blocks (expand_instr d image k i m.eip n s) (done (operation_of i) n choice m) next
      (instruction_ends d l image p s.parts.blocks k i n choice (starts s) m sound keeps (record { well = well; describes = describes; blocks_same = refl })) is none
