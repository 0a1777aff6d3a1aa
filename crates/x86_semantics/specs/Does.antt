-- What an instruction does (manual, volume 2): the next state, or why there is none. On a fault nothing changes.
use Rattle.std.specs.Prelude.{ℕ, List, ◌∷◌, Result, Ok, Err, ℤ, pos}
use Rattle.memory_map.specs.declared.choice.Choice.{Choice}
use Rattle.memory_map.specs.declared.fault.FaultKind.{FaultKind}
use Rattle.memory_map.specs.State.{MachineState}
use Rattle.x86_syntax.specs.declared.instr.Instr.{Instr}
use Rattle.x86_syntax.specs.declared.instr.Operand.{Operand}
use Rattle.x86_syntax.specs.declared.instr.Operand.TheVariants.{Offset}
use Rattle.x86_syntax.specs.Text.{next_address}
use Rattle.x86_semantics.specs.declared.operation.Operation.{Operation}
use Rattle.x86_semantics.specs.declared.operation.Operation.TheVariants.{Combine, Carry, Compare, Move, Convert, Lea, Exchange, Shift, DoubleShift, TestBit, FindBit, CompareExchange, ExchangeAdd, MultiplyLong, Multiply, Divide, Jump, Goto, Loop, JumpIfNoCount, Call, Return, Push, Pop, Leave, Set, MoveIf, Flag, LoadStatus, StoreStatus, Element, Nothing, Stop}
use Rattle.x86_semantics.specs.Operands.{Ended, Next, Faulted, at_address}
use Rattle.x86_semantics.specs.Operations.{operation_of}
use Rattle.x86_semantics.specs.Arithmetic.{combine, carry, compare}
use Rattle.x86_semantics.specs.Moves.{move, convert, lea, exchange, set, move_if, push, pop, leave}
use Rattle.x86_semantics.specs.Shifts.{shift, double_shift}
use Rattle.x86_semantics.specs.BitTests.{test_bit, find_bit}
use Rattle.x86_semantics.specs.Exchanges.{compare_exchange, exchange_add}
use Rattle.x86_semantics.specs.Products.{multiply_long, multiply, divide}
use Rattle.x86_semantics.specs.Flow.{jump, goto, loop, jump_if_no_count, call, return}
use Rattle.x86_semantics.specs.Bits.{change_flag, load_status, store_status}
use Rattle.x86_semantics.specs.Strings.{string}

-- the offset of a branch
abbrev pub offset_of : List Operand → ℤ
offset_of (Offset o ∷ rest) = o
offset_of _ = pos 0

-- how an operation of n bytes ends on m: free flags are the choice's, and a fault leaves m
abbrev pub done : Operation → ℕ → Choice → MachineState → Ended
done (Combine op rule w to from) n choice m = combine op rule w to from (next_address m.eip n) choice m
done (Carry op rule w to from) n choice m = carry op rule w to from (next_address m.eip n) choice m
done (Compare op rule w left right) n choice m = compare op rule w left right (next_address m.eip n) choice m
done (Move to from) n choice m = move to from (next_address m.eip n) m
done (Convert op w to from by) n choice m = convert op w to from by (next_address m.eip n) m
done (Lea to address) n choice m = lea to address (next_address m.eip n) m
done (Exchange place w r) n choice m = exchange place w r (next_address m.eip n) m
done (Shift op rule w to count) n choice m = shift op rule w to count (next_address m.eip n) choice m
done (DoubleShift op other rule w to register count) n choice m = double_shift op other rule w to register count (next_address m.eip n) choice m
done (TestBit change w register index) n choice m = test_bit change w register index (next_address m.eip n) choice m
done (FindBit op w register from) n choice m = find_bit op w register from (next_address m.eip n) choice m
done (CompareExchange place w register) n choice m = compare_exchange place w register (next_address m.eip n) choice m
done (ExchangeAdd place w register) n choice m = exchange_add place w register (next_address m.eip n) choice m
done (MultiplyLong high rule w from) n choice m = multiply_long high rule w from (next_address m.eip n) choice m
done (Multiply w r left right) n choice m = multiply w r left right (next_address m.eip n) choice m
done (Divide signed w by) n choice m = divide signed w by (next_address m.eip n) choice m
done (Jump c offset) n choice m = jump c offset n m
done (Goto target) n choice m = goto target n m
done (Loop kind offset) n choice m = loop kind offset n m
done (JumpIfNoCount offset) n choice m = jump_if_no_count offset n m
done (Call target) n choice m = call target n m
done (Return extra) n choice m = return extra m
done (Push from) n choice m = push from (next_address m.eip n) m
done (Pop to) n choice m = pop to (next_address m.eip n) m
done Leave n choice m = leave (next_address m.eip n) m
done (Set c to) n choice m = set c to (next_address m.eip n) m
done (MoveIf c to from) n choice m = move_if c to from (next_address m.eip n) m
done (Flag change) n choice m = change_flag change (next_address m.eip n) m
done LoadStatus n choice m = load_status (next_address m.eip n) m
done StoreStatus n choice m = store_status (next_address m.eip n) m
done (Element kind w seg repeat) n choice m = string kind w seg repeat (next_address m.eip n) choice m
done Nothing n choice m = Next (at_address (next_address m.eip n) m)
done (Stop kind) n choice m = Faulted kind m

abbrev pub result_of : Ended → Result MachineState FaultKind
result_of (Next n) = Ok n
result_of (Faulted kind m) = Err kind

-- an outcome with the state: a fault leaves m
abbrev pub ended : MachineState → Result MachineState FaultKind → Ended
ended m (Ok n) = Next n
ended m (Err kind) = Faulted kind m

-- the instruction i of n bytes done on m: free flags and free results are the choice's
unfoldable pub does : Instr → ℕ → Choice → MachineState → Result MachineState FaultKind
does i n choice m = result_of (done (operation_of i) n choice m)
