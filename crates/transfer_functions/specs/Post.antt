-- The expansion of an instruction: what `x86_semantics/specs/Does` says of numbers, said of values.
use Rattle.std.specs.Prelude.{ℕ}
use Rattle.memory_map.specs.Image.{Image}
use Rattle.domain_laws.specs.Laws.{Values}
use Rattle.x86_syntax.specs.declared.instr.Instr.{Instr}
use Rattle.x86_syntax.specs.Text.{next_address}
use Rattle.x86_semantics.specs.declared.operation.Operation.{Operation}
use Rattle.x86_semantics.specs.declared.operation.Operation.TheVariants.{Combine, Carry, Compare, Move, Convert, Lea, Exchange, Shift, MultiplyLong, Multiply, Divide, Jump, Goto, Loop, JumpIfNoCount, Call, Return, Push, Pop, Leave, Set, MoveIf, Flag, LoadStatus, StoreStatus, Element, Nothing, Stop, DoubleShift, TestBit, FindBit, CompareExchange, ExchangeAdd}
use Rattle.x86_semantics.specs.Operations.{operation_of}
use Rattle.abstract_state.specs.State.{Known}
use Rattle.abstract_state.specs.Expanding.{Expanded, Path, ended, lands, starts}
use Rattle.transfer_functions.specs.Arithmetic.{combine, carry, compare}
use Rattle.transfer_functions.specs.Moves.{move, convert, lea, exchange, set, move_if, push, pop, leave}
use Rattle.transfer_functions.specs.Shifts.{shift, double_shift}
use Rattle.transfer_functions.specs.BitTests.{test_bit, find_bit}
use Rattle.transfer_functions.specs.Exchanges.{compare_exchange, exchange_add}
use Rattle.transfer_functions.specs.Products.{multiply_long, multiply, divide}
use Rattle.transfer_functions.specs.Flow.{jump, goto, loop, jump_if_no_count, call, return}
use Rattle.transfer_functions.specs.Bits.{change_flag, load_status, store_status}
use Rattle.transfer_functions.specs.Strings.{string}

module _ {D : Type 0} (d : Values D) (image : Image) (k : ℕ) where
  -- an operation of n bytes at an address, on a path that begins there
  abbrev pub expand_operation : Operation → ℕ → ℕ → Path D → Expanded D
  expand_operation (Combine op rule w to from) at n p = combine d image op rule w to from (next_address at n) p
  expand_operation (Carry op rule w to from) at n p = carry d image op rule w to from (next_address at n) p
  expand_operation (Compare op rule w left right) at n p = compare d image op rule w left right (next_address at n) p
  expand_operation (Move to from) at n p = move d image to from (next_address at n) p
  expand_operation (Convert op w to from by) at n p = convert d image op w to from by (next_address at n) p
  expand_operation (Lea to address) at n p = lea d image to address (next_address at n) p
  expand_operation (Exchange place w r) at n p = exchange d image place w r (next_address at n) p
  expand_operation (Shift op rule w to count) at n p = shift d image op rule w to count (next_address at n) p
  expand_operation (DoubleShift op other rule w to r count) at n p = double_shift d image op other rule w to r count (next_address at n) p
  expand_operation (TestBit change w r index) at n p = test_bit d image change w r index (next_address at n) p
  expand_operation (FindBit op w r from) at n p = find_bit d image op w r from (next_address at n) p
  expand_operation (CompareExchange place w r) at n p = compare_exchange d image place w r (next_address at n) p
  expand_operation (ExchangeAdd place w r) at n p = exchange_add d image place w r (next_address at n) p
  expand_operation (MultiplyLong high rule w from) at n p = multiply_long d image high rule w from (next_address at n) p
  expand_operation (Multiply w r left right) at n p = multiply d image w r left right (next_address at n) p
  expand_operation (Divide signed w by) at n p = divide d image signed w by (next_address at n) p
  expand_operation (Jump c offset) at n p = jump d image k c offset at n p
  expand_operation (Goto target) at n p = goto d image target at n p
  expand_operation (Loop kind offset) at n p = loop d image kind offset at n p
  expand_operation (JumpIfNoCount offset) at n p = jump_if_no_count d image offset at n p
  expand_operation (Call target) at n p = call d image target at n p
  expand_operation (Return extra) at n p = return d image extra p
  expand_operation (Push from) at n p = push d image from (next_address at n) p
  expand_operation (Pop to) at n p = pop d image to (next_address at n) p
  expand_operation Leave at n p = leave d image (next_address at n) p
  expand_operation (Set c to) at n p = set d image c to (next_address at n) p
  expand_operation (MoveIf c to from) at n p = move_if d image c to from (next_address at n) p
  expand_operation (Flag change) at n p = change_flag change (next_address at n) p
  expand_operation LoadStatus at n p = load_status d image (next_address at n) p
  expand_operation StoreStatus at n p = store_status d image (next_address at n) p
  expand_operation (Element kind w seg repeat) at n p = string d image kind w seg repeat (next_address at n) at p
  expand_operation Nothing at n p = lands (next_address at n) p
  expand_operation (Stop kind) at n p = ended p.writes

  -- the expansion of a row at an instruction of n bytes
  unfoldable pub expand_instr : Instr → ℕ → ℕ → Known D → Expanded D
  expand_instr i at n s = expand_operation (operation_of i) at n (starts s)
