-- The list of statements of an operation of n bytes at an address.
use Rattle.std.specs.Prelude.{ℕ, ◌+◌, ◌%◌, ◌^◌, List, [], ◌∷◌, ◌++◌}
use Rattle.x86_semantics.specs.declared.operation.Operation.{Operation}
use Rattle.x86_semantics.specs.declared.operation.Operation.TheVariants as operations
use Rattle.memory_map.specs.declared.registers.TheConstants.{ECX}
use Rattle.x86_syntax.specs.Text.{next_address}
use Rattle.x86_semantics.specs.Operands.{branch_target}
use Rattle.statement_lang.specs.declared.stmt.Source.TheVariants.{Register, Number}
use Rattle.statement_lang.specs.declared.stmt.Test.TheVariants.{Condition, Zero}
use Rattle.statement_lang.specs.declared.stmt.Stmt.{Stmt}
use Rattle.statement_lang.specs.declared.stmt.Stmt.TheVariants.{Stop, Goto, Branch}
use Rattle.x86_lifter.specs.Pieces.{places}
use Rattle.x86_lifter.specs.Lists.{none, combining, carrying, comparing, moving, converting, plain, leaing, exchanging, setting, moving_if, pushing_list, popping, popping_into, leaving, resolved, going, calling, returning, looping, changing, loading_status, storing_status, shifting, double_shifting, testing_bit, finding_bit, comparing_exchange, adding_exchange, multiplying_long, multiplying, dividing, string_list}

abbrev pub lifted : Operation → ℕ → ℕ → List Stmt
lifted (operations.Combine op rule w to from) at n = places to from ++ combining op rule w to from (next_address at n)
lifted (operations.Carry op rule w to from) at n = places to from ++ carrying op rule w to from (next_address at n)
lifted (operations.Compare op rule w left right) at n = places left right ++ comparing op rule w left right (next_address at n)
lifted (operations.Move to from) at n = places to from ++ moving to from (next_address at n)
lifted (operations.Convert op w to from by) at n = places to from ++ converting op w to from by (next_address at n)
lifted (operations.Lea to address) at n = places to (plain address) ++ leaing to (next_address at n)
lifted (operations.Exchange place w r) at n = places place none ++ exchanging place w r (next_address at n)
lifted (operations.Shift op rule w to count) at n = places to count ++ shifting op rule w to count (next_address at n)
lifted (operations.DoubleShift op other rule w to r count) at n = places to count ++ double_shifting op other rule w to r count (next_address at n)
lifted (operations.TestBit change w r index) at n = places index none ++ testing_bit change w r index (next_address at n)
lifted (operations.FindBit op w r from) at n = places from none ++ finding_bit op w r from (next_address at n)
lifted (operations.CompareExchange place w r) at n = places place none ++ comparing_exchange place w r (next_address at n)
lifted (operations.ExchangeAdd place w r) at n = places place none ++ adding_exchange place w r (next_address at n)
lifted (operations.MultiplyLong high rule w from) at n = places from none ++ multiplying_long high rule w from (next_address at n)
lifted (operations.Multiply w r left right) at n = places left right ++ multiplying w r left right (next_address at n)
lifted (operations.Divide signed w by) at n = places by none ++ dividing signed w by (next_address at n)
lifted (operations.Jump c offset) at n = Branch (Condition c) (branch_target at n offset) (next_address at n) ∷ []
lifted (operations.Goto target) at n = places (resolved at n target) none ++ going (resolved at n target)
lifted (operations.Loop kind offset) at n = looping kind (branch_target at n offset) (next_address at n)
lifted (operations.JumpIfNoCount offset) at n = Branch (Zero (Register ECX)) (branch_target at n offset) (next_address at n) ∷ []
lifted (operations.Call target) at n = places (resolved at n target) none ++ calling (resolved at n target) (next_address at n)
lifted (operations.Return extra) at n = returning extra
lifted (operations.Push from) at n = places from none ++ pushing_list from (next_address at n)
lifted (operations.Pop to) at n = popping (popping_into to (next_address at n))
lifted operations.Leave at n = leaving (next_address at n)
lifted (operations.Set c to) at n = places to none ++ setting c to (next_address at n)
lifted (operations.MoveIf c to from) at n = places to from ++ moving_if c to from (next_address at n)
lifted (operations.Flag change) at n = changing change ∷ Goto (Number (next_address at n)) ∷ []
lifted operations.LoadStatus at n = loading_status (next_address at n)
lifted operations.StoreStatus at n = storing_status (next_address at n)
lifted (operations.Element kind w seg repeat) at n = string_list kind w seg repeat at (next_address at n)
lifted operations.Nothing at n = Goto (Number (next_address at n)) ∷ []
lifted (operations.Stop kind) at n = Stop kind ∷ []
