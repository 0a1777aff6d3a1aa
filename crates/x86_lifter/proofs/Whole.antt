-- Every list does what its instruction does.
use Rattle.std.proofs.Common.{◌≡◌, ℕ, ◌∙◌, subst, refl}
use Rattle.memory_map.specs.declared.choice.Choice.{Choice}
use Rattle.memory_map.specs.State.{MachineState}
use Rattle.x86_syntax.specs.declared.instr.Instr.{Instr}
use Rattle.x86_syntax.specs.Text.{next_address}
use Rattle.x86_semantics.specs.declared.operation.Operation.{Operation}
use Rattle.x86_semantics.specs.declared.operation.Operation.TheVariants.{Combine, Carry, Compare, Move, Convert, Lea, Exchange, Shift, DoubleShift, TestBit, FindBit, CompareExchange, ExchangeAdd, MultiplyLong, Multiply, Divide, Jump, Goto, Loop, JumpIfNoCount, Call, Return, Push, Pop, Leave, Set, MoveIf, Flag, LoadStatus, StoreStatus, Element, Nothing, Stop}
use Rattle.x86_semantics.specs.Operations.{operation_of}
use Rattle.x86_semantics.specs.Does.{done, does, ended}
use Rattle.x86_semantics.proofs.Faults.{done-is}
use Rattle.statement_lang.specs.Run.{run}
use Rattle.x86_lifter.specs.Lifted.{lifted}
use Rattle.x86_lifter.proofs.ArithmeticMeaning.{combined, compared, carried-on}
use Rattle.x86_lifter.proofs.MoveMeaning.{moved, converted, lea-done, exchanged, set-done, moved-if, pushed, popped-to, left}
use Rattle.x86_lifter.proofs.FlowMeaning.{jumped, gone, looped, jumped-if-no-count, called, returned}
use Rattle.x86_lifter.proofs.BitMeaning.{flag-changed, status-loaded, status-stored}
use Rattle.x86_lifter.proofs.ShiftMeaning.{shifted, double-shifted}
use Rattle.x86_lifter.proofs.BitTestMeaning.{bit-tested, bit-found}
use Rattle.x86_lifter.proofs.ExchangeMeaning.{compared-exchanged, exchanged-added}
use Rattle.x86_lifter.proofs.ProductMeaning.{multiplied-long, multiplied, divided-by}
use Rattle.x86_lifter.proofs.StringMeaning.{string-done}

means : (op : Operation) (n : ℕ) (c : Choice) (m : MachineState) → run (lifted op m.eip n) c m ≡ done op n c m
unfolding run
means (Combine op rule w to from) n c m = combined op rule w to from (next_address m.eip n) c m
means (Carry op rule w to from) n c m = carried-on op rule w to from (next_address m.eip n) c m
means (Compare op rule w to from) n c m = compared op rule w to from (next_address m.eip n) c m
means (Move to from) n c m = moved to from (next_address m.eip n) c m
means (Convert op w to from by) n c m = converted op w to from by (next_address m.eip n) c m
means (Lea to address) n c m = lea-done to address (next_address m.eip n) c m
means (Exchange at w r) n c m = exchanged at w r (next_address m.eip n) c m
means (Shift op rule w to count) n c m = shifted op rule w to count (next_address m.eip n) c m
means (DoubleShift op other rule w to r count) n c m = double-shifted op other rule w to r count (next_address m.eip n) c m
means (TestBit change w r index) n c m = bit-tested change w r index (next_address m.eip n) c m
means (FindBit op w r from) n c m = bit-found op w r from (next_address m.eip n) c m
means (CompareExchange at w r) n c m = compared-exchanged at w r (next_address m.eip n) c m
means (ExchangeAdd at w r) n c m = exchanged-added at w r (next_address m.eip n) c m
means (MultiplyLong high rule w from) n c m = multiplied-long high rule w from (next_address m.eip n) c m
means (Multiply w r left right) n c m = multiplied w r left right (next_address m.eip n) c m
means (Divide signed w by) n c m = divided-by signed w by (next_address m.eip n) c m
means (Jump cc offset) n c m = jumped cc offset n c m
means (Goto target) n c m = gone target n c m
means (Loop kind offset) n c m = looped kind offset n c m
means (JumpIfNoCount offset) n c m = jumped-if-no-count offset n c m
means (Call target) n c m = called target n c m
means (Return extra) n c m = returned extra c m
means (Push from) n c m = pushed from (next_address m.eip n) c m
means (Pop to) n c m = popped-to to (next_address m.eip n) c m
means Leave n c m = left (next_address m.eip n) c m
means (Set cc to) n c m = set-done cc to (next_address m.eip n) c m
means (MoveIf cc to from) n c m = moved-if cc to from (next_address m.eip n) c m
means (Flag change) n c m = flag-changed change (next_address m.eip n) c m
means LoadStatus n c m = status-loaded (next_address m.eip n) c m
means StoreStatus n c m = status-stored (next_address m.eip n) c m
means (Element kind w seg again) n c m = string-done kind w seg again (next_address m.eip n) c m
means Nothing n c m = refl
means (Stop kind) n c m = refl

-- the list of an instruction at EIP
pub lifted-means : (i : Instr) (n at : ℕ) (c : Choice) (m : MachineState) → m.eip ≡ at → run (lifted (operation_of i) at n) c m ≡ ended m (does i n c m)
lifted-means i n at c m is =
    let P : ℕ → Type 0 = λ a. run (lifted (operation_of i) a n) c m ≡ ended m (does i n c m) in
    subst P is (means (operation_of i) n c m ∙ done-is i n c m)
