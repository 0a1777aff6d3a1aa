-- Jumps, calls and loops: the statements do what the instruction does.
use Rattle.std.proofs.Common.{◌≡◌, ℕ, Bool, true, false, cond, not, ◌&&◌, [], ◌∷◌, ◌++◌, refl, ◌∙◌, ap, ◌==◌, ℤ, ◌+◌, ◌^◌}
use Rattle.std.proofs.Math.Nat.{mod-mod}
use Rattle.std.specs.Int.{cast_unsigned, w32}
use Rattle.memory_map.specs.declared.choice.Choice.{Choice}
use Rattle.memory_map.specs.State.{MachineState}
use Rattle.memory_map.specs.declared.registers.TheConstants.{ECX}
use Rattle.x86_syntax.specs.declared.instr.Cond.{Cond}
use Rattle.x86_syntax.specs.declared.instr.Operand.{Operand}
use Rattle.x86_syntax.specs.declared.instr.Operand.TheVariants.{Register, Number, Memory, Offset}
use Rattle.x86_syntax.specs.Text.{next_address}
use Rattle.x86_semantics.specs.declared.operation.Looping.{Looping}
use Rattle.x86_semantics.specs.declared.operation.Looping.TheVariants.{Counted, Equal, NotEqual}
use Rattle.x86_semantics.specs.Registers.{register, with_register}
use Rattle.x86_semantics.specs.Operands.{Ended, Next, at_address, branch_target, reading}
use Rattle.x86_semantics.specs.Moves.{pushing, below}
use Rattle.x86_semantics.specs.Flow.{jump, targeting, goto, call, return, loop, jump_if_no_count}
use Rattle.statement_lang.specs.declared.stmt.Source.TheVariants as sources
use Rattle.statement_lang.specs.declared.stmt.Test.TheVariants.{Condition, Zero}
use Rattle.statement_lang.specs.declared.stmt.Stmt.TheVariants.{Goto, Branch}
use Rattle.statement_lang.specs.Run.{run}
use Rattle.x86_lifter.specs.Pieces.{places}
use Rattle.x86_lifter.specs.Lists.{none, resolved, going, calling, pushing_of, returning, looping}
use Rattle.x86_lifter.proofs.Values.{run-one}

pub jumped : (cc : Cond) (offset : ℤ) (n : ℕ) (c : Choice) (m : MachineState)
    → run (Branch (Condition cc) (branch_target m.eip n offset) (next_address m.eip n) ∷ []) c m ≡ jump cc offset n m
unfolding run
jumped cc offset n c m = refl

pub jumped-if-no-count : (offset : ℤ) (n : ℕ) (c : Choice) (m : MachineState)
    → run (Branch (Zero (sources.Register ECX)) (branch_target m.eip n offset) (next_address m.eip n) ∷ []) c m ≡ jump_if_no_count offset n m
unfolding run
jumped-if-no-count offset n c m = refl

-- a target that is read as a number
reading-target : (m : MachineState) (target : Operand) (n : ℕ) (k : ℕ → Ended) → reading m (resolved m.eip n target) k ≡ targeting m target n k
reading-target m (Register w r) n k = refl
reading-target m (Number w x) n k = refl
reading-target m (Memory w a) n k = refl
reading-target m (Offset o) n k = ap k (mod-mod (m.eip + n + cast_unsigned w32 o) (2 ^ 32))

pub gone : (target : Operand) (n : ℕ) (c : Choice) (m : MachineState)
    → run (places (resolved m.eip n target) none ++ going (resolved m.eip n target)) c m ≡ goto target n m
gone target n c m =
    run-one (resolved m.eip n target) none (Goto (sources.Temp 2) ∷ []) c m
    ∙ reading-target m target n (λ a. Next (at_address a m))

pub called : (target : Operand) (n : ℕ) (c : Choice) (m : MachineState)
    → run (places (resolved m.eip n target) none ++ calling (resolved m.eip n target) (next_address m.eip n)) c m ≡ call target n m
called target n c m =
    run-one (resolved m.eip n target) none (pushing_of (sources.Number (next_address m.eip n)) (sources.Temp 2)) c m
    ∙ reading-target m target n (λ a. pushing m (next_address m.eip n) (λ p. Next (at_address a p)))

pub returned : (extra : ℕ) (c : Choice) (m : MachineState) → run (returning extra) c m ≡ return extra m
unfolding run
returned extra c m = refl

loop-cases : (on zero : Bool) (there here : ℕ) (m : MachineState)
    → cond on (Next (at_address (cond zero here there) m)) (Next (at_address here m)) ≡ Next (at_address (cond (on && not zero) there here) m)
loop-cases true true there here m = refl
loop-cases true false there here m = refl
loop-cases false zero there here m = refl

pub looped : (kind : Looping) (offset : ℤ) (n : ℕ) (c : Choice) (m : MachineState)
    → run (looping kind (branch_target m.eip n offset) (next_address m.eip n)) c m ≡ loop kind offset n m
unfolding run
looped Counted offset n c m =
    loop-cases true (below (register ECX m) 1 == 0) (branch_target m.eip n offset) (next_address m.eip n) (with_register ECX (below (register ECX m) 1) m)
looped Equal offset n c m =
    (let p = with_register ECX (below (register ECX m) 1) m in loop-cases p.flags.zero (below (register ECX m) 1 == 0) (branch_target m.eip n offset) (next_address m.eip n) p)
looped NotEqual offset n c m =
    (let p = with_register ECX (below (register ECX m) 1) m in loop-cases (not p.flags.zero) (below (register ECX m) 1 == 0) (branch_target m.eip n offset) (next_address m.eip n) p)
