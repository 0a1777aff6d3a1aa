-- Jumps, calls and loops (manual, volume 2: CALL, Jcc, JMP, LOOPcc, RET).
use Rattle.std.specs.Prelude.{ℕ, Bool, true, not, ◌==◌, ◌&&◌, if◌then◌else◌, ℤ}
use Rattle.bit_words.specs.declared.width.Width.TheVariants.{B32}
use Rattle.memory_map.specs.State.{MachineState, Flags}
use Rattle.memory_map.specs.declared.registers.TheConstants.{ECX, ESP}
use Rattle.x86_syntax.specs.declared.instr.Cond.{Cond}
use Rattle.x86_syntax.specs.declared.instr.Operand.{Operand}
use Rattle.x86_syntax.specs.declared.instr.Operand.TheVariants.{Offset}
use Rattle.x86_syntax.specs.Text.{next_address}
use Rattle.x86_semantics.specs.declared.operation.Looping.{Looping}
use Rattle.x86_semantics.specs.declared.operation.Looping.TheVariants.{Counted, Equal, NotEqual}
use Rattle.x86_semantics.specs.Condition.{is_met}
use Rattle.x86_semantics.specs.Registers.{register, with_register}
use Rattle.x86_semantics.specs.Operands.{Ended, Next, at_address, branch_target, loading, reading}
use Rattle.x86_semantics.specs.Moves.{above, below, pushing}

-- taken where the condition is met
abbrev pub jump : Cond → ℤ → ℕ → MachineState → Ended
jump c offset n m = Next (at_address (if is_met c m.flags then branch_target m.eip n offset else next_address m.eip n) m)

-- where a jump or a call goes: by an offset, or to the address that an operand holds
abbrev pub targeting : MachineState → Operand → ℕ → (ℕ → Ended) → Ended
targeting m (Offset o) n k = k (branch_target m.eip n o)
targeting m target n k = reading m target k

abbrev pub goto : Operand → ℕ → MachineState → Ended
goto target n m = targeting m target n (λ a. Next (at_address a m))

-- the target is read first, and then the address after the call is pushed
abbrev pub call : Operand → ℕ → MachineState → Ended
call target n m = targeting m target n (λ a. pushing m (next_address m.eip n) (λ p. Next (at_address a p)))

-- the return address is popped, and then `extra` bytes more
abbrev pub return : ℕ → MachineState → Ended
return extra m =
    loading m B32 (register ESP m) (λ a. Next (at_address a (with_register ESP (above (above (register ESP m) 4) extra) m)))

-- whether ZF lets a loop go on
abbrev pub meets_zero : Looping → Flags → Bool
meets_zero Counted f = true
meets_zero Equal f = f.zero
meets_zero NotEqual f = not f.zero

-- ECX one less, with the count and the state then
abbrev pub counting_down : MachineState → (ℕ → MachineState → Ended) → Ended
counting_down m k = k (below (register ECX m) 1) (with_register ECX (below (register ECX m) 1) m)

-- the loop goes on where ECX has not come to 0 and ZF is as it should
abbrev pub loop : Looping → ℤ → ℕ → MachineState → Ended
loop kind offset n m =
    counting_down m (λ count p. Next (at_address (if meets_zero kind p.flags && not (count == 0) then branch_target m.eip n offset else next_address m.eip n) p))

abbrev pub jump_if_no_count : ℤ → ℕ → MachineState → Ended
jump_if_no_count offset n m = Next (at_address (if register ECX m == 0 then branch_target m.eip n offset else next_address m.eip n) m)
