-- Bits tested and changed, and bits found (manual, volume 2: BT, BTC, BTR, BTS, BSF, BSR).
use Rattle.std.specs.Prelude.{ℕ, ◌%◌, ◌==◌, if◌then◌else◌}
use Rattle.bit_words.specs.declared.width.Width.{Width}
use Rattle.bit_words.specs.declared.op.Op.{Op}
use Rattle.bit_words.specs.declared.op.Op.TheVariants.{And, Or, Xor, Not, Shl}
use Rattle.bit_words.specs.Width.{bits_of, cut}
use Rattle.bit_words.specs.Operators.{apply_op}
use Rattle.memory_map.specs.declared.choice.Choice.{Choice}
use Rattle.memory_map.specs.State.{MachineState}
use Rattle.x86_syntax.specs.declared.instr.Operand.{Operand}
use Rattle.x86_semantics.specs.declared.flag_rule.FlagRule.TheVariants.{BitTest, BitScan}
use Rattle.x86_semantics.specs.declared.operation.BitChange.{BitChange}
use Rattle.x86_semantics.specs.declared.operation.BitChange.TheVariants.{KeepBit, SetBit, ClearBit, FlipBit}
use Rattle.x86_semantics.specs.Registers.{part, with_part}
use Rattle.x86_semantics.specs.Operands.{Ended, reading}
use Rattle.x86_semantics.specs.Arithmetic.{flagged}

-- the bit at a place alone
abbrev pub bit : Width → ℕ → ℕ
bit w i = apply_op Shl w 1 i

-- the state with the bit at a place of a register set, cleared or flipped; BT writes none
abbrev pub with_bit : BitChange → Width → ℕ → ℕ → MachineState → MachineState
with_bit KeepBit w r i m = m
with_bit SetBit w r i m = with_part w r (apply_op Or w (part w r m) (bit w i)) m
with_bit ClearBit w r i m = with_part w r (apply_op And w (part w r m) (apply_op Not w (bit w i) 0)) m
with_bit FlipBit w r i m = with_part w r (apply_op Xor w (part w r m) (bit w i)) m

-- the index counts modulo the width
abbrev pub test_bit : BitChange → Width → ℕ → Operand → ℕ → Choice → MachineState → Ended
test_bit change w register index next choice m =
    reading m index (λ v. flagged BitTest w (part w register m) v 0 next choice (with_bit change w register (v % bits_of w) m))

-- the place of the bit that is looked for, free where no bit is set
abbrev pub found_bit : Op → Width → ℕ → Choice → ℕ
found_bit op w b choice = if cut w b == 0 then cut w choice.eax else apply_op op w b 0

abbrev pub find_bit : Op → Width → ℕ → Operand → ℕ → Choice → MachineState → Ended
find_bit op w register from next choice m =
    reading m from (λ b. flagged BitScan w b 0 (found_bit op w b choice) next choice (with_part w register (found_bit op w b choice) m))
