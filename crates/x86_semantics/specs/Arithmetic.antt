-- Sums, differences, logic and their comparisons (manual, volume 2: ADD, ADC, AND, CMP, DEC, INC, NEG, OR, SBB, SUB, TEST, XOR).
use Rattle.std.specs.Prelude.{ℕ}
use Rattle.bit_words.specs.declared.width.Width.{Width}
use Rattle.bit_words.specs.declared.op.Op.{Op}
use Rattle.bit_words.specs.Operators.{apply_op, one_if}
use Rattle.memory_map.specs.declared.choice.Choice.{Choice}
use Rattle.memory_map.specs.State.{MachineState}
use Rattle.x86_syntax.specs.declared.instr.Operand.{Operand}
use Rattle.x86_semantics.specs.declared.flag_rule.FlagRule.{FlagRule}
use Rattle.x86_semantics.specs.FlagRules.{flags_after}
use Rattle.x86_semantics.specs.Operands.{Ended, Next, at_address, with_flags, reading, writing}

-- the flags of a rule, and the next instruction
abbrev pub flagged : FlagRule → Width → ℕ → ℕ → ℕ → ℕ → Choice → MachineState → Ended
flagged rule w a b r next choice m = Next (at_address next (with_flags (flags_after rule w a b r choice m.flags) m))

abbrev pub combine : Op → FlagRule → Width → Operand → Operand → ℕ → Choice → MachineState → Ended
combine op rule w to from next choice m =
    reading m to (λ a. reading m from (λ b. writing m to (apply_op op w a b) (λ n. flagged rule w a b (apply_op op w a b) next choice n)))

-- the operator twice: with the second operand, and with CF
abbrev pub carried : Op → Width → ℕ → ℕ → MachineState → ℕ
carried op w a b m = apply_op op w (apply_op op w a b) (one_if m.flags.carry)

abbrev pub carry : Op → FlagRule → Width → Operand → Operand → ℕ → Choice → MachineState → Ended
carry op rule w to from next choice m =
    reading m to (λ a. reading m from (λ b. writing m to (carried op w a b m) (λ n. flagged rule w a b (carried op w a b m) next choice n)))

abbrev pub compare : Op → FlagRule → Width → Operand → Operand → ℕ → Choice → MachineState → Ended
compare op rule w left right next choice m =
    reading m left (λ a. reading m right (λ b. flagged rule w a b (apply_op op w a b) next choice m))
