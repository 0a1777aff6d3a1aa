-- Shifts and rotations (manual, volume 2: SAL/SAR/SHL/SHR, RCL/RCR/ROL/ROR, SHLD, SHRD). The count is taken modulo 32.
use Rattle.std.specs.Prelude.{ℕ, ◌-◌, ◌%◌, Bool, not, nat_lt, ◌==◌, if◌then◌else◌}
use Rattle.bit_words.specs.declared.width.Width.{Width}
use Rattle.bit_words.specs.declared.op.Op.{Op}
use Rattle.bit_words.specs.declared.op.Op.TheVariants.{Or}
use Rattle.bit_words.specs.declared.flags.Flags.{Flags as FlagSet}
use Rattle.bit_words.specs.Width.{bits_of, cut}
use Rattle.bit_words.specs.Operators.{apply_op}
use Rattle.memory_map.specs.declared.choice.Choice.{Choice}
use Rattle.memory_map.specs.State.{MachineState, Flags}
use Rattle.x86_syntax.specs.declared.instr.Operand.{Operand}
use Rattle.x86_semantics.specs.declared.flag_rule.FlagRule.{FlagRule}
use Rattle.x86_semantics.specs.FlagRules.{flags_after, freed, carry_flag, overflow_flag, status_flags}
use Rattle.x86_semantics.specs.Registers.{part}
use Rattle.x86_semantics.specs.Operands.{Ended, Next, at_address, with_flags, reading, writing}

abbrev pub freed_if : Bool → FlagSet → Choice → Flags → Flags
freed_if t which choice f = if t then freed which choice f else f

-- the flags after a shift of a by c to r: none changes by a count of 0; OF is free but for a count of 1, and a set for one of the width or more
abbrev pub flags_by_count : FlagSet → FlagRule → Width → ℕ → ℕ → ℕ → Choice → Flags → Flags
flags_by_count past rule w a c r choice f =
    if c == 0 then f
    else freed_if (not (nat_lt c (bits_of w))) past choice (freed_if (not (c == 1)) overflow_flag choice (flags_after rule w a c r choice f))

-- past the width CF is free
abbrev pub shifted_flags : FlagRule → Width → ℕ → ℕ → ℕ → Choice → Flags → Flags
shifted_flags rule w a c r choice f = flags_by_count carry_flag rule w a c r choice f

-- the operand is written for every count
abbrev pub shift_by : Op → FlagRule → Width → Operand → ℕ → ℕ → ℕ → Choice → MachineState → Ended
shift_by op rule w to a c next choice m =
    writing m to (apply_op op w a c) (λ n. Next (at_address next (with_flags (shifted_flags rule w a c (apply_op op w a c) choice n.flags) n)))

abbrev pub shift : Op → FlagRule → Width → Operand → Operand → ℕ → Choice → MachineState → Ended
shift op rule w to count next choice m =
    reading m to (λ a. reading m count (λ v. shift_by op rule w to a (v % 32) next choice m))

-- ---- SHLD and SHRD

-- the bits of a moved by c, and behind them those of b
abbrev pub or_of_shifts : Op → Op → Width → ℕ → ℕ → ℕ → ℕ
or_of_shifts op other w a b c = apply_op Or w (apply_op op w a c) (apply_op other w b (bits_of w - c))

-- by a count of the width or more the result is free
abbrev pub double_result : Op → Op → Width → ℕ → ℕ → ℕ → Choice → ℕ
double_result op other w a b c choice = if nat_lt c (bits_of w) then or_of_shifts op other w a b c else cut w choice.eax

-- past the width all six flags are free
abbrev pub double_flags : FlagRule → Width → ℕ → ℕ → ℕ → Choice → Flags → Flags
double_flags rule w a c r choice f = flags_by_count status_flags rule w a c r choice f

-- the operand is written for every count
abbrev pub double_shift_by : FlagRule → Width → Operand → ℕ → ℕ → ℕ → ℕ → Choice → MachineState → Ended
double_shift_by rule w to a c r next choice m = writing m to r (λ n. Next (at_address next (with_flags (double_flags rule w a c r choice n.flags) n)))

abbrev pub double_shift : Op → Op → FlagRule → Width → Operand → ℕ → Operand → ℕ → Choice → MachineState → Ended
double_shift op other rule w to register count next choice m =
    reading m to (λ a. reading m count (λ v.
    double_shift_by rule w to a (v % 32) (double_result op other w a (part w register m) (v % 32) choice) next choice m))
