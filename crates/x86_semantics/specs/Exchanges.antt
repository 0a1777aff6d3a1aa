-- Exchanges with a comparison or a sum (manual, volume 2: CMPXCHG, XADD).
use Rattle.std.specs.Prelude.{ℕ, ◌==◌, Bool, false, if◌then◌else◌}
use Rattle.bit_words.specs.declared.width.Width.{Width}
use Rattle.bit_words.specs.declared.op.Op.TheVariants.{Add, Sub}
use Rattle.bit_words.specs.Width.{cut}
use Rattle.bit_words.specs.Operators.{apply_op}
use Rattle.memory_map.specs.declared.choice.Choice.{Choice}
use Rattle.memory_map.specs.State.{MachineState}
use Rattle.memory_map.specs.declared.registers.TheConstants.{EAX}
use Rattle.x86_syntax.specs.declared.instr.Operand.{Operand}
use Rattle.x86_syntax.specs.declared.instr.Operand.TheVariants.{Register}
use Rattle.x86_semantics.specs.declared.flag_rule.FlagRule.TheVariants.{Sum, Difference}
use Rattle.x86_semantics.specs.Registers.{part, with_part}
use Rattle.x86_semantics.specs.Operands.{Ended, reading, writing}
use Rattle.x86_semantics.specs.Arithmetic.{flagged}

abbrev pub are_equal : Width → ℕ → ℕ → Bool
are_equal w a b = cut w a == cut w b

-- the state with a value in the accumulator, where it was not equal to it
abbrev pub with_accumulator_unless : Bool → Width → ℕ → MachineState → MachineState
with_accumulator_unless same w a m = if same then m else with_part w EAX a m

-- where the accumulator is equal to the place, the place takes the register; else the accumulator takes the place, which is written with its old value
abbrev pub compare_exchange : Operand → Width → ℕ → ℕ → Choice → MachineState → Ended
compare_exchange place w register next choice m =
    reading m place (λ a.
    let same = are_equal w (part w EAX m) a in
    writing m place (if same then part w register m else a) (λ n.
    flagged Difference w (part w EAX m) a (apply_op Sub w (part w EAX m) a) next choice (with_accumulator_unless same w a n)))

-- whether a place is a register itself
abbrev pub is_register_numbered : ℕ → Operand → Bool
is_register_numbered register (Register w r) = r == register
is_register_numbered register _ = false

-- the place takes the sum and the register the place's old value; one register twice takes the sum
abbrev pub exchange_add : Operand → Width → ℕ → ℕ → Choice → MachineState → Ended
exchange_add place w register next choice m =
    reading m place (λ a.
    let sum = apply_op Add w a (part w register m) in
    writing m place sum (λ n.
    flagged Sum w a (part w register m) sum next choice (with_part w register (if is_register_numbered register place then sum else a) n)))
