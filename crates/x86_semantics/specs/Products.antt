-- Products and quotients (manual, volume 2: DIV, IDIV, IMUL, MUL).
use Rattle.std.specs.Prelude.{ℕ, ◌+◌, ◌*◌, ◌/◌, ◌%◌, ◌^◌, Bool, nat_lt, ◌==◌, if◌then◌else◌, Option, None, Some, ℤ, pos, ◌+ℤ◌, ◌*ℤ◌, int_div, int_rem}
use Rattle.bit_words.specs.declared.width.Width.{Width}
use Rattle.bit_words.specs.declared.op.Op.{Op}
use Rattle.bit_words.specs.declared.op.Op.TheVariants.{Mul}
use Rattle.bit_words.specs.Width.{bits_of, cut, signed_of, is_signed, word_of}
use Rattle.bit_words.specs.Operators.{apply_op}
use Rattle.memory_map.specs.declared.choice.Choice.{Choice}
use Rattle.memory_map.specs.declared.fault.FaultKind.TheVariants as kinds
use Rattle.memory_map.specs.State.{MachineState}
use Rattle.memory_map.specs.declared.registers.TheConstants.{EAX}
use Rattle.x86_syntax.specs.declared.instr.Operand.{Operand}
use Rattle.x86_semantics.specs.declared.flag_rule.FlagRule.{FlagRule}
use Rattle.x86_semantics.specs.declared.flag_rule.FlagRule.TheVariants.{SignedProduct}
use Rattle.x86_semantics.specs.FlagRules.{freed, status_flags}
use Rattle.x86_semantics.specs.Registers.{part, with_part, upper_register}
use Rattle.x86_semantics.specs.Operands.{Ended, Next, Faulted, at_address, with_flags, reading}
use Rattle.x86_semantics.specs.Arithmetic.{flagged}

-- the accumulator and the register above it: AX, DX:AX or EDX:EAX
abbrev pub with_long : Width → ℕ → ℕ → MachineState → MachineState
with_long w low high m = with_part w (upper_register w) high (with_part w EAX low m)

-- MUL, IMUL: both halves of the product with the accumulator
abbrev pub multiply_long : Op → FlagRule → Width → Operand → ℕ → Choice → MachineState → Ended
multiply_long high rule w from next choice m =
    reading m from (λ b. flagged rule w (part w EAX m) b (apply_op Mul w (part w EAX m) b) next choice
    (with_long w (apply_op Mul w (part w EAX m) b) (apply_op high w (part w EAX m) b) m))

-- IMUL with a register to write: the low half
abbrev pub multiply : Width → ℕ → Operand → Operand → ℕ → Choice → MachineState → Ended
multiply w r left right next choice m =
    reading m left (λ a. reading m right (λ b. flagged SignedProduct w a b (apply_op Mul w a b) next choice (with_part w r (apply_op Mul w a b) m)))

-- ---- quotients

-- the dividend of DIV
abbrev pub dividend : Width → MachineState → ℕ
dividend w m = part w (upper_register w) m * 2 ^ bits_of w + part w EAX m

-- the dividend of IDIV: its upper half has the sign
abbrev pub signed_dividend : Width → MachineState → ℤ
signed_dividend w m = signed_of w (part w (upper_register w) m) *ℤ pos (2 ^ bits_of w) +ℤ pos (part w EAX m)

-- the state with quotient and remainder, where the quotient fits
abbrev pub divided_unsigned : Width → ℕ → ℕ → MachineState → Option MachineState
divided_unsigned w x d m = if nat_lt (x / d) (2 ^ bits_of w) then Some (with_long w (x / d) (x % d) m) else None

-- both are truncated towards 0
abbrev pub divided_signed : Width → ℤ → ℤ → MachineState → Option MachineState
divided_signed w x d m = if is_signed w (int_div x d) then Some (with_long w (word_of w (int_div x d)) (word_of w (int_rem x d)) m) else None

-- the state after a division by d, or none where d is 0 or the quotient is out of range
unfoldable pub divided : Bool → Width → ℕ → MachineState → Option MachineState
divided signed w d m =
    if cut w d == 0 then None
    else if signed then divided_signed w (signed_dividend w m) (signed_of w d) m
    else divided_unsigned w (dividend w m) (cut w d) m

abbrev pub on_divided : MachineState → Option MachineState → (MachineState → Ended) → Ended
on_divided m None k = Faulted kinds.Divide m
on_divided m (Some n) k = k n

-- all six status flags are free
abbrev pub divide : Bool → Width → Operand → ℕ → Choice → MachineState → Ended
divide signed w by next choice m =
    reading m by (λ d. on_divided m (divided signed w d m) (λ n. Next (at_address next (with_flags (freed status_flags choice n.flags) n))))
