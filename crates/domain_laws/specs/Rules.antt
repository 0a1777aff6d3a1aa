-- What the numbers of the operands alone tell of an operator's result: three rules, of which the first that applies counts.
use Rattle.std.specs.Prelude.{ℕ, ◌-◌, ◌^◌, Bool, true, false, ◌||◌, ◌==◌, Option, Some, None, if◌then◌else◌}
use Rattle.std.specs.Option.{option_or}
use Rattle.bit_words.specs.declared.op.Op.{Op}
use Rattle.bit_words.specs.declared.op.Op.TheVariants.{Add, Sub, And, Or, Not, Neg, Shl, Low8, High8, Low16, Sign8, Sign16, Swap, LowBit, HighBit}
use Rattle.bit_words.specs.declared.width.Width.{Width}
use Rattle.bit_words.specs.declared.width.Width.TheVariants.{B32}
use Rattle.bit_words.specs.Width.{bits_of}
use Rattle.bit_words.specs.Operators.{apply_op}
use Rattle.domain_laws.specs.declared.rules.Settled.{Settled}
use Rattle.domain_laws.specs.declared.rules.Settled.TheVariants.{Number, First, Second}

-- the operators that ignore their second operand
abbrev pub has_one_operand : Op → Bool
has_one_operand Not = true
has_one_operand Neg = true
has_one_operand Low8 = true
has_one_operand High8 = true
has_one_operand Low16 = true
has_one_operand Sign8 = true
has_one_operand Sign16 = true
has_one_operand Swap = true
has_one_operand LowBit = true
has_one_operand HighBit = true
has_one_operand op = false

-- an operand is known to be the number k
abbrev pub is_number : Option ℕ → ℕ → Bool
is_number (Some n) k = n == k
is_number None k = false

-- 1. both numbers are known, or the first of an operator with one operand: the operator's value
abbrev pub by_numbers : Op → Width → Option ℕ → Option ℕ → Option Settled
by_numbers op w (Some x) (Some y) = Some (Number (apply_op op w x y))
by_numbers op w (Some x) None = if has_one_operand op then Some (Number (apply_op op w x 0)) else None
by_numbers op w None b = None

-- 2. AND with 0 is 0, and OR with all ones is all ones
abbrev pub by_absorbing_number : Op → Width → Option ℕ → Option ℕ → Option Settled
by_absorbing_number And w a b = if is_number a 0 || is_number b 0 then Some (Number 0) else None
by_absorbing_number Or w a b =
    if is_number a (2 ^ bits_of w - 1) || is_number b (2 ^ bits_of w - 1) then Some (Number (2 ^ bits_of w - 1)) else None
by_absorbing_number op w a b = None

-- 3. at 32 bits, what 0 is added to, subtracted from, or shifts left
abbrev pub by_neutral_number : Op → Width → Option ℕ → Option ℕ → Option Settled
by_neutral_number Add B32 a b = if is_number b 0 then Some First else (if is_number a 0 then Some Second else None)
by_neutral_number Sub B32 a b = if is_number b 0 then Some First else None
by_neutral_number Shl B32 a b = if is_number b 0 then Some First else None
by_neutral_number op w a b = None

unfoldable pub settled : Op → Width → Option ℕ → Option ℕ → Option Settled
settled op w a b = option_or (by_numbers op w a b) (option_or (by_absorbing_number op w a b) (by_neutral_number op w a b))

-- a result in a domain, of the operands a and b
abbrev pub settled_value : {D : Type 0} → (ℕ → D) → D → D → Settled → D
settled_value number a b (Number n) = number n
settled_value number a b First = a
settled_value number a b Second = b

-- the result that the rules tell, and else the rest
abbrev pub or_settled : {D : Type 0} → (ℕ → D) → D → D → Option Settled → D → D
or_settled number a b (Some s) rest = settled_value number a b s
or_settled number a b None rest = rest
