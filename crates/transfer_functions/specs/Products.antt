-- Products and quotients, read with values: beside `x86_semantics/specs/Products`. Each is exact where all its inputs are numbers, and else any.
use Rattle.std.specs.Prelude.{ℕ, ◌+◌, ◌*◌, ◌/◌, ◌%◌, ◌^◌, Bool, nat_lt, ◌==◌, if◌then◌else◌, Option, None, Some, ℤ, pos, ◌+ℤ◌, ◌*ℤ◌, int_div, int_rem}
use Rattle.bit_words.specs.declared.width.Width.{Width}
use Rattle.bit_words.specs.declared.op.Op.{Op}
use Rattle.bit_words.specs.declared.op.Op.TheVariants.{Mul}
use Rattle.bit_words.specs.Width.{bits_of, cut, signed_of, is_signed, word_of}
use Rattle.bit_words.specs.Operators.{apply_op}
use Rattle.memory_map.specs.Image.{Image}
use Rattle.memory_map.specs.declared.registers.TheConstants.{EAX}
use Rattle.domain_laws.specs.Laws.{Values}
use Rattle.x86_syntax.specs.declared.instr.Operand.{Operand}
use Rattle.x86_semantics.specs.declared.flag_rule.FlagRule.{FlagRule}
use Rattle.x86_semantics.specs.declared.flag_rule.FlagRule.TheVariants.{SignedProduct}
use Rattle.x86_semantics.specs.Registers.{upper_register}
use Rattle.abstract_state.specs.Flags.{unknown_flags}
use Rattle.abstract_state.specs.State.{Known, with_flags}
use Rattle.abstract_state.specs.Expanding.{Expanded, Path, ended, lands}
use Rattle.transfer_functions.specs.Values.{on_state, part, reading, with_part}
use Rattle.transfer_functions.specs.Arithmetic.{flagged}

-- ---- quotients of numbers

-- quotient and remainder, where the quotient fits
abbrev pub quotients_unsigned : Width → ℕ → ℕ → Option (ℕ × ℕ)
quotients_unsigned w x y = if nat_lt (x / y) (2 ^ bits_of w) then Some (x / y, x % y) else None

-- the same of signed numbers, truncated towards 0
abbrev pub quotients_signed : Width → ℤ → ℤ → Option (ℕ × ℕ)
quotients_signed w x y = if is_signed w (int_div x y) then Some (word_of w (int_div x y), word_of w (int_rem x y)) else None

-- quotient and remainder of the dividend with these halves, where the quotient fits; the divisor is not 0
unfoldable pub quotients : Bool → Width → ℕ → ℕ → ℕ → Option (ℕ × ℕ)
quotients signed w high low by =
    if signed then quotients_signed w (signed_of w high *ℤ pos (2 ^ bits_of w) +ℤ pos low) (signed_of w by)
    else quotients_unsigned w (high * 2 ^ bits_of w + low) (cut w by)

module _ {D : Type 0} (d : Values D) where
  -- an operator at two numbers, and any where one is not known
  abbrev pub exact : Op → Width → Option ℕ → Option ℕ → D
  exact op w (Some x) (Some y) = d.number (apply_op op w x y)
  exact op w (Some x) None = d.any
  exact op w None b = d.any

  abbrev pub product : Op → Width → D → D → D
  product op w a b = exact op w (d.number_of a) (d.number_of b)

module _ {D : Type 0} (d : Values D) (align : ℕ) where
  abbrev pub accumulator : Width → Known D → D
  accumulator w s = part d align w EAX s

  -- the upper half of a dividend
  abbrev pub upper_half : Width → Known D → D
  upper_half w s = part d align w (upper_register w) s

  -- the accumulator and the register above it: AX, DX:AX or EDX:EAX
  abbrev pub with_long : Width → D → D → Known D → Known D
  with_long w low high s = with_part d align w (upper_register w) high (with_part d align w EAX low s)

module _ {D : Type 0} (d : Values D) (image : Image) where
  -- the state with both halves of a product of the accumulator
  abbrev pub multiplied : Op → Width → D → Known D → Known D
  multiplied high w b s =
      with_long d image.align w (product d Mul w (accumulator d image.align w s) b) (product d high w (accumulator d image.align w s) b) s

  -- MUL, IMUL: both halves of the product with the accumulator
  abbrev pub multiply_long : Op → FlagRule → Width → Operand → ℕ → Path D → Expanded D
  multiply_long high rule w from next p =
      reading d image p from (λ b.
      flagged d image rule w (accumulator d image.align w p.state) b (product d Mul w (accumulator d image.align w p.state) b) next (on_state (multiplied high w b) p))

  -- IMUL with a register to write: the low half
  abbrev pub multiply : Width → ℕ → Operand → Operand → ℕ → Path D → Expanded D
  multiply w r left right next p =
      reading d image p left (λ a. reading d image p right (λ b.
      flagged d image SignedProduct w a b (product d Mul w a b) next (on_state (with_part d image.align w r (product d Mul w a b)) p)))

  -- ---- quotients

  -- quotient and remainder in their registers, and nothing known of the six flags
  abbrev pub with_quotients : Width → D → D → Known D → Known D
  with_quotients w quotient remainder s = with_flags (unknown_flags s.flags.direction) (with_long d image.align w quotient remainder s)

  abbrev pub divided : Width → D → D → ℕ → Path D → Expanded D
  divided w quotient remainder next p = lands next (on_state (with_quotients w quotient remainder) p)

  -- where there is a quotient that fits
  abbrev pub on_quotients : Option (ℕ × ℕ) → Width → ℕ → Path D → Expanded D
  on_quotients None w next p = ended p.writes
  on_quotients (Some both) w next p = divided w (d.number both.0) (d.number both.1) next p

  -- by a number other than 0, of a dividend whose halves may be known
  abbrev pub divide_halves : Bool → Width → ℕ → Option ℕ → Option ℕ → ℕ → Path D → Expanded D
  divide_halves signed w by (Some high) (Some low) next p = on_quotients (quotients signed w high low by) w next p
  divide_halves signed w by (Some high) None next p = divided w d.any d.any next p
  divide_halves signed w by None low next p = divided w d.any d.any next p

  abbrev pub divide_known : Bool → Width → ℕ → ℕ → Path D → Expanded D
  divide_known signed w by next p =
      divide_halves signed w by (d.number_of (upper_half d image.align w p.state)) (d.number_of (accumulator d image.align w p.state)) next p

  -- by a value; a divisor of 0 has no next state
  abbrev pub divide_by : Bool → Width → Option ℕ → ℕ → Path D → Expanded D
  divide_by signed w None next p = divided w d.any d.any next p
  divide_by signed w (Some by) next p = if cut w by == 0 then ended p.writes else divide_known signed w by next p

  abbrev pub divide : Bool → Width → Operand → ℕ → Path D → Expanded D
  divide signed w by next p = reading d image p by (λ v. divide_by signed w (d.number_of v) next p)
