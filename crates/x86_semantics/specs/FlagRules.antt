-- How the status flags come of operands and results (manual, volume 2, "Flags Affected" of each instruction), and which of them are free.
use Rattle.std.specs.Prelude.{ℕ, ◌-◌, ◌*◌, ◌%◌, ◌^◌, Bool, false, not, nat_le, ◌==◌, if◌then◌else◌, ◌*ℤ◌}
use Rattle.std.specs.Bool.{xor}
use Rattle.std.specs.Int.{bit_at}
use Rattle.bit_words.specs.declared.width.Width.{Width}
use Rattle.bit_words.specs.declared.flags.Flags.{Flags as FlagSet}
use Rattle.bit_words.specs.Width.{bits_of, cut, signed_of, is_signed}
use Rattle.bit_words.specs.Flags.{FlagBits, has_even_parity, sum_flags, difference_flags, logic_flags, has_sign, carry_of, parity_of, adjust_of, zero_of, sign_of, overflow_of}
use Rattle.memory_map.specs.State.{Flags}
use Rattle.memory_map.specs.declared.choice.Choice.{Choice}
use Rattle.x86_semantics.specs.declared.flag_rule.FlagRule.{FlagRule}
use Rattle.x86_semantics.specs.declared.flag_rule.FlagRule.TheVariants.{Sum, SumWithCarry, Difference, DifferenceWithBorrow, Increment, Decrement, Negation, Logic, ShiftLeft, ShiftRight, ShiftRightSigned, ShiftRightDouble, RotateLeft, RotateRight, Product, SignedProduct, BitTest, BitScan, Status}

-- the six status flags as computed, DF as it was
abbrev pub with_status : FlagBits → Flags → Flags
with_status s f = record {
  carry = s.carry;
  parity = s.parity;
  adjust = s.adjust;
  zero = s.zero;
  sign = s.sign;
  overflow = s.overflow;
  direction = f.direction;
}

abbrev pub is_set : ℕ → ℕ → Bool
is_set n k = bit_at n k == 1

-- SF, ZF and PF of a result, AF clear
abbrev pub of_result : Width → ℕ → Bool → Bool → Flags → Flags
of_result w r carry overflow f = record {
  carry = carry;
  parity = has_even_parity (cut w r);
  adjust = false;
  zero = cut w r == 0;
  sign = has_sign w (cut w r);
  overflow = overflow;
  direction = f.direction;
}

-- SHL and SHLD: CF is the last bit out at the top, OF tells at a count of 1 whether the top bit changed
abbrev pub shift_left_flags : Width → ℕ → ℕ → ℕ → Flags → Flags
shift_left_flags w a c r f = let carry = is_set (cut w a) (bits_of w - c) in of_result w r carry (xor (has_sign w (cut w r)) carry) f

-- SHR, SAR and SHRD: CF is the last bit out at the bottom
abbrev pub shift_right_flags : Width → ℕ → ℕ → ℕ → Bool → Flags → Flags
shift_right_flags w a c r overflow f = of_result w r (is_set (cut w a) (c - 1)) overflow f

-- whether the top bit of a word is another than that of its result
abbrev pub changes_sign : Width → ℕ → ℕ → Bool
changes_sign w a r = xor (has_sign w (cut w r)) (has_sign w (cut w a))

-- ROL: CF is the bit that came to the bottom, OF whether it differs from the top bit
abbrev pub rotate_left_flags : Width → ℕ → Flags → Flags
rotate_left_flags w r f = let carry = is_set r 0 in record f { carry = carry; overflow = xor (has_sign w (cut w r)) carry }

-- ROR: CF is the bit that came to the top, OF whether the two top bits differ
abbrev pub rotate_right_flags : Width → ℕ → Flags → Flags
rotate_right_flags w r f = let carry = has_sign w (cut w r) in record f { carry = carry; overflow = xor carry (is_set r (bits_of w - 2)) }

-- a count of 0 changes nothing
abbrev pub unless_zero : ℕ → Flags → Flags → Flags
unless_zero c changed f = if c == 0 then f else changed

-- CF and OF alike
abbrev pub both_by : Bool → Flags → Flags
both_by t f = record f { carry = t; overflow = t }

-- SAHF: the flags are the bits of the byte in AH
abbrev pub by_status : ℕ → Flags → Flags
by_status n f = record {
  carry = is_set n 0;
  parity = is_set n 2;
  adjust = is_set n 4;
  zero = is_set n 6;
  sign = is_set n 7;
  overflow = f.overflow;
  direction = f.direction;
}

-- the flags of a rule, for operands a and b, a result r and the flags before; what is free of them, `free_of` tells
unfoldable pub ruled : FlagRule → Width → ℕ → ℕ → ℕ → Flags → Flags
ruled Sum w a b r f = with_status (sum_flags w a b false) f
ruled SumWithCarry w a b r f = with_status (sum_flags w a b f.carry) f
ruled Difference w a b r f = with_status (difference_flags w a b false) f
ruled DifferenceWithBorrow w a b r f = with_status (difference_flags w a b f.carry) f
ruled Increment w a b r f = record (with_status (sum_flags w a 1 false) f) { carry = f.carry }
ruled Decrement w a b r f = record (with_status (difference_flags w a 1 false) f) { carry = f.carry }
ruled Negation w a b r f = with_status (difference_flags w 0 a false) f
ruled Logic w a b r f = with_status (logic_flags w r) f
ruled ShiftLeft w a b r f = unless_zero (b % 32) (shift_left_flags w a (b % 32) r f) f
ruled ShiftRight w a b r f = unless_zero (b % 32) (shift_right_flags w a (b % 32) r (has_sign w (cut w a)) f) f
ruled ShiftRightSigned w a b r f = unless_zero (b % 32) (shift_right_flags w a (b % 32) r false f) f
ruled ShiftRightDouble w a b r f = unless_zero (b % 32) (shift_right_flags w a (b % 32) r (changes_sign w a r) f) f
ruled RotateLeft w a b r f = unless_zero (b % 32) (rotate_left_flags w r f) f
ruled RotateRight w a b r f = unless_zero (b % 32) (rotate_right_flags w r f) f
ruled Product w a b r f = both_by (nat_le (2 ^ bits_of w) (cut w a * cut w b)) f
ruled SignedProduct w a b r f = both_by (not (is_signed w (signed_of w a *ℤ signed_of w b))) f
ruled BitTest w a b r f = record f { carry = is_set (cut w a) (b % bits_of w) }
ruled BitScan w a b r f = record f { zero = cut w a == 0 }
ruled Status w a b r f = by_status a f

-- ---- free flags

abbrev pub no_flags : FlagSet
no_flags = record { 0 = 0 }

abbrev pub carry_flag : FlagSet
carry_flag = record { 0 = 1 }

abbrev pub adjust_flag : FlagSet
adjust_flag = record { 0 = 4 }

abbrev pub overflow_flag : FlagSet
overflow_flag = record { 0 = 32 }

-- PF, AF, ZF and SF
abbrev pub product_free : FlagSet
product_free = record { 0 = 30 }

-- PF, AF, SF and OF
abbrev pub bit_test_free : FlagSet
bit_test_free = record { 0 = 54 }

-- all but ZF and DF
abbrev pub bit_scan_free : FlagSet
bit_scan_free = record { 0 = 55 }

-- all but DF
abbrev pub status_flags : FlagSet
status_flags = record { 0 = 63 }

-- the flags that a rule leaves free whatever the operands are
abbrev pub free_of : FlagRule → FlagSet
free_of Logic = adjust_flag
free_of ShiftLeft = adjust_flag
free_of ShiftRight = adjust_flag
free_of ShiftRightSigned = adjust_flag
free_of ShiftRightDouble = adjust_flag
free_of Product = product_free
free_of SignedProduct = product_free
free_of BitTest = bit_test_free
free_of BitScan = bit_scan_free
free_of _ = no_flags

-- the flags that a choice gives: CF PF AF ZF SF OF from bit 0 on
abbrev pub chosen : Choice → FlagSet
chosen choice = record { 0 = choice.flags }

-- the flags of a set, but DF, taken from others
abbrev pub freed_by : FlagSet → FlagSet → Flags → Flags
freed_by which g f = record {
  carry = if carry_of which then carry_of g else f.carry;
  parity = if parity_of which then parity_of g else f.parity;
  adjust = if adjust_of which then adjust_of g else f.adjust;
  zero = if zero_of which then zero_of g else f.zero;
  sign = if sign_of which then sign_of g else f.sign;
  overflow = if overflow_of which then overflow_of g else f.overflow;
  direction = f.direction;
}

-- the flags of a set, but DF, taken from the choice
abbrev pub freed : FlagSet → Choice → Flags → Flags
freed which choice f = freed_by which (chosen choice) f

-- the flags after an instruction of a rule
abbrev pub flags_after : FlagRule → Width → ℕ → ℕ → ℕ → Choice → Flags → Flags
flags_after rule w a b r choice f = freed (free_of rule) choice (ruled rule w a b r f)
