-- The flags of sums, differences and logic. Source: Intel manual, volume 1, status flags, and volume 2, ADC, SBB and AND.
use Rattle.std.specs.Prelude.{ℕ, ◌+◌, ◌-◌, ◌%◌, ◌^◌, Bool, false, not, nat_lt, nat_le, ◌==◌, if◌then◌else◌, bit_and, bit_or, count_ones, pos, ◌+ℤ◌, ◌-ℤ◌}
use Rattle.bit_words.specs.declared.width.Width.{Width}
use Rattle.bit_words.specs.declared.flags.Flags.{Flags}
use Rattle.bit_words.specs.Width.{bits_of, cut, signed_of, is_signed}
use Rattle.bit_words.specs.Operators.{one_if}

-- the seven flags, each by itself
pub record FlagBits : Type 0 where
  pub carry : Bool
  pub parity : Bool
  pub adjust : Bool
  pub zero : Bool
  pub sign : Bool
  pub overflow : Bool
  pub direction : Bool

-- ---- the flags as one number: CF PF AF ZF SF OF DF from bit 0 on

-- n where a test holds, else 0
abbrev pub bits_if : Bool → ℕ → ℕ
bits_if t n = if t then n else 0

abbrev pub packed_bits : FlagBits → ℕ
packed_bits f =
    bit_or (bit_or (bit_or (bit_or (bit_or (bit_or (bits_if f.carry 1) (bits_if f.parity 2)) (bits_if f.adjust 4)) (bits_if f.zero 8)) (bits_if f.sign 16)) (bits_if f.overflow 32)) (bits_if f.direction 64)

abbrev pub packed : FlagBits → Flags
packed f = record { 0 = packed_bits f }

abbrev pub carry_of : Flags → Bool
carry_of f = bit_and f.0 1 == 1

abbrev pub parity_of : Flags → Bool
parity_of f = bit_and f.0 2 == 2

abbrev pub adjust_of : Flags → Bool
adjust_of f = bit_and f.0 4 == 4

abbrev pub zero_of : Flags → Bool
zero_of f = bit_and f.0 8 == 8

abbrev pub sign_of : Flags → Bool
sign_of f = bit_and f.0 16 == 16

abbrev pub overflow_of : Flags → Bool
overflow_of f = bit_and f.0 32 == 32

abbrev pub direction_of : Flags → Bool
direction_of f = bit_and f.0 64 == 64

abbrev pub unpacked : Flags → FlagBits
unpacked f = record {
  carry = carry_of f;
  parity = parity_of f;
  adjust = adjust_of f;
  zero = zero_of f;
  sign = sign_of f;
  overflow = overflow_of f;
  direction = direction_of f;
}

-- the flags f, with those that `which` has taken from g
abbrev pub replaced : FlagBits → FlagBits → FlagBits → FlagBits
replaced f which g = record {
  carry = if which.carry then g.carry else f.carry;
  parity = if which.parity then g.parity else f.parity;
  adjust = if which.adjust then g.adjust else f.adjust;
  zero = if which.zero then g.zero else f.zero;
  sign = if which.sign then g.sign else f.sign;
  overflow = if which.overflow then g.overflow else f.overflow;
  direction = if which.direction then g.direction else f.direction;
}

-- ---- the rules

-- an even number of ones in the low byte
abbrev pub has_even_parity : ℕ → Bool
has_even_parity r = count_ones (r % 256) % 2 == 0

-- the top bit of a word
abbrev pub has_sign : Width → ℕ → Bool
has_sign w r = nat_le (2 ^ (bits_of w - 1)) r

-- PF, ZF and SF by a result that fits the width, the others as given, DF clear
abbrev pub flags_by : Width → ℕ → Bool → Bool → Bool → FlagBits
flags_by w r carry adjust overflow = record {
  carry = carry;
  parity = has_even_parity r;
  adjust = adjust;
  zero = r == 0;
  sign = has_sign w r;
  overflow = overflow;
  direction = false;
}

-- the sum of two words and a carry
abbrev pub sum_of : Width → ℕ → ℕ → Bool → ℕ
sum_of w a b c = cut w (cut w a + cut w b + one_if c)

-- ADD and ADC: CF the carry out of the top bit, AF that out of bit 3, OF where the sum of the signed numbers is none of the width
unfoldable pub sum_flags : Width → ℕ → ℕ → Bool → FlagBits
sum_flags w a b c = record {
  carry = nat_le (2 ^ bits_of w) (cut w a + cut w b + one_if c);
  parity = has_even_parity (sum_of w a b c);
  adjust = nat_le 16 (a % 16 + b % 16 + one_if c);
  zero = sum_of w a b c == 0;
  sign = has_sign w (sum_of w a b c);
  overflow = not (is_signed w (signed_of w a +ℤ signed_of w b +ℤ pos (one_if c)));
  direction = false;
}

-- the difference of two words and a borrow
abbrev pub difference_of : Width → ℕ → ℕ → Bool → ℕ
difference_of w a b c = cut w (cut w a + (2 ^ bits_of w - (cut w b + one_if c)))

-- SUB, SBB and CMP: CF the borrow into the top bit, AF that into bit 3, OF where the difference of the signed numbers is none of the width
unfoldable pub difference_flags : Width → ℕ → ℕ → Bool → FlagBits
difference_flags w a b c = record {
  carry = nat_lt (cut w a) (cut w b + one_if c);
  parity = has_even_parity (difference_of w a b c);
  adjust = nat_lt (a % 16) (b % 16 + one_if c);
  zero = difference_of w a b c == 0;
  sign = has_sign w (difference_of w a b c);
  overflow = not (is_signed w (signed_of w a -ℤ signed_of w b -ℤ pos (one_if c)));
  direction = false;
}

-- AND, OR, XOR and TEST: CF and OF clear, AF clear
unfoldable pub logic_flags : Width → ℕ → FlagBits
logic_flags w r = flags_by w (cut w r) false false false
