-- Words of a width, as naturals, and the integers that they stand for in two's complement.
use Rattle.std.specs.Prelude.{ℕ, ◌-◌, ◌%◌, ◌^◌, Bool, nat_lt, if◌then◌else◌, ℤ, pos, negsuc}
use Rattle.bit_words.specs.declared.width.Width.{Width}
use Rattle.bit_words.specs.declared.width.Width.TheVariants.{B8, B16, B32}

-- how many bits a width has
abbrev pub bits_of : Width → ℕ
bits_of B8 = 8
bits_of B16 = 16
bits_of B32 = 32

-- how many bytes
abbrev pub bytes_of : Width → ℕ
bytes_of B8 = 1
bytes_of B16 = 2
bytes_of B32 = 4

-- the low bits of a number, as many as the width has
abbrev pub cut : Width → ℕ → ℕ
cut w n = n % 2 ^ bits_of w

-- the integer that the low bits of a number stand for in two's complement: from 2 ^ (bits - 1) on it is that less 2 ^ bits; `negsuc k` is -(k + 1)
abbrev pub signed_of : Width → ℕ → ℤ
signed_of w n =
    if nat_lt (cut w n) (2 ^ (bits_of w - 1)) then pos (cut w n) else negsuc (2 ^ bits_of w - 1 - cut w n)

-- the remainder of an integer by a positive m, from 0 to m - 1
abbrev pub modulo : ℤ → ℕ → ℕ
modulo (pos n) m = n % m
modulo (negsuc n) m = m - 1 - n % m

-- the word of an integer: its low bits in two's complement
abbrev pub word_of : Width → ℤ → ℕ
word_of w z = modulo z (2 ^ bits_of w)

-- whether an integer is a signed number of this width, from -2 ^ (bits - 1) to 2 ^ (bits - 1) - 1
abbrev pub is_signed : Width → ℤ → Bool
is_signed w (pos n) = nat_lt n (2 ^ (bits_of w - 1))
is_signed w (negsuc n) = nat_lt n (2 ^ (bits_of w - 1))
