-- The 28 operators, as formulas over numbers. Source: Intel manual, volume 2, the operation of the instructions named.
use Rattle.std.specs.Prelude.{ℕ, ◌+◌, ◌-◌, ◌*◌, ◌/◌, ◌%◌, ◌^◌, min, Bool, true, false, nat_lt, ◌==◌, if◌then◌else◌, bit_and, bit_or, bit_xor, ℤ, pos, negsuc, ◌*ℤ◌}
use Rattle.std.specs.Int.{leading_zeros, trailing_zeros, w32}
use Rattle.bit_words.specs.declared.width.Width.{Width}
use Rattle.bit_words.specs.declared.width.Width.TheVariants.{B8, B16}
use Rattle.bit_words.specs.declared.op.Op.{Op}
use Rattle.bit_words.specs.declared.op.Op.TheVariants.{Add, Sub, And, Or, Xor, Not, Neg, Mul, HighU, HighS, Shl, Shr, Sar, Rol, Ror, Eq, Ult, Low8, High8, Low16, PutLow8, PutHigh8, PutLow16, Sign8, Sign16, Swap, LowBit, HighBit}
use Rattle.bit_words.specs.Width.{bits_of, cut, signed_of, modulo, word_of}

-- 1 where a test holds, else 0
abbrev pub one_if : Bool → ℕ
one_if t = if t then 1 else 0

-- an integer divided by 2 ^ c, rounded down
abbrev pub shifted_down : ℤ → ℕ → ℤ
shifted_down (pos n) c = pos (n / 2 ^ c)
shifted_down (negsuc n) c = negsuc (n / 2 ^ c)

-- x of n bits rotated left by c, at most n: its low n - c bits go up by c places, and its high c bits come down
abbrev pub rotated : ℕ → ℕ → ℕ → ℕ
rotated n x c = x % 2 ^ (n - c) * 2 ^ c + x / 2 ^ (n - c)

-- x with its n bits from place k on replaced by the low n bits of y
abbrev pub with_part : ℕ → ℕ → ℕ → ℕ → ℕ
with_part k n x y = x / 2 ^ (k + n) * 2 ^ (k + n) + y % 2 ^ n * 2 ^ k + x % 2 ^ k

-- the four bytes of x in reverse (BSWAP)
abbrev pub bytes_reversed : ℕ → ℕ
bytes_reversed x = x % 256 * 2 ^ 24 + x / 2 ^ 8 % 256 * 2 ^ 16 + x / 2 ^ 16 % 256 * 2 ^ 8 + x / 2 ^ 24 % 256

-- the upper half of the product of x and y as signed numbers: bits w to 2w - 1 of its two's complement (IMUL)
abbrev pub high_signed : Width → ℕ → ℕ → ℕ
high_signed w x y = modulo (signed_of w x *ℤ signed_of w y) (2 ^ (2 * bits_of w)) / 2 ^ bits_of w

-- the place of the least set bit of x, and 0 for 0: as many zeros stand below it (BSF)
abbrev pub lowest_bit : ℕ → ℕ
lowest_bit x = if x == 0 then 0 else trailing_zeros w32 x

-- the place of the greatest set bit of x, and 0 for 0: of 32 bits, those above it are zeros (BSR)
abbrev pub highest_bit : ℕ → ℕ
highest_bit x = if x == 0 then 0 else 31 - leading_zeros w32 x

-- whether the second operand is a count of places, which is taken as given
abbrev pub takes_count : Op → Bool
takes_count Shl = true
takes_count Shr = true
takes_count Sar = true
takes_count Rol = true
takes_count Ror = true
takes_count op = false

-- an operator at operands that fit the width; a shift by the width or more is one by the width
unfoldable pub formula : Op → Width → ℕ → ℕ → ℕ
formula Add w x y = cut w (x + y)
formula Sub w x y = cut w (x + (2 ^ bits_of w - y))
formula And w x y = bit_and x y
formula Or w x y = bit_or x y
formula Xor w x y = bit_xor x y
formula Not w x y = 2 ^ bits_of w - 1 - x
formula Neg w x y = cut w (2 ^ bits_of w - x)
formula Mul w x y = cut w (x * y)
formula HighU w x y = x * y / 2 ^ bits_of w
formula HighS w x y = high_signed w x y
formula Shl w x c = cut w (x * 2 ^ min c (bits_of w))
formula Shr w x c = x / 2 ^ min c (bits_of w)
formula Sar w x c = word_of w (shifted_down (signed_of w x) (min c (bits_of w)))
formula Rol w x c = rotated (bits_of w) x (c % bits_of w)
formula Ror w x c = rotated (bits_of w) x (bits_of w - c % bits_of w)
formula Eq w x y = one_if (x == y)
formula Ult w x y = one_if (nat_lt x y)
formula Low8 w x y = x % 2 ^ 8
formula High8 w x y = x / 2 ^ 8 % 2 ^ 8
formula Low16 w x y = x % 2 ^ 16
formula PutLow8 w x y = cut w (with_part 0 8 x y)
formula PutHigh8 w x y = cut w (with_part 8 8 x y)
formula PutLow16 w x y = cut w (with_part 0 16 x y)
formula Sign8 w x y = word_of w (signed_of B8 x)
formula Sign16 w x y = word_of w (signed_of B16 x)
formula Swap w x y = cut w (bytes_reversed x)
formula LowBit w x y = lowest_bit x
formula HighBit w x y = highest_bit x

-- the second operand: cut to the width where it is no count
abbrev pub operand : Op → Width → ℕ → ℕ
operand op w b = if takes_count op then b else cut w b

-- an operator's value, at operands of any size
unfoldable pub apply_op : Op → Width → ℕ → ℕ → ℕ
apply_op op w a b = formula op w (cut w a) (operand op w b)
