-- When two bounds and a stride are well-formed: they then stand for the low bound, that and one stride, and so on up to the high bound.
use Rattle.std.specs.Prelude.{ℕ, ◌-◌, ◌%◌, ◌^◌, ℤ, ◌-ℤ◌, unsigned_abs, Bool, ◌&&◌, ◌==◌, nat_lt, nat_le, int_le, if◌then◌else◌}
use Rattle.bit_words.specs.declared.width.Width.TheVariants.{B32}
use Rattle.bit_words.specs.Width.{is_signed}

-- n is a multiple of s; of 0 that is 0 alone, as n % 0 is n
abbrev pub is_multiple : ℕ → ℕ → Bool
is_multiple n s = n % s == 0

-- how far the second integer is above the first
abbrev pub distance : ℤ → ℤ → ℕ
distance low high = unsigned_abs (high -ℤ low)

-- the stride for a distance between the bounds: 0 exactly where that is 0, and else a divisor
abbrev pub is_stride : ℕ → ℕ → Bool
is_stride distance stride = (if distance == 0 then stride == 0 else is_multiple distance stride)

-- of numbers of 32 bits
abbrev pub is_number_span : ℕ → ℕ → ℕ → Bool
is_number_span low high stride = nat_le low high && (nat_lt high (2 ^ 32) && is_stride (high - low) stride)

-- of offsets, which are signed numbers of 32 bits
abbrev pub is_offset_span : ℤ → ℤ → ℕ → Bool
is_offset_span low high stride = int_le low high && (is_signed B32 low && (is_signed B32 high && is_stride (distance low high) stride))
