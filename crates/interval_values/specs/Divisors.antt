-- The greatest common divisor of two numbers.
use Rattle.std.specs.Prelude.{ℕ, suc, zero, ◌+◌, ◌&&◌, if◌then◌else◌}
use Rattle.interval_values.specs.Forms.{is_multiple}

-- the greatest number from n down to 1 of which both are multiples, or 0
abbrev pub common_divisor_to : ℕ → ℕ → ℕ → ℕ
common_divisor_to zero a b = 0
common_divisor_to (suc n) a b = if is_multiple a (suc n) && is_multiple b (suc n) then suc n else common_divisor_to n a b

-- of 0 and x it is x
unfoldable pub gcd : ℕ → ℕ → ℕ
gcd a b = common_divisor_to (a + b) a b
