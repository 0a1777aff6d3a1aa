-- Numbers in decimal, without leading zeros and of any length.
use Rattle.std.specs.Prelude.{ℕ, Bool, false, not, ◌&&◌, ◌==◌, nat_lt, List, [], ◌∷◌, Option, Some, None, option_and_then, option_map, if◌then◌else◌}
use Rattle.std.specs.Char.{is_ascii_digit}
use Rattle.std.specs.Str.{all_ascii_digits}
use Rattle.std.specs.Str.Parse.{digits_value}

-- digits, at least one, and no 0 before others
abbrev pub is_decimal : List ℕ → Bool
is_decimal [] = false
is_decimal (digit ∷ []) = is_ascii_digit digit
is_decimal (first ∷ second ∷ others) = not (first == 48) && all_ascii_digits (first ∷ second ∷ others)

-- the number that a decimal text writes
unfoldable pub decimal_number : List ℕ → Option ℕ
decimal_number text = if is_decimal text then Some (digits_value 10 text) else None

-- whether a decimal text writes this number
abbrev pub decimal_is : ℕ → List ℕ → Option Bool
decimal_is n text = option_map (λ m. m == n) (decimal_number text)

-- the number where it is below a bound
abbrev pub decimal_below : ℕ → List ℕ → Option ℕ
decimal_below bound text = option_and_then (λ n. if nat_lt n bound then Some n else None) (decimal_number text)
