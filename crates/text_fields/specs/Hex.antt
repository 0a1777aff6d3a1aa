-- Hexadecimal texts, in upper-case digits.
use Rattle.std.specs.Prelude.{◌≡◌, ℕ, ◌<◌, ◌^◌, All, ◌+◌, ◌-◌, ◌*◌, ◌/◌, ◌%◌, ◌&&◌, ◌==◌, nat_lt, nat_le, if◌then◌else◌, List, [], ◌∷◌, ◌++◌, zero, suc, flat_map, length, Option, Some, None, option_and_then, option_map}

-- 0 to 9, and A to F for 10 to 15
unfoldable pub hex_digit : ℕ → ℕ
hex_digit d = if nat_lt d 10 then 48 + d else 55 + d

-- the last k digits of a number
unfoldable pub hex_digits : ℕ → ℕ → List ℕ
hex_digits zero n = []
hex_digits (suc k) n = hex_digits k (n / 16) ++ hex_digit (n % 16) ∷ []

-- a byte in two digits
unfoldable pub hex2 : ℕ → List ℕ
hex2 b = hex_digits 2 b

-- a word in eight digits
unfoldable pub hex8 : ℕ → List ℕ
hex8 n = hex_digits 8 n

-- two digits for each byte, without spaces
unfoldable pub hex_text : List ℕ → List ℕ
hex_text bytes = flat_map hex2 bytes

-- the text of some bytes
pub record IsHexText (text : List ℕ) : Type 0 where
  pub bytes : List ℕ
  pub small : All (λ b. b < 2 ^ 8) bytes
  pub same : text ≡ hex_text bytes

-- the number of an upper-case digit
unfoldable pub digit_number : ℕ → Option ℕ
digit_number c =
    if nat_le 48 c && nat_le c 57 then Some (c - 48) else (if nat_le 65 c && nat_le c 70 then Some (c - 55) else None)

-- the number that digits write when they follow those of n
abbrev pub number_after : ℕ → List ℕ → Option ℕ
number_after n [] = Some n
number_after n (c ∷ cs) = option_and_then (λ d. number_after (n * 16 + d) cs) (digit_number c)

-- the number that exactly k digits write
abbrev pub hex_number : ℕ → List ℕ → Option ℕ
hex_number k text = if length text == k then number_after 0 text else None

-- the bytes that pairs of digits write
abbrev pub hex_bytes : List ℕ → Option (List ℕ)
hex_bytes [] = Some []
hex_bytes (high ∷ []) = None
hex_bytes (high ∷ low ∷ others) = option_and_then (λ b. option_map (λ bytes. b ∷ bytes) (hex_bytes others)) (number_after 0 (high ∷ low ∷ []))
