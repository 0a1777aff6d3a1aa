-- The names of imports.
use Rattle.std.specs.Prelude.{ℕ, Bool, List, ◌&&◌, length, nat_le}
use Rattle.std.specs.List.{list_all}

-- a printable ASCII byte other than the blank
abbrev pub is_name_byte : ℕ → Bool
is_name_byte b = nat_le 0x21 b && nat_le b 0x7E

abbrev pub is_name : List ℕ → Bool
is_name bytes = nat_le 1 (length bytes) && nat_le (length bytes) 4096 && list_all is_name_byte bytes

-- the most names that an image imports
abbrev pub MOST_NAMES : ℕ
MOST_NAMES = 65535
