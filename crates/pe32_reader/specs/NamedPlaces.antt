-- Addresses at which names were read.
use Rattle.std.specs.Prelude.{ℕ, ◌≡◌, true, List, is_some}
use Rattle.std.specs.BTreeSet.{contains}
use Rattle.std.specs.Ordering.{nat_cmp}
use Rattle.memory_map.specs.Range.{Range}
use Rattle.file_pieces.specs.Found.{name_from}
use Rattle.pe32_reader.specs.declared.named_places.NamedPlaces.{NamedPlaces}
use Rattle.pe32_reader.specs.Imports.{NAME_ROOM}

-- a name begins at each of these addresses
pub record AreNamed (ranges : List Range) (places : NamedPlaces) : Type 0 where
  pub each : (a : ℕ) → contains nat_cmp places.held a ≡ true → is_some (name_from ranges a NAME_ROOM) ≡ true
