-- What a reach says of a number.
use Rattle.std.specs.Prelude.{ℕ, ◌≡◌, ◌≤◌, ℤ, ◌≤ℤ◌, Option, None, ⊤}
use Rattle.address_regions.specs.declared.region.Region.{Region}
use Rattle.address_regions.specs.Places.{Places, HasBase, place_at}
use Rattle.address_regions.specs.Extents.{block_of}
use Rattle.domain_laws.specs.declared.reach.Reach.{Reach}
use Rattle.domain_laws.specs.declared.reach.Reach.TheVariants.{Number, Place, Anywhere}

-- x is a place of a region at an offset from low to high
pub record IsPlaceOf (p : Places) (region : Region) (low high : ℤ) (x : ℕ) : Type 0 where
  pub base : ℕ
  pub offset : ℤ
  pub has_base : HasBase p region base
  pub from_low : low ≤ℤ offset
  pub to_high : offset ≤ℤ high
  pub is : x ≡ place_at base offset

-- x lies in a reach
abbrev pub IsReached : Reach → Places → ℕ → Type 0
IsReached (Number low high) p x = (low ≤ x) × (x ≤ high)
IsReached (Place region low high) p x = IsPlaceOf p region low high x
IsReached Anywhere p x = ⊤

-- the low bound is at most the high one
abbrev pub IsProper : Reach → Type 0
IsProper (Number low high) = low ≤ high
IsProper (Place region low high) = low ≤ℤ high
IsProper Anywhere = ⊤

-- the block region that a value of this reach names
abbrev pub named : Reach → Option Region
named (Place region low high) = block_of region
named r = None
