-- Where the regions lie in one run of the machine.
use Rattle.std.specs.Prelude.{ℕ, ◌%◌, ◌^◌, ◌≡◌, ◌≤◌, ℤ, pos, ◌+ℤ◌, ◌≤ℤ◌, unsigned_abs, List, Contains, Option, Some, None, ⊤}
use Rattle.std.specs.Int.{int_rem_euclid}
use Rattle.address_regions.specs.declared.region.Region.{Region}
use Rattle.address_regions.specs.declared.region.Region.TheVariants.{Stack, Fs, Gs, Block}
use Rattle.memory_map.specs.Alignment.{IsAlignment}
use Rattle.memory_map.specs.Range.{USER_LOW, USER_END}
use Rattle.address_regions.specs.Extents.{low_of, high_of}

-- the alignment of the stack, the bases of the three windows, and the bases of the blocks, each with its region
pub record Places : Type 0 where
  pub align : ℕ
  pub stack : ℕ
  pub fs : ℕ
  pub gs : ℕ
  pub blocks : List (Region × ℕ)

-- b is a base of a region; a pair in `blocks` whose region is no block gives none
abbrev pub HasBase : Places → Region → ℕ → Type 0
HasBase p Stack b = b ≡ p.stack
HasBase p Fs b = b ≡ p.fs
HasBase p Gs b = b ≡ p.gs
HasBase p (Block site size zeroed) b = Contains p.blocks (Block site size zeroed, b)

-- the address at an offset from a base, modulo 2 ^ 32
abbrev pub place_at : ℕ → ℤ → ℕ
place_at b o = unsigned_abs (int_rem_euclid (pos b +ℤ o) (pos (2 ^ 32)))

-- the extent at a base lies where a program's memory may
pub record IsAllowed (r : Region) (b : ℕ) : Type 0 where
  pub low : pos USER_LOW ≤ℤ (pos b +ℤ low_of r)
  pub high : (pos b +ℤ high_of r) ≤ℤ pos USER_END

-- the places that a run can have
pub record IsValid (p : Places) : Type 0 where
  pub alignment : IsAlignment p.align
  pub aligned : p.stack % p.align ≡ 0
  pub allowed : (r : Region) (b : ℕ) → HasBase p r b → IsAllowed r b

-- the same alignment and the same bases of the three windows
pub record SameWindows (p q : Places) : Type 0 where
  pub align : q.align ≡ p.align
  pub stack : q.stack ≡ p.stack
  pub fs : q.fs ≡ p.fs
  pub gs : q.gs ≡ p.gs

-- q has all of p's bases of a region, where one is given
abbrev pub KeepsBases : Option Region → Places → Places → Type 0
KeepsBases None p q = ⊤
KeepsBases (Some r) p q = (b : ℕ) → HasBase p r b → HasBase q r b
