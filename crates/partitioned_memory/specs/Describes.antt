-- When the parts are right about the bytes of memory, by the places of a run.
-- Memory is a function from addresses to bytes; where nothing is mapped it may be anything.
use Rattle.std.specs.Prelude.{◌≡◌, ℕ, ◌+◌, ◌*◌, Bool, true, false, not, ◌&&◌, List, Some, ℤ, pos, negsuc, ◌+ℤ◌, is_some, int_lt, ◌≤ℤ◌, All, ◌⊎◌, ◌↔◌}
use Rattle.std.specs.List.{list_any}
use Rattle.bit_words.specs.declared.width.Width.{Width}
use Rattle.bit_words.specs.declared.width.Width.TheVariants.{B8, B16, B32}
use Rattle.memory_map.specs.declared.span.Span.{Span}
use Rattle.memory_map.specs.Range.{Range, byte_at, end_of}
use Rattle.address_regions.specs.declared.region.Region.{Region}
use Rattle.address_regions.specs.declared.region.Region.TheVariants.{Stack}
use Rattle.address_regions.specs.Extents.{high_of, is_in_extent, low_of}
use Rattle.address_regions.specs.Places.{Places, HasBase, place_at, SameWindows}
use Rattle.address_regions.specs.Same.{same_region}
use Rattle.domain_laws.specs.Laws.{Values}
use Rattle.partitioned_memory.specs.declared.area.Area.{Area}
use Rattle.partitioned_memory.specs.declared.area.Area.TheVariants.{Image, In}
use Rattle.partitioned_memory.specs.declared.area.Interval.{Interval}
use Rattle.partitioned_memory.specs.declared.fact.Fact.{Fact}
use Rattle.partitioned_memory.specs.declared.fact.Counted.{Counted}
use Rattle.partitioned_memory.specs.Areas.{has_byte, is_zeroed}
use Rattle.partitioned_memory.specs.Lists.{Every}
use Rattle.partitioned_memory.specs.Held.{PartsHeld, interval_of_fact, known_byte}

-- ---- bytes and their addresses

-- an area begins at a base: the image at address 0, and a region at each of its bases
abbrev pub StartsAt : Places → Area → ℕ → Type 0
StartsAt p Image base = base ≡ 0
StartsAt p (In r) base = HasBase p r base

-- an address is one of the image's segments
abbrev pub is_image_byte : List Range → ℤ → Bool
is_image_byte ranges (pos a) = is_some (byte_at ranges a)
is_image_byte ranges (negsuc a) = false

-- an offset is that of a byte of an area
abbrev pub is_byte_of : List Range → Area → ℤ → Bool
is_byte_of ranges Image o = is_image_byte ranges o
is_byte_of ranges (In r) o = is_in_extent r o

-- the bytes of an interval are bytes of its area
pub record AreBytes (ranges : List Range) (i : Interval) : Type 0 where
  pub each : (o : ℤ) → has_byte i i.area o ≡ true → is_byte_of ranges i.area o ≡ true

-- no two bytes of the areas share an address: the segments, the windows and the blocks lie apart
pub record IsApart (ranges : List Range) (p : Places) : Type 0 where
  pub one : (a c : Area) (o q : ℤ) (base other : ℕ) → StartsAt p a base → StartsAt p c other → is_byte_of ranges a o ≡ true → is_byte_of ranges c q ≡ true → place_at base o ≡ place_at other q → (a ≡ c) × (base ≡ other) × (o ≡ q)

-- the windows and the blocks lie apart from each other and from the segments
pub record IsSpread (ranges : List Range) (p : Places) : Type 0 where
  pub segments : All (λ t. (r : Region) (x : ℕ) → HasBase p r x → (pos (end_of t) ≤ℤ (pos x +ℤ low_of r)) ⊎ ((pos x +ℤ high_of r) ≤ℤ pos t.low)) ranges
  pub windows : (r s : Region) (x y : ℕ) → HasBase p r x → HasBase p s y → ((r ≡ s) × (x ≡ y)) ⊎ (((pos x +ℤ high_of r) ≤ℤ (pos y +ℤ low_of s)) ⊎ ((pos y +ℤ high_of s) ≤ℤ (pos x +ℤ low_of r)))

-- the number of two bytes from an offset on, the lowest first
abbrev pub half_in : (ℕ → ℕ) → ℕ → ℤ → ℕ
half_in b base o = b (place_at base o) + 256 * b (place_at base (o +ℤ pos 1))

-- the number of a width
abbrev pub number_in : (ℕ → ℕ) → ℕ → ℤ → Width → ℕ
number_in b base o B8 = b (place_at base o)
number_in b base o B16 = half_in b base o
number_in b base o B32 = half_in b base o + 65536 * half_in b base (o +ℤ pos 2)

-- ---- what the parts say of them

-- a fact's value stands for the number in memory, at every base of its area
abbrev pub IsTrueOf : {D : Type 0} → Values D → Places → (ℕ → ℕ) → Fact D → Type 0
IsTrueOf d p b f = (base : ℕ) → StartsAt p f.area base → d.stands f.value p (number_in b base f.low f.w)

-- a region counts One
abbrev pub counts_one : Region → List Counted → Bool
counts_one r blocks = list_any (λ c. same_region c.region r && not c.many) blocks

-- the parts describe the bytes by places
pub record IsDescribed {D : Type 0} (d : Values D) (ranges : List Range) (unset : List Span) (p : Places) (h : PartsHeld D) (b : ℕ → ℕ) : Type 0 where
  -- each fact stands, at every block of its region
  pub facts : Every (IsTrueOf d p b) h.facts
  -- the bytes of each fact are bytes of its area, those of an image fact of the segments
  pub within : Every (λ f. AreBytes ranges (interval_of_fact f)) h.facts
  -- bytes of the image that are neither unset nor dirty are as loaded, and bytes of zeroed blocks that are not dirty are 0
  pub clean : (a : Area) (base : ℕ) (o : ℤ) (n : ℕ) → StartsAt p a base → is_byte_of ranges a o ≡ true → known_byte ranges unset h.dirty a o ≡ Some n → b (place_at base o) ≡ n
  -- a region that counts One has one base
  pub single : (r : Region) (base other : ℕ) → counts_one r h.blocks ≡ true → HasBase p r base → HasBase p r other → base ≡ other

-- ---- writes

-- every byte of every area is the same
abbrev pub SameInAreas : List Range → Places → (ℕ → ℕ) → (ℕ → ℕ) → Type 0
SameInAreas ranges p b c = (a : Area) (base : ℕ) (o : ℤ) → StartsAt p a base → is_byte_of ranges a o ≡ true → c (place_at base o) ≡ b (place_at base o)

-- of all bytes, only some of an area were written: those at a base plus offsets that pass a test
abbrev pub IsWritten : ℕ → (ℤ → Bool) → (ℕ → ℕ) → (ℕ → ℕ) → Type 0
IsWritten base test b c = (n : ℕ) → ((o : ℤ) → test o ≡ true → n ≡ place_at base o → ⊥) → c n ≡ b n

-- the bytes of an interval
abbrev pub bytes_in : Interval → ℤ → Bool
bytes_in i o = has_byte i i.area o

-- the bytes of the stack window below an offset
abbrev pub stack_bytes_below : ℤ → ℤ → Bool
stack_bytes_below high o = is_in_extent Stack o && int_lt o high

-- q is p with one more base of a block region; its earlier bases stay where it had a count
pub record GainsBlock (r : Region) (had : Bool) (base : ℕ) (p q : Places) : Type 0 where
  pub windows : SameWindows p q
  pub own : (x : ℕ) → HasBase q r x ↔ ((x ≡ base) ⊎ ((had ≡ true) × HasBase p r x))
  pub others : (s : Region) (x : ℕ) → (s ≡ r → ⊥) → HasBase q s x ↔ HasBase p s x

-- a block is handed out at a base: its bytes are 0 where the region says so, and else anything, and all others stay
pub record IsFresh (r : Region) (base : ℕ) (b c : ℕ → ℕ) : Type 0 where
  pub others : IsWritten base (is_in_extent r) b c
  pub zeroed : is_zeroed r ≡ true → (o : ℤ) → is_in_extent r o ≡ true → c (place_at base o) ≡ 0
