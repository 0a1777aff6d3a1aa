-- The calls are right about memory: what a description leads to.
use Rattle.std.specs.Prelude.{◌≡◌, ℕ, ◌^◌, ◌<◌, true, false, List, Some, ℤ, pos, All}
use Rattle.bit_words.specs.declared.width.Width.{Width}
use Rattle.bit_words.specs.Width.{bytes_of}
use Rattle.memory_map.specs.declared.span.Span.{Span}
use Rattle.memory_map.specs.Range.{IsInUserSpace, Range}
use Rattle.address_regions.specs.declared.region.Region.{Region}
use Rattle.address_regions.specs.Extents.{has_one_base}
use Rattle.address_regions.specs.Places.{Places, IsValid}
use Rattle.domain_laws.specs.Laws.{Values}
use Rattle.partitioned_memory.specs.declared.area.Area.{Area}
use Rattle.partitioned_memory.specs.Areas.{interval_at, interval_to, block_in}
use Rattle.partitioned_memory.specs.Held.{PartsHeld, after_block, after_exact, after_forgetting, after_inside, covers_held, is_counted, read_of}
use Rattle.partitioned_memory.specs.KnownBytes.{known_image_byte}
use Rattle.partitioned_memory.specs.Well.{HasCount, IsWell}
use Rattle.partitioned_memory.specs.Describes.{AreBytes, GainsBlock, IsApart, IsDescribed, IsFresh, IsSpread, IsWritten, SameInAreas, StartsAt, bytes_in, number_in, stack_bytes_below}

-- what is read stands for the number in memory
abbrev pub ReadStands : {D : Type 0} → Values D → Type 0
ReadStands {D} d =
    (ranges : List Range) (unset : List Span) (p : Places) (b : ℕ → ℕ) (h : PartsHeld D) (a : Area) (base : ℕ) (low : ℤ) (w : Width) →
    IsValid p → StartsAt p a base → AreBytes ranges (interval_at a low (pos (bytes_of w))) →
    IsDescribed d ranges unset p h b →
    d.stands (read_of d ranges unset a low w h) p (number_in b base low w)

-- a byte of the image that is known is memory's
abbrev pub KnownStands : {D : Type 0} → Values D → Type 0
KnownStands {D} d =
    (ranges : List Range) (unset : List Span) (p : Places) (b : ℕ → ℕ) (h : PartsHeld D) (a n : ℕ) →
    IsValid p → ((c : ℕ) → b c < 256) → a < 2 ^ 32 →
    IsDescribed d ranges unset p h b →
    known_image_byte d ranges unset h a ≡ Some n → b a ≡ n

-- after a store of a number for which the value stands, the new parts describe the bytes by the same places
abbrev pub ExactKeeps : {D : Type 0} → Values D → Type 0
ExactKeeps {D} d =
    (ranges : List Range) (unset : List Span) (p : Places) (b c : ℕ → ℕ) (h : PartsHeld D) (a : Area) (base : ℕ) (low : ℤ) (w : Width) (v : D) →
    IsApart ranges p → StartsAt p a base → AreBytes ranges (interval_at a low (pos (bytes_of w))) → HasCount h.blocks (block_in a) →
    IsWritten base (bytes_in (interval_at a low (pos (bytes_of w)))) b c → d.stands v p (number_in c base low w) →
    IsDescribed d ranges unset p h b →
    IsDescribed d ranges unset p (after_exact d a low w v h) c

-- the same after a write of any bytes from one offset to another
abbrev pub InsideKeeps : {D : Type 0} → Values D → Type 0
InsideKeeps {D} d =
    (ranges : List Range) (unset : List Span) (p : Places) (b c : ℕ → ℕ) (h : PartsHeld D) (a : Area) (base : ℕ) (low high : ℤ) →
    IsApart ranges p → StartsAt p a base → AreBytes ranges (interval_to a low high) →
    IsWritten base (bytes_in (interval_to a low high)) b c →
    IsDescribed d ranges unset p h b →
    IsDescribed d ranges unset p (after_inside a low high h) c

-- the same after a write of any bytes of the stack window below an offset
abbrev pub ForgetKeeps : {D : Type 0} → Values D → Type 0
ForgetKeeps {D} d =
    (ranges : List Range) (unset : List Span) (p : Places) (b c : ℕ → ℕ) (h : PartsHeld D) (high : ℤ) →
    IsApart ranges p → IsWritten p.stack (stack_bytes_below high) b c →
    IsDescribed d ranges unset p h b →
    IsDescribed d ranges unset p (after_forgetting high h) c

-- after a block was handed out, the new parts describe the bytes by the places with its base
abbrev pub BlockKeeps : {D : Type 0} → Values D → Type 0
BlockKeeps {D} d =
    (ranges : List Range) (unset : List Span) (p q : Places) (b c : ℕ → ℕ) (h : PartsHeld D) (r : Region) (base : ℕ) →
    has_one_base r ≡ false → IsWell d h → IsValid p → IsValid q → GainsBlock r (is_counted r h.blocks) base p q →
    IsApart ranges q → IsFresh r base b c →
    IsDescribed d ranges unset p h b →
    IsDescribed d ranges unset q (after_block r h) c

-- parts that cover others describe what those describe, by the same places
abbrev pub CoversDescribes : {D : Type 0} → Values D → Type 0
CoversDescribes {D} d =
    (ranges : List Range) (unset : List Span) (p : Places) (b : ℕ → ℕ) (t s : PartsHeld D) →
    IsValid p → covers_held d t s ≡ true →
    IsDescribed d ranges unset p s b →
    IsDescribed d ranges unset p t b

-- where every byte of every area stays the same, so does the description: other memory may change, as where a block appears beside everything
abbrev pub BesideKeeps : {D : Type 0} → Values D → Type 0
BesideKeeps {D} d =
    (ranges : List Range) (unset : List Span) (p : Places) (b c : ℕ → ℕ) (h : PartsHeld D) →
    SameInAreas ranges p b c →
    IsDescribed d ranges unset p h b →
    IsDescribed d ranges unset p h c

-- windows and blocks that lie apart have no address in common, nor with the segments
abbrev pub SpreadIsApart : Type 0
SpreadIsApart = (ranges : List Range) (p : Places) → IsValid p → All IsInUserSpace ranges → IsSpread ranges p → IsApart ranges p
