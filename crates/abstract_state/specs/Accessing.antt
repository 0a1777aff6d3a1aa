-- Loads and stores of a path, by what is known of the address.
use Rattle.std.specs.Prelude.{ℕ, ◌+◌, ◌-◌, ◌==◌, Bool, ◌&&◌, ◌||◌, nat_le, nat_lt, List, map, fold, Option, Some, None, ℤ, pos, ◌+ℤ◌, ◌-ℤ◌, int_le, if◌then◌else◌}
use Rattle.std.specs.Ordering.{int_eq}
use Rattle.bit_words.specs.declared.width.Width.{Width}
use Rattle.bit_words.specs.Width.{bytes_of}
use Rattle.memory_map.specs.declared.span.Span.{Span}
use Rattle.memory_map.specs.Range.{USER_LOW, USER_END, maps_all, may_write, may_write_any, may_write_each}
use Rattle.memory_map.specs.Spans.{runs_of}
use Rattle.memory_map.specs.Image.{Image}
use Rattle.address_regions.specs.declared.region.Region.{Region}
use Rattle.address_regions.specs.declared.region.Region.TheVariants as regions
use Rattle.address_regions.specs.Extents.{low_of, high_of}
use Rattle.domain_laws.specs.declared.reach.Reach.{Reach}
use Rattle.domain_laws.specs.declared.reach.Reach.TheVariants.{Number, Place, Anywhere}
use Rattle.domain_laws.specs.Laws.{Values}
use Rattle.partitioned_memory.specs.declared.area.Area.{Area}
use Rattle.partitioned_memory.specs.declared.area.Area.TheVariants as areas
use Rattle.partitioned_memory.specs.Held.{PartsHeld, after_exact, after_inside, read_of}
use Rattle.flow_log.specs.declared.cause.Cause.{Cause}
use Rattle.flow_log.specs.declared.cause.Cause.TheVariants as causes
use Rattle.abstract_state.specs.declared.stored.Stored.{Stored}
use Rattle.abstract_state.specs.declared.stored.Stored.TheVariants.{Done, Faults, Stopped}
use Rattle.abstract_state.specs.Expanding.{Expanded, Path, Written, ended, stopped, with_writes, with_written}
use Rattle.abstract_state.specs.Notes.{is_in_bytes, note_unless}
use Rattle.abstract_state.specs.State.{Known, with_parts}

-- ---- where an access lies

-- some of n bytes from an address on, n at least 1, is one of the addresses at which nothing is ever mapped
abbrev pub touches_fault_zone : ℕ → ℕ → Bool
touches_fault_zone a n = nat_lt a USER_LOW || nat_lt USER_END (a + n)

-- each of them is
abbrev pub is_in_fault_zone : ℕ → ℕ → Bool
is_in_fault_zone a n = nat_le (a + n) USER_LOW || nat_le USER_END a

-- the bytes from one offset on and below another are bytes of a region
abbrev pub lies_in_extent : Region → ℤ → ℤ → Bool
lies_in_extent r low end = int_le (low_of r) low && int_le end (high_of r)

-- ---- loads

module _ {D : Type 0} (d : Values D) (image : Image) where
  -- what is known of the bytes at one place
  abbrev pub value_at : Area → ℤ → Width → Known D → D
  value_at a low w s = read_of d image.segments image.unset a low w s.parts

  -- a load of bytes that are all image bytes, or not
  abbrev pub loaded_beyond : ℕ → Width → Known D → Option D
  loaded_beyond a w s = if maps_all image.segments a (bytes_of w) then Some (value_at areas.Image (pos a) w s) else Some d.any

  -- a load at one address
  abbrev pub loaded_at : ℕ → Width → Known D → Option D
  loaded_at a w s = if touches_fault_zone a (bytes_of w) then None else loaded_beyond a w s

  -- a load at one place
  abbrev pub loaded_in : Region → ℤ → Width → Known D → D
  loaded_in r low w s = if lies_in_extent r low (low +ℤ pos (bytes_of w)) then value_at (areas.In r) low w s else d.any

  -- a load at a number, or at one of some
  abbrev pub loaded_from : ℕ → ℕ → Width → Known D → Option D
  loaded_from low high w s = if low == high then loaded_at low w s else Some d.any

  -- a load at a place, or at one of some
  abbrev pub loaded_between : Region → ℤ → ℤ → Width → Known D → D
  loaded_between r low high w s = if int_eq low high then loaded_in r low w s else d.any

  abbrev pub loaded_by : Reach → Width → Known D → Option D
  loaded_by (Number low high) w s = loaded_from low high w s
  loaded_by (Place r low high) w s = Some (loaded_between r low high w s)
  loaded_by Anywhere w s = Some d.any

  -- a load at an address of which a value is known: what is known of the word there, or none where the load faults
  unfoldable pub loaded : Width → D → Known D → Option D
  loaded w address s = loaded_by (d.reach address) w s

  abbrev pub after_load : List Written → Option D → (D → Expanded D) → Expanded D
  after_load ws None k = ended ws
  after_load ws (Some v) k = k v

  -- a load of a path, and what follows
  abbrev pub loading : Path D → Width → D → (D → Expanded D) → Expanded D
  loading p w address k = after_load p.writes (loaded w address p.state) k

-- ---- stores

-- any bytes of a range are written in the image
abbrev pub after_span : {D : Type 0} → PartsHeld D → Span → PartsHeld D
after_span h s = after_inside areas.Image (pos s.low) ((pos s.low +ℤ pos s.size) -ℤ pos 1) h

-- the range, as it is recorded
abbrev pub written_of : Span → Written
written_of s = (s.low, s.size)

-- any bytes of some ranges of the image are written
abbrev pub with_spans : {D : Type 0} → List Span → Path D → Path D
with_spans spans p = record {
  state = with_parts (fold after_span p.state.parts spans) p.state;
  writes = with_writes (map written_of spans) p.writes;
}

-- the parts after a write to bytes of a region, from one offset on and below another; a note of a word there goes
abbrev pub with_region_parts : {D : Type 0} → Region → ℤ → ℤ → PartsHeld D → Path D → Path D
with_region_parts r low end h p = record p {
  state = record (p.state) { parts = h; note = note_unless (is_in_bytes (areas.In r) low end) p.state.note };
}

-- why a location is left open by a store that is not wholly in its region
abbrev pub cause_outside : Region → Cause
cause_outside regions.Stack = causes.Stack
cause_outside regions.Fs = causes.Store
cause_outside regions.Gs = causes.Store
cause_outside (regions.Block site size zeroed) = causes.Block

-- a store, and the path after it; a path that could not store is as it was
abbrev pub StoredPath : Type 0 → Type 0
StoredPath D = Stored × Path D

-- a write of n bytes of which nothing is known somewhere in a region, from one offset on or from one of some
abbrev pub any_put : {D : Type 0} → Region → ℤ → ℤ → ℕ → Path D → StoredPath D
any_put r low high n p =
    if lies_in_extent r low (high +ℤ pos n)
    then (Done, with_region_parts r low (high +ℤ pos n) (after_inside (areas.In r) low ((high +ℤ pos n) -ℤ pos 1) p.state.parts) p)
    else (Stopped (cause_outside r), p)

module _ {D : Type 0} (d : Values D) where
  -- the value put at one address of the image
  abbrev pub word_put : ℕ → Width → D → Path D → Path D
  word_put a w v p = record {
    state = with_parts (after_exact d areas.Image (pos a) w v p.state.parts) p.state;
    writes = with_written p.writes (a, bytes_of w);
  }

  -- the parts after the value is put at one place of a region, or at one of some
  abbrev pub region_put : Region → ℤ → ℤ → Width → D → PartsHeld D → PartsHeld D
  region_put r low high w v h =
      if int_eq low high then after_exact d (areas.In r) low w v h
      else after_inside (areas.In r) low ((high +ℤ pos (bytes_of w)) -ℤ pos 1) h

  -- a store at one place of a region, or at one of some
  abbrev pub put_in : Region → ℤ → ℤ → Width → D → Path D → StoredPath D
  put_in r low high w v p =
      if lies_in_extent r low (high +ℤ pos (bytes_of w))
      then (Done, with_region_parts r low (high +ℤ pos (bytes_of w)) (region_put r low high w v p.state.parts) p)
      else (Stopped (cause_outside r), p)

module _ {D : Type 0} (d : Values D) (image : Image) where
  abbrev pub with_word : ℕ → Width → D → Path D → Path D
  with_word = word_put d

  abbrev pub region_parts : Region → ℤ → ℤ → Width → D → PartsHeld D → PartsHeld D
  region_parts = region_put d

  abbrev pub stored_in : Region → ℤ → ℤ → Width → D → Path D → StoredPath D
  stored_in = put_in d

  -- a store at one address
  abbrev pub stored_at : ℕ → Width → D → Path D → StoredPath D
  stored_at a w v p =
      if touches_fault_zone a (bytes_of w) then (Faults, p)
      else if maps_all image.segments a (bytes_of w)
      then (if may_write_each image.segments a (bytes_of w) then (Done, with_word a w v p) else (Faults, p))
      else (Stopped causes.Store, p)

  -- a store of any bytes somewhere among `size` bytes from an address on: of image bytes, those that may be written
  abbrev pub stored_among : ℕ → ℕ → Path D → StoredPath D
  stored_among a size p =
      if is_in_fault_zone a size then (Faults, p)
      else if maps_all image.segments a size
      then (if may_write_any image.segments a size then (Done, with_spans (runs_of (may_write image.segments) a size) p) else (Faults, p))
      else (Stopped causes.Store, p)

  -- a store at a number, or at one of some
  abbrev pub stored_from : ℕ → ℕ → Width → D → Path D → StoredPath D
  stored_from low high w v p = if low == high then stored_at low w v p else stored_among low ((high + bytes_of w) - low) p

  abbrev pub stored_by : Reach → Width → D → Path D → StoredPath D
  stored_by (Number low high) w v p = stored_from low high w v p
  stored_by (Place r low high) w v p = stored_in r low high w v p
  stored_by Anywhere w v p = (Stopped causes.Store, p)

  -- a store of a value at an address of which a value is known
  unfoldable pub stored : Width → D → D → Path D → StoredPath D
  stored w address v p = stored_by (d.reach address) w v p

  abbrev pub any_put_in : Region → ℤ → ℤ → ℕ → Path D → StoredPath D
  any_put_in = any_put

  abbrev pub any_stored_by : Reach → ℕ → Path D → StoredPath D
  any_stored_by (Number low high) n p = stored_among low ((high + n) - low) p
  any_stored_by (Place r low high) n p = any_put_in r low high n p
  any_stored_by Anywhere n p = (Stopped causes.Store, p)

  -- a write of n bytes of which nothing is known, n at least 1, from an address on of which a value is known; it adds no fact
  unfoldable pub any_stored : D → ℕ → Path D → StoredPath D
  any_stored address n p = any_stored_by (d.reach address) n p

  abbrev pub after_store : StoredPath D → (Path D → Expanded D) → Expanded D
  after_store (Done, p) k = k p
  after_store (Faults, p) k = ended p.writes
  after_store (Stopped c, p) k = stopped c p.writes

  -- a store of a path, and what follows
  abbrev pub storing : Path D → Width → D → D → (Path D → Expanded D) → Expanded D
  storing p w address v k = after_store (stored w address v p) k
