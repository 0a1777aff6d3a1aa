-- What the parts hold, and what each call makes of it.
use Rattle.std.specs.Prelude.{ℕ, ◌+◌, ◌*◌, Bool, true, false, not, ◌&&◌, ◌||◌, ◌==◌, List, [], ◌∷◌, map, filter, find, fold, Option, Some, None, ℤ, pos, negsuc, ◌+ℤ◌, ◌-ℤ◌, int_lt, int_le, if◌then◌else◌}
use Rattle.std.specs.List.{list_any, list_all}
use Rattle.std.specs.Option.{option_map}
use Rattle.std.specs.Ordering.{int_eq, is_lt}
use Rattle.bit_words.specs.declared.width.Width.{Width}
use Rattle.bit_words.specs.declared.width.Width.TheVariants.{B8, B16, B32}
use Rattle.bit_words.specs.Width.{bytes_of}
use Rattle.memory_map.specs.declared.span.Span.{Span}
use Rattle.memory_map.specs.Range.{Range, byte_at}
use Rattle.memory_map.specs.Spans.{is_in_ranges}
use Rattle.address_regions.specs.declared.region.Region.{Region}
use Rattle.address_regions.specs.declared.region.Region.TheVariants.{Stack}
use Rattle.address_regions.specs.Same.{same_region}
use Rattle.domain_laws.specs.Laws.{Values}
use Rattle.partitioned_memory.specs.declared.area.Area.{Area}
use Rattle.partitioned_memory.specs.declared.area.Area.TheVariants.{Image, In}
use Rattle.partitioned_memory.specs.declared.area.Interval.{Interval}
use Rattle.partitioned_memory.specs.declared.fact.Spot.{Spot}
use Rattle.partitioned_memory.specs.declared.fact.Held.{Held}
use Rattle.partitioned_memory.specs.declared.fact.Fact.{Fact}
use Rattle.partitioned_memory.specs.declared.fact.Dirty.{Dirty}
use Rattle.partitioned_memory.specs.declared.fact.Counted.{Counted}
use Rattle.partitioned_memory.specs.Areas.{area_cmp, same_area, interval_at, interval_to, is_zeroed, is_marked, has_byte, by_area, is_before, is_left, is_off, hull}
use Rattle.partitioned_memory.specs.Lists.{placed}

-- facts, dirty ranges and counts of blocks, each list ascending
pub record PartsHeld (D : Type 0) : Type 0 where
  pub facts : List (Fact D)
  pub dirty : List Dirty
  pub blocks : List Counted

abbrev pub nothing_held : {D : Type 0} → PartsHeld D
nothing_held = record { facts = []; dirty = []; blocks = [] }

-- ---- by spots

abbrev pub spot_at : Area → ℤ → Spot
spot_at a low = record { area = a; low = low }

-- a fact as a pair of its spot and the rest, and back
abbrev pub pair_of_fact : {D : Type 0} → Fact D → Spot × Held D
pair_of_fact f = (record { area = f.area; low = f.low }, record { w = f.w; value = f.value })

abbrev pub fact_at : {D : Type 0} → Spot × Held D → Fact D
fact_at p = record { area = p.0.area; low = p.0.low; w = p.1.w; value = p.1.value }

-- a dirty range as a pair of its spot and its size, and back
abbrev pub pair_of_dirty : Dirty → Spot × ℤ
pair_of_dirty r = (record { area = r.area; low = r.low }, r.size)

abbrev pub dirty_at : Spot × ℤ → Dirty
dirty_at p = record { area = p.0.area; low = p.0.low; size = p.1 }

-- ---- where they lie, and their order

abbrev pub interval_of_fact : {D : Type 0} → Fact D → Interval
interval_of_fact f = interval_at f.area f.low (pos (bytes_of f.w))

abbrev pub interval_of_dirty : Dirty → Interval
interval_of_dirty r = interval_at r.area r.low r.size

-- facts that share no byte, in order
abbrev pub fact_before : {D : Type 0} → Fact D → Fact D → Bool
fact_before f g = is_before (interval_of_fact f) (interval_of_fact g)

-- dirty ranges that neither share a byte nor touch, in order
abbrev pub dirty_before : Dirty → Dirty → Bool
dirty_before r s = is_left (interval_of_dirty r) (interval_of_dirty s)

abbrev pub count_before : Counted → Counted → Bool
count_before c e = by_area (area_cmp (In c.region) (In e.region)) false

-- ---- counts

-- a region has a count
abbrev pub is_counted : Region → List Counted → Bool
is_counted r blocks = list_any (λ c. same_region c.region r) blocks

-- an area is a region that counts many
abbrev pub is_many : Area → List Counted → Bool
is_many Image blocks = false
is_many (In r) blocks = list_any (λ c. same_region c.region r && c.many) blocks

abbrev pub one_block : Region → Counted
one_block r = record { region = r; many = false }

abbrev pub counted_again : Region → Counted → Counted
counted_again r c = if same_region c.region r then record { region = c.region; many = true } else c

-- one more block of a region: the count One where it had none, else Many
abbrev pub counted_more : Region → List Counted → List Counted
counted_more r blocks = if is_counted r blocks then map (counted_again r) blocks else placed count_before (one_block r) blocks

-- ---- facts

-- a fact is that of a spot and a width
abbrev pub is_at : {D : Type 0} → Area → ℤ → Width → Fact D → Bool
is_at a low w f = same_area f.area a && (int_eq f.low low && (bytes_of f.w == bytes_of w))

-- the value of the fact of a spot and a width
abbrev pub found : {D : Type 0} → Area → ℤ → Width → List (Fact D) → Option D
found a low w facts = option_map (λ f. f.value) (find (is_at a low w) facts)

-- the facts that share no byte with an interval
abbrev pub facts_off : {D : Type 0} → Interval → List (Fact D) → List (Fact D)
facts_off i facts = filter (λ f. is_off (interval_of_fact f) i) facts

-- the facts with one more; a value of rank 0 is kept in none, and nothing at one place of a region that counts many
abbrev pub facts_with : {D : Type 0} → Values D → List Counted → Fact D → List (Fact D) → List (Fact D)
facts_with d blocks f facts = if d.rank f.value == 0 || is_many f.area blocks then facts else placed fact_before f facts

-- the facts without those of a region
abbrev pub facts_outside : {D : Type 0} → Region → List (Fact D) → List (Fact D)
facts_outside r facts = filter (λ f. not (same_area f.area (In r))) facts

-- the facts when there is one more block of a region: where there was one already, its facts go
abbrev pub facts_beside : {D : Type 0} → Region → List Counted → List (Fact D) → List (Fact D)
facts_beside r blocks facts = if is_counted r blocks then facts_outside r facts else facts

-- the fact, with a value where it is that of a spot and a width
abbrev pub fact_given : {D : Type 0} → Area → ℤ → Width → D → Fact D → Fact D
fact_given a low w v f = if is_at a low w f then record { area = f.area; low = f.low; w = f.w; value = v } else f

-- the facts, that of a spot and a width with a value, or without it where the value has rank 0
abbrev pub facts_put : {D : Type 0} → Values D → Area → ℤ → Width → D → List (Fact D) → List (Fact D)
facts_put d a low w v facts = if d.rank v == 0 then filter (λ f. not (is_at a low w f)) facts else map (fact_given a low w v) facts

-- the value of what is held at a spot, where it is of a width
abbrev pub value_of_width : {D : Type 0} → Width → Option (Held D) → Option D
value_of_width w None = None
value_of_width w (Some h) = if bytes_of h.w == bytes_of w then Some h.value else None

-- a fact of the stack with a byte below an offset
abbrev pub is_stack_below : {D : Type 0} → ℤ → Fact D → Bool
is_stack_below high f = same_area f.area (In Stack) && int_lt f.low high

-- a fact that neither is one of those nor lies before the stack
abbrev pub is_after_below : {D : Type 0} → ℤ → Fact D → Bool
is_after_below high f = not (is_lt (area_cmp f.area (In Stack))) && not (is_stack_below high f)

-- ---- dirty ranges

abbrev pub dirty_of : Interval → Dirty
dirty_of i = record { area = i.area; low = i.low; size = i.end -ℤ i.low }

-- the dirty ranges with one more: those to its left stay, those that it meets or touches become one with it, and the rest stay
abbrev pub dirty_with : Interval → List Dirty → List Dirty
dirty_with i [] = dirty_of i ∷ []
dirty_with i (r ∷ rs) =
    if is_left (interval_of_dirty r) i then r ∷ dirty_with i rs
    else if is_left i (interval_of_dirty r) then dirty_of i ∷ r ∷ rs
    else dirty_with (hull i (interval_of_dirty r)) rs

-- an interval and dirty ranges as one
abbrev pub hull_of : Interval → List Dirty → Interval
hull_of i rs = fold (λ j r. hull j (interval_of_dirty r)) i rs

-- the same in the image and in zeroed blocks; elsewhere nothing is marked
abbrev pub dirty_after : Interval → List Dirty → List Dirty
dirty_after i dirty = if is_marked i.area then dirty_with i dirty else dirty

abbrev pub is_dirty : Area → ℤ → List Dirty → Bool
is_dirty a o dirty = list_any (λ r. has_byte (interval_of_dirty r) a o) dirty

-- ---- bytes that are known without a fact

-- the byte of the image as it was loaded, but for unset ranges
abbrev pub loaded_byte : List Range → List Span → ℤ → Option ℕ
loaded_byte ranges unset (pos a) = if is_in_ranges a unset then None else byte_at ranges a
loaded_byte ranges unset (negsuc a) = None

-- the byte at the start: that of the image, or 0 in a zeroed block
abbrev pub first_byte : List Range → List Span → Area → ℤ → Option ℕ
first_byte ranges unset Image o = loaded_byte ranges unset o
first_byte ranges unset (In r) o = if is_zeroed r then Some 0 else None

-- the byte at the start, where it is not dirty
abbrev pub known_byte : List Range → List Span → List Dirty → Area → ℤ → Option ℕ
known_byte ranges unset dirty a o = if is_dirty a o dirty then None else first_byte ranges unset a o

-- two known numbers as one, the low one counted in units and the high one in units of n
abbrev pub low_with_high : ℕ → Option ℕ → Option ℕ → Option ℕ
low_with_high n (Some low) (Some high) = Some (low + n * high)
low_with_high n (Some low) None = None
low_with_high n None high = None

-- a known number of two bytes, the lowest first
abbrev pub known_half : (ℤ → Option ℕ) → ℤ → Option ℕ
known_half look o = low_with_high 256 (look o) (look (o +ℤ pos 1))

-- a known number of a width
abbrev pub known_number : (ℤ → Option ℕ) → ℤ → Width → Option ℕ
known_number look o B8 = look o
known_number look o B16 = known_half look o
known_number look o B32 = low_with_high 65536 (known_half look o) (known_half look (o +ℤ pos 2))

-- ---- the calls

-- the fact's value; without one the known number, and else any
abbrev pub value_read : {D : Type 0} → Values D → Option D → Option ℕ → D
value_read d (Some v) known = v
value_read d None (Some n) = d.number n
value_read d None None = d.any

-- a load at one known place
abbrev pub read_of : {D : Type 0} → Values D → List Range → List Span → Area → ℤ → Width → PartsHeld D → D
read_of d ranges unset a low w h = value_read d (found a low w h.facts) (known_number (known_byte ranges unset h.dirty a) low w)

-- a store at one known place
abbrev pub after_exact : {D : Type 0} → Values D → Area → ℤ → Width → D → PartsHeld D → PartsHeld D
after_exact d a low w v h =
    let i = interval_at a low (pos (bytes_of w)) in
    record {
      facts = facts_with d h.blocks (record { area = a; low = low; w = w; value = v }) (facts_off i h.facts);
      dirty = dirty_after i h.dirty;
      blocks = h.blocks;
    }

-- any bytes of an interval are written
abbrev pub after_interval : {D : Type 0} → Interval → PartsHeld D → PartsHeld D
after_interval i h = record { facts = facts_off i h.facts; dirty = dirty_after i h.dirty; blocks = h.blocks }

-- any bytes from one offset to another, both included, are written
abbrev pub after_inside : {D : Type 0} → Area → ℤ → ℤ → PartsHeld D → PartsHeld D
after_inside a low high h = if int_lt high low then h else after_interval (interval_to a low high) h

-- the facts of the stack with a byte below an offset go
abbrev pub after_forgetting : {D : Type 0} → ℤ → PartsHeld D → PartsHeld D
after_forgetting high h =
    record { facts = filter (λ f. not (is_stack_below high f)) h.facts; dirty = h.dirty; blocks = h.blocks }

-- a further block of a region: where there was one already, its facts go
abbrev pub after_block : {D : Type 0} → Region → PartsHeld D → PartsHeld D
after_block r h = record { facts = facts_beside r h.blocks h.facts; dirty = h.dirty; blocks = counted_more r h.blocks }

-- the fact of a spot and a width gets a value, and goes where that has rank 0
abbrev pub after_fact : {D : Type 0} → Values D → Area → ℤ → Width → D → PartsHeld D → PartsHeld D
after_fact d a low w v h = record { facts = facts_put d a low w v h.facts; dirty = h.dirty; blocks = h.blocks }

-- ---- covering

-- g has the spot and width of f, and a value below that of f
abbrev pub is_below : {D : Type 0} → Values D → Fact D → Fact D → Bool
is_below d f g = is_at f.area f.low f.w g && d.leq g.value f.value

-- what is held at the spot of f has its width, and a value below that of f
abbrev pub value_below : {D : Type 0} → Values D → Fact D → Option (Held D) → Bool
value_below d f None = false
value_below d f (Some h) = (bytes_of h.w == bytes_of f.w) && d.leq h.value f.value

-- some fact of the list is below f
abbrev pub covers_fact : {D : Type 0} → Values D → List (Fact D) → Fact D → Bool
covers_fact d facts f = list_any (is_below d f) facts

-- the bytes of a dirty range are all among those of another
abbrev pub lies_in_one : Dirty → Dirty → Bool
lies_in_one r q = same_area q.area r.area && (int_le q.low r.low && int_le (r.low +ℤ r.size) (q.low +ℤ q.size))

-- a dirty range lies in one of the list
abbrev pub lies_in : List Dirty → Dirty → Bool
lies_in dirty r = list_any (lies_in_one r) dirty

-- e is of the region of c, and counts One where c does
abbrev pub counts_below : Counted → Counted → Bool
counts_below c e = same_region e.region c.region && (c.many || not e.many)

-- some count of the list is below c
abbrev pub covers_count : List Counted → Counted → Bool
covers_count blocks c = list_any (counts_below c) blocks

-- t covers s: each fact of t has one of s below it, the dirty ranges of s lie in those of t, and each region that t counts is counted in s, One of t by One
abbrev pub covers_held : {D : Type 0} → Values D → PartsHeld D → PartsHeld D → Bool
covers_held d t s =
    list_all (covers_fact d s.facts) t.facts && (list_all (lies_in t.dirty) s.dirty && list_all (covers_count s.blocks) t.blocks)
