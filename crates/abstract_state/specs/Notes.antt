-- The note of a state: the comparison that gave the flags.
use Rattle.std.specs.Prelude.{ℕ, ◌<◌, ◌^◌, ◌==◌, Bool, true, false, ◌&&◌, Option, Some, None, ℤ, pos, ◌+ℤ◌, int_lt, if◌then◌else◌}
use Rattle.std.specs.Ordering.{int_eq}
use Rattle.address_regions.specs.declared.region.Region.TheVariants.{Stack}
use Rattle.partitioned_memory.specs.declared.area.Area.{Area}
use Rattle.partitioned_memory.specs.declared.area.Area.TheVariants.{In}
use Rattle.partitioned_memory.specs.Areas.{IsInside, interval_at, same_area}
use Rattle.abstract_state.specs.declared.note.Note.{Note}
use Rattle.abstract_state.specs.declared.note.Note.TheVariants.{Register, Word}

-- a noted register is one of the eight, a noted word lies in the stack's extent, and what it was compared with is a word
abbrev pub IsWellNote : Note → Type 0
IsWellNote (Register r c) = (r < 8) × (c < 2 ^ 32)
IsWellNote (Word o c) = IsInside (interval_at (In Stack) o (pos 4)) × (c < 2 ^ 32)

-- what the noted register or word was compared with
abbrev pub compared_with : Note → ℕ
compared_with (Register r c) = c
compared_with (Word o c) = c

abbrev pub is_of_register : ℕ → Note → Bool
is_of_register r (Register q c) = q == r
is_of_register r (Word o c) = false

-- the noted word has a byte of an area from one offset on and below another
abbrev pub is_in_bytes : Area → ℤ → ℤ → Note → Bool
is_in_bytes a low end (Register r c) = false
is_in_bytes a low end (Word o c) = same_area a (In Stack) && (int_lt low (o +ℤ pos 4) && int_lt o end)

-- the note, unless it passes a test
abbrev pub note_unless : (Note → Bool) → Option Note → Option Note
note_unless test None = None
note_unless test (Some n) = if test n then None else Some n

abbrev pub same_note : Note → Note → Bool
same_note (Register r c) (Register q e) = r == q && c == e
same_note (Word o c) (Word q e) = int_eq o q && c == e
same_note _ _ = false

-- there is no first note, or it is the second
abbrev pub covers_note : Option Note → Option Note → Bool
covers_note None n = true
covers_note (Some t) (Some s) = same_note t s
covers_note (Some t) None = false
