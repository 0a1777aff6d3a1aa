-- The states from which a run of an image may start.
use Rattle.std.specs.Prelude.{ℕ, ◌≡◌, ◌+◌, ◌*◌, ◌%◌, ◌⊎◌, true, false, List, [], ◌∷◌, ◌++◌, length, slice_get, All, AllPairs, IsTrue, Some}
use Rattle.std.specs.List.{AllZip}
use Rattle.memory_map.specs.Range.{Range, byte_at, AreApart, IsInUserSpace, HasBytes}
use Rattle.memory_map.specs.declared.span.Span.{Span}
use Rattle.memory_map.specs.Image.{Image, has_exit_word, EXIT_PLACE}
use Rattle.memory_map.specs.Spans.{is_in_ranges}
use Rattle.memory_map.specs.State.{MachineState, memory, HasWords}

-- the stack window reaches this far below the stack pointer, and this far above it
abbrev pub STACK_BELOW : ℕ
STACK_BELOW = 1048576

abbrev pub STACK_ABOVE : ℕ
STACK_ABOVE = 4096

-- the windows of fs and gs reach this far to either side of their bases
abbrev pub BASE_REACH : ℕ
BASE_REACH = 4096

-- a window round a base: any bytes, which may be read and written and not executed
pub record IsWindow (below above base : ℕ) (r : Range) : Type 0 where
  pub low : r.low + below ≡ base
  pub size : length r.bytes ≡ below + above
  pub write : r.write ≡ true
  pub execute : r.execute ≡ false

-- a segment in memory at the start: as it was loaded, but for bytes that are unset
pub record HoldsLoaded (unset : List Span) (segment held : Range) : Type 0 where
  pub low : held.low ≡ segment.low
  pub size : length held.bytes ≡ length segment.bytes
  pub write : held.write ≡ segment.write
  pub execute : held.execute ≡ segment.execute
  pub bytes : (i : ℕ) → IsTrue (is_in_ranges (segment.low + i) unset) ⊎ (slice_get held.bytes i ≡ slice_get segment.bytes i)

-- the segments lie as loaded, and beside them only the three windows are mapped
pub record MapsExactly (image : Image) (m : MachineState) : Type 0 where
  pub held : List Range
  pub fs_window : Range
  pub gs_window : Range
  pub ranges : m.ranges ≡ held ++ fs_window ∷ gs_window ∷ []
  pub segments : AllZip (HoldsLoaded image.unset) image.segments held
  pub fs : IsWindow BASE_REACH BASE_REACH m.fs fs_window
  pub gs : IsWindow BASE_REACH BASE_REACH m.gs gs_window
  pub stack : IsWindow STACK_BELOW STACK_ABOVE m.registers.esp m.stack

-- the little-endian word at an address
pub record HasWord (ranges : List Range) (a word : ℕ) : Type 0 where
  pub b0 : ℕ
  pub b1 : ℕ
  pub b2 : ℕ
  pub b3 : ℕ
  pub at0 : byte_at ranges a ≡ Some b0
  pub at1 : byte_at ranges (a + 1) ≡ Some b1
  pub at2 : byte_at ranges (a + 2) ≡ Some b2
  pub at3 : byte_at ranges (a + 3) ≡ Some b3
  pub word_is : word ≡ b0 + 256 * b1 + 65536 * b2 + 16777216 * b3

pub record Start (image : Image) (m : MachineState) : Type 0 where
  pub entry : m.eip ≡ image.entry
  pub words : HasWords m
  pub aligned : m.registers.esp % image.align ≡ 0
  pub direction : m.flags.direction ≡ false
  pub mapped : MapsExactly image m
  pub bytes : All HasBytes (memory m)
  pub inside : All IsInUserSpace (memory m)
  pub apart : AllPairs AreApart (memory m)
  pub exit : has_exit_word image ≡ true → HasWord (memory m) m.registers.esp EXIT_PLACE
