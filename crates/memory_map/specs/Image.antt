-- An image as it is loaded: what every file format's reader comes to.
use Rattle.std.specs.Prelude.{ℕ, ◌+◌, ◌*◌, ◌^◌, ◌<◌, ◌≤◌, Bool, true, false, List, Option, IsTrue, length, find, ◌==◌}
use Rattle.std.specs.List.{enumerate_from, list_all}
use Rattle.std.specs.Option.{option_map}
use Rattle.memory_map.specs.declared.span.Span.{Span}
use Rattle.memory_map.specs.declared.format.Format.{Format}
use Rattle.memory_map.specs.declared.format.Format.TheVariants.{Elf, Pe}
use Rattle.memory_map.specs.declared.import_name.ImportName.{ImportName}
use Rattle.memory_map.specs.Alignment.{IsAlignment}
use Rattle.memory_map.specs.Map.{IsMap}
use Rattle.memory_map.specs.Name.{MOST_NAMES}
use Rattle.memory_map.specs.Range.{Range, USER_END, maps_all}

pub record Image : Type 0 where
  pub segments : List Range
  -- bytes that are anything at the start, whatever the file holds there
  pub unset : List Span
  pub entry : ℕ
  pub format : Format
  -- the imported names, in the order of their places
  pub names : List ImportName
  -- the stack pointer is a multiple of it at the start
  pub align : ℕ

abbrev pub is_pe : Format → Bool
is_pe Elf = false
is_pe Pe = true

-- whether the word at the stack pointer is the exit place at the start: the entry of a PE image returns to the system, and that of an ELF image does not return (System V ABI, Intel386 supplement, chapter 3, "Process Initialization")
abbrev pub has_exit_word : Image → Bool
has_exit_word image = is_pe image.format

-- a run that comes here has exited
abbrev pub EXIT_PLACE : ℕ
EXIT_PLACE = USER_END

-- the places of imports stand 16 bytes apart; the first of them, with number 0, is the exit place
abbrev pub place_of : ℕ → ℕ
place_of i = EXIT_PLACE + 16 * i

-- the name whose place an address is; the names have places from number 1 on
unfoldable pub name_at : Image → ℕ → Option (List ℕ)
name_at image a = option_map (λ numbered. numbered.1.name) (find (λ numbered. a == place_of numbered.0) (enumerate_from 1 image.names))

-- whether each byte of a span is mapped
abbrev pub is_mapped : List Range → Span → Bool
is_mapped ranges s = maps_all ranges s.low s.size

-- what every loaded image keeps
pub record IsLoaded (image : Image) : Type 0 where
  pub map : IsMap image.segments
  pub unset : IsTrue (list_all (is_mapped image.segments) image.unset)
  pub names : length image.names ≤ MOST_NAMES
  pub align : IsAlignment image.align
  pub entry : image.entry < 2 ^ 32
