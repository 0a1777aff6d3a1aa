-- The image of a file: what its headers map, with the place of each import in its slot.
use Rattle.std.specs.Prelude.{ℕ, List, map, fold, Option, Some, None, Result, Ok, Err}
use Rattle.memory_map.specs.Range.{Range}
use Rattle.memory_map.specs.Map.{range_of}
use Rattle.memory_map.specs.Patch.{put_word}
use Rattle.pe_headers.specs.Headers.{image_base}
use Rattle.pe_headers.specs.Layout.{ranges_of, file_fault, entry_of, import_directory}
use Rattle.pe_headers.specs.declared.fault.PeFault.{PeFault}
use Rattle.pe32_reader.specs.Imports.{Imported, imports_of, and_then}
use Rattle.pe32_reader.specs.declared.slots.Slot.{Slot}
use Rattle.pe32_reader.specs.declared.file.PeFile.{PeFile}

-- ranges after each slot received its place in turn
unfoldable pub with_slots : List Range → List Slot → List Range
with_slots ranges slots = fold (λ held slot. put_word slot.at slot.place held) ranges slots

-- an image as it is loaded
pub record PeImage : Type 0 where
  pub base : ℕ
  pub entry : ℕ
  pub ranges : List Range
  pub names : List (List ℕ)

-- the image with these imports
abbrev pub image_with : List ℕ → Imported → PeImage
image_with bytes imported = record {
  base = image_base bytes;
  entry = entry_of bytes;
  ranges = with_slots (ranges_of bytes) imported.slots;
  names = imported.names;
}

abbrev pub image_unless : List ℕ → Option PeFault → Result PeImage PeFault
image_unless bytes (Some fault) = Err fault
image_unless bytes None =
    and_then (imports_of (ranges_of bytes) (image_base bytes) (import_directory bytes)) (λ imported. Ok (image_with bytes imported))

-- the image of a file, or its first fault: of its headers and of what they map, and else of its imports
unfoldable pub image_of : List ℕ → Result PeImage PeFault
image_of bytes = image_unless bytes (file_fault bytes)

-- what a `PeFile` says
abbrev pub shown : PeFile → PeImage
shown file = record { base = file.base; entry = file.entry; ranges = map range_of file.segments; names = file.names }
