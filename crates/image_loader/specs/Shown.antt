-- An image by its parts.
use Rattle.std.specs.Prelude.{ℕ, List, map}
use Rattle.memory_map.specs.Map.{range_of}
use Rattle.memory_map.specs.Image.{Image}
use Rattle.memory_map.specs.declared.format.Format.{Format}
use Rattle.memory_map.specs.declared.import_name.ImportName.{ImportName}
use Rattle.memory_map.specs.declared.segment.Segment.{Segment}
use Rattle.memory_map.specs.declared.span.Span.{Span}

abbrev pub shown_of : List Segment → List Span → ℕ → Format → List ImportName → ℕ → Image
shown_of segments unset entry format names align = record { segments = map range_of segments; unset = unset; entry = entry; format = format; names = names; align = align }
