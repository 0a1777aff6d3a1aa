-- Bytes of the image that the parts know.
use Rattle.std.specs.Prelude.{ℕ, ◌/◌, ◌%◌, ◌^◌, Bool, ◌&&◌, List, find, Option, None, is_some, option_and_then, ℤ, pos, ◌-ℤ◌, unsigned_abs, if◌then◌else◌}
use Rattle.std.specs.Option.{option_map, option_or}
use Rattle.memory_map.specs.declared.span.Span.{Span}
use Rattle.memory_map.specs.Range.{Range, byte_at}
use Rattle.domain_laws.specs.Laws.{Values}
use Rattle.partitioned_memory.specs.declared.area.Area.TheVariants.{Image}
use Rattle.partitioned_memory.specs.declared.fact.Fact.{Fact}
use Rattle.partitioned_memory.specs.Areas.{has_byte}
use Rattle.partitioned_memory.specs.Held.{PartsHeld, interval_of_fact, known_byte}

module _ {D : Type 0} (d : Values D) where
  -- a fact has the byte at an offset of the image, and is of a number
  abbrev pub is_number_at : ℤ → Fact D → Bool
  is_number_at o f = has_byte (interval_of_fact f) Image o && is_some (d.number_of f.value)

  -- the byte at an offset of a fact of a number, whose lowest byte stands first
  abbrev pub byte_of_fact : ℤ → Fact D → Option ℕ
  byte_of_fact o f = option_map (λ n. n / 256 ^ unsigned_abs (o -ℤ f.low) % 256) (d.number_of f.value)

  -- the byte at an offset of the image, where a fact of a number has it
  abbrev pub byte_held : ℤ → List (Fact D) → Option ℕ
  byte_held o facts = option_and_then (byte_of_fact o) (find (is_number_at o) facts)

  -- the byte at an address of the image, where it is known: that of a fact of a number, and else the loaded one, where it is neither dirty nor unset
  abbrev pub known_image_byte : List Range → List Span → PartsHeld D → ℕ → Option ℕ
  known_image_byte ranges unset h a =
      if is_some (byte_at ranges a) then option_or (byte_held (pos a) h.facts) (known_byte ranges unset h.dirty Image (pos a)) else None
