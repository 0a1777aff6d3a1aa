-- The code that a row knows at its location.
use Rattle.std.specs.Prelude.{ℕ, Bool, List, Option, length, nat_lt, option_and_then}
use Rattle.memory_map.specs.Image.{Image}
use Rattle.memory_map.specs.Range.{LONGEST_INSTRUCTION, code_at, code_run, run_of}
use Rattle.domain_laws.specs.Laws.{Values}
use Rattle.partitioned_memory.specs.KnownBytes.{known_image_byte}
use Rattle.abstract_state.specs.State.{Known}

module _ {D : Type 0} (d : Values D) (image : Image) (s : Known D) where
  -- the executable byte of the image at an address, where it is known
  abbrev pub known_code_at : ℕ → Option ℕ
  known_code_at a = option_and_then (λ _. known_image_byte d image.segments image.unset s.parts a) (code_at image.segments a)

  -- the executable bytes of the image from an address on, up to the first that is not known, as many as an instruction may have
  unfoldable pub known_run : ℕ → List ℕ
  known_run a = run_of known_code_at LONGEST_INSTRUCTION a

  -- an executable byte that is not known ended them: there are more executable bytes
  unfoldable pub is_cut : ℕ → Bool
  is_cut a = nat_lt (length (known_run a)) (length (code_run image.segments a))
