-- The image of a file without a fault of its headers and of what they map.
use Rattle.std.proofs.Common.{ℕ, ◌≡◌, List, Option, Some, None, Result, Ok, Err, sym, ap, ◌∙◌}
use Rattle.memory_map.specs.Range.{Range}
use Rattle.pe_headers.specs.Headers.{image_base}
use Rattle.pe_headers.specs.Layout.{ranges_of, file_fault, import_directory}
use Rattle.pe_headers.specs.declared.fault.PeFault.{PeFault}
use Rattle.pe32_reader.specs.Imports.{Imported, imports_of, and_then}
use Rattle.pe32_reader.specs.Image.{image_of, image_unless, image_with}

module _ (file : List ℕ) where
  pub image_of-fault : (fault : PeFault) → file_fault file ≡ Some fault → image_of file ≡ Err fault
  unfolding image_of
  image_of-fault fault h = ap (image_unless file) h

  pub image_of-imports : (ranges : List Range) (base : ℕ) (directory : Option ℕ) (r : Result Imported PeFault) → file_fault file ≡ None → ranges ≡ ranges_of file → base ≡ image_base file → directory ≡ import_directory file
      → imports_of ranges base directory ≡ r → image_of file ≡ and_then r (λ imported. Ok (image_with file imported))
  unfolding image_of
  image_of-imports ranges base directory r none same at place found =
      ap (image_unless file) none
      ∙ ap (λ i. and_then i (λ imported. Ok (image_with file imported)))
      (ap (λ d. imports_of (ranges_of file) (image_base file) d) (sym place)
      ∙ ap (λ b. imports_of (ranges_of file) b directory) (sym at)
      ∙ ap (λ rs. imports_of rs base directory) (sym same)
      ∙ found)
