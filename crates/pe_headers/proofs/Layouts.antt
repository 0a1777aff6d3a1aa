-- Pieces that use no byte outside their file, and the faults of a layout.
use Rattle.std.proofs.Common.{ℕ, ◌≡◌, ◌<◌, Bool, true, false, cond, List, [], ◌∷◌, length, filter, map, get_or, Option, Some, ap, ◌∙◌, refl, All}
use Rattle.std.specs.Prelude.{◌&&◌, ◌==◌, not}
use Rattle.std.specs.List.{list_all, list_any}
use Rattle.std.specs.Option.{option_map}
use Rattle.std.proofs.lemmas.List.Folds.{list_any_at}
use Rattle.std.proofs.lemmas.List.Elements.{All-head, All-tail}
use Rattle.memory_map.specs.Map.{map_fault}
use Rattle.memory_map.specs.declared.fault.MapFault.{MapFault}
use Rattle.file_pieces.specs.Found.{passes_end}
use Rattle.file_pieces.specs.Layout.{IsPiece, is_mapped, layout, range_of_piece}
use Rattle.file_pieces.proofs.Layouts.{length-bytes_of}
use Rattle.file_pieces.specs.declared.piece.Piece.{Piece}
use Rattle.pe_headers.specs.Layout.{IsSized, ranges_of, uses_bytes_outside, layout_fault, fault_of_map, maps_bytes}
use Rattle.pe_headers.specs.declared.fault.PeFault.TheVariants.{RawOutside}

-- what is so of no element is not so of the one at an index
none_at : {X : Type 0} (p : X → Bool) (xs : List X) (i : ℕ) (d : X) (t : Bool) → i < length xs → list_any p xs ≡ false → p (get_or xs i d) ≡ t → t ≡ false
none_at p xs i d true lt none e = let some = list_any_at p xs i d lt e in cc
none_at p xs i d false lt none e = refl

pub are_pieces : (file : List ℕ) (list : List Piece) → list_any (λ p. passes_end (length file) p.offset p.file_size) list ≡ false → All IsSized list → All (IsPiece file) list
are_pieces file list none sized = λ k d lt. record {
  address = (sized k d lt).address;
  within = (sized k d lt).within;
  inside = none_at (λ (p : Piece). passes_end (length file) p.offset p.file_size) list k d _ lt none refl;
}

pub layout_fault-outside : (file : List ℕ) → uses_bytes_outside file ≡ true → layout_fault file ≡ Some RawOutside
layout_fault-outside file h = ap (λ t. cond t (Some RawOutside) (option_map fault_of_map (map_fault (ranges_of file)))) h

pub layout_fault-map : (file : List ℕ) (fault : Option MapFault) → uses_bytes_outside file ≡ false → map_fault (ranges_of file) ≡ fault → layout_fault file ≡ option_map fault_of_map fault
layout_fault-map file fault h k = ap (λ t. cond t (Some RawOutside) (option_map fault_of_map (map_fault (ranges_of file)))) h ∙ ap (option_map fault_of_map) k

-- what pieces map has bytes
pub some_bytes : (file : List ℕ) (list : List Piece) → All (IsPiece file) list → list_all maps_bytes (layout file list) ≡ true
some_bytes file [] all = refl
some_bytes file (p ∷ ps) all = by (is_mapped p) refl (length-bytes_of file p (All-head (IsPiece file) p ps all)) (some_bytes file ps (All-tail (IsPiece file) p ps all))
  where
    by : (t : Bool) → is_mapped p ≡ t → length (range_of_piece file p).bytes ≡ p.size → list_all maps_bytes (layout file ps) ≡ true
        → list_all maps_bytes (map (range_of_piece file) (cond t (p ∷ filter is_mapped ps) (filter is_mapped ps))) ≡ true
    by true e size rest = ap (λ n. not (n == 0) && list_all maps_bytes (layout file ps)) size ∙ ap (λ b. b && list_all maps_bytes (layout file ps)) e ∙ rest
    by false e size rest = rest
