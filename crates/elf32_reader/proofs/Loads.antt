-- What the tests of segments come to.
use Rattle.std.proofs.Common.{ℕ, ◌≡◌, ◌⊎◌, inl, inr, Bool, true, false, List, [], ◌∷◌, map, Some, None, refl, sym, ap, ◌∙◌, subst}
use Rattle.std.specs.Prelude.{◌||◌, All, Result, Ok, Err, MatchResult}
use Rattle.std.specs.Option.{option_map}
use Rattle.std.specs.List.{list_any}
use Rattle.std.proofs.lemmas.Bool.{ltb-false}
use Rattle.std.proofs.lemmas.List.Elements.{All-nil, All-cons, All-head, All-tail}
use Rattle.memory_map.specs.Map.{range_of, map_fault}
use Rattle.memory_map.specs.declared.segment.Segment.{Segment}
use Rattle.file_pieces.specs.Layout.{IsPiece, HasAddress, layout}
use Rattle.file_pieces.specs.declared.piece.Piece.{Piece}
use Rattle.elf32_reader.specs.declared.fault.ElfFault.{ElfFault}
use Rattle.elf32_reader.specs.declared.program_header.ProgramHeader.{ProgramHeader}
use Rattle.elf32_reader.specs.Headers.{bias_of, loads}
use Rattle.elf32_reader.specs.Segments.{elf_fault_of, is_file_longer, is_outside, piece_of, segments, segments_fault}

pub or-parts : (a b : Bool) → (a || b) ≡ false → (a ≡ false) × (b ≡ false)
or-parts false b h = (refl, h)
or-parts true b h = cc

pub pieces_fit : (file : List ℕ) (bias : ℕ) (hs : List ProgramHeader) → All HasAddress (map (piece_of bias) hs) → list_any (is_outside file) hs ≡ false → list_any is_file_longer hs ≡ false → All (IsPiece file) (map (piece_of bias) hs)
pieces_fit file bias [] at inside within = All-nil (IsPiece file)
pieces_fit file bias (h ∷ hs) at inside within =
    let here = or-parts (is_outside file h) (list_any (is_outside file) hs) inside in
    let size = or-parts (is_file_longer h) (list_any is_file_longer hs) within in
    All-cons (IsPiece file) (piece_of bias h) (map (piece_of bias) hs)
    (record { address = (All-head HasAddress (piece_of bias h) (map (piece_of bias) hs) at).address; within = ltb-false h.size h.file_size size.0; inside = here.0 })
    (pieces_fit file bias hs (All-tail HasAddress (piece_of bias h) (map (piece_of bias) hs) at) here.1 size.1)

pub all_fit : (file : List ℕ) (bias : ℕ) (hs : List ProgramHeader) (ps : List Piece) → ps ≡ map (piece_of bias) hs → All HasAddress ps → list_any (is_outside file) hs ≡ false → list_any is_file_longer hs ≡ false → All (IsPiece file) ps
all_fit file bias hs ps e at inside within =
    let Addressed : List Piece → Type 0 = λ (l : List Piece). All HasAddress l in
    let Fit : List Piece → Type 0 = λ (l : List Piece). All (IsPiece file) l in
    subst Fit (sym e) (pieces_fit file bias hs (subst Addressed e at) inside within)

pub segments_fault-outside : (file : List ℕ) → list_any (is_outside file) (loads file) ≡ true → segments_fault file ≡ Some ElfFault.SegmentOutside
unfolding segments_fault
segments_fault-outside file h = rw h refl

pub segments_fault-longer : (file : List ℕ) → list_any (is_outside file) (loads file) ≡ false → list_any is_file_longer (loads file) ≡ true → segments_fault file ≡ Some ElfFault.FileLonger
unfolding segments_fault
segments_fault-longer file h k = rw (h, k) refl

pub segments_fault-map : (file : List ℕ) → list_any (is_outside file) (loads file) ≡ false → list_any is_file_longer (loads file) ≡ false → segments_fault file ≡ option_map elf_fault_of (map_fault (segments file))
unfolding segments_fault
segments_fault-map file h k = rw (h, k) refl

module _ (file : List ℕ) (r : Result (List Segment) ElfFault) where
  abbrev pub Answers : ℕ → List ProgramHeader → Type 0
  Answers bias hs = MatchResult r (λ s. (map range_of s ≡ layout file (map (piece_of bias) hs)) × (map_fault (layout file (map (piece_of bias) hs)) ≡ None)) (λ e. (e ≡ ElfFault.Memory) ⊎ (option_map elf_fault_of (map_fault (layout file (map (piece_of bias) hs))) ≡ Some e))

  pub mapped_loads : (bias : ℕ) (hs : List ProgramHeader) → bias ≡ bias_of file → hs ≡ loads file → list_any (is_outside file) hs ≡ false → list_any is_file_longer hs ≡ false
      → MatchResult r (λ s. (map range_of s ≡ layout file (map (piece_of bias) hs)) × (map_fault (layout file (map (piece_of bias) hs)) ≡ None)) (λ e. (e ≡ ElfFault.Memory) ⊎ (option_map elf_fault_of (map_fault (layout file (map (piece_of bias) hs))) ≡ Some e))
      → MatchResult r (λ s. (map range_of s ≡ segments file) × (segments_fault file ≡ None)) (λ e. (e ≡ ElfFault.Memory) ⊎ (segments_fault file ≡ Some e))
  mapped_loads bias hs same all inside within answer = by r (segments_fault-map file inside' within') answer'
    where
      inside' : list_any (is_outside file) (loads file) ≡ false
      inside' = ap (list_any (is_outside file)) (sym all) ∙ inside

      within' : list_any is_file_longer (loads file) ≡ false
      within' = ap (list_any is_file_longer) (sym all) ∙ within

      answer' : MatchResult r (λ s. (map range_of s ≡ segments file) × (map_fault (segments file) ≡ None)) (λ e. (e ≡ ElfFault.Memory) ⊎ (option_map elf_fault_of (map_fault (segments file)) ≡ Some e))
      answer' = subst (λ (b : ℕ). Answers b (loads file)) same (subst (λ (l : List ProgramHeader). Answers bias l) all answer)

      by : (r : Result (List Segment) ElfFault) → segments_fault file ≡ option_map elf_fault_of (map_fault (segments file)) → MatchResult r (λ s. (map range_of s ≡ segments file) × (map_fault (segments file) ≡ None)) (λ e. (e ≡ ElfFault.Memory) ⊎ (option_map elf_fault_of (map_fault (segments file)) ≡ Some e)) → MatchResult r (λ s. (map range_of s ≡ segments file) × (segments_fault file ≡ None)) (λ e. (e ≡ ElfFault.Memory) ⊎ (segments_fault file ≡ Some e))
      by (Ok s) e h = (h.0, e ∙ ap (option_map elf_fault_of) h.1)
      by (Err f) e (inl h) = inl h
      by (Err f) e (inr h) = inr (e ∙ h)
