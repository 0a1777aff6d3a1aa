-- Which lines the text of an automaton has.
use Rattle.std.proofs.Common.{◌≡◌, ℕ, List, [], ◌∷◌, ◌++◌, length, refl, sym, ◌∙◌, ap, subst, inl, inr, append_assoc}
use Rattle.std.proofs.lemmas.List.{append-nil}
use Rattle.std.specs.Prelude.{Contains, flat_map, codes}
use Rattle.flow_log.specs.declared.edge.Edge.{Edge}
use Rattle.flow_log.proofs.Members.{Contains-cases, Contains-none}
use Rattle.automaton_text.specs.declared.automaton.Automaton.{Automaton}
use Rattle.automaton_text.specs.declared.automaton.Location.{Location}
use Rattle.automaton_text.specs.declared.automaton.OpenMark.{OpenMark}
use Rattle.automaton_text.specs.Text.{header_line, entry_line, loc_line, edge_line, open_line, end_line, text_of, suffix_of, label_text, cause_text, row_suffix}
use Rattle.text_fields.specs.Hex.{hex8}
use Rattle.text_fields.specs.Line.{newline, space}
use Rattle.jakstab_core.specs.Headline.{IsLineStart, HasLine}

-- a text ends by a newline
pub record EndsLine (line : List ℕ) : Type 0 where
  pub front : List ℕ
  pub ends : line ≡ front ++ newline

pub ended : (line : List ℕ) → EndsLine line → IsLineStart line
ended line e = inr (e.front, e.ends)

after_line : (before line : List ℕ) → EndsLine line → IsLineStart (before ++ line)
after_line before line e = inr (before ++ e.front, ap (λ l. before ++ l) e.ends ∙ sym (append_assoc before e.front newline))

module _ {X : Type 0} (f : X → List ℕ) (ends : (x : X) → EndsLine (f x)) where
  after_lines : (before : List ℕ) (xs : List X) → IsLineStart before → IsLineStart (before ++ flat_map f xs)
  after_lines before [] starts = let P : List ℕ → Type 0 = IsLineStart in subst P (sym (append-nil before)) starts
  after_lines before (x ∷ xs) starts =
      let P : List ℕ → Type 0 = IsLineStart in
      subst P (append_assoc before (f x) (flat_map f xs)) (after_lines (before ++ f x) xs (after_line before (f x) (ends x)))

  has_line : (before after : List ℕ) (xs : List X) (x : X) (text : List ℕ) → IsLineStart before → Contains xs x → text ≡ (before ++ flat_map f xs) ++ after → HasLine text (f x)
  has_line before after [] x text starts held e = absurd (Contains-none x held)
  has_line before after (y ∷ xs) x text starts held e =
      elim (Contains-cases y x xs held) [
        | inl same ↦ (let P : X → Type 0 = λ z. HasLine text (f z) in
            subst P same (record {
              before = before;
              after = flat_map f xs ++ after;
              whole = e ∙ ap (λ l. l ++ after) (sym (append_assoc before (f y) (flat_map f xs))) ∙ append_assoc (before ++ f y) (flat_map f xs) after;
              starts = starts;
            }))
        | inr later ↦ has_line (before ++ f y) after xs x text (after_line before (f y) (ends y)) later
            (e ∙ ap (λ l. l ++ after) (sym (append_assoc before (f y) (flat_map f xs))))
      ]

by_newline : (front : List ℕ) → EndsLine (front ++ newline)
by_newline front = record { front = front; ends = refl }

loc_ends : (l : Location) → EndsLine (loc_line l)
unfolding loc_line
loc_ends l = by_newline (codes "loc " ++ hex8 l.at ++ suffix_of l)

edge_ends : (e : Edge) → EndsLine (edge_line e)
unfolding edge_line
edge_ends e = by_newline (codes "edge " ++ hex8 e.from ++ space ++ hex8 e.to ++ space ++ label_text e.from e.label)

open_ends : (m : OpenMark) → EndsLine (open_line m)
unfolding open_line
open_ends m = by_newline (codes "open " ++ hex8 m.at ++ space ++ cause_text m.cause ++ row_suffix m.row)

module _ (a : Automaton) where
  head : List ℕ
  head = header_line a.version ++ entry_line a.entry

  head_starts : IsLineStart (head)
  unfolding head
  head_starts = after_line (header_line a.version) (entry_line a.entry) (by_newline (codes "entry " ++ hex8 a.entry))

  last : List ℕ
  last = end_line (length a.locations) (length a.edges) (length a.marks)

  pub has_edge_line : (e : Edge) → Contains a.edges e → HasLine (text_of a) (edge_line e)
  unfolding text_of head last
  has_edge_line e held =
      has_line edge_line edge_ends (head ++ flat_map loc_line a.locations) (flat_map open_line a.marks ++ last) a.edges e (text_of a)
      (after_lines loc_line loc_ends head a.locations head_starts) held
      (append_assoc ((head ++ flat_map loc_line a.locations) ++ flat_map edge_line a.edges) (flat_map open_line a.marks) last)

  pub has_open_line : (m : OpenMark) → Contains a.marks m → HasLine (text_of a) (open_line m)
  unfolding text_of head last
  has_open_line m held =
      has_line open_line open_ends ((head ++ flat_map loc_line a.locations) ++ flat_map edge_line a.edges) last a.marks m (text_of a)
      (after_lines edge_line edge_ends (head ++ flat_map loc_line a.locations) a.edges (after_lines loc_line loc_ends head a.locations head_starts)) held refl
