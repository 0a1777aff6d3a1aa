-- Texts cut at a byte: their first part, what they begin with, and the lines and fields of texts that are put together.
use Rattle.std.proofs.Common.{◌≡◌, ℕ, zero, suc, ◌+◌, ◌-◌, ◌<◌, ◌≤◌, ◌==◌, Bool, true, false, List, [], ◌∷◌, ◌++◌, length, take, drop, get_or, Option, Some, None, refl, sym, ◌∙◌, ap, arith, nat_lt, cond}
use Rattle.std.proofs.lemmas.Bool.Decides.{nat_tests}
use Rattle.std.specs.Prelude.{position, not, ◌&&◌, if◌then◌else◌, Ok, Err, Result}
use Rattle.std.specs.List.{slice_split, position_or_len, All, join_with_byte}
use Rattle.std.proofs.lemmas.List.{take_all, length-drop}
use Rattle.std.proofs.lemmas.List.Sums.{prefix_len_passes, prefix_len-le-length}
use Rattle.std.proofs.lemmas.List.Splits.{slice_split_none, slice_split_first, length-slice_split}
use Rattle.text_fields.specs.declared.line_fault.LineFault.{LineFault}
use Rattle.text_fields.specs.Lines.{Grammar, after_line, end_fault, lines, read_from}
use Rattle.std.proofs.lemmas.Bool.{not-true}

abbrev is_byte : ℕ → ℕ → Bool
is_byte c b = b == c

take_rest : (n : ℕ) (text : List ℕ) → take (length text - n) (drop n text) ≡ drop n text
take_rest n text = take_all (length text - n) (drop n text) (omega (arith, length-drop n text))

found_by : (p n : ℕ) (t : Bool) (i : ℕ) → nat_lt p n ≡ t → cond t (Some p) None ≡ Some i → (p < n) × (p ≡ i)
found_by p n true i is e = (grind (arith, nat_tests), cc)
found_by p n false i is e = let never : ⊥ = cc in absurd never

missed_by : (p n : ℕ) (t : Bool) → nat_lt p n ≡ t → ◌≡◌ {A = Option ℕ} (cond t (Some p) None) None → n ≤ p
missed_by p n true is e = let never : ⊥ = cc in absurd never
missed_by p n false is e = grind (arith, nat_tests)

pub split_at_place : (c : ℕ) (text : List ℕ) (i : ℕ) → position (is_byte c) text ≡ Some i → slice_split (is_byte c) text ≡ take i text ∷ slice_split (is_byte c) (take (length text - (i + 1)) (drop (i + 1) text))
split_at_place c text i e =
    let found : (position_or_len (is_byte c) text < length text) × (position_or_len (is_byte c) text ≡ i) = found_by (position_or_len (is_byte c) text) (length text) _ i refl e in
    rw (take_rest (i + 1) text, ← found.1) (slice_split_first (is_byte c) text 0 found.0)

pub split_nowhere : (c : ℕ) (text : List ℕ) → position (is_byte c) text ≡ None → slice_split (is_byte c) text ≡ text ∷ []
split_nowhere c text e =
    let beyond : length text ≤ position_or_len (is_byte c) text = missed_by (position_or_len (is_byte c) text) (length text) _ refl e in
    slice_split_none (is_byte c) text (λ k d below. not-true (is_byte c (get_or text k d)) (prefix_len_passes (λ b. not (is_byte c b)) text k d (omega arith)))

split_some : (c : ℕ) (text : List ℕ) → 0 < length (slice_split (is_byte c) text)
split_some c text = omega (arith, length-slice_split (is_byte c) text)

module _ {S : Type 0} (g : Grammar S) where
  read_whole : (n : ℕ) (s : S) (line : List ℕ) (others : List (List ℕ)) → 0 < length others → g.is_ended s ≡ false → read_from g n s (line ∷ others) ≡ after_line g n (g.step s line) (λ read. read_from g (n + 1) read others)
  unfolding read_from
  read_whole n s line [] some on = let never : ⊥ = omega arith in absurd never
  read_whole n s line (next ∷ others) some on = rw on refl

  read_over : (n : ℕ) (s : S) (line : List ℕ) (others : List (List ℕ)) → 0 < length others → g.is_ended s ≡ true → read_from g n s (line ∷ others) ≡ Err (end_fault n)
  unfolding read_from
  read_over n s line [] some over = let never : ⊥ = omega arith in absurd never
  read_over n s line (next ∷ others) some over = rw over refl

  -- a whole line is read before the others
  pub line_read : (n : ℕ) (s : S) (rest line behind : List ℕ) → lines rest ≡ line ∷ lines behind → g.is_ended s ≡ false → read_from g n s (lines rest) ≡ after_line g n (g.step s line) (λ read. read_from g (n + 1) read (lines behind))
  unfolding lines
  line_read n s rest line behind parts on = rw parts (read_whole n s line (lines behind) (split_some 10 behind) on)

  pub line_refused : (n : ℕ) (s : S) (rest line behind : List ℕ) (kind : ℕ) → lines rest ≡ line ∷ lines behind → g.is_ended s ≡ false → g.step s line ≡ Err kind → read_from g n s (lines rest) ≡ Err (record { line = n; kind = kind })
  line_refused n s rest line behind kind parts on refused = line_read n s rest line behind parts on ∙ rw refused refl

  pub line_taken : (n : ℕ) (s t : S) (rest line behind : List ℕ) → lines rest ≡ line ∷ lines behind → g.is_ended s ≡ false → g.step s line ≡ Ok t → read_from g n s (lines rest) ≡ read_from g (n + 1) t (lines behind)
  line_taken n s t rest line behind parts on taken = line_read n s rest line behind parts on ∙ rw taken refl

  -- no line may stand behind the end
  pub line_after_end : (n : ℕ) (s : S) (rest line behind : List ℕ) → lines rest ≡ line ∷ lines behind → g.is_ended s ≡ true → read_from g n s (lines rest) ≡ Err (end_fault n)
  unfolding lines
  line_after_end n s rest line behind parts over = rw parts (read_over n s line (lines behind) (split_some 10 behind) over)

  pub read_last : (n : ℕ) (s : S) (rest : List ℕ) → lines rest ≡ rest ∷ [] → (length rest == 0) ≡ true → g.is_ended s ≡ true → read_from g n s (lines rest) ≡ Ok s
  unfolding read_from
  read_last n s rest parts none over = rw (parts, over, none) refl

  pub stops_early : (n : ℕ) (s : S) (rest : List ℕ) → lines rest ≡ rest ∷ [] → g.is_ended s ≡ false → read_from g n s (lines rest) ≡ Err (end_fault n)
  unfolding read_from
  stops_early n s rest parts on = rw (parts, on) refl

  pub stops_in_line : (n : ℕ) (s : S) (rest : List ℕ) → lines rest ≡ rest ∷ [] → (length rest == 0) ≡ false → read_from g n s (lines rest) ≡ Err (end_fault n)
  unfolding read_from
  stops_in_line n s rest parts some = rw (parts, some) (no_second (g.is_ended s))
    where
      no_second : (b : Bool) → (if b && false then Ok s else Err (end_fault n)) ≡ Err (end_fault n)
      no_second true = refl
      no_second false = refl
