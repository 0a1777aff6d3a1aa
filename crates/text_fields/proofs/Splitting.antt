-- Lines and fields of texts that are put together, and texts that are read line by line.
use Rattle.std.proofs.Common.{◌≡◌, ℕ, zero, suc, ◌+◌, ◌<◌, ◌==◌, Bool, true, false, List, [], ◌∷◌, ◌++◌, length, refl, sym, ◌∙◌, ap, subst, inl, inr, arith, append_assoc, Ok, Err}
use Rattle.std.specs.Prelude.{All, flat_map, Result, ◌&&◌, nat_eq, if◌then◌else◌}
use Rattle.std.specs.List.{join_with_byte, slice_split}
use Rattle.std.proofs.lemmas.List.{append-nil}
use Rattle.std.proofs.lemmas.List.Elements.{All-append, All-cons, All-nil}
use Rattle.std.proofs.lemmas.List.Splits.{join_with_byte-slice_split, slice_split_at, slice_split_none}
use Rattle.std.proofs.lemmas.Bool.Decides.{nat_tests}
use Rattle.text_fields.specs.declared.line_fault.LineFault.{LineFault}
use Rattle.text_fields.specs.Line.{newline, space}
use Rattle.text_fields.specs.Lines.{Grammar, after_line, end_fault, fields, lines, read_from}
use Rattle.text_fields.proofs.LineFacts.{line_taken, read_last}

-- neither a space nor the end of a line, nor any other byte below those that are seen
abbrev pub IsPlain : List ℕ → Type 0
IsPlain field = All (λ b. 32 < b) field

above : (c b : ℕ) → c < b → (b == c) ≡ false
above c b h = grind (arith, nat_tests)

parts_from : (c : ℕ) (field : List ℕ) → All (λ b. c < b) field → All (λ b. (b == c) ≡ false) field
parts_from c field plain k d below = above c _ (plain k d below)

-- fields, each behind a space
abbrev pub spaced : List (List ℕ) → List ℕ
spaced fs = flat_map (λ f. space ++ f) fs

-- each of some fields is plain
pub data ArePlain : List (List ℕ) → Type 0 where
  none : ArePlain []
  one : (f : List ℕ) (fs : List (List ℕ)) → IsPlain f → ArePlain fs → ArePlain (f ∷ fs)

same_byte : (c : ℕ) → (c == c) ≡ true
same_byte c = grind (arith, nat_tests)

pub fields_spaced : (first : List ℕ) (fs : List (List ℕ)) → IsPlain first → ArePlain fs → fields (first ++ spaced fs) ≡ first ∷ fs
unfolding fields
fields_spaced first [] plain others =
    (let e : first ++ [] ≡ first = append-nil first in rw e (slice_split_none (λ b. b == 32) first (parts_from 32 first plain)))
fields_spaced first (f ∷ fs) plain (one _ _ p ps) =
    slice_split_at (λ b. b == 32) first 32 (f ++ spaced fs) (parts_from 32 first plain) (same_byte 32) ∙ ap (λ l. first ∷ l) (fields_spaced f fs p ps)

pub joined : (first : List ℕ) (fs : List (List ℕ)) → join_with_byte 32 (first ∷ fs) ≡ first ++ spaced fs
joined first [] = sym (append-nil first)
joined first (f ∷ fs) = ap (λ l. first ++ (32 ∷ l)) (joined f fs)

-- a line is its first field and the others
pub fields_back : (line first : List ℕ) (fs : List (List ℕ)) → fields line ≡ first ∷ fs → line ≡ first ++ spaced fs
unfolding fields
fields_back line first fs e = sym (join_with_byte-slice_split 32 line) ∙ ap (join_with_byte 32) e ∙ joined first fs

pub lines_first : (line behind : List ℕ) → All (λ b. (b == 10) ≡ false) line → lines (line ++ 10 ∷ behind) ≡ line ∷ lines behind
unfolding lines
lines_first line behind plain = slice_split_at (λ b. b == 10) line 10 behind plain (same_byte 10)

pub plain_line : (field : List ℕ) → IsPlain field → All (λ b. (b == 10) ≡ false) field
plain_line field plain k d below = above 10 _ (let h : 32 < _ = plain k d below in omega arith)

pub spaced_line : (fs : List (List ℕ)) → ArePlain fs → All (λ b. (b == 10) ≡ false) (spaced fs)
spaced_line [] none = All-nil (λ b. (b == 10) ≡ false)
spaced_line (f ∷ fs) (one _ _ p ps) = All-cons (λ b. (b == 10) ≡ false) 32 (f ++ spaced fs) refl (All-append (λ b. (b == 10) ≡ false) f (spaced fs) (plain_line f p) (spaced_line fs ps))

module _ {S : Type 0} (g : Grammar S) where
  -- reading a text, whatever is behind it, leads from one state to another
  pub record Reaches (s : S) (text : List ℕ) (t : S) : Type 0 where
    pub goes : (n : ℕ) (behind : List ℕ) → (m : ℕ) × (read_from g n s (lines (text ++ behind)) ≡ read_from g m t (lines behind))

  pub reaches_none : (s : S) → Reaches s [] s
  reaches_none s = record { goes = λ n behind. (n, refl) }

  pub reaches_both : (s t u : S) (a b : List ℕ) → Reaches s a t → Reaches t b u → Reaches s (a ++ b) u
  reaches_both s t u a b h k = record {
    goes = λ n behind. (
        let first : (m : ℕ) × (read_from g n s (lines (a ++ (b ++ behind))) ≡ read_from g m t (lines (b ++ behind))) = h.goes n (b ++ behind) in
        let second : (m : ℕ) × (read_from g first.0 t (lines (b ++ behind)) ≡ read_from g m u (lines behind)) = k.goes first.0 behind in
        (second.0, ap (λ text. read_from g n s (lines text)) (append_assoc a b behind) ∙ first.1 ∙ second.1)
        );
  }

  pub reaches_line : (s t : S) (line : List ℕ) → All (λ b. (b == 10) ≡ false) line → g.is_ended s ≡ false → g.step s line ≡ Ok t → Reaches s (line ++ newline) t
  reaches_line s t line plain on taken = record {
    goes = λ n behind. (
      n + 1,
      ap (λ text. read_from g n s (lines text)) (append_assoc line newline behind)
          ∙ line_taken g n s t (line ++ 10 ∷ behind) line behind (lines_first line behind plain) on taken,
    );
  }

  pub reaches_end : (s t : S) (text : List ℕ) → Reaches s text t → g.is_ended t ≡ true → read_from g 1 s (lines text) ≡ Ok t
  unfolding lines
  reaches_end s t text h over =
      let all : (m : ℕ) × (read_from g 1 s (lines (text ++ [])) ≡ read_from g m t (lines [])) = h.goes 1 [] in
      ap (λ l. read_from g 1 s (lines l)) (let e : text ≡ text ++ [] = sym (append-nil text) in e) ∙ all.1 ∙ read_last g all.0 t [] refl refl over

  -- what a state has stated, as a text: each line adds itself
  pub record Tells (Keeps : S → Type 0) (told : S → List ℕ) : Type 0 where
    pub keeps : (s t : S) (line : List ℕ) → Keeps s → g.is_ended s ≡ false → g.step s line ≡ Ok t → Keeps t
    pub adds : (s t : S) (line : List ℕ) → Keeps s → g.is_ended s ≡ false → g.step s line ≡ Ok t → told t ≡ told s ++ (line ++ newline)

  module _ (Keeps : S → Type 0) (told : S → List ℕ) (tells : Tells Keeps told) where
    last_by : (n : ℕ) (s t : S) (rest : List ℕ) (ended empty : Bool) → (length rest == 0) ≡ empty
        → ◌≡◌ {A = Result S LineFault} (if ended && empty then Ok s else Err (end_fault n)) (Ok t) → told t ≡ told s ++ rest
    last_by n s t [] true true e h = (let same : s ≡ t = cc in ap told (sym same) ∙ (let e : told s ≡ told s ++ [] = sym (append-nil (told s)) in e))
    last_by n s t (b ∷ rest) ended true e h = (let never : length (b ∷ rest) ≡ 0 = grind (arith, nat_tests) in absurd (omega (arith, never)))
    last_by n s t rest true false e h = cc
    last_by n s t rest false empty e h = cc

    line_by : (n : ℕ) (s t : S) (line next : List ℕ) (others : List (List ℕ)) (ended : Bool) (made : Result S ℕ) → Keeps s → g.is_ended s ≡ ended → g.step s line ≡ made
        → ((n : ℕ) (u : S) → Keeps u → read_from g n u (next ∷ others) ≡ Ok t → told t ≡ told u ++ join_with_byte 10 (next ∷ others))
        → ◌≡◌ {A = Result S LineFault} (if ended then Err (end_fault n) else after_line g n made (λ read. read_from g (n + 1) read (next ∷ others))) (Ok t)
        → told t ≡ told s ++ join_with_byte 10 (line ∷ next ∷ others)
    line_by n s t line next others true made kept on is later h = cc
    line_by n s t line next others false (Err kind) kept on is later h = cc
    line_by n s t line next others false (Ok u) kept on is later h =
        later (n + 1) u (tells.keeps s u line kept on is) h ∙ ap (λ text. text ++ join_with_byte 10 (next ∷ others)) (tells.adds s u line kept on is)
        ∙ append_assoc (told s) (line ++ newline) (join_with_byte 10 (next ∷ others)) ∙ ap (λ text. told s ++ text) (append_assoc line newline (join_with_byte 10 (next ∷ others)))

    told_lines : (ls : List (List ℕ)) (n : ℕ) (s t : S) → Keeps s → read_from g n s ls ≡ Ok t → told t ≡ told s ++ join_with_byte 10 ls
    unfolding read_from
    told_lines [] n s t kept h = cc
    told_lines (rest ∷ []) n s t kept h = last_by n s t rest (g.is_ended s) (length rest == 0) refl h
    told_lines (line ∷ next ∷ others) n s t kept h = line_by n s t line next others (g.is_ended s) (g.step s line) kept refl refl (λ n u more k. told_lines (next ∷ others) n u t more k) h

    -- a text that is read is what the last state tells
    pub told_text : (s t : S) (text : List ℕ) → Keeps s → told s ≡ [] → read_from g 1 s (lines text) ≡ Ok t → text ≡ told t
    unfolding lines
    told_text s t text kept nothing h = sym (told_lines (lines text) 1 s t kept h ∙ ap (λ l. l ++ join_with_byte 10 (lines text)) nothing ∙ join_with_byte-slice_split 10 text)

    end_by : (n : ℕ) (s t : S) (ended empty : Bool) → g.is_ended s ≡ ended → ◌≡◌ {A = Result S LineFault} (if ended && empty then Ok s else Err (end_fault n)) (Ok t) → g.is_ended t ≡ true
    end_by n s t true true e h = (let same : s ≡ t = cc in ap g.is_ended (sym same) ∙ e)
    end_by n s t true false e h = cc
    end_by n s t false empty e h = cc

    kept_end : (n : ℕ) (s t : S) (ended empty : Bool) → Keeps s → ◌≡◌ {A = Result S LineFault} (if ended && empty then Ok s else Err (end_fault n)) (Ok t) → Keeps t
    kept_end n s t true true kept h = (let same : s ≡ t = cc in subst Keeps same kept)
    kept_end n s t true false kept h = cc
    kept_end n s t false empty kept h = cc

    kept_by : (n : ℕ) (s t : S) (line next : List ℕ) (others : List (List ℕ)) (ended : Bool) (made : Result S ℕ) → Keeps s → g.is_ended s ≡ ended → g.step s line ≡ made
        → ((n : ℕ) (u : S) → Keeps u → read_from g n u (next ∷ others) ≡ Ok t → Keeps t × (g.is_ended t ≡ true))
        → ◌≡◌ {A = Result S LineFault} (if ended then Err (end_fault n) else after_line g n made (λ read. read_from g (n + 1) read (next ∷ others))) (Ok t)
        → Keeps t × (g.is_ended t ≡ true)
    kept_by n s t line next others true made kept on is later h = cc
    kept_by n s t line next others false (Err kind) kept on is later h = cc
    kept_by n s t line next others false (Ok u) kept on is later h = later (n + 1) u (tells.keeps s u line kept on is) h

    -- the last state of a text that is read
    pub kept_lines : (ls : List (List ℕ)) (n : ℕ) (s t : S) → Keeps s → read_from g n s ls ≡ Ok t → Keeps t × (g.is_ended t ≡ true)
    unfolding read_from
    kept_lines [] n s t kept h = cc
    kept_lines (rest ∷ []) n s t kept h = (kept_end n s t (g.is_ended s) (length rest == 0) kept h, end_by n s t (g.is_ended s) (length rest == 0) refl h)
    kept_lines (line ∷ next ∷ others) n s t kept h = kept_by n s t line next others (g.is_ended s) (g.step s line) kept refl refl (λ n u more k. kept_lines (next ∷ others) n u t more k) h
