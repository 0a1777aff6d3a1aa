-- The lines with which start files and records begin, when they are read, are the texts of what they state.
use Rattle.std.proofs.Common.{◌≡◌, ℕ, Bool, true, false, List, [], ◌∷◌, ◌++◌, Option, Some, None, Ok, Err, refl, sym, ◌∙◌, ap}
use Rattle.std.specs.Prelude.{Result, codes, if◌then◌else◌}
use Rattle.std.specs.Str.{bytes_eq}
use Rattle.std.proofs.lemmas.Slice.Eq.{bytes_eq-Decides}
use Rattle.text_fields.specs.Line.{newline}
use Rattle.memory_map.specs.declared.choice.Fill.{Fill}
use Rattle.text_fields.specs.Lines.{fields}
use Rattle.run_replayer.specs.declared.head.Due.{Due}
use Rattle.run_replayer.specs.declared.head.Due.TheVariants as due
use Rattle.run_replayer.specs.declared.head.Head.{Head}
use Rattle.run_replayer.specs.Fields.{bases_of, regs_of, six_flags_of}
use Rattle.text_fields.specs.Lines.{HEADER}
use Rattle.run_replayer.specs.Grammar.{behind, behind_word, due_step, is_rest, or_field, or_word}
use Rattle.run_replayer.specs.Texts.{bases_line, flags_line, regs_line}
use Rattle.run_replayer.proofs.LineTexts.{bases_told, flags_told, regs_told}
use Rattle.text_fields.proofs.Splitting.{fields_back, spaced}
use Rattle.text_fields.proofs.Found.{mapped}

-- a line begins with a word, and its other fields make this
pub record Behind {A : Type 0} (word line : List ℕ) (go : List (List ℕ) → Option A) (a : A) : Type 0 where
  pub fs : List (List ℕ)
  pub is : line ≡ word ++ spaced fs
  pub made : go fs ≡ Some a

pub field_made : {A : Type 0} (o : Option A) (a : A) → or_field o ≡ Ok a → o ≡ Some a
field_made None a h = cc
field_made (Some b) a h = cc

worded : {A : Type 0} (word line first : List ℕ) (others : List (List ℕ)) (go : List (List ℕ) → Option A) (a : A) (t : Bool) → fields line ≡ first ∷ others → bytes_eq first word ≡ t
    → or_word (if t then Some others else None) go ≡ Ok a → Behind word line go a
worded word line first others go a true parts e h = record {
  fs = others;
  is = fields_back line first others parts ∙ ap (λ w. w ++ spaced others) ((bytes_eq-Decides first word).0 e);
  made = field_made (go others) a h;
}
worded word line first others go a false parts e h = cc

pub behind_told : {A : Type 0} (word line : List ℕ) (go : List (List ℕ) → Option A) (a : A) → behind_word word line go ≡ Ok a → Behind word line go a
behind_told {A} word line go a h = by (fields line) refl h
  where
    by : (fs : List (List ℕ)) → fields line ≡ fs → or_word (behind word fs) go ≡ Ok a → Behind word line go a
    by [] parts k = cc
    by (first ∷ others) parts k = worded word line first others go a (bytes_eq first word) parts refl k

-- what was stated before the line that is due
unfoldable pub told_due : List ℕ → Due → Head → List ℕ
told_due header due.Header h = []
told_due header due.Regs h = header ++ newline
told_due header due.Flags h = header ++ newline ++ regs_line h.regs
told_due header due.Bases h = header ++ newline ++ regs_line h.regs ++ flags_line h.flags
told_due header due.Rest h = header ++ newline ++ regs_line h.regs ++ flags_line h.flags ++ bases_line h.fs h.gs

-- a line of the head adds itself, and no fill
pub record AddsLine (header : List ℕ) (d : Due) (h k : Head) (line : List ℕ) : Type 0 where
  pub text : told_due header k.due k ≡ told_due header d h ++ (line ++ newline)
  pub fill : k.fill ≡ h.fill

header_by : (header line : List ℕ) (h k : Head) (t : Bool) → bytes_eq line header ≡ t → ◌≡◌ {A = Result Head ℕ} (if t then Ok (record h { due = due.Regs }) else Err HEADER) (Ok k) → AddsLine header due.Header h k line
unfolding told_due
header_by header line h k true e is =
    let same : record h { due = due.Regs } ≡ k = cc in
    let line_is : line ≡ header = (bytes_eq-Decides line header).0 e in
    record {
      text = ap (λ (l : Head). told_due header l.due l) (sym same) ∙ ap (λ l. l ++ newline) (sym line_is);
      fill = ap (λ (l : Head). l.fill) (sym same);
    }
header_by header line h k false e is = cc

-- a line with its end, behind what was told
at_end : (before word text line : List ℕ) (fs : List (List ℕ)) → line ≡ word ++ spaced fs → (word ++ spaced fs) ++ newline ≡ text → before ++ text ≡ before ++ (line ++ newline)
at_end before word text line fs is told = ap (λ l. before ++ l) (sym told ∙ ap (λ l. l ++ newline) (sym is))

pub due_told : (header : List ℕ) (d : Due) (h k : Head) (line : List ℕ) → due_step d header h line ≡ Ok k → AddsLine header d h k line
unfolding told_due
due_told header due.Header h k line is = header_by header line h k (bytes_eq line header) refl is
due_told header due.Regs h k line is =
    let b = behind_told (codes "regs") line _ k is in
    let m = mapped _ (regs_of b.fs) k b.made in
    record {
      text = ap (λ (l : Head). told_due header l.due l) (sym m.2) ∙ at_end (header ++ newline) (codes "regs") (regs_line m.0) line b.fs b.is (regs_told b.fs m.0 m.1);
      fill = ap (λ (l : Head). l.fill) (sym m.2);
    }
due_told header due.Flags h k line is =
    let b = behind_told (codes "flags") line _ k is in
    let m = mapped _ (six_flags_of b.fs) k b.made in
    record {
      text = ap (λ (l : Head). told_due header l.due l) (sym m.2) ∙ at_end (header ++ newline ++ regs_line h.regs) (codes "flags") (flags_line m.0) line b.fs b.is (flags_told b.fs m.0 m.1);
      fill = ap (λ (l : Head). l.fill) (sym m.2);
    }
due_told header due.Bases h k line is =
    let b = behind_told (codes "bases") line _ k is in
    let m = mapped _ (bases_of b.fs) k b.made in
    record {
      text = ap (λ (l : Head). told_due header l.due l) (sym m.2)
          ∙ at_end (header ++ newline ++ regs_line h.regs ++ flags_line h.flags) (codes "bases") (bases_line m.0.0 m.0.1) line b.fs b.is (bases_told b.fs m.0 m.1);
      fill = ap (λ (l : Head). l.fill) (sym m.2);
    }
due_told header due.Rest h k line is = cc

-- fills are told apart
pub told_due-fill : (header : List ℕ) (d : Due) (h : Head) (fills : List Fill) → told_due header d (record h { fill = fills }) ≡ told_due header d h
unfolding told_due
told_due-fill header due.Header h fills = refl
told_due-fill header due.Regs h fills = refl
told_due-fill header due.Flags h fills = refl
told_due-fill header due.Bases h fills = refl
told_due-fill header due.Rest h fills = refl

pub told_due-rest : (header : List ℕ) (d : Due) (h : Head) → is_rest d ≡ true → told_due header d h ≡ told_due header due.Rest h
unfolding told_due
told_due-rest header due.Header h e = cc
told_due-rest header due.Regs h e = cc
told_due-rest header due.Flags h e = cc
told_due-rest header due.Bases h e = cc
told_due-rest header due.Rest h e = refl
