-- What a text states as a record is within its bounds.
use Rattle.std.proofs.Common.{◌≡◌, ℕ, suc, ◌^◌, ◌<◌, Bool, true, false, List, [], ◌∷◌, ◌++◌, length, Some, Ok, Err, refl, sym, ◌∙◌, ap, subst, arith}
use Rattle.std.proofs.lemmas.List.Elements.{All-append, All-cons, All-nil}
use Rattle.std.specs.Prelude.{All, Result, codes, option_map, if◌then◌else◌}
use Rattle.std.specs.Str.{bytes_eq}
use Rattle.text_fields.specs.Lines.{HEADER, WORD, fields, lines}
use Rattle.text_fields.proofs.Splitting.{Tells, kept_lines}
use Rattle.memory_map.specs.declared.choice.Fill.{Fill}
use Rattle.x86_machine.specs.StartLaws.{IsFill}
use Rattle.run_replayer.specs.declared.head.Due.{Due}
use Rattle.run_replayer.specs.declared.head.Due.TheVariants as due
use Rattle.run_replayer.specs.declared.head.Head.{Head}
use Rattle.run_replayer.specs.declared.record.RunRecord.{RunRecord}
use Rattle.run_replayer.specs.declared.record.RunStep.{RunStep}
use Rattle.run_replayer.specs.declared.record_reader.RecordReader.{RecordReader}
use Rattle.run_replayer.specs.Fields.{bases_of, ending_of, fill_of, regs_of, six_flags_of, step_of}
use Rattle.run_replayer.specs.Grammar.{StatesRecord, due_step, head_step, is_rest, no_record, or_field, record_grammar, record_rest, record_step, with_last, with_record_fill, with_step_fill, within}
use Rattle.run_replayer.specs.Laws.{IsInBounds, IsStep}
use Rattle.run_replayer.specs.Texts.{record_header}
use Rattle.run_replayer.proofs.Bounds.{AreWords, bases_small, fill_small, no_word, one_word, regs_small, step_small}
use Rattle.run_replayer.proofs.HeadTold.{behind_told, field_made}
use Rattle.run_replayer.proofs.RecordTold.{IsRecordInTurn, nothing_in_turn, tells, told}
use Rattle.run_replayer.proofs.ItemsTold.{within_made}
use Rattle.text_fields.proofs.Found.{mapped}

record HeadFits (h : Head) : Type 0 where
  registers : length h.regs ≡ 8
  words : All (λ n. n < 2 ^ 32) h.regs
  fs : h.fs < 2 ^ 32
  gs : h.gs < 2 ^ 32
  fill : All IsFill h.fill

record Fits (r : RecordReader) : Type 0 where
  head : HeadFits r.head
  steps : All IsStep r.steps

-- ---- the lines of the head

header_fits : (header line : List ℕ) (h k : Head) (t : Bool) → HeadFits h → ◌≡◌ {A = Result Head ℕ} (if t then Ok (record h { due = due.Regs }) else Err HEADER) (Ok k) → HeadFits k
header_fits header line h k true f is =
    let same : record h { due = due.Regs } ≡ k = cc in
    subst HeadFits same (record { registers = f.registers; words = f.words; fs = f.fs; gs = f.gs; fill = f.fill })
header_fits header line h k false f is = cc

due_fits : (header : List ℕ) (d : Due) (h k : Head) (line : List ℕ) → HeadFits h → due_step d header h line ≡ Ok k → HeadFits k
due_fits header due.Header h k line f is = header_fits header line h k (bytes_eq line header) f is
due_fits header due.Regs h k line f is =
    let b = behind_told (codes "regs") line _ k is in
    let m = mapped _ (regs_of b.fs) k b.made in
    let regs = regs_small b.fs m.0 m.1 in
    subst HeadFits m.2 (record { registers = regs.eight; words = regs.words; fs = f.fs; gs = f.gs; fill = f.fill })
due_fits header due.Flags h k line f is =
    let b = behind_told (codes "flags") line _ k is in
    let m = mapped _ (six_flags_of b.fs) k b.made in
    subst HeadFits m.2 (record { registers = f.registers; words = f.words; fs = f.fs; gs = f.gs; fill = f.fill })
due_fits header due.Bases h k line f is =
    let b = behind_told (codes "bases") line _ k is in
    let m = mapped _ (bases_of b.fs) k b.made in
    let bases = bases_small b.fs m.0 m.1 in
    subst HeadFits m.2 (record { registers = f.registers; words = f.words; fs = bases.0; gs = bases.1; fill = f.fill })
due_fits header due.Rest h k line f is = cc

-- ---- fills, steps and the end

last_fits : {X : Type 0} (P : X → Type 0) (change : X → X) → ((x : X) → P x → P (change x)) → (xs : List X) → All P xs → All P (with_last change xs)
last_fits P change keeps [] all = All-nil P
last_fits P change keeps (x ∷ []) all = All-cons P (change x) [] (keeps x (all 0 x (omega arith))) (All-nil P)
last_fits P change keeps (x ∷ y ∷ xs) all =
    All-cons P x (with_last change (y ∷ xs)) (all 0 x (omega arith)) (last_fits P change keeps (y ∷ xs) (λ k d below. all (suc k) d (omega arith)))

one_more : {X : Type 0} (P : X → Type 0) (xs : List X) (x : X) → All P xs → P x → All P (xs ++ x ∷ [])
one_more P xs x all is = All-append P xs (x ∷ []) all (All-cons P x [] is (All-nil P))

step_filled : (f : Fill) → IsFill f → (s : RunStep) → IsStep s → IsStep (with_step_fill f s)
step_filled f is s fits =
    let c = fits.choice in
    record {
      from = fits.from;
      to = fits.to;
      choice = record { flags = c.flags; eax = c.eax; ecx = c.ecx; edx = c.edx; base = c.base; fill = one_more IsFill s.choice.fill f c.fill is };
    }

filled_fits : (f : Fill) (items : List RunStep) (r : RecordReader) → IsFill f → All IsStep items → Fits r → Fits (with_record_fill f items r)
filled_fits f [] r is all fits =
    let h = fits.head in
    record {
      head = record { registers = h.registers; words = h.words; fs = h.fs; gs = h.gs; fill = one_more IsFill r.head.fill f h.fill is };
      steps = fits.steps;
    }
filled_fits f (s ∷ ss) r is all fits = record { head = fits.head; steps = last_fits IsStep (with_step_fill f) (step_filled f is) (s ∷ ss) all }

by_word : (r t : RecordReader) (fs : List (List ℕ)) (fill step end : Bool) → Fits r
    → (if fill then or_field (option_map (λ f. with_record_fill f r.steps r) (fill_of fs))
    else if step then or_field (option_map (λ (s : RunStep). record r { steps = r.steps ++ s ∷ [] }) (step_of fs))
    else if end then or_field (option_map (λ end. record r { end = Some end }) (ending_of fs))
    else Err WORD) ≡ Ok t
    → Fits t
by_word r t fs true step end fits h =
    let m = mapped _ (fill_of fs) t (field_made _ t h) in
    subst Fits m.2 (filled_fits m.0 r.steps r (fill_small fs m.0 m.1) fits.steps fits)
by_word r t fs false true end fits h =
    let m = mapped _ (step_of fs) t (field_made _ t h) in
    subst Fits m.2 (record { head = fits.head; steps = one_more IsStep r.steps m.0 fits.steps (step_small fs m.0 m.1) })
by_word r t fs false false true fits h =
    let m = mapped _ (ending_of fs) t (field_made _ t h) in
    subst Fits m.2 (record { head = fits.head; steps = fits.steps })
by_word r t fs false false false fits h = cc

by_fields : (r t : RecordReader) (fs : List (List ℕ)) → Fits r → record_rest r fs ≡ Ok t → Fits t
unfolding record_rest
by_fields r t [] fits h = cc
by_fields r t (word ∷ fs) fits h = by_word r t fs (bytes_eq word (codes "fill")) (bytes_eq word (codes "step")) (bytes_eq word (codes "end")) fits h

by_due : (r t : RecordReader) (line : List ℕ) (rest : Bool) → Fits r
    → (if rest then record_rest r (fields line) else within (λ (h : Head). record r { head = h }) (head_step record_header r.head line)) ≡ Ok t → Fits t
unfolding head_step
by_due r t line true fits h = by_fields r t (fields line) fits h
by_due r t line false fits h =
    let m = within_made _ (head_step record_header r.head line) t h in
    subst Fits m.2 (record { head = due_fits record_header r.head.due r.head m.0 line fits.head m.1; steps = fits.steps })

line_fits : (r t : RecordReader) (line : List ℕ) → Fits r → record_step r line ≡ Ok t → Fits t
unfolding record_step
line_fits r t line fits h = by_due r t line (is_rest r.head.due) fits h

-- ---- all lines

record Both (r : RecordReader) : Type 0 where
  keeps : IsRecordInTurn r
  fits : Fits r

all_told : Tells record_grammar Both told
all_told = record {
  keeps = λ s t line both on is. record { keeps = tells.keeps s t line both.keeps on is; fits = line_fits s t line both.fits is };
  adds = λ s t line both on is. tells.adds s t line both.keeps on is;
}

zeros_small : AreWords (0 ∷ 0 ∷ 0 ∷ 0 ∷ 0 ∷ 0 ∷ 0 ∷ 0 ∷ [])
zeros_small = zero_then (zero_then (zero_then (zero_then (zero_then (zero_then (zero_then (zero_then no_word)))))))
  where
    zero_then : {words : List ℕ} → AreWords words → AreWords (0 ∷ words)
    zero_then words = one_word 0 (omega arith) words

nothing_fits : Fits no_record
nothing_fits = record {
  head = record { registers = refl; words = zeros_small.small; fs = omega arith; gs = omega arith; fill = All-nil IsFill };
  steps = All-nil IsStep;
}

pub record_in_bounds : (text : List ℕ) (r : RunRecord) → StatesRecord text r → IsInBounds r
record_in_bounds text r h =
    let last : Both h.read = (kept_lines record_grammar Both told all_told (lines text) 1 no_record h.read (record { keeps = nothing_in_turn; fits = nothing_fits }) h.reads).0 in
    let head = last.fits.head in
    let is = h.is in
    let start = is.start in
    let Words : List ℕ → Type 0 = λ regs. All (λ n. n < 2 ^ 32) regs in
    record {
      start = record {
        registers = ap length start.regs ∙ head.registers;
        words = subst Words (sym start.regs) head.words;
        fs = omega (arith, start.fs, head.fs);
        gs = omega (arith, start.gs, head.gs);
        fill = subst (All IsFill) (sym start.fill) head.fill;
      };
      steps = subst (All IsStep) (sym is.steps) last.fits.steps;
    }
