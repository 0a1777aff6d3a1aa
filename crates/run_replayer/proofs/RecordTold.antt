-- A text that is read as a run record is that record's text.
use Rattle.std.proofs.Common.{◌≡◌, ℕ, Bool, true, false, List, [], ◌∷◌, ◌++◌, Option, Some, None, Ok, Err, refl, sym, ◌∙◌, ap, subst, append_assoc, append-nil}
use Rattle.std.specs.Prelude.{codes, flat_map, is_some, option_map, if◌then◌else◌}
use Rattle.std.specs.Str.{bytes_eq}
use Rattle.std.proofs.lemmas.Slice.Eq.{bytes_eq-Decides}
use Rattle.text_fields.specs.Line.{newline}
use Rattle.text_fields.specs.Lines.{fields, lines}
use Rattle.memory_map.specs.declared.choice.Fill.{Fill}
use Rattle.run_replayer.specs.declared.record.EndWord.{EndWord}
use Rattle.run_replayer.specs.declared.record.RunRecord.{RunRecord}
use Rattle.run_replayer.specs.declared.record.RunStep.{RunStep}
use Rattle.run_replayer.specs.declared.head.Due.TheVariants as due
use Rattle.run_replayer.specs.declared.head.Head.{Head}
use Rattle.run_replayer.specs.declared.record_reader.RecordReader.{RecordReader}
use Rattle.run_replayer.specs.Fields.{ending_of, fill_of, step_of}
use Rattle.text_fields.specs.Lines.{WORD}
use Rattle.run_replayer.specs.Grammar.{IsRecord, StatesRecord, head_step, is_rest, no_record, or_field, record_grammar, record_read, record_rest, record_step, with_record_fill, with_step_fill, within, with_head_fill, with_last}
use Rattle.run_replayer.specs.Texts.{bases_line, choice_fields, end_word, fill_line, flags_line, record_header, record_text, regs_line, start_lines, step_lines, word_field}
use Rattle.run_replayer.proofs.HeadTold.{due_told, field_made, told_due, told_due-rest}
use Rattle.run_replayer.proofs.ItemsTold.{IsInTurn, end_gains, fills_gain, flat_map-with_last, head_gains, head_in_turn, items_gain, rest_in_turn, stated, within_made}
use Rattle.run_replayer.proofs.LineTexts.{ending_told, fill_told, step_told}
use Rattle.text_fields.proofs.Splitting.{Tells, fields_back, kept_lines, spaced, told_text}
use Rattle.text_fields.proofs.Found.{mapped}
use Rattle.automaton_text.proofs.Told.{flat_map-last}

step_gains : (fill : Fill) (s : RunStep) → step_lines (with_step_fill fill s) ≡ step_lines s ++ fill_line fill
unfolding step_lines choice_fields
step_gains fill s =
    ap (λ l. (codes "step" ++ word_field s.from ++ word_field s.to ++ choice_fields s.choice ++ newline) ++ l) (flat_map-last fill_line s.choice.fill fill)
    ∙ sym (append_assoc (codes "step" ++ word_field s.from ++ word_field s.to ++ choice_fields s.choice ++ newline) (flat_map fill_line s.choice.fill) (fill_line fill))

end_told : Option EndWord → List ℕ
end_told None = []
end_told (Some end) = codes "end " ++ end_word end ++ newline

-- what was stated so far
pub told : RecordReader → List ℕ
told s = stated record_header step_lines s.head s.steps (end_told s.end)

abbrev pub IsRecordInTurn : RecordReader → Type 0
IsRecordInTurn s = IsInTurn s.head s.steps (is_some s.end)

record Adds (s t : RecordReader) (line : List ℕ) : Type 0 where
  text : told t ≡ told s ++ (line ++ newline)
  kept : IsRecordInTurn t

filled : (f : Fill) (items : List RunStep) (s : RecordReader) (line : List ℕ) → s.steps ≡ items → s.end ≡ None → is_rest s.head.due ≡ true → line ++ newline ≡ fill_line f → Adds s (with_record_fill f items s) line
unfolding told end_told
filled f [] s line is on rest text = record {
  text = fills_gain record_header step_lines s.head line f s.steps (end_told s.end) is (ap end_told on) text;
  kept = rest_in_turn (with_head_fill f s.head) s.steps (is_some s.end) rest;
}
filled f (x ∷ xs) s line is on rest text = record {
  text =
      items_gain record_header step_lines s.head line s.steps (with_last (with_step_fill f) (x ∷ xs)) (end_told s.end) (ap end_told on)
      (flat_map-with_last step_lines (with_step_fill f) (fill_line f) (λ y. step_gains f y) x xs
      ∙ ap (λ l. flat_map step_lines (x ∷ xs) ++ l) (sym text) ∙ ap (λ ss. flat_map step_lines ss ++ (line ++ newline)) (sym is));
  kept = rest_in_turn s.head (with_last (with_step_fill f) (x ∷ xs)) (is_some s.end) rest;
}

stepped : (c : RunStep) (s : RecordReader) (line : List ℕ) → s.end ≡ None → is_rest s.head.due ≡ true → line ++ newline ≡ step_lines c → Adds s (record s { steps = s.steps ++ c ∷ [] }) line
unfolding told end_told
stepped c s line on rest text = record {
  text =
      items_gain record_header step_lines s.head line s.steps (s.steps ++ c ∷ []) (end_told s.end) (ap end_told on)
      (flat_map-last step_lines s.steps c ∙ ap (λ l. flat_map step_lines s.steps ++ l) (sym text));
  kept = rest_in_turn s.head (s.steps ++ c ∷ []) (is_some s.end) rest;
}

closed : (end : EndWord) (s : RecordReader) (line : List ℕ) → s.end ≡ None → is_rest s.head.due ≡ true → line ++ newline ≡ codes "end " ++ end_word end ++ newline → Adds s (record s { end = Some end }) line
unfolding told end_told
closed end s line on rest text = record {
  text = end_gains record_header step_lines s.head line s.steps (end_told s.end) (codes "end " ++ end_word end ++ newline) (ap end_told on) text;
  kept = rest_in_turn s.head s.steps true rest;
}

step_text : (fs : List (List ℕ)) (s : RunStep) → step_of fs ≡ Some s → (codes "step" ++ spaced fs) ++ newline ≡ step_lines s
unfolding step_lines choice_fields
step_text fs s e =
    let h = step_told fs s e in
    rw (h.text, h.no_fill) (sym (append-nil (codes "step" ++ word_field s.from ++ word_field s.to ++ choice_fields s.choice ++ newline)))

end_text : (fs : List (List ℕ)) (end : EndWord) → ending_of fs ≡ Some end → (codes "end" ++ spaced fs) ++ newline ≡ codes "end " ++ end_word end ++ newline
end_text fs end e = rw (ending_told fs end e) refl

by_word : (s t : RecordReader) (word line : List ℕ) (fs : List (List ℕ)) (fill step end : Bool) → fields line ≡ word ∷ fs → s.end ≡ None → is_rest s.head.due ≡ true
    → bytes_eq word (codes "fill") ≡ fill → bytes_eq word (codes "step") ≡ step → bytes_eq word (codes "end") ≡ end
    → (if fill then or_field (option_map (λ f. with_record_fill f s.steps s) (fill_of fs))
    else if step then or_field (option_map (λ (c : RunStep). record s { steps = s.steps ++ c ∷ [] }) (step_of fs))
    else if end then or_field (option_map (λ end. record s { end = Some end }) (ending_of fs))
    else Err WORD) ≡ Ok t
    → Adds s t line
by_word s t word line fs true step end parts on rest e f g h =
    let m = mapped _ (fill_of fs) t (field_made _ t h) in
    let is : line ≡ codes "fill" ++ spaced fs = fields_back line word fs parts ∙ ap (λ w. w ++ spaced fs) ((bytes_eq-Decides word (codes "fill")).0 e) in
    subst (λ (u : RecordReader). Adds s u line) m.2 (filled m.0 s.steps s line refl on rest (ap (λ l. l ++ newline) is ∙ fill_told fs m.0 m.1))
by_word s t word line fs false true end parts on rest e f g h =
    let m = mapped _ (step_of fs) t (field_made _ t h) in
    let is : line ≡ codes "step" ++ spaced fs = fields_back line word fs parts ∙ ap (λ w. w ++ spaced fs) ((bytes_eq-Decides word (codes "step")).0 f) in
    subst (λ (u : RecordReader). Adds s u line) m.2 (stepped m.0 s line on rest (ap (λ l. l ++ newline) is ∙ step_text fs m.0 m.1))
by_word s t word line fs false false true parts on rest e f g h =
    let m = mapped _ (ending_of fs) t (field_made _ t h) in
    let is : line ≡ codes "end" ++ spaced fs = fields_back line word fs parts ∙ ap (λ w. w ++ spaced fs) ((bytes_eq-Decides word (codes "end")).0 g) in
    subst (λ (u : RecordReader). Adds s u line) m.2 (closed m.0 s line on rest (ap (λ l. l ++ newline) is ∙ end_text fs m.0 m.1))
by_word s t word line fs false false false parts on rest e f g h = cc

by_fields : (s t : RecordReader) (line : List ℕ) (fs : List (List ℕ)) → fields line ≡ fs → s.end ≡ None → is_rest s.head.due ≡ true → record_rest s fs ≡ Ok t → Adds s t line
unfolding record_rest
by_fields s t line [] parts on rest h = cc
by_fields s t line (word ∷ fs) parts on rest h =
    by_word s t word line fs (bytes_eq word (codes "fill")) (bytes_eq word (codes "step")) (bytes_eq word (codes "end")) parts on rest refl refl refl h

head_adds : (s : RecordReader) (k : Head) (line : List ℕ) → s.end ≡ None → s.head.fill ≡ [] → s.steps ≡ [] → k.fill ≡ []
    → told_due record_header k.due k ≡ told_due record_header s.head.due s.head ++ (line ++ newline) → Adds s (record s { head = k }) line
unfolding told end_told
head_adds s k line on no_fill none fresh text = record {
  text = head_gains record_header step_lines s.head line k s.steps (end_told s.end) no_fill fresh none (ap end_told on) text;
  kept = head_in_turn k s.steps (is_some s.end) fresh none (ap is_some on);
}

by_due : (s t : RecordReader) (line : List ℕ) (rest : Bool) → is_rest s.head.due ≡ rest → IsRecordInTurn s → s.end ≡ None
    → (if rest then record_rest s (fields line) else within (λ (h : Head). record s { head = h }) (head_step record_header s.head line)) ≡ Ok t → Adds s t line
unfolding head_step
by_due s t line true is kept on h = by_fields s t line (fields line) refl on is h
by_due s t line false is kept on h =
    let m = within_made _ (head_step record_header s.head line) t h in
    let line_told = due_told record_header s.head.due s.head m.0 line m.1 in
    let none = kept.fresh is in
    let no_fill : m.0.fill ≡ [] = line_told.fill ∙ none.0 in
    subst (λ (u : RecordReader). Adds s u line) m.2
    (head_adds s m.0 line on none.0 none.1 no_fill line_told.text)

not_some : (o : Option EndWord) → is_some o ≡ false → o ≡ None
not_some None e = refl
not_some (Some end) e = cc

pub tells : Tells record_grammar IsRecordInTurn told
unfolding record_step
tells = record {
  keeps = λ s t line kept on is. (by_due s t line (is_rest s.head.due) refl kept (not_some s.end on) is).kept;
  adds = λ s t line kept on is. (by_due s t line (is_rest s.head.due) refl kept (not_some s.end on) is).text;
}

-- the text of a record by its fields
written : List ℕ → ℕ → ℕ → ℕ → List Fill → List RunStep → EndWord → List ℕ
written regs flags fs gs fill steps end =
    record_header ++ newline ++ (regs_line regs ++ flags_line flags ++ bases_line fs gs ++ flat_map fill_line fill) ++ flat_map step_lines steps ++ codes "end " ++ end_word end ++ newline

joined : (h n r f b l i c w e : List ℕ) → ((((((h ++ n) ++ r) ++ f) ++ b) ++ l) ++ i) ++ ((c ++ w) ++ e) ≡ (((((h ++ n) ++ (((r ++ f) ++ b) ++ l)) ++ i) ++ c) ++ w) ++ e
joined h n r f b l i c w e = simp append_assoc

told_written : (read : RecordReader) (end : EndWord) → is_rest read.head.due ≡ true → read.end ≡ Some end
    → told read ≡ written read.head.regs read.head.flags read.head.fs read.head.gs read.head.fill read.steps end
unfolding told told_due end_told written
told_written read end rest ended =
    ap (λ l. l ++ flat_map fill_line read.head.fill ++ flat_map step_lines read.steps ++ end_told read.end) (told_due-rest record_header read.head.due read.head rest)
    ∙ ap (λ (o : Option EndWord). told_due record_header due.Rest read.head ++ flat_map fill_line read.head.fill ++ flat_map step_lines read.steps ++ end_told o) ended
    ∙ joined record_header newline (regs_line read.head.regs) (flags_line read.head.flags) (bases_line read.head.fs read.head.gs) (flat_map fill_line read.head.fill)
    (flat_map step_lines read.steps) (codes "end ") (end_word end) newline

written_same : (read : RecordReader) (r : RunRecord) → IsRecord read r
    → written read.head.regs read.head.flags read.head.fs read.head.gs read.head.fill read.steps r.end ≡ written r.start.regs r.start.flags r.start.fs r.start.gs r.start.fill r.steps r.end
written_same read r is = (let start = is.start in cc)

written_text : (r : RunRecord) → written r.start.regs r.start.flags r.start.fs r.start.gs r.start.fill r.steps r.end ≡ record_text r
unfolding written record_text start_lines
written_text r = refl

pub nothing_in_turn : IsRecordInTurn no_record
nothing_in_turn = record { fresh = λ _. (refl, refl); late = λ e. cc }

pub record_told : (text : List ℕ) (r : RunRecord) → StatesRecord text r → text ≡ record_text r
unfolding told told_due end_told
record_told text r h =
    let last = kept_lines record_grammar IsRecordInTurn told tells (lines text) 1 no_record h.read nothing_in_turn h.reads in
    told_text record_grammar IsRecordInTurn told tells no_record h.read text nothing_in_turn refl h.reads
    ∙ told_written h.read r.end (last.0.late last.1) h.is.end ∙ written_same h.read r h.is ∙ written_text r

ended_some : (o : Option EndWord) → is_some o ≡ true → o ≡ None → ⊥
ended_some None e f = (let never : ⊥ = cc in never)
ended_some (Some end) e f = (let never : ⊥ = cc in never)

-- what was read of a whole text has its end
pub record_ends : (text : List ℕ) (read : RecordReader) → record_read text ≡ Ok read → read.end ≡ None → ⊥
record_ends text read h none =
    ended_some read.end (kept_lines record_grammar IsRecordInTurn told tells (lines text) 1 no_record read nothing_in_turn h).1 none
