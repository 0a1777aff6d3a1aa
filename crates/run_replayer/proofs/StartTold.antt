-- A text that is read as a start file is that start file's text.
use Rattle.std.proofs.Common.{◌≡◌, ℕ, Bool, true, false, List, [], ◌∷◌, ◌++◌, Some, Ok, Err, refl, sym, ◌∙◌, ap, subst, append_assoc, append-nil}
use Rattle.std.specs.Prelude.{codes, flat_map, option_map, if◌then◌else◌}
use Rattle.std.specs.Str.{bytes_eq}
use Rattle.std.proofs.lemmas.Slice.Eq.{bytes_eq-Decides}
use Rattle.text_fields.specs.Line.{newline}
use Rattle.text_fields.specs.Lines.{fields, lines}
use Rattle.memory_map.specs.declared.choice.Choice.{Choice}
use Rattle.memory_map.specs.declared.choice.Fill.{Fill}
use Rattle.x86_machine.specs.declared.start_file.StartFile.{StartFile}
use Rattle.run_replayer.specs.declared.head.Due.TheVariants as due
use Rattle.run_replayer.specs.declared.head.Head.{Head}
use Rattle.run_replayer.specs.declared.start_reader.StartReader.{StartReader}
use Rattle.text_fields.specs.Fields.{no_more}
use Rattle.run_replayer.specs.Fields.{choice_of, fill_of}
use Rattle.text_fields.specs.Lines.{WORD}
use Rattle.run_replayer.specs.Grammar.{IsStart, StatesStart, head_step, is_rest, no_start, or_field, start_grammar, start_rest, start_step, with_fill, with_last, with_start_fill, within, with_head_fill}
use Rattle.run_replayer.specs.Texts.{bases_line, choice_fields, choice_lines, fill_line, flags_line, regs_line, start_header, start_lines, start_text}
use Rattle.text_fields.proofs.FieldTexts.{is_done}
use Rattle.run_replayer.proofs.HeadTold.{due_told, field_made, told_due, told_due-rest}
use Rattle.run_replayer.proofs.ItemsTold.{IsInTurn, end_gains, fills_gain, flat_map-with_last, head_gains, head_in_turn, items_gain, rest_in_turn, stated, within_made}
use Rattle.run_replayer.proofs.LineTexts.{choice_told, fill_told}
use Rattle.text_fields.proofs.Splitting.{Tells, fields_back, kept_lines, spaced, told_text}
use Rattle.text_fields.proofs.Found.{mapped}
use Rattle.automaton_text.proofs.Told.{flat_map-last}

choice_gains : (fill : Fill) (c : Choice) → choice_lines (with_fill fill c) ≡ choice_lines c ++ fill_line fill
unfolding choice_lines choice_fields
choice_gains fill c =
    ap (λ l. (codes "choice" ++ choice_fields c ++ newline) ++ l) (flat_map-last fill_line c.fill fill)
    ∙ sym (append_assoc (codes "choice" ++ choice_fields c ++ newline) (flat_map fill_line c.fill) (fill_line fill))

end_told : Bool → List ℕ
end_told true = codes "end" ++ newline
end_told false = []

-- what was stated so far
pub told : StartReader → List ℕ
told s = stated start_header choice_lines s.head s.choices (end_told s.ended)

abbrev pub IsStartInTurn : StartReader → Type 0
IsStartInTurn s = IsInTurn s.head s.choices s.ended

record Adds (s t : StartReader) (line : List ℕ) : Type 0 where
  text : told t ≡ told s ++ (line ++ newline)
  kept : IsStartInTurn t

filled : (f : Fill) (items : List Choice) (s : StartReader) (line : List ℕ) → s.choices ≡ items → s.ended ≡ false → is_rest s.head.due ≡ true → line ++ newline ≡ fill_line f → Adds s (with_start_fill f items s) line
unfolding told end_told
filled f [] s line is on rest text = record {
  text = fills_gain start_header choice_lines s.head line f s.choices (end_told s.ended) is (ap end_told on) text;
  kept = rest_in_turn (with_head_fill f s.head) s.choices s.ended rest;
}
filled f (c ∷ cs) s line is on rest text = record {
  text =
      items_gain start_header choice_lines s.head line s.choices (with_last (with_fill f) (c ∷ cs)) (end_told s.ended) (ap end_told on)
      (flat_map-with_last choice_lines (with_fill f) (fill_line f) (λ x. choice_gains f x) c cs
      ∙ ap (λ l. flat_map choice_lines (c ∷ cs) ++ l) (sym text) ∙ ap (λ cs. flat_map choice_lines cs ++ (line ++ newline)) (sym is));
  kept = rest_in_turn s.head (with_last (with_fill f) (c ∷ cs)) s.ended rest;
}

chosen : (c : Choice) (s : StartReader) (line : List ℕ) → s.ended ≡ false → is_rest s.head.due ≡ true → line ++ newline ≡ choice_lines c → Adds s (record s { choices = s.choices ++ c ∷ [] }) line
unfolding told end_told
chosen c s line on rest text = record {
  text =
      items_gain start_header choice_lines s.head line s.choices (s.choices ++ c ∷ []) (end_told s.ended) (ap end_told on)
      (flat_map-last choice_lines s.choices c ∙ ap (λ l. flat_map choice_lines s.choices ++ l) (sym text));
  kept = rest_in_turn s.head (s.choices ++ c ∷ []) s.ended rest;
}

closed : (s : StartReader) (line : List ℕ) → s.ended ≡ false → is_rest s.head.due ≡ true → line ++ newline ≡ codes "end" ++ newline → Adds s (record s { ended = true }) line
unfolding told end_told
closed s line on rest text = record {
  text = end_gains start_header choice_lines s.head line s.choices (end_told s.ended) (codes "end" ++ newline) (ap end_told on) text;
  kept = rest_in_turn s.head s.choices true rest;
}

choice_text : (fs : List (List ℕ)) (c : Choice) → choice_of fs ≡ Some c → (codes "choice" ++ spaced fs) ++ newline ≡ choice_lines c
unfolding choice_lines choice_fields
choice_text fs c e = (let h = choice_told fs c e in rw (h.text, h.no_fill) (sym (append-nil (codes "choice" ++ choice_fields c ++ newline))))

by_word : (s t : StartReader) (word line : List ℕ) (fs : List (List ℕ)) (fill choice end : Bool) → fields line ≡ word ∷ fs → s.ended ≡ false → is_rest s.head.due ≡ true
    → bytes_eq word (codes "fill") ≡ fill → bytes_eq word (codes "choice") ≡ choice → bytes_eq word (codes "end") ≡ end
    → (if fill then or_field (option_map (λ f. with_start_fill f s.choices s) (fill_of fs))
    else if choice then or_field (option_map (λ (c : Choice). record s { choices = s.choices ++ c ∷ [] }) (choice_of fs))
    else if end then or_field (no_more (record s { ended = true }) fs)
    else Err WORD) ≡ Ok t
    → Adds s t line
by_word s t word line fs true choice end parts on rest e f g h =
    let m = mapped _ (fill_of fs) t (field_made _ t h) in
    let is : line ≡ codes "fill" ++ spaced fs = fields_back line word fs parts ∙ ap (λ w. w ++ spaced fs) ((bytes_eq-Decides word (codes "fill")).0 e) in
    subst (λ (u : StartReader). Adds s u line) m.2 (filled m.0 s.choices s line refl on rest (ap (λ l. l ++ newline) is ∙ fill_told fs m.0 m.1))
by_word s t word line fs false true end parts on rest e f g h =
    let m = mapped _ (choice_of fs) t (field_made _ t h) in
    let is : line ≡ codes "choice" ++ spaced fs = fields_back line word fs parts ∙ ap (λ w. w ++ spaced fs) ((bytes_eq-Decides word (codes "choice")).0 f) in
    subst (λ (u : StartReader). Adds s u line) m.2 (chosen m.0 s line on rest (ap (λ l. l ++ newline) is ∙ choice_text fs m.0 m.1))
by_word s t word line fs false false true parts on rest e f g h =
    let d = is_done _ t fs (field_made _ t h) in
    let is : line ≡ codes "end" ++ spaced fs = fields_back line word fs parts ∙ ap (λ w. w ++ spaced fs) ((bytes_eq-Decides word (codes "end")).0 g) in
    subst (λ (u : StartReader). Adds s u line) d.same (closed s line on rest (ap (λ l. l ++ newline) is ∙ ap (λ gs. (codes "end" ++ spaced gs) ++ newline) d.none))
by_word s t word line fs false false false parts on rest e f g h = cc

by_fields : (s t : StartReader) (line : List ℕ) (fs : List (List ℕ)) → fields line ≡ fs → s.ended ≡ false → is_rest s.head.due ≡ true → start_rest s fs ≡ Ok t → Adds s t line
unfolding start_rest
by_fields s t line [] parts on rest h = cc
by_fields s t line (word ∷ fs) parts on rest h =
    by_word s t word line fs (bytes_eq word (codes "fill")) (bytes_eq word (codes "choice")) (bytes_eq word (codes "end")) parts on rest refl refl refl h

head_adds : (s : StartReader) (k : Head) (line : List ℕ) → s.ended ≡ false → s.head.fill ≡ [] → s.choices ≡ [] → k.fill ≡ []
    → told_due start_header k.due k ≡ told_due start_header s.head.due s.head ++ (line ++ newline) → Adds s (record s { head = k }) line
unfolding told end_told
head_adds s k line on no_fill none fresh text = record {
  text = head_gains start_header choice_lines s.head line k s.choices (end_told s.ended) no_fill fresh none (ap end_told on) text;
  kept = head_in_turn k s.choices s.ended fresh none on;
}

by_due : (s t : StartReader) (line : List ℕ) (rest : Bool) → is_rest s.head.due ≡ rest → IsStartInTurn s → s.ended ≡ false
    → (if rest then start_rest s (fields line) else within (λ (h : Head). record s { head = h }) (head_step start_header s.head line)) ≡ Ok t → Adds s t line
unfolding head_step
by_due s t line true is kept on h = by_fields s t line (fields line) refl on is h
by_due s t line false is kept on h =
    let m = within_made _ (head_step start_header s.head line) t h in
    let line_told = due_told start_header s.head.due s.head m.0 line m.1 in
    let none = kept.fresh is in
    let no_fill : m.0.fill ≡ [] = line_told.fill ∙ none.0 in
    subst (λ (u : StartReader). Adds s u line) m.2
    (head_adds s m.0 line on none.0 none.1 no_fill line_told.text)

pub tells : Tells start_grammar IsStartInTurn told
unfolding start_step
tells = record {
  keeps = λ s t line kept on is. (by_due s t line (is_rest s.head.due) refl kept on is).kept;
  adds = λ s t line kept on is. (by_due s t line (is_rest s.head.due) refl kept on is).text;
}

-- the text of a start file by its fields
written : List ℕ → ℕ → ℕ → ℕ → List Fill → List Choice → List ℕ
written regs flags fs gs fill choices =
    start_header ++ newline ++ (regs_line regs ++ flags_line flags ++ bases_line fs gs ++ flat_map fill_line fill) ++ flat_map choice_lines choices ++ codes "end" ++ newline

joined : (h n r f b l i c e : List ℕ) → ((((((h ++ n) ++ r) ++ f) ++ b) ++ l) ++ i) ++ (c ++ e) ≡ ((((h ++ n) ++ (((r ++ f) ++ b) ++ l)) ++ i) ++ c) ++ e
joined h n r f b l i c e = simp append_assoc

told_written : (read : StartReader) → is_rest read.head.due ≡ true → read.ended ≡ true → told read ≡ written read.head.regs read.head.flags read.head.fs read.head.gs read.head.fill read.choices
unfolding told told_due end_told written
told_written read rest ended =
    ap (λ l. l ++ flat_map fill_line read.head.fill ++ flat_map choice_lines read.choices ++ end_told read.ended) (told_due-rest start_header read.head.due read.head rest)
    ∙ ap (λ (b : Bool). told_due start_header due.Rest read.head ++ flat_map fill_line read.head.fill ++ flat_map choice_lines read.choices ++ end_told b) ended
    ∙ joined start_header newline (regs_line read.head.regs) (flags_line read.head.flags) (bases_line read.head.fs read.head.gs) (flat_map fill_line read.head.fill)
    (flat_map choice_lines read.choices) (codes "end") newline

written_same : (read : StartReader) (s : StartFile) → IsStart read s → written read.head.regs read.head.flags read.head.fs read.head.gs read.head.fill read.choices ≡ written s.regs s.flags s.fs s.gs s.fill s.choices
written_same read s is = cc

written_text : (s : StartFile) → written s.regs s.flags s.fs s.gs s.fill s.choices ≡ start_text s
unfolding written start_text start_lines
written_text s = refl

pub start_told : (text : List ℕ) (s : StartFile) → StatesStart text s → text ≡ start_text s
unfolding told told_due end_told
start_told text s h =
    let kept : IsStartInTurn no_start = record { fresh = λ _. (refl, refl); late = λ e. cc } in
    let last = kept_lines start_grammar IsStartInTurn told tells (lines text) 1 no_start h.read kept h.reads in
    told_text start_grammar IsStartInTurn told tells no_start h.read text kept refl h.reads
    ∙ told_written h.read (last.0.late last.1) last.1 ∙ written_same h.read s h.is ∙ written_text s
