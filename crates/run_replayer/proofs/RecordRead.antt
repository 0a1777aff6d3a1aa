-- The text of a record is read as that record.
use Rattle.std.proofs.Common.{◌≡◌, ℕ, suc, ◌^◌, ◌<◌, ◌==◌, true, false, List, [], ◌∷◌, ◌++◌, length, Option, Some, None, Ok, refl, sym, ◌∙◌, ap, subst, arith, append_assoc, append-nil}
use Rattle.std.proofs.lemmas.List.Elements.{All-append}
use Rattle.std.specs.Prelude.{All, codes, flat_map, is_some, option_map, replicate}
use Rattle.text_fields.specs.Hex.{hex2, hex8, hex_text}
use Rattle.text_fields.specs.Line.{newline, space}
use Rattle.memory_map.specs.declared.choice.Choice.{Choice}
use Rattle.memory_map.specs.declared.choice.Fill.{Fill}
use Rattle.x86_machine.specs.StartLaws.{IsFill}
use Rattle.run_replayer.specs.declared.head.Due.{Due}
use Rattle.run_replayer.specs.declared.head.Due.TheVariants as due
use Rattle.run_replayer.specs.declared.head.Head.{Head}
use Rattle.run_replayer.specs.declared.record.EndWord.{EndWord}
use Rattle.run_replayer.specs.declared.record.RunRecord.{RunRecord}
use Rattle.run_replayer.specs.declared.record.RunStep.{RunStep}
use Rattle.run_replayer.specs.declared.record_reader.RecordReader.{RecordReader}
use Rattle.run_replayer.specs.Fields.{bases_of, regs_of, six_flags_of}
use Rattle.run_replayer.specs.Grammar.{StatesRecord, behind_word, head_step, is_rest, no_record, or_field, record_grammar, record_rest, record_step, with_record_fill, within}
use Rattle.run_replayer.specs.Laws.{IsInBounds, IsStep}
use Rattle.run_replayer.specs.Texts.{bases_line, choice_fields, end_word, fill_line, flag_digits, flags_line, record_header, record_text, regs_line, start_lines, step_lines, word_field}
use Rattle.run_replayer.proofs.FieldReads.{bases_read, choice_fields_of, end_plain, end_read, fill_read, flags_plain, regs_read, six_flags_read, step_read, bool_plain, words_plain}
use Rattle.run_replayer.proofs.FillFacts.{filled_step}
use Rattle.run_replayer.proofs.LineTexts.{bases_explicit, choice_explicit, fill_explicit, flags_explicit, regs_explicit, words_of, words_spaced}
use Rattle.text_fields.proofs.Splitting.{ArePlain, IsPlain, Reaches, fields_spaced, none, one, plain_line, reaches_both, reaches_end, reaches_line, reaches_none, spaced, spaced_line}
use Rattle.text_fields.proofs.Found.{word_same}
use Rattle.text_fields.specs.Fields.{bool_text}
use Rattle.text_fields.proofs.PlainTexts.{plain_is, word_plain, byte_plain, bytes_plain}
use Rattle.std.proofs.lemmas.List.{nil_from_length}

-- where a record stands while it is read
abbrev at : Due → List ℕ → ℕ → ℕ → ℕ → List Fill → List RunStep → Option EndWord → RecordReader
at d regs flags fs gs fill steps end = record { head = record { due = d; regs = regs; flags = flags; fs = fs; gs = gs; fill = fill }; steps = steps; end = end }

abbrev zeros : List ℕ
zeros = replicate 8 0

-- a line of a word and plain fields does not end before its end
ends_late : (word : List ℕ) (fs : List (List ℕ)) → IsPlain word → ArePlain fs → All (λ b. (b == 10) ≡ false) (word ++ spaced fs)
ends_late word fs plain others = All-append (λ b. (b == 10) ≡ false) word (spaced fs) (plain_line word plain) (spaced_line fs others)

line_reached : (s t : RecordReader) (word : List ℕ) (fs : List (List ℕ)) → IsPlain word → ArePlain fs → is_some s.end ≡ false → record_step s (word ++ spaced fs) ≡ Ok t
    → Reaches record_grammar s ((word ++ spaced fs) ++ newline) t
line_reached s t word fs plain others on taken = reaches_line record_grammar s t (word ++ spaced fs) (ends_late word fs plain others) on taken

-- a line that begins with its word is read by its fields
word_read : {A : Type 0} (word : List ℕ) (fs : List (List ℕ)) (go : List (List ℕ) → Option A) (a : A) → IsPlain word → ArePlain fs → go fs ≡ Some a → behind_word word (word ++ spaced fs) go ≡ Ok a
word_read word fs go a plain others made = rw (fields_spaced word fs plain others, word_same word) (ap or_field made)

-- ---- the head

regs_word : IsPlain (codes "regs")
regs_word = plain_is (codes "regs") refl

flags_word : IsPlain (codes "flags")
flags_word = plain_is (codes "flags") refl

bases_word : IsPlain (codes "bases")
bases_word = plain_is (codes "bases") refl

-- the two fields of the first line
header_fields : List (List ℕ)
header_fields = codes "1" ∷ []

header_reached : Reaches record_grammar no_record (record_header ++ newline) (at due.Regs zeros 0 0 0 [] [] None)
unfolding record_step head_step header_fields
header_reached =
    line_reached no_record (at due.Regs zeros 0 0 0 [] [] None) (codes "jakstab-record") header_fields
    (plain_is (codes "jakstab-record") refl) (one (codes "1") [] (plain_is (codes "1") refl) none) refl refl

regs_reached : (regs : List ℕ) → length regs ≡ 8 → All (λ n. n < 2 ^ 32) regs → Reaches record_grammar (at due.Regs zeros 0 0 0 [] [] None) (regs_line regs) (at due.Flags regs 0 0 0 [] [] None)
unfolding record_step head_step
regs_reached regs long small =
    let plain : ArePlain (words_of regs []) = words_plain regs [] none in
    let P : List ℕ → Type 0 = λ text. Reaches record_grammar (at due.Regs zeros 0 0 0 [] [] None) text (at due.Flags regs 0 0 0 [] [] None) in
    subst P (regs_explicit regs)
    (line_reached (at due.Regs zeros 0 0 0 [] [] None) (at due.Flags regs 0 0 0 [] [] None) (codes "regs") (words_of regs []) regs_word plain refl
    (ap (within (λ (h : Head). record { head = h; steps = []; end = None }))
    (word_read (codes "regs") (words_of regs []) (λ fs. option_map (λ (rs : List ℕ). record { due = due.Flags; regs = rs; flags = 0; fs = 0; gs = 0; fill = [] }) (regs_of fs))
    (record { due = due.Flags; regs = regs; flags = 0; fs = 0; gs = 0; fill = [] }) regs_word plain (rw (regs_read regs long small) refl))))

flags_reached : (regs : List ℕ) (flags : ℕ) → flags < 64 → Reaches record_grammar (at due.Flags regs 0 0 0 [] [] None) (flags_line flags) (at due.Bases regs flags 0 0 [] [] None)
unfolding record_step head_step
flags_reached regs flags small =
    let plain : ArePlain (flag_digits flags ∷ []) = one (flag_digits flags) [] (flags_plain flags) none in
    let P : List ℕ → Type 0 = λ text. Reaches record_grammar (at due.Flags regs 0 0 0 [] [] None) text (at due.Bases regs flags 0 0 [] [] None) in
    subst P (flags_explicit flags)
    (line_reached (at due.Flags regs 0 0 0 [] [] None) (at due.Bases regs flags 0 0 [] [] None) (codes "flags") (flag_digits flags ∷ []) flags_word plain refl
    (ap (within (λ (h : Head). record { head = h; steps = []; end = None }))
    (word_read (codes "flags") (flag_digits flags ∷ []) (λ fs. option_map (λ (n : ℕ). record { due = due.Bases; regs = regs; flags = n; fs = 0; gs = 0; fill = [] }) (six_flags_of fs))
    (record { due = due.Bases; regs = regs; flags = flags; fs = 0; gs = 0; fill = [] }) flags_word plain (rw (six_flags_read flags small) refl))))

bases_reached : (regs : List ℕ) (flags f g : ℕ) → f < 2 ^ 32 → g < 2 ^ 32 → Reaches record_grammar (at due.Bases regs flags 0 0 [] [] None) (bases_line f g) (at due.Rest regs flags f g [] [] None)
unfolding record_step head_step
bases_reached regs flags f g small other =
    let plain : ArePlain (words_of (f ∷ g ∷ []) []) = words_plain (f ∷ g ∷ []) [] none in
    let P : List ℕ → Type 0 = λ text. Reaches record_grammar (at due.Bases regs flags 0 0 [] [] None) text (at due.Rest regs flags f g [] [] None) in
    subst P (bases_explicit f g)
    (line_reached (at due.Bases regs flags 0 0 [] [] None) (at due.Rest regs flags f g [] [] None) (codes "bases") (words_of (f ∷ g ∷ []) []) bases_word plain refl
    (ap (within (λ (h : Head). record { head = h; steps = []; end = None }))
    (word_read (codes "bases") (words_of (f ∷ g ∷ []) []) (λ fs. option_map (λ (b : ℕ × ℕ). record { due = due.Rest; regs = regs; flags = flags; fs = b.0; gs = b.1; fill = [] }) (bases_of fs))
    (record { due = due.Rest; regs = regs; flags = flags; fs = f; gs = g; fill = [] }) bases_word plain (rw (bases_read f g small other) refl))))

-- ---- fills and steps

rest_line : (s : RecordReader) (word : List ℕ) (fs : List (List ℕ)) → is_rest s.head.due ≡ true → IsPlain word → ArePlain fs → record_step s (word ++ spaced fs) ≡ record_rest s (word ∷ fs)
unfolding record_step
rest_line s word fs rest plain others = rw (rest, fields_spaced word fs plain others) refl

fill_reached : (s : RecordReader) (f : Fill) → is_rest s.head.due ≡ true → is_some s.end ≡ false → IsFill f → Reaches record_grammar s (fill_line f) (with_record_fill f s.steps s)
unfolding record_rest
fill_reached s f rest on is =
    let fs : List (List ℕ) = hex8 f.at ∷ hex_text f.bytes ∷ [] in
    let word : IsPlain (codes "fill") = plain_is (codes "fill") refl in
    let plain : ArePlain (hex8 f.at ∷ hex_text f.bytes ∷ []) = one (hex8 f.at) (hex_text f.bytes ∷ []) (word_plain f.at) (one (hex_text f.bytes) [] (bytes_plain f.bytes) none) in
    let read : record_rest s (codes "fill" ∷ hex8 f.at ∷ hex_text f.bytes ∷ []) ≡ Ok (with_record_fill f s.steps s) = rw (fill_read f is) refl in
    let P : List ℕ → Type 0 = λ text. Reaches record_grammar s text (with_record_fill f s.steps s) in
    subst P (fill_explicit f.at f.bytes)
    (line_reached s (with_record_fill f s.steps s) (codes "fill") (hex8 f.at ∷ hex_text f.bytes ∷ []) word plain on
    (rest_line s (codes "fill") (hex8 f.at ∷ hex_text f.bytes ∷ []) rest word plain ∙ read))

head_fills : (regs : List ℕ) (flags f g : ℕ) (done fills : List Fill) → All IsFill fills
    → Reaches record_grammar (at due.Rest regs flags f g done [] None) (flat_map fill_line fills) (at due.Rest regs flags f g (done ++ fills) [] None)
head_fills regs flags f g done [] all =
    let P : List Fill → Type 0 = λ fs. Reaches record_grammar (at due.Rest regs flags f g done [] None) [] (at due.Rest regs flags f g fs [] None) in
    subst P (sym (append-nil done)) (reaches_none record_grammar (at due.Rest regs flags f g done [] None))
head_fills regs flags f g done (x ∷ xs) all =
    let P : List Fill → Type 0 = λ fs. Reaches record_grammar (at due.Rest regs flags f g done [] None) (fill_line x ++ flat_map fill_line xs) (at due.Rest regs flags f g fs [] None) in
    subst P (append_assoc done (x ∷ []) xs)
    (reaches_both record_grammar (at due.Rest regs flags f g done [] None) (at due.Rest regs flags f g (done ++ x ∷ []) [] None) (at due.Rest regs flags f g ((done ++ x ∷ []) ++ xs) [] None)
    (fill_line x) (flat_map fill_line xs)
    (fill_reached (at due.Rest regs flags f g done [] None) x refl refl (all 0 x (omega arith)))
    (head_fills regs flags f g (done ++ x ∷ []) xs (λ k d below. all (suc k) d (omega arith))))

-- a step with these fills
abbrev holding : RunStep → List Fill → RunStep
holding s fills = record s { choice = record s.choice { fill = fills } }

step_fills : (regs : List ℕ) (flags f g : ℕ) (head : List Fill) (steps : List RunStep) (s : RunStep) (done fills : List Fill) → All IsFill fills
    → Reaches record_grammar (at due.Rest regs flags f g head (steps ++ holding s done ∷ []) None) (flat_map fill_line fills) (at due.Rest regs flags f g head (steps ++ holding s (done ++ fills) ∷ []) None)
step_fills regs flags f g head steps s done [] all =
    let P : List Fill → Type 0 = λ fs. Reaches record_grammar (at due.Rest regs flags f g head (steps ++ holding s done ∷ []) None) [] (at due.Rest regs flags f g head (steps ++ holding s fs ∷ []) None) in
    subst P (sym (append-nil done)) (reaches_none record_grammar (at due.Rest regs flags f g head (steps ++ holding s done ∷ []) None))
step_fills regs flags f g head steps s done (x ∷ xs) all =
    let here : RecordReader = at due.Rest regs flags f g head (steps ++ holding s done ∷ []) None in
    let next : RecordReader = at due.Rest regs flags f g head (steps ++ holding s (done ++ x ∷ []) ∷ []) None in
    let first : Reaches record_grammar here (fill_line x) next =
    (let Q : RecordReader → Type 0 = λ t. Reaches record_grammar here (fill_line x) t in
    subst Q (filled_step here x steps (holding s done)) (fill_reached here x refl refl (all 0 x (omega arith)))) in
    let P : List Fill → Type 0 = λ fs. Reaches record_grammar here (fill_line x ++ flat_map fill_line xs) (at due.Rest regs flags f g head (steps ++ holding s fs ∷ []) None) in
    subst P (append_assoc done (x ∷ []) xs)
    (reaches_both record_grammar here next (at due.Rest regs flags f g head (steps ++ holding s ((done ++ x ∷ []) ++ xs) ∷ []) None) (fill_line x) (flat_map fill_line xs) first
    (step_fills regs flags f g head steps s (done ++ x ∷ []) xs (λ k d below. all (suc k) d (omega arith))))

step_fields : RunStep → List (List ℕ)
step_fields s = words_of (s.from ∷ s.to ∷ []) (choice_fields_of s.choice)

choice_plain : (c : Choice) → ArePlain (choice_fields_of c)
choice_plain c =
    one (hex2 c.flags) (words_of (c.eax ∷ c.ecx ∷ c.edx ∷ c.base ∷ []) (bool_text c.fails ∷ [])) (byte_plain c.flags)
    (words_plain (c.eax ∷ c.ecx ∷ c.edx ∷ c.base ∷ []) (bool_text c.fails ∷ []) (one (bool_text c.fails) [] (bool_plain c.fails) none))

step_plain : (s : RunStep) → ArePlain (step_fields s)
unfolding step_fields
step_plain s = words_plain (s.from ∷ s.to ∷ []) (choice_fields_of s.choice) (choice_plain s.choice)

-- the line of a step without its fills
step_line : RunStep → List ℕ
step_line s = codes "step" ++ word_field s.from ++ word_field s.to ++ choice_fields s.choice ++ newline

step_explicit : (s : RunStep) → (codes "step" ++ spaced (step_fields s)) ++ newline ≡ step_line s
unfolding step_fields step_line choice_fields
step_explicit s =
    ap (λ l. (codes "step" ++ l) ++ newline)
    (words_spaced (s.from ∷ s.to ∷ []) (choice_fields_of s.choice)
    ∙ ap (λ l. (word_field s.from ++ (word_field s.to ++ [])) ++ l) (choice_explicit s.choice.flags s.choice.eax s.choice.ecx s.choice.edx s.choice.base s.choice.fails))
    ∙ simp (append_assoc, append-nil)

bare_reached : (r : RecordReader) (s : RunStep) → is_rest r.head.due ≡ true → is_some r.end ≡ false → IsStep s → Reaches record_grammar r (step_line s) (record r { steps = r.steps ++ holding s [] ∷ [] })
unfolding record_rest step_fields
bare_reached r s rest on is =
    let word : IsPlain (codes "step") = plain_is (codes "step") refl in
    let next : RecordReader = record r { steps = r.steps ++ holding s [] ∷ [] } in
    let read : record_rest r (codes "step" ∷ step_fields s) ≡ Ok next = rw (step_read s is) refl in
    let P : List ℕ → Type 0 = λ text. Reaches record_grammar r text next in
    subst P (step_explicit s) (line_reached r next (codes "step") (step_fields s) word (step_plain s) on (rest_line r (codes "step") (step_fields s) rest word (step_plain s) ∙ read))

step_reached : (regs : List ℕ) (flags f g : ℕ) (head : List Fill) (steps : List RunStep) (s : RunStep) → IsStep s
    → Reaches record_grammar (at due.Rest regs flags f g head steps None) (step_lines s) (at due.Rest regs flags f g head (steps ++ s ∷ []) None)
unfolding step_lines step_line
step_reached regs flags f g head steps s is =
    reaches_both record_grammar (at due.Rest regs flags f g head steps None) (at due.Rest regs flags f g head (steps ++ holding s [] ∷ []) None) (at due.Rest regs flags f g head (steps ++ s ∷ []) None)
    (step_line s) (flat_map fill_line s.choice.fill)
    (bare_reached (at due.Rest regs flags f g head steps None) s refl refl is)
    (step_fills regs flags f g head steps s [] s.choice.fill is.choice.fill)

steps_reached : (regs : List ℕ) (flags f g : ℕ) (head : List Fill) (done steps : List RunStep) → All IsStep steps
    → Reaches record_grammar (at due.Rest regs flags f g head done None) (flat_map step_lines steps) (at due.Rest regs flags f g head (done ++ steps) None)
steps_reached regs flags f g head done [] all =
    let P : List RunStep → Type 0 = λ ss. Reaches record_grammar (at due.Rest regs flags f g head done None) [] (at due.Rest regs flags f g head ss None) in
    subst P (sym (append-nil done)) (reaches_none record_grammar (at due.Rest regs flags f g head done None))
steps_reached regs flags f g head done (x ∷ xs) all =
    let P : List RunStep → Type 0 = λ ss. Reaches record_grammar (at due.Rest regs flags f g head done None) (step_lines x ++ flat_map step_lines xs) (at due.Rest regs flags f g head ss None) in
    subst P (append_assoc done (x ∷ []) xs)
    (reaches_both record_grammar (at due.Rest regs flags f g head done None) (at due.Rest regs flags f g head (done ++ x ∷ []) None) (at due.Rest regs flags f g head ((done ++ x ∷ []) ++ xs) None)
    (step_lines x) (flat_map step_lines xs)
    (step_reached regs flags f g head done x (all 0 x (omega arith)))
    (steps_reached regs flags f g head (done ++ x ∷ []) xs (λ k d below. all (suc k) d (omega arith))))

-- ---- the end, and all of it

end_explicit : (end : EndWord) → (codes "end" ++ spaced (end_word end ∷ [])) ++ newline ≡ codes "end " ++ end_word end ++ newline
end_explicit end = ap (λ l. (codes "end" ++ l) ++ newline) (append-nil (space ++ end_word end)) ∙ simp (append_assoc, append-nil)

end_reached : (r : RecordReader) (end : EndWord) → is_rest r.head.due ≡ true → is_some r.end ≡ false → Reaches record_grammar r (codes "end " ++ end_word end ++ newline) (record r { end = Some end })
unfolding record_rest
end_reached r end rest on =
    let word : IsPlain (codes "end") = plain_is (codes "end") refl in
    let plain : ArePlain (end_word end ∷ []) = one (end_word end) [] (end_plain end) none in
    let read : record_rest r (codes "end" ∷ end_word end ∷ []) ≡ Ok (record r { end = Some end }) = rw (end_read end) refl in
    let P : List ℕ → Type 0 = λ text. Reaches record_grammar r text (record r { end = Some end }) in
    subst P (end_explicit end)
    (line_reached r (record r { end = Some end }) (codes "end") (end_word end ∷ []) word plain on (rest_line r (codes "end") (end_word end ∷ []) rest word plain ∙ read))

end_joined : (text word end gap : List ℕ) → text ++ ((word ++ end) ++ gap) ≡ ((text ++ word) ++ end) ++ gap
end_joined text word end gap = simp append_assoc

pub record_reads : (r : RunRecord) → IsInBounds r → StatesRecord (record_text r) r
unfolding record_text start_lines
record_reads r bounds =
    let is = bounds.start in
    let s0 : RecordReader = no_record in
    let s1 : RecordReader = at due.Regs zeros 0 0 0 [] [] None in
    let s2 : RecordReader = at due.Flags r.start.regs 0 0 0 [] [] None in
    let s3 : RecordReader = at due.Bases r.start.regs r.start.flags 0 0 [] [] None in
    let s4 : RecordReader = at due.Rest r.start.regs r.start.flags r.start.fs r.start.gs [] [] None in
    let s5 : RecordReader = at due.Rest r.start.regs r.start.flags r.start.fs r.start.gs r.start.fill [] None in
    let s6 : RecordReader = at due.Rest r.start.regs r.start.flags r.start.fs r.start.gs r.start.fill r.steps None in
    let s7 : RecordReader = at due.Rest r.start.regs r.start.flags r.start.fs r.start.gs r.start.fill r.steps (Some r.end) in
    let head : Reaches record_grammar s1 (start_lines r.start) s5 =
    reaches_both record_grammar s1 s4 s5 (regs_line r.start.regs ++ flags_line r.start.flags ++ bases_line r.start.fs r.start.gs) (flat_map fill_line r.start.fill)
    (reaches_both record_grammar s1 s3 s4 (regs_line r.start.regs ++ flags_line r.start.flags) (bases_line r.start.fs r.start.gs)
    (reaches_both record_grammar s1 s2 s3 (regs_line r.start.regs) (flags_line r.start.flags) (regs_reached r.start.regs is.registers is.words) (flags_reached r.start.regs r.start.flags r.start.six_flags))
    (bases_reached r.start.regs r.start.flags r.start.fs r.start.gs is.fs is.gs))
    (head_fills r.start.regs r.start.flags r.start.fs r.start.gs [] r.start.fill is.fill) in
    let all : Reaches record_grammar s0 (((((record_header ++ newline) ++ start_lines r.start) ++ flat_map step_lines r.steps) ++ (codes "end " ++ end_word r.end ++ newline))) s7 =
    reaches_both record_grammar s0 s6 s7 (((record_header ++ newline) ++ start_lines r.start) ++ flat_map step_lines r.steps) (codes "end " ++ end_word r.end ++ newline)
    (reaches_both record_grammar s0 s5 s6 ((record_header ++ newline) ++ start_lines r.start) (flat_map step_lines r.steps)
    (reaches_both record_grammar s0 s1 s5 (record_header ++ newline) (start_lines r.start) header_reached head)
    (steps_reached r.start.regs r.start.flags r.start.fs r.start.gs r.start.fill [] r.steps bounds.steps))
    (end_reached s6 r.end refl refl) in
    let P : List ℕ → Type 0 = λ text. Reaches record_grammar s0 text s7 in
    record {
      read = s7;
      reads = reaches_end record_grammar s0 s7 (record_text r) (subst P (end_joined (((record_header ++ newline) ++ start_lines r.start) ++ flat_map step_lines r.steps) (codes "end ") (end_word r.end) newline) all) refl;
      is = record { start = record { regs = refl; flags = refl; fs = refl; gs = refl; fill = refl; choices = nil_from_length r.start.choices r.no_choices }; steps = refl; end = refl };
    }
