-- What a table's text tells is a table of the image, and the text is that table's.
use Rattle.std.proofs.Common.{◌≡◌, ℕ, ◌+◌, ◌-◌, ◌<◌, ◌≤◌, ◌^◌, ◌==◌, Bool, true, false, List, [], ◌∷◌, ◌++◌, length, map, Option, None, Some, Ok, Err, refl, sym, ◌∙◌, ap, subst, arith, append_assoc, append-nil, decimal, pos}
use Rattle.std.specs.Prelude.{All, Result, codes, flat_map, nat_le, nat_lt, ◌&&◌, option_and_then, if◌then◌else◌}
use Rattle.std.specs.Option.{ForSome, option_map_or}
use Rattle.std.specs.List.{join_with_byte, list_all}
use Rattle.std.specs.Str.{bytes_eq}
use Rattle.std.proofs.lemmas.Bool.Decides.{nat_tests}
use Rattle.std.proofs.lemmas.List.Folds.{list_all-append}
use Rattle.std.proofs.lemmas.List.Splits.{join_with_byte-slice_split}
use Rattle.std.proofs.lemmas.List.{length-append}
use Rattle.std.proofs.lemmas.List.Elements.{All-nil, All-push, All-weaker}
use Rattle.memory_map.specs.Image.{Image}
use Rattle.memory_map.specs.declared.registers.Regs.{Regs}
use Rattle.memory_map.specs.Ascending.{ascend}
use Rattle.address_regions.specs.declared.region.Region.TheVariants.{Stack}
use Rattle.text_fields.specs.Decimal.{decimal_is}
use Rattle.text_fields.specs.Fields.{no_more, only_word}
use Rattle.text_fields.specs.Hex.{hex8}
use Rattle.text_fields.specs.Line.{newline, space}
use Rattle.text_fields.specs.declared.line_fault.LineFault.{LineFault}
use Rattle.bit_words.specs.Width.{bytes_of}
use Rattle.text_fields.specs.Lines.{CONTENT, COUNT, FIELD, HEADER, ORDER, WORD, after_line, end_fault, fields, lines, read_from, read_text, demand, or_fault, follows_last}
use Rattle.text_fields.proofs.FieldTexts.{has_field, is_done, only_word_is, number_told}
use Rattle.text_fields.proofs.Splitting.{fields_back, spaced}
use Rattle.bounded_values.specs.declared.value.Bounded.{Bounded}
use Rattle.bounded_values.specs.BoundedLaws.{bounded}
use Rattle.partitioned_memory.specs.declared.area.Area.TheVariants.{In}
use Rattle.partitioned_memory.specs.declared.fact.Fact.{Fact}
use Rattle.partitioned_memory.specs.declared.fact.Dirty.{Dirty}
use Rattle.partitioned_memory.specs.declared.fact.Counted.{Counted}
use Rattle.partitioned_memory.specs.Areas.{interval_at}
use Rattle.partitioned_memory.specs.Building.{is_block, is_sound_dirty, is_sound_fact}
use Rattle.partitioned_memory.specs.Held.{count_before, dirty_before, fact_before}
use Rattle.partitioned_memory.proofs.BuiltParts.{inside-of}
use Rattle.abstract_state.specs.declared.truth.Truth.{Truth}
use Rattle.abstract_state.specs.declared.flags.Truths.{Truths}
use Rattle.abstract_state.specs.declared.note.Note.{Note}
use Rattle.abstract_state.specs.declared.note.Note.TheVariants.{Register, Word}
use Rattle.abstract_state.specs.declared.plain.StateData.{StateData}
use Rattle.abstract_state.specs.Notes.{IsWellNote, compared_with}
use Rattle.abstract_state.specs.State.{IsWellState, Known}
use Rattle.abstract_state.specs.Building.{HasImageBytes, built, is_dirty_of, is_fact_of, is_note, is_state, is_well_note, parts_of, plain_of, registers_of, truths_of}
use Rattle.abstract_state.proofs.Building.{built-plain, built-well}
use Rattle.abstract_state.proofs.Keeping.{no-note}
use Rattle.table_check.specs.declared.table.Table.{Table}
use Rattle.table_check.specs.declared.stage.Stage.{Stage}
use Rattle.table_check.specs.declared.stage.Stage.TheVariants as stages
use Rattle.table_check.specs.Fields.{block_fields, dirty_fields, fact_fields, flags_fields, k_fields, note_fields, regs_fields}
use Rattle.table_check.specs.TextLaws.{IsStateOf, IsTableOf, TextsTellTables, are_made, is_above, is_made}
use Rattle.table_check.specs.Reading.{TableSoFar, block_step, closed, closed_by, count_fields, dirty_step, end_step, fact_step, flags_step, header_step, is_dirty_above, is_fact_above, is_over, k_step, mark_or_next_step, after_state, mark_step, next_step, no_state, note_step, nothing, part_of, regs_step, row_step, state_step, step_after, table_grammar, table_read, table_step, told}
use Rattle.table_check.specs.Text.{area_text, block_line, count_text, dirty_line, end_line, fact_line, flags_line, header_text, k_line, note_line, offset_text, open_line, region_text, regs_line, row_line, row_text, state_text, table_text, truth_code, value_text}
use Rattle.table_check.proofs.FieldsTold.{block_list, block_told, dirty_list, dirty_told, fact_list, fact_made, fact_told, flags_told, k_told, note_list, note_small, note_told, regs_told}
use Rattle.std.proofs.lemmas.Bool.{and_parts, and_from}
use Rattle.text_fields.proofs.Found.{if_ok, found_ok, same_ok, same_word}
use Rattle.text_fields.proofs.LastOnes.{last_of_later}
use Rattle.automaton_text.proofs.Ascending.{less}
use Rattle.automaton_text.proofs.Told.{flat_map-last, lines_few}

-- ---- what was told so far

abbrev pub front : TableSoFar → List ℕ
front r = header_text ++ newline ++ k_line r.k ++ flat_map open_line r.marked ++ flat_map row_text r.rows

abbrev pub said_state : TableSoFar → List ℕ
said_state r = (front r ++ row_line r.at) ++ state_text r.state

abbrev pub said_at : Stage → TableSoFar → List ℕ
said_at stages.Start r = []
said_at stages.Header r = header_text ++ newline
said_at stages.Marks r = front r
said_at stages.Row r = front r ++ row_line r.at
said_at stages.Regs r = (front r ++ row_line r.at) ++ regs_line r.state.regs
said_at stages.Flags r = said_state r
said_at stages.Note r = said_state r
said_at stages.Facts r = said_state r
said_at stages.Dirty r = said_state r
said_at stages.Blocks r = said_state r
said_at stages.Ended r = front r ++ end_line (length r.rows)

abbrev IsClear : StateData Bounded → Type 0
IsClear s = (s.note ≡ None) × (s.facts ≡ []) × (s.dirty ≡ []) × (s.blocks ≡ [])

-- nothing is there before its turn
abbrev pub IsBegun : Stage → TableSoFar → Type 0
IsBegun stages.Start r = (r.marked ≡ []) × (r.rows ≡ []) × IsClear r.state
IsBegun stages.Header r = (r.marked ≡ []) × (r.rows ≡ []) × IsClear r.state
IsBegun stages.Marks r = (r.rows ≡ []) × IsClear r.state
IsBegun stages.Row r = IsClear r.state
IsBegun stages.Regs r = IsClear r.state
IsBegun stages.Flags r = IsClear r.state
IsBegun stages.Note r = (r.state.facts ≡ []) × (r.state.dirty ≡ []) × (r.state.blocks ≡ [])
IsBegun stages.Facts r = (r.state.dirty ≡ []) × (r.state.blocks ≡ [])
IsBegun stages.Dirty r = r.state.blocks ≡ []
IsBegun stages.Blocks r = Unit {0}
IsBegun stages.Ended r = Unit {0}

abbrev is_k : ℕ → Bool
is_k k = nat_le 1 k && nat_le k 1024

abbrev HasK : Stage → ℕ → Type 0
HasK stages.Start k = Unit {0}
HasK stages.Header k = Unit {0}
HasK _ k = is_k k ≡ true

pub record KeepsAt (stage : Stage) (r : TableSoFar) : Type 0 where
  pub begun : IsBegun stage r
  pub k : HasK stage r.k
  pub marked : ascend is_above r.marked ≡ true
  pub rows : All (λ row. IsStateOf r.image row.1) r.rows
  pub made : are_made r.state ≡ true
  pub noted : ForSome r.state.note IsWellNote

-- what one more line leaves; it is said again where the rows can be counted, so in each text of fewer bytes than 2^64
pub record Adds (stage : Stage) (r t : TableSoFar) (line : List ℕ) : Type 0 where
  pub kept : KeepsAt t.stage t
  pub text : length (said_at stage r) < 2 ^ 64 → said_at t.stage t ≡ said_at stage r ++ (line ++ newline)
  pub image : t.image ≡ r.image

unnoted : {note : Option Note} → note ≡ None → ForSome note IsWellNote
unnoted is = subst (λ o. ForSome o IsWellNote) (sym is) no-note

-- a line by its first word and the fields behind it
worded : (line word own : List ℕ) (fs gs : List (List ℕ)) → fields line ≡ word ∷ fs → bytes_eq word own ≡ true → fs ≡ gs → line ≡ own ++ spaced gs
worded line word own fs gs parts is same = fields_back line word fs parts ∙ ap (λ l. l ++ spaced fs) (same_word word own is) ∙ ap (λ l. own ++ spaced l) same

-- ---- the texts of lines

pub k_text : (k : ℕ) → (codes "k" ++ spaced (decimal k ∷ [])) ++ newline ≡ k_line k
k_text k = ap (λ l. codes "k " ++ (l ++ newline)) (append-nil (decimal k))

pub open_text : (at : ℕ) → (codes "open" ++ spaced (hex8 at ∷ [])) ++ newline ≡ open_line at
open_text at = ap (λ l. codes "open " ++ (l ++ newline)) (append-nil (hex8 at))

pub row_head : (at : ℕ) → (codes "row" ++ spaced (hex8 at ∷ [])) ++ newline ≡ row_line at
row_head at = ap (λ l. codes "row " ++ (l ++ newline)) (append-nil (hex8 at))

pub end_text : (n : ℕ) → (codes "end" ++ spaced (decimal n ∷ [])) ++ newline ≡ end_line n
end_text n = ap (λ l. codes "end " ++ (l ++ newline)) (append-nil (decimal n))

spaced-values : (vs : List Bounded) → spaced (map value_text vs) ≡ flat_map (λ v. space ++ value_text v) vs
spaced-values [] = refl
spaced-values (v ∷ vs) = ap (λ l. (space ++ value_text v) ++ l) (spaced-values vs)

pub regs_text : (vs : List Bounded) → (codes "regs" ++ spaced (map value_text vs)) ++ newline ≡ regs_line vs
unfolding regs_line
regs_text vs = ap (λ l. (codes "regs" ++ l) ++ newline) (spaced-values vs)

pub flags_text : (ts : List Truth) → (codes "flags" ++ spaced (map truth_code ts ∷ [])) ++ newline ≡ flags_line ts
unfolding flags_line
flags_text ts = ap (λ l. codes "flags " ++ (l ++ newline)) (append-nil (map truth_code ts))

two_fields : (a b : List ℕ) → (a ++ 32 ∷ (b ++ [])) ++ newline ≡ a ++ space ++ b ++ newline
two_fields a b = simp (append_assoc, append-nil)

three_fields : (a b c : List ℕ) → (a ++ 32 ∷ (b ++ 32 ∷ (c ++ []))) ++ newline ≡ a ++ space ++ b ++ space ++ c ++ newline
three_fields a b c = simp (append_assoc, append-nil)

four_fields : (a b c d : List ℕ) → (a ++ 32 ∷ (b ++ 32 ∷ (c ++ 32 ∷ (d ++ [])))) ++ newline ≡ a ++ space ++ b ++ space ++ c ++ space ++ d ++ newline
four_fields a b c d = simp (append_assoc, append-nil)

pub note_text : (n : Note) → (codes "note" ++ spaced (note_list n)) ++ newline ≡ note_line (Some n)
unfolding note_line
note_text (Register r c) = ap (λ l. codes "note reg " ++ l) (two_fields (decimal r) (hex8 c))
note_text (Word o c) = ap (λ l. codes "note word " ++ l) (two_fields (offset_text o) (hex8 c))

pub fact_text : (f : Fact Bounded) → (codes "fact" ++ spaced (fact_list f)) ++ newline ≡ fact_line f
unfolding fact_line
fact_text f = ap (λ l. codes "fact " ++ l) (four_fields (area_text f.area) (offset_text f.low) (decimal (bytes_of f.w)) (value_text f.value))

pub dirty_text : (r : Dirty) → (codes "dirty" ++ spaced (dirty_list r)) ++ newline ≡ dirty_line r
unfolding dirty_line
dirty_text r = ap (λ l. codes "dirty " ++ l) (three_fields (area_text r.area) (offset_text r.low) (offset_text r.size))

pub block_text : (c : Counted) → (codes "block" ++ spaced (block_list c)) ++ newline ≡ block_line c
unfolding block_line
block_text c = ap (λ l. codes "block " ++ l) (two_fields (region_text c.region) (count_text c.many))

-- ---- before the rows

header_by : (r t : TableSoFar) (line : List ℕ) → KeepsAt stages.Start r → header_step r line ≡ Ok t → Adds stages.Start r t line
header_by r t line kept h =
    let u : TableSoFar = record r { stage = stages.Header } in
    let i : (bytes_eq line header_text ≡ true) × (Ok u ≡ Ok t) = if_ok (bytes_eq line header_text) HEADER (Ok u) t h in
    subst (λ (x : TableSoFar). Adds stages.Start r x line) (same_ok u t i.1) (record {
      kept = record { begun = kept.begun; k = tt; marked = kept.marked; rows = kept.rows; made = kept.made; noted = kept.noted };
      text = λ _. sym (ap (λ l. l ++ newline) (same_word line header_text i.0));
      image = refl;
    })

two_nils : (xs : List ℕ) → (xs ++ []) ++ [] ≡ xs
two_nils xs = append-nil (xs ++ []) ∙ append-nil xs

k_added : (k : ℕ) (marked : List ℕ) (rows : List (ℕ × Known Bounded)) (line : List ℕ) → marked ≡ [] → rows ≡ [] → line ≡ k_line k
    → header_text ++ newline ++ k_line k ++ flat_map open_line marked ++ flat_map row_text rows ≡ (header_text ++ newline) ++ line
k_added k marked rows line unmarked empty is = rw (unmarked, empty, is) (two_nils ((header_text ++ newline) ++ k_line k))

k_by : (r t : TableSoFar) (line : List ℕ) (fs : List (List ℕ)) → KeepsAt stages.Header r → fields line ≡ fs → k_step r fs ≡ Ok t → Adds stages.Header r t line
k_by r t line [] kept parts h = cc
k_by r t line (word ∷ fs) kept parts h =
    let go : ℕ → Result TableSoFar ℕ = λ k. Ok (record r { stage = stages.Marks; k = k }) in
    let w : (bytes_eq word (codes "k") ≡ true) × (or_fault FIELD (k_fields fs) go ≡ Ok t) = if_ok (bytes_eq word (codes "k")) WORD (or_fault FIELD (k_fields fs) go) t h in
    let f : (k : ℕ) × (k_fields fs ≡ Some k) × (go k ≡ Ok t) = found_ok FIELD (k_fields fs) go t w.1 in
    let told_k : (fs ≡ decimal f.0 ∷ []) × (is_k f.0 ≡ true) = k_told fs f.0 f.1 in
    let whole : line ++ newline ≡ k_line f.0 = ap (λ l. l ++ newline) (worded line word (codes "k") fs (decimal f.0 ∷ []) parts w.0 told_k.0) ∙ k_text f.0 in
    let u : TableSoFar = record r { stage = stages.Marks; k = f.0 } in
    subst (λ (x : TableSoFar). Adds stages.Header r x line) (same_ok u t f.2) (record {
      kept = record { begun = (kept.begun.1, kept.begun.2); k = told_k.1; marked = kept.marked; rows = kept.rows; made = kept.made; noted = kept.noted };
      text = λ _. k_added f.0 r.marked r.rows (line ++ newline) kept.begun.0 kept.begun.1 whole;
      image = refl;
    })

mark_added : (base : List ℕ) (marked : List ℕ) (rows : List (ℕ × Known Bounded)) (at : ℕ) (line : List ℕ) → rows ≡ [] → line ≡ open_line at
    → base ++ flat_map open_line (marked ++ at ∷ []) ++ flat_map row_text rows ≡ (base ++ flat_map open_line marked ++ flat_map row_text rows) ++ line
mark_added base marked rows at line empty is = rw (empty, is, flat_map-last open_line marked at) (simp (append_assoc, append-nil))

-- an element that follows the last one goes on with them
ascend_more : {X : Type 0} (test : X → X → Bool) (xs : List X) (x : X) → ascend test xs ≡ true → follows_last test xs x ≡ true → ascend test (xs ++ x ∷ []) ≡ true
ascend_more test [] x so here = refl
ascend_more test (y ∷ []) x so here = and_from (test y x) true here refl
ascend_more test (y ∷ z ∷ zs) x so here =
    let parts : (test y z ≡ true) × (ascend test (z ∷ zs) ≡ true) = and_parts (test y z) (ascend test (z ∷ zs)) so in
    and_from (test y z) (ascend test (z ∷ (zs ++ x ∷ []))) parts.0
    (ascend_more test (z ∷ zs) x parts.1 (ap (λ o. option_map_or (λ l. test l x) o true) (sym (last_of_later y z zs)) ∙ here))

mark_by : (r t : TableSoFar) (line : List ℕ) (at : ℕ) → KeepsAt stages.Marks r → r.stage ≡ stages.Marks → line ++ newline ≡ open_line at → mark_step r at ≡ Ok t → Adds stages.Marks r t line
unfolding mark_step
mark_by r t line at kept here whole h =
    let u : TableSoFar = record r { marked = r.marked ++ at ∷ [] } in
    let i : (follows_last nat_lt r.marked at ≡ true) × (Ok u ≡ Ok t) = if_ok (follows_last nat_lt r.marked at) ORDER (Ok u) t h in
    let marks : ascend is_above (r.marked ++ at ∷ []) ≡ true = ascend_more is_above r.marked at kept.marked i.0 in
    let own : KeepsAt stages.Marks u = record { begun = kept.begun; k = kept.k; marked = marks; rows = kept.rows; made = kept.made; noted = kept.noted } in
    let P : Stage → Type 0 = λ s. KeepsAt s u in
    let said_u : said_at r.stage u ≡ front u = ap (λ s. said_at s u) here in
    subst (λ (x : TableSoFar). Adds stages.Marks r x line) (same_ok u t i.1) (record {
      kept = subst P (sym here) own;
      text = λ _. said_u ∙ mark_added (header_text ++ newline ++ k_line r.k) r.marked r.rows at (line ++ newline) kept.begun.0 whole;
      image = refl;
    })

-- ---- a row, its registers and its flags

-- the lines before a row or the end, as they were told: those of whole rows
pub record IsWhole (stage : Stage) (r u : TableSoFar) : Type 0 where
  pub text : front u ≡ said_at stage r
  pub image : u.image ≡ r.image
  pub clear : IsClear u.state
  pub k : is_k u.k ≡ true
  pub marked : ascend is_above u.marked ≡ true
  pub rows : All (λ row. IsStateOf u.image row.1) u.rows
  pub made : are_made u.state ≡ true

some_row : (row : ℕ × Known Bounded) → 0 < length (row_text row)
some_row row =
    let whole : length (row_line row.0 ++ state_text (plain_of row.1)) ≡ length (row_line row.0) + length (state_text (plain_of row.1)) = length-append (row_line row.0) (state_text (plain_of row.1)) in
    let head : 0 < length (row_line row.0) = omega arith in
    omega arith

few_rows : (r : TableSoFar) → length (front r) < 2 ^ 64 → length r.rows < 2 ^ 64
few_rows r short =
    let before : List ℕ = header_text ++ newline ++ k_line r.k ++ flat_map open_line r.marked in
    let whole : length (before ++ flat_map row_text r.rows) ≡ length before + length (flat_map row_text r.rows) = length-append before (flat_map row_text r.rows) in
    let rows : length r.rows ≤ length (flat_map row_text r.rows) = lines_few row_text some_row r.rows in
    let all : length (before ++ flat_map row_text r.rows) < 2 ^ 64 = short in
    omega arith

few_whole : (stage : Stage) (r u : TableSoFar) → IsWhole stage r u → length (said_at stage r) < 2 ^ 64 → length u.rows < 2 ^ 64
few_whole stage r u w short = few_rows u (subst (λ l. length l < 2 ^ 64) (sym w.text) short)

row_by : (stage : Stage) (r u t : TableSoFar) (line word : List ℕ) (fs : List (List ℕ)) → IsWhole stage r u → fields line ≡ word ∷ fs → bytes_eq word (codes "row") ≡ true → row_step u fs ≡ Ok t → Adds stage r t line
row_by stage r u t line word fs w parts is h =
    let go : ℕ → Result TableSoFar ℕ = λ at. Ok (record u { stage = stages.Row; at = at }) in
    let f : (at : ℕ) × (only_word fs ≡ Some at) × (go at ≡ Ok t) = found_ok FIELD (only_word fs) go t h in
    let whole : line ++ newline ≡ row_line f.0 = ap (λ l. l ++ newline) (worded line word (codes "row") fs (hex8 f.0 ∷ []) parts is (only_word_is fs f.0 f.1)) ∙ row_head f.0 in
    let v : TableSoFar = record u { stage = stages.Row; at = f.0 } in
    subst (λ (x : TableSoFar). Adds stage r x line) (same_ok v t f.2) (record {
      kept = record { begun = w.clear; k = w.k; marked = w.marked; rows = w.rows; made = w.made; noted = unnoted w.clear.0 };
      text = λ _. ap (λ l. l ++ row_line f.0) w.text ∙ ap (λ l. said_at stage r ++ l) (sym whole);
      image = w.image;
    })

count_told : (r : TableSoFar) (fs : List (List ℕ)) → length r.rows < 2 ^ 64 → count_fields r fs ≡ Some true → fs ≡ decimal (length r.rows) ∷ []
unfolding count_fields
count_told r fs few h =
    let f = has_field (decimal_is (length r.rows)) fs (λ same fs. no_more same fs) true h in
    let d = is_done f.value true f.others f.after in
    f.begins ∙ ap (λ gs. f.field ∷ gs) d.none ∙ ap (λ l. l ∷ []) (number_told f.field (length r.rows) few (f.gives ∙ ap Some d.same))

end_by : (stage : Stage) (r u t : TableSoFar) (line word : List ℕ) (fs : List (List ℕ)) → IsWhole stage r u → fields line ≡ word ∷ fs → bytes_eq word (codes "end") ≡ true → end_step u fs ≡ Ok t → Adds stage r t line
unfolding end_step
end_by stage r u t line word fs w parts is h =
    let v : TableSoFar = record u { stage = stages.Ended } in
    let go : Bool → Result TableSoFar ℕ = λ same. demand same COUNT (Ok v) in
    let f : (same : Bool) × (count_fields u fs ≡ Some same) × (go same ≡ Ok t) = found_ok FIELD (count_fields u fs) go t h in
    let i : (f.0 ≡ true) × (Ok v ≡ Ok t) = if_ok f.0 COUNT (Ok v) t f.2 in
    let counted : length u.rows < 2 ^ 64 → fs ≡ decimal (length u.rows) ∷ [] = λ few. count_told u fs few (f.1 ∙ ap Some i.0) in
    let whole : length u.rows < 2 ^ 64 → line ++ newline ≡ end_line (length u.rows) =
    λ few. ap (λ l. l ++ newline) (worded line word (codes "end") fs (decimal (length u.rows) ∷ []) parts is (counted few)) ∙ end_text (length u.rows)
    in
    subst (λ (x : TableSoFar). Adds stage r x line) (same_ok v t i.1) (record {
      kept = record { begun = tt; k = w.k; marked = w.marked; rows = w.rows; made = w.made; noted = unnoted w.clear.0 };
      text = λ short. ap (λ l. l ++ end_line (length u.rows)) w.text ∙ ap (λ l. said_at stage r ++ l) (sym (whole (few_whole stage r u w short)));
      image = w.image;
    })

next_by : (stage : Stage) (r u t : TableSoFar) (line word : List ℕ) (fs : List (List ℕ)) (row end : Bool) → IsWhole stage r u → fields line ≡ word ∷ fs
    → bytes_eq word (codes "row") ≡ row → bytes_eq word (codes "end") ≡ end
    → (if row then row_step u fs else if end then end_step u fs else Err WORD) ≡ Ok t → Adds stage r t line
next_by stage r u t line word fs true end w parts a b h = row_by stage r u t line word fs w parts a h
next_by stage r u t line word fs false true w parts a b h = end_by stage r u t line word fs w parts b h
next_by stage r u t line word fs false false w parts a b h = cc

after_whole : (stage : Stage) (r u t : TableSoFar) (line word : List ℕ) (fs : List (List ℕ)) → IsWhole stage r u → fields line ≡ word ∷ fs → next_step u word fs ≡ Ok t → Adds stage r t line
unfolding next_step
after_whole stage r u t line word fs w parts h = next_by stage r u t line word fs (bytes_eq word (codes "row")) (bytes_eq word (codes "end")) w parts refl refl h

regs_by : (r t : TableSoFar) (line : List ℕ) (fs : List (List ℕ)) → KeepsAt stages.Row r → fields line ≡ fs → regs_step r fs ≡ Ok t → Adds stages.Row r t line
regs_by r t line [] kept parts h = cc
regs_by r t line (word ∷ fs) kept parts h =
    let go : List Bounded → Result TableSoFar ℕ = λ regs. Ok (record r { stage = stages.Regs; state = record (r.state) { regs = regs } }) in
    let w : (bytes_eq word (codes "regs") ≡ true) × (or_fault FIELD (regs_fields fs) go ≡ Ok t) = if_ok (bytes_eq word (codes "regs")) WORD (or_fault FIELD (regs_fields fs) go) t h in
    let f : (vs : List Bounded) × (regs_fields fs ≡ Some vs) × (go vs ≡ Ok t) = found_ok FIELD (regs_fields fs) go t w.1 in
    let values : (fs ≡ map value_text f.0) × (list_all is_made f.0 ≡ true) = regs_told fs f.0 f.1 in
    let whole : line ++ newline ≡ regs_line f.0 = ap (λ l. l ++ newline) (worded line word (codes "regs") fs (map value_text f.0) parts w.0 values.0) ∙ regs_text f.0 in
    let others : (list_all is_made r.state.regs ≡ true) × (list_all (λ (x : Fact Bounded). is_made x.value) r.state.facts ≡ true) = and_parts (list_all is_made r.state.regs) (list_all (λ (x : Fact Bounded). is_made x.value) r.state.facts) kept.made in
    let u : TableSoFar = record r { stage = stages.Regs; state = record (r.state) { regs = f.0 } } in
    subst (λ (x : TableSoFar). Adds stages.Row r x line) (same_ok u t f.2) (record {
      kept = record {
        begun = kept.begun;
        k = kept.k;
        marked = kept.marked;
        rows = kept.rows;
        made = and_from (list_all is_made f.0) (list_all (λ (x : Fact Bounded). is_made x.value) r.state.facts) values.1 others.1;
        noted = kept.noted;
      };
      text = λ _. ap (λ l. (front r ++ row_line r.at) ++ l) (sym whole);
      image = refl;
    })

pub note_line-none : note_line None ≡ []
unfolding note_line
note_line-none = refl

flags_added : (base regs : List ℕ) (flags : List Truth) (said : Option Note) (facts : List (Fact Bounded)) (dirty : List Dirty) (blocks : List Counted) (line : List ℕ)
    → said ≡ None → facts ≡ [] → dirty ≡ [] → blocks ≡ [] → line ≡ flags_line flags
    → base ++ (regs ++ flags_line flags ++ note_line said ++ flat_map fact_line facts ++ flat_map dirty_line dirty ++ flat_map block_line blocks) ≡ (base ++ regs) ++ line
flags_added base regs flags said facts dirty blocks line a b c d is = rw (a, b, c, d, is) (rw note_line-none (simp (append_assoc, append-nil)))

flags_by : (r t : TableSoFar) (line : List ℕ) (fs : List (List ℕ)) → KeepsAt stages.Regs r → fields line ≡ fs → flags_step r fs ≡ Ok t → Adds stages.Regs r t line
unfolding state_text
flags_by r t line [] kept parts h = cc
flags_by r t line (word ∷ fs) kept parts h =
    let go : List Truth → Result TableSoFar ℕ = λ flags. Ok (record r { stage = stages.Flags; state = record (r.state) { flags = flags } }) in
    let w : (bytes_eq word (codes "flags") ≡ true) × (or_fault FIELD (flags_fields fs) go ≡ Ok t) = if_ok (bytes_eq word (codes "flags")) WORD (or_fault FIELD (flags_fields fs) go) t h in
    let f : (ts : List Truth) × (flags_fields fs ≡ Some ts) × (go ts ≡ Ok t) = found_ok FIELD (flags_fields fs) go t w.1 in
    let whole : line ++ newline ≡ flags_line f.0 = ap (λ l. l ++ newline) (worded line word (codes "flags") fs (map truth_code f.0 ∷ []) parts w.0 (flags_told fs f.0 f.1)) ∙ flags_text f.0 in
    let u : TableSoFar = record r { stage = stages.Flags; state = record (r.state) { flags = f.0 } } in
    let s : StateData Bounded = r.state in
    subst (λ (x : TableSoFar). Adds stages.Regs r x line) (same_ok u t f.2) (record {
      kept = record { begun = kept.begun; k = kept.k; marked = kept.marked; rows = kept.rows; made = kept.made; noted = kept.noted };
      text = λ _. flags_added (front r ++ row_line r.at) (regs_line s.regs) f.0 s.note s.facts s.dirty s.blocks (line ++ newline) kept.begun.0 kept.begun.1 kept.begun.2 kept.begun.3 whole;
      image = refl;
    })

-- ---- the other lines of a state

-- a stage of a state's lines, and what is so there
pub record IsPart (stage : Stage) (r : TableSoFar) : Type 0 where
  pub clear : nat_lt (part_of stage) 1 ≡ true → IsClear r.state
  pub undirtied : nat_le (part_of stage) 2 ≡ true → (r.state.dirty ≡ []) × (r.state.blocks ≡ [])
  pub uncounted : nat_le (part_of stage) 3 ≡ true → r.state.blocks ≡ []
  pub tells : said_at stage r ≡ said_state r
  pub k : is_k r.k ≡ true
  pub marked : ascend is_above r.marked ≡ true
  pub rows : All (λ row. IsStateOf r.image row.1) r.rows
  pub made : are_made r.state ≡ true
  pub noted : ForSome r.state.note IsWellNote

note_added : (base regs flags : List ℕ) (said : Option Note) (n : Note) (facts : List (Fact Bounded)) (dirty : List Dirty) (blocks : List Counted) (line : List ℕ)
    → said ≡ None → facts ≡ [] → dirty ≡ [] → blocks ≡ [] → line ≡ note_line (Some n)
    → base ++ (regs ++ flags ++ note_line (Some n) ++ flat_map fact_line facts ++ flat_map dirty_line dirty ++ flat_map block_line blocks)
    ≡ (base ++ (regs ++ flags ++ note_line said ++ flat_map fact_line facts ++ flat_map dirty_line dirty ++ flat_map block_line blocks)) ++ line
note_added base regs flags said n facts dirty blocks line a b c d is =
    rw (a, b, c, d, is) (rw note_line-none (simp (append_assoc, append-nil)))

fact_added : (base head : List ℕ) (facts : List (Fact Bounded)) (f : Fact Bounded) (dirty : List Dirty) (blocks : List Counted) (line : List ℕ)
    → dirty ≡ [] → blocks ≡ [] → line ≡ fact_line f
    → base ++ (head ++ flat_map fact_line (facts ++ f ∷ []) ++ flat_map dirty_line dirty ++ flat_map block_line blocks)
    ≡ (base ++ (head ++ flat_map fact_line facts ++ flat_map dirty_line dirty ++ flat_map block_line blocks)) ++ line
fact_added base head facts f dirty blocks line c d is = rw (c, d, is, flat_map-last fact_line facts f) (simp (append_assoc, append-nil))

dirty_added : (base head : List ℕ) (dirty : List Dirty) (r : Dirty) (blocks : List Counted) (line : List ℕ) → blocks ≡ [] → line ≡ dirty_line r
    → base ++ (head ++ flat_map dirty_line (dirty ++ r ∷ []) ++ flat_map block_line blocks) ≡ (base ++ (head ++ flat_map dirty_line dirty ++ flat_map block_line blocks)) ++ line
dirty_added base head dirty r blocks line d is = rw (d, is, flat_map-last dirty_line dirty r) (simp (append_assoc, append-nil))

block_added : (base head : List ℕ) (blocks : List Counted) (c : Counted) (line : List ℕ) → line ≡ block_line c
    → base ++ (head ++ flat_map block_line (blocks ++ c ∷ [])) ≡ (base ++ (head ++ flat_map block_line blocks)) ++ line
block_added base head blocks c line is = rw (is, flat_map-last block_line blocks c) (simp append_assoc)

made_more : (s : StateData Bounded) (f : Fact Bounded) → are_made s ≡ true → is_made f.value ≡ true → are_made (record s { facts = s.facts ++ f ∷ [] }) ≡ true
made_more s f made own =
    let is_value : Fact Bounded → Bool = λ x. is_made x.value in
    let h : (list_all is_made s.regs ≡ true) × (list_all is_value s.facts ≡ true) = and_parts (list_all is_made s.regs) (list_all is_value s.facts) made in
    let facts : list_all is_value (s.facts ++ f ∷ []) ≡ true =
    list_all-append is_value s.facts (f ∷ []) ∙ and_from (list_all is_value s.facts) (is_made f.value && true) h.1 (and_from (is_made f.value) true own refl)
    in
    and_from (list_all is_made s.regs) (list_all is_value (s.facts ++ f ∷ [])) h.0 facts

note_of : (n : Note) → is_well_note n ≡ true → compared_with n < 2 ^ 32 → IsWellNote n
note_of (Register r c) e small = (less r 8 e, small)
note_of (Word o c) e small = (inside-of (interval_at (In Stack) o (pos 4)) e, small)

now_noted : (n : Note) → IsWellNote n → ForSome (Some n) IsWellNote
now_noted n well m e = let same : n ≡ m = cc in subst IsWellNote same well

module _ (stage : Stage) (r t : TableSoFar) (line : List ℕ) (part : IsPart stage r) where
  adds : (u : TableSoFar) → ◌≡◌ {A = Result TableSoFar ℕ} (Ok u) (Ok t) → KeepsAt u.stage u → said_at u.stage u ≡ said_state r ++ (line ++ newline) → u.image ≡ r.image → Adds stage r t line
  adds u h kept text image =
      subst (λ (x : TableSoFar). Adds stage r x line) (same_ok u t h) (record { kept = kept; text = λ _. text ∙ ap (λ l. l ++ (line ++ newline)) (sym part.tells); image = image })

  note_by : (n : Note) → nat_lt (part_of stage) 1 ≡ true → compared_with n < 2 ^ 32 → line ++ newline ≡ note_line (Some n) → note_step r n ≡ Ok t → Adds stage r t line
  unfolding note_step state_text
  note_by n first small whole h =
      let s : StateData Bounded = r.state in
      let u : TableSoFar = record r { stage = stages.Note; state = record (r.state) { note = Some n } } in
      let i : (is_well_note n ≡ true) × (Ok u ≡ Ok t) = if_ok (is_well_note n) CONTENT (Ok u) t h in
      let c = part.clear first in
      adds u i.1 (record { begun = (c.1, c.2, c.3); k = part.k; marked = part.marked; rows = part.rows; made = part.made; noted = now_noted n (note_of n i.0 small) })
      (note_added (front r ++ row_line r.at) (regs_line s.regs) (flags_line s.flags) s.note n s.facts s.dirty s.blocks (line ++ newline) c.0 c.1 c.2 c.3 whole) refl

  fact_by : (f : Fact Bounded) → nat_le (part_of stage) 2 ≡ true → is_made f.value ≡ true → line ++ newline ≡ fact_line f → fact_step r f ≡ Ok t → Adds stage r t line
  unfolding fact_step state_text
  fact_by f on made whole h =
      let s : StateData Bounded = r.state in
      let u : TableSoFar = record r { stage = stages.Facts; state = record (r.state) { facts = r.state.facts ++ f ∷ [] } } in
      let content : Bool = is_sound_fact bounded f && (is_fact_of r.image f && follows_last fact_before r.state.facts f) in
      let i : (follows_last is_fact_above r.state.facts f ≡ true) × (demand content CONTENT (Ok u) ≡ Ok t) = if_ok (follows_last is_fact_above r.state.facts f) ORDER (demand content CONTENT (Ok u)) t h in
      let j : (content ≡ true) × (Ok u ≡ Ok t) = if_ok content CONTENT (Ok u) t i.1 in
      let c = part.undirtied on in
      adds u j.1 (record { begun = c; k = part.k; marked = part.marked; rows = part.rows; made = made_more s f part.made made; noted = part.noted })
      (fact_added (front r ++ row_line r.at) (regs_line s.regs ++ flags_line s.flags ++ note_line s.note) s.facts f s.dirty s.blocks (line ++ newline) c.0 c.1 whole) refl

  dirty_by : (d : Dirty) → nat_le (part_of stage) 3 ≡ true → line ++ newline ≡ dirty_line d → dirty_step r d ≡ Ok t → Adds stage r t line
  unfolding dirty_step state_text
  dirty_by d on whole h =
      let s : StateData Bounded = r.state in
      let u : TableSoFar = record r { stage = stages.Dirty; state = record (r.state) { dirty = r.state.dirty ++ d ∷ [] } } in
      let content : Bool = is_sound_dirty d && (is_dirty_of r.image d && follows_last dirty_before r.state.dirty d) in
      let i : (follows_last is_dirty_above r.state.dirty d ≡ true) × (demand content CONTENT (Ok u) ≡ Ok t) = if_ok (follows_last is_dirty_above r.state.dirty d) ORDER (demand content CONTENT (Ok u)) t h in
      let j : (content ≡ true) × (Ok u ≡ Ok t) = if_ok content CONTENT (Ok u) t i.1 in
      adds u j.1 (record { begun = part.uncounted on; k = part.k; marked = part.marked; rows = part.rows; made = part.made; noted = part.noted })
      (dirty_added (front r ++ row_line r.at) (regs_line s.regs ++ flags_line s.flags ++ note_line s.note ++ flat_map fact_line s.facts) s.dirty d s.blocks (line ++ newline) (part.uncounted on) whole) refl

  block_by : (c : Counted) → line ++ newline ≡ block_line c → block_step r c ≡ Ok t → Adds stage r t line
  unfolding block_step state_text
  block_by c whole h =
      let s : StateData Bounded = r.state in
      let u : TableSoFar = record r { stage = stages.Blocks; state = record (r.state) { blocks = r.state.blocks ++ c ∷ [] } } in
      let i : (follows_last count_before r.state.blocks c ≡ true) × (demand (is_block c) CONTENT (Ok u) ≡ Ok t) = if_ok (follows_last count_before r.state.blocks c) ORDER (demand (is_block c) CONTENT (Ok u)) t h in
      let j : (is_block c ≡ true) × (Ok u ≡ Ok t) = if_ok (is_block c) CONTENT (Ok u) t i.1 in
      adds u j.1 (record { begun = tt; k = part.k; marked = part.marked; rows = part.rows; made = part.made; noted = part.noted })
      (block_added (front r ++ row_line r.at) (regs_line s.regs ++ flags_line s.flags ++ note_line s.note ++ flat_map fact_line s.facts ++ flat_map dirty_line s.dirty) s.blocks c (line ++ newline) whole) refl

part_at : (stage : Stage) (r : TableSoFar) → nat_le (part_of stage) 4 ≡ true → KeepsAt stage r → (said_at stage r ≡ said_state r) → (is_k r.k ≡ true)
    → (nat_lt (part_of stage) 1 ≡ true → IsClear r.state) → (nat_le (part_of stage) 2 ≡ true → (r.state.dirty ≡ []) × (r.state.blocks ≡ [])) → (nat_le (part_of stage) 3 ≡ true → r.state.blocks ≡ []) → IsPart stage r
part_at stage r four kept tells k clear undirtied uncounted =
    record { clear = clear; undirtied = undirtied; uncounted = uncounted; tells = tells; k = k; marked = kept.marked; rows = kept.rows; made = kept.made; noted = kept.noted }

never : {A : Type 0} → false ≡ true → A
never e = absurd (cc)

part-flags : (r : TableSoFar) → KeepsAt stages.Flags r → IsPart stages.Flags r
part-flags r kept =
    let b = kept.begun in
    part_at stages.Flags r refl kept refl kept.k (λ e. b) (λ e. (b.2, b.3)) (λ e. b.3)

part-note : (r : TableSoFar) → KeepsAt stages.Note r → IsPart stages.Note r
part-note r kept =
    let b = kept.begun in
    part_at stages.Note r refl kept refl kept.k (λ e. never e) (λ e. (b.1, b.2)) (λ e. b.2)

part-facts : (r : TableSoFar) → KeepsAt stages.Facts r → IsPart stages.Facts r
part-facts r kept =
    let b = kept.begun in
    part_at stages.Facts r refl kept refl kept.k (λ e. never e) (λ e. b) (λ e. b.1)

part-dirty : (r : TableSoFar) → KeepsAt stages.Dirty r → IsPart stages.Dirty r
part-dirty r kept =
    let b = kept.begun in
    part_at stages.Dirty r refl kept refl kept.k (λ e. never e) (λ e. never e) (λ e. b)

part-blocks : (r : TableSoFar) → KeepsAt stages.Blocks r → IsPart stages.Blocks r
part-blocks r kept = part_at stages.Blocks r refl kept refl kept.k (λ e. never e) (λ e. never e) (λ e. never e)

-- ---- the end of a state

four_parts : (a b c d : List ℕ) → a ++ (b ++ (c ++ d)) ≡ ((a ++ b) ++ c) ++ d
four_parts a b c d = simp append_assoc

rows_added : (base : List ℕ) (rows : List (ℕ × Known Bounded)) (at : ℕ) (s : Known Bounded) (p : StateData Bounded) → plain_of s ≡ p
    → base ++ flat_map row_text (rows ++ (at, s) ∷ []) ≡ ((base ++ flat_map row_text rows) ++ row_line at) ++ state_text p
rows_added base rows at s p is =
    ap (λ l. base ++ l) (flat_map-last row_text rows (at, s))
    ∙ ap (λ (q : StateData Bounded). base ++ (flat_map row_text rows ++ (row_line at ++ state_text q))) is
    ∙ four_parts base (flat_map row_text rows) (row_line at) (state_text p)

closed_by-ok : (r u : TableSoFar) (o : Option (Known Bounded)) → built bounded r.image r.state ≡ o → closed_by o r ≡ Ok u
    → (s : Known Bounded) × (built bounded r.image r.state ≡ Some s) × (let v : TableSoFar = record r { rows = r.rows ++ (r.at, s) ∷ []; state = no_state } in v ≡ u)
closed_by-ok r u None e h = cc
closed_by-ok r u (Some s) e h = (s, e, same_ok _ u h)

-- a state that is built of lists with a well note is well
module _ (image : Image) (p : StateData Bounded) (s : Known Bounded) (noted : ForSome p.note IsWellNote) where
  well_by : (g : Regs Bounded) (t : Truths) (passed : Bool) → registers_of p.regs ≡ Some g → (is_state bounded image p && is_note p.note) ≡ passed
      → ◌≡◌ {A = Option (Known Bounded)} (if passed then Some (record { regs = g; flags = t; note = p.note; parts = parts_of p }) else None) (Some s) → IsWellState bounded s
  well_by g t true r e h =
      let made : Known Bounded = record { regs = g; flags = t; note = p.note; parts = parts_of p } in
      let same : made ≡ s = cc in
      subst (IsWellState bounded) same (built-well bounded image p g t (and_parts (is_state bounded image p) (is_note p.note) e).0 r noted)
  well_by g t false r e h = cc

  flags_well : (g : Regs Bounded) (t : Option Truths) → registers_of p.regs ≡ Some g
      → option_and_then (λ (flags : Truths). if is_state bounded image p && is_note p.note then Some (let made : Known Bounded = record { regs = g; flags = flags; note = p.note; parts = parts_of p } in made) else None) t ≡ Some s → IsWellState bounded s
  flags_well g None r h = cc
  flags_well g (Some t) r h = well_by g t (is_state bounded image p && is_note p.note) r refl h

  registers_well : (g : Option (Regs Bounded)) → registers_of p.regs ≡ g
      → option_and_then (λ (regs : Regs Bounded). option_and_then (λ (flags : Truths). if is_state bounded image p && is_note p.note then Some (let made : Known Bounded = record { regs = regs; flags = flags; note = p.note; parts = parts_of p } in made) else None) (truths_of p.flags)) g ≡ Some s
      → IsWellState bounded s
  registers_well None r h = cc
  registers_well (Some g) r h = flags_well g (truths_of p.flags) r h

  built_well : built bounded image p ≡ Some s → IsWellState bounded s
  unfolding built
  built_well h = registers_well (registers_of p.regs) refl h

whole_of : (stage : Stage) (r u : TableSoFar) → IsPart stage r → closed r ≡ Ok u → IsWhole stage r u
unfolding closed
whole_of stage r u part h =
    let c = closed_by-ok r u (built bounded r.image r.state) refl h in
    let b : (plain_of c.0 ≡ r.state) × HasImageBytes r.image c.0 = built-plain bounded r.image r.state c.0 c.1 in
    subst (λ (x : TableSoFar). IsWhole stage r x) c.2 (record {
      text = rows_added (header_text ++ newline ++ k_line r.k ++ flat_map open_line r.marked) r.rows r.at c.0 r.state b.0 ∙ sym part.tells;
      image = refl;
      clear = (refl, refl, refl, refl);
      k = part.k;
      marked = part.marked;
      rows = All-push (λ (row : ℕ × Known Bounded). IsStateOf r.image row.1) r.rows (r.at, c.0) part.rows (record { well = built_well r.image r.state c.0 part.noted c.1; bytes = b.1; made = ap are_made b.0 ∙ part.made });
      made = refl;
    })

-- ---- all lines

after_closed : (stage : Stage) (r t : TableSoFar) (line word : List ℕ) (fs : List (List ℕ)) (made : Result TableSoFar ℕ) → IsPart stage r → closed r ≡ made → fields line ≡ word ∷ fs
    → after_state made word fs ≡ Ok t → Adds stage r t line
after_closed stage r t line word fs (Err kind) part e parts h = cc
after_closed stage r t line word fs (Ok u) part e parts h = after_whole stage r u t line word fs (whole_of stage r u part e) parts h

module _ (stage : Stage) (r t : TableSoFar) (line : List ℕ) (part : IsPart stage r) where
  count_by : (word : List ℕ) (fs : List (List ℕ)) (block : Bool) → fields line ≡ word ∷ fs → bytes_eq word (codes "block") ≡ block
      → (if block then or_fault FIELD (block_fields fs) (block_step r) else after_state (closed r) word fs) ≡ Ok t → Adds stage r t line
  count_by word fs true parts d h =
      let f : (x : Counted) × (block_fields fs ≡ Some x) × (block_step r x ≡ Ok t) = found_ok FIELD (block_fields fs) (block_step r) t h in
      block_by stage r t line part f.0 (ap (λ l. l ++ newline) (worded line word (codes "block") fs (block_list f.0) parts d (block_told fs f.0 f.1)) ∙ block_text f.0) f.2
  count_by word fs false parts d h = after_closed stage r t line word fs (closed r) part refl parts h

  last_by : (word : List ℕ) (fs : List (List ℕ)) (dirty block third : Bool) → fields line ≡ word ∷ fs
      → bytes_eq word (codes "dirty") ≡ dirty → bytes_eq word (codes "block") ≡ block → nat_le (part_of stage) 3 ≡ third
      → (if dirty && third then or_fault FIELD (dirty_fields fs) (dirty_step r)
      else if block then or_fault FIELD (block_fields fs) (block_step r)
      else after_state (closed r) word fs) ≡ Ok t
      → Adds stage r t line
  last_by word fs true block true parts c d s h =
      let f : (x : Dirty) × (dirty_fields fs ≡ Some x) × (dirty_step r x ≡ Ok t) = found_ok FIELD (dirty_fields fs) (dirty_step r) t h in
      dirty_by stage r t line part f.0 s (ap (λ l. l ++ newline) (worded line word (codes "dirty") fs (dirty_list f.0) parts c (dirty_told fs f.0 f.1)) ∙ dirty_text f.0) f.2
  last_by word fs true block false parts c d s h = count_by word fs block parts d h
  last_by word fs false block third parts c d s h = count_by word fs block parts d h

  other_by : (word : List ℕ) (fs : List (List ℕ)) (fact dirty block second third : Bool) → fields line ≡ word ∷ fs
      → bytes_eq word (codes "fact") ≡ fact → bytes_eq word (codes "dirty") ≡ dirty → bytes_eq word (codes "block") ≡ block
      → nat_le (part_of stage) 2 ≡ second → nat_le (part_of stage) 3 ≡ third
      → (if fact && second then or_fault FIELD (fact_fields fs) (fact_step r)
      else if dirty && third then or_fault FIELD (dirty_fields fs) (dirty_step r)
      else if block then or_fault FIELD (block_fields fs) (block_step r)
      else after_state (closed r) word fs) ≡ Ok t
      → Adds stage r t line
  other_by word fs true dirty block true third parts b c d q s h =
      let f : (x : Fact Bounded) × (fact_fields fs ≡ Some x) × (fact_step r x ≡ Ok t) = found_ok FIELD (fact_fields fs) (fact_step r) t h in
      fact_by stage r t line part f.0 q (fact_made fs f.0 f.1) (ap (λ l. l ++ newline) (worded line word (codes "fact") fs (fact_list f.0) parts b (fact_told fs f.0 f.1)) ∙ fact_text f.0) f.2
  other_by word fs true dirty block false third parts b c d q s h = last_by word fs dirty block third parts c d s h
  other_by word fs false dirty block second third parts b c d q s h = last_by word fs dirty block third parts c d s h

  state_by : (word : List ℕ) (fs : List (List ℕ)) (note fact dirty block first second third : Bool) → fields line ≡ word ∷ fs
      → bytes_eq word (codes "note") ≡ note → bytes_eq word (codes "fact") ≡ fact → bytes_eq word (codes "dirty") ≡ dirty → bytes_eq word (codes "block") ≡ block
      → nat_lt (part_of stage) 1 ≡ first → nat_le (part_of stage) 2 ≡ second → nat_le (part_of stage) 3 ≡ third
      → (if note && first then or_fault FIELD (note_fields fs) (note_step r)
      else if fact && second then or_fault FIELD (fact_fields fs) (fact_step r)
      else if dirty && third then or_fault FIELD (dirty_fields fs) (dirty_step r)
      else if block then or_fault FIELD (block_fields fs) (block_step r)
      else after_state (closed r) word fs) ≡ Ok t
      → Adds stage r t line
  state_by word fs true fact dirty block true second third parts a b c d p q s h =
      let f : (n : Note) × (note_fields fs ≡ Some n) × (note_step r n ≡ Ok t) = found_ok FIELD (note_fields fs) (note_step r) t h in
      note_by stage r t line part f.0 p (note_small fs f.0 f.1) (ap (λ l. l ++ newline) (worded line word (codes "note") fs (note_list f.0) parts a (note_told fs f.0 f.1)) ∙ note_text f.0) f.2
  state_by word fs true fact dirty block false second third parts a b c d p q s h = other_by word fs fact dirty block second third parts b c d q s h
  state_by word fs false fact dirty block first second third parts a b c d p q s h = other_by word fs fact dirty block second third parts b c d q s h

state_told : (stage : Stage) (r t : TableSoFar) (line : List ℕ) (fs : List (List ℕ)) → r.stage ≡ stage → IsPart stage r → fields line ≡ fs → state_step r fs ≡ Ok t → Adds stage r t line
unfolding state_step
state_told stage r t line [] here part parts h = cc
state_told stage r t line (word ∷ fs) here part parts h =
    let P : Stage → Type 0 = λ s.
    (if bytes_eq word (codes "note") && nat_lt (part_of s) 1 then or_fault FIELD (note_fields fs) (note_step r)
    else if bytes_eq word (codes "fact") && nat_le (part_of s) 2 then or_fault FIELD (fact_fields fs) (fact_step r)
    else if bytes_eq word (codes "dirty") && nat_le (part_of s) 3 then or_fault FIELD (dirty_fields fs) (dirty_step r)
    else if bytes_eq word (codes "block") then or_fault FIELD (block_fields fs) (block_step r)
    else after_state (closed r) word fs) ≡ Ok t in
    state_by stage r t line part word fs (bytes_eq word (codes "note")) (bytes_eq word (codes "fact")) (bytes_eq word (codes "dirty")) (bytes_eq word (codes "block"))
    (nat_lt (part_of stage) 1) (nat_le (part_of stage) 2) (nat_le (part_of stage) 3) parts refl refl refl refl refl refl refl (subst P here h)

mark_or_next : (r t : TableSoFar) (line word : List ℕ) (fs : List (List ℕ)) (mark : Bool) → r.stage ≡ stages.Marks → KeepsAt stages.Marks r → fields line ≡ word ∷ fs → bytes_eq word (codes "open") ≡ mark
    → (if mark then or_fault FIELD (only_word fs) (mark_step r) else next_step r word fs) ≡ Ok t → Adds stages.Marks r t line
mark_or_next r t line word fs true here kept parts e h =
    let f : (at : ℕ) × (only_word fs ≡ Some at) × (mark_step r at ≡ Ok t) = found_ok FIELD (only_word fs) (mark_step r) t h in
    mark_by r t line f.0 kept here (ap (λ l. l ++ newline) (worded line word (codes "open") fs (hex8 f.0 ∷ []) parts e (only_word_is fs f.0 f.1)) ∙ open_text f.0) f.2
mark_or_next r t line word fs false here kept parts e h =
    let w : IsWhole stages.Marks r r = record { text = refl; image = refl; clear = kept.begun.1; k = kept.k; marked = kept.marked; rows = kept.rows; made = kept.made } in
    after_whole stages.Marks r r t line word fs w parts h

marks_told : (r t : TableSoFar) (line : List ℕ) (fs : List (List ℕ)) → r.stage ≡ stages.Marks → KeepsAt stages.Marks r → fields line ≡ fs → mark_or_next_step r fs ≡ Ok t → Adds stages.Marks r t line
unfolding mark_or_next_step
marks_told r t line [] here kept parts h = cc
marks_told r t line (word ∷ fs) here kept parts h = mark_or_next r t line word fs (bytes_eq word (codes "open")) here kept parts refl h

step_by : (stage : Stage) (r t : TableSoFar) (line : List ℕ) → r.stage ≡ stage → KeepsAt stage r → step_after stage r line ≡ Ok t → Adds stage r t line
step_by stages.Start r t line here kept h = header_by r t line kept h
step_by stages.Header r t line here kept h = k_by r t line (fields line) kept refl h
step_by stages.Marks r t line here kept h = marks_told r t line (fields line) here kept refl h
step_by stages.Row r t line here kept h = regs_by r t line (fields line) kept refl h
step_by stages.Regs r t line here kept h = flags_by r t line (fields line) kept refl h
step_by stages.Flags r t line here kept h = state_told stages.Flags r t line (fields line) here (part-flags r kept) refl h
step_by stages.Note r t line here kept h = state_told stages.Note r t line (fields line) here (part-note r kept) refl h
step_by stages.Facts r t line here kept h = state_told stages.Facts r t line (fields line) here (part-facts r kept) refl h
step_by stages.Dirty r t line here kept h = state_told stages.Dirty r t line (fields line) here (part-dirty r kept) refl h
step_by stages.Blocks r t line here kept h = state_told stages.Blocks r t line (fields line) here (part-blocks r kept) refl h
step_by stages.Ended r t line here kept h = cc

abbrev pub said : TableSoFar → List ℕ
said r = said_at r.stage r

pub record Told (s t : TableSoFar) (added : List ℕ) : Type 0 where
  pub text : length (said s ++ added) < 2 ^ 64 → said t ≡ said s ++ added
  pub kept : KeepsAt t.stage t
  pub over : is_over t.stage ≡ true
  pub image : t.image ≡ s.image

last_line : (n : ℕ) (s t : TableSoFar) (rest : List ℕ) (ended none : Bool) → is_over s.stage ≡ ended → (length rest == 0) ≡ none → KeepsAt s.stage s
    → ◌≡◌ {A = Result TableSoFar LineFault} (if ended && none then Ok s else Err (end_fault n)) (Ok t) → Told s t rest
last_line n s t [] true true over e kept h =
    let same : s ≡ t = cc in
    subst (λ (u : TableSoFar). Told s u []) same (record { text = λ _. sym (append-nil (said s)); kept = kept; over = over; image = refl })
last_line n s t (b ∷ rest) ended true over e kept h = let none : length (b ∷ rest) ≡ 0 = grind (arith, nat_tests) in absurd (omega (arith, none))
last_line n s t rest true false over e kept h = cc
last_line n s t rest false none over e kept h = cc

-- a line and the rest behind it
joined : (s u : TableSoFar) (line behind : List ℕ) → Adds s.stage s u line → length (said s ++ (line ++ (10 ∷ behind))) < 2 ^ 64 → said u ++ behind ≡ said s ++ (line ++ (10 ∷ behind))
joined s u line behind one all =
    let size : length (said s ++ (line ++ (10 ∷ behind))) ≡ length (said s) + length (line ++ (10 ∷ behind)) = length-append (said s) (line ++ (10 ∷ behind)) in
    let own : length (said_at s.stage s) < 2 ^ 64 = omega arith in
    ap (λ l. l ++ behind) (one.text own) ∙ append_assoc (said s) (line ++ newline) behind ∙ ap (λ l. said s ++ l) (append_assoc line newline behind)

whole_line : (n : ℕ) (s t : TableSoFar) (line next : List ℕ) (others : List (List ℕ)) (ended : Bool) (made : Result TableSoFar ℕ) → KeepsAt s.stage s → table_step s line ≡ made
    → ((n : ℕ) (u : TableSoFar) → KeepsAt u.stage u → read_from table_grammar n u (next ∷ others) ≡ Ok t → Told u t (join_with_byte 10 (next ∷ others)))
    → ◌≡◌ {A = Result TableSoFar LineFault} (if ended then Err (end_fault n) else after_line table_grammar n made (λ read. read_from table_grammar (n + 1) read (next ∷ others))) (Ok t)
    → Told s t (join_with_byte 10 (line ∷ next ∷ others))
unfolding table_step
whole_line n s t line next others true made kept is later h = cc
whole_line n s t line next others false (Err kind) kept is later h = cc
whole_line n s t line next others false (Ok u) kept is later h =
    let behind : List ℕ = join_with_byte 10 (next ∷ others) in
    let one : Adds s.stage s u line = step_by s.stage s u line refl kept is in
    let rest : Told u t behind = later (n + 1) u one.kept h in
    let text : length (said s ++ (line ++ (10 ∷ behind))) < 2 ^ 64 → said t ≡ said s ++ (line ++ (10 ∷ behind)) =
    λ short. (let same = joined s u line behind one short in rest.text (subst (λ l. length l < 2 ^ 64) (sym same) short) ∙ same)
    in
    record { text = text; kept = rest.kept; over = rest.over; image = rest.image ∙ one.image }

all_lines : (ls : List (List ℕ)) (n : ℕ) (s t : TableSoFar) → KeepsAt s.stage s → read_from table_grammar n s ls ≡ Ok t → Told s t (join_with_byte 10 ls)
unfolding read_from
all_lines [] n s t kept h = cc
all_lines (rest ∷ []) n s t kept h = last_line n s t rest (is_over s.stage) (length rest == 0) refl refl kept h
all_lines (line ∷ next ∷ others) n s t kept h =
    whole_line n s t line next others (is_over s.stage) (table_step s line) kept refl (λ n u more k. all_lines (next ∷ others) n u t more k) h

-- ---- whole texts

said_over : (stage : Stage) (r : TableSoFar) → is_over stage ≡ true → said_at stage r ≡ front r ++ end_line (length r.rows)
said_over stages.Ended r e = refl
said_over stages.Start r e = cc
said_over stages.Header r e = cc
said_over stages.Marks r e = cc
said_over stages.Row r e = cc
said_over stages.Regs r e = cc
said_over stages.Flags r e = cc
said_over stages.Note r e = cc
said_over stages.Facts r e = cc
said_over stages.Dirty r e = cc
said_over stages.Blocks r e = cc

k_over : (stage : Stage) (k : ℕ) → is_over stage ≡ true → HasK stage k → is_k k ≡ true
k_over stages.Ended k e h = h
k_over stages.Start k e h = cc
k_over stages.Header k e h = cc
k_over stages.Marks k e h = cc
k_over stages.Row k e h = cc
k_over stages.Regs k e h = cc
k_over stages.Flags k e h = cc
k_over stages.Note k e h = cc
k_over stages.Facts k e h = cc
k_over stages.Dirty k e h = cc
k_over stages.Blocks k e h = cc

keeps_nothing : (image : Image) → KeepsAt stages.Start (nothing image)
keeps_nothing image = record { begun = (refl, refl, (refl, refl, refl, refl)); k = tt; marked = refl; rows = All-nil _; made = refl; noted = unnoted refl }

at_most : (a b : ℕ) → nat_le a b ≡ true → a ≤ b
at_most a b e = grind (arith, nat_tests)

abbrev table_of : TableSoFar → Table Bounded
table_of r = record { k = r.k; rows = r.rows; marked = r.marked }

-- a table of the image, and a text of fewer bytes than 2^64 is that table's
abbrev Tells : Image → List ℕ → Table Bounded → Type 0
Tells image text t = IsTableOf image t × (length text < 2 ^ 64 → table_text t ≡ text)

table_by : (image : Image) (text : List ℕ) (r : TableSoFar) → Told (nothing image) r (join_with_byte 10 (lines text)) → Tells image text (table_of r)
unfolding lines table_text
table_by image text r is =
    let bounds = and_parts (nat_le 1 r.k) (nat_le r.k 1024) (k_over r.stage r.k is.over is.kept.k) in
    let P : Image → Type 0 = λ i. All (λ (row : ℕ × Known Bounded). IsStateOf i row.1) r.rows in
    let back : join_with_byte 10 (lines text) ≡ text = join_with_byte-slice_split 10 text in (
      record { k_least = at_most 1 r.k bounds.0; k_greatest = at_most r.k 1024 bounds.1; marked = is.kept.marked; rows = subst P is.image is.kept.rows },
      λ short. sym (said_over r.stage r is.over) ∙ is.text (subst (λ l. length l < 2 ^ 64) (sym back) short) ∙ back,
    )

read_by : (image : Image) (text : List ℕ) (t : Table Bounded) (read : Result TableSoFar LineFault) → read_text table_grammar (nothing image) text ≡ read → told read ≡ Ok t → Tells image text t
read_by image text t (Err f) is h = cc
read_by image text t (Ok r) is h =
    let same : table_of r ≡ t = cc in
    subst (Tells image text) same (table_by image text r (all_lines (lines text) 1 (nothing image) r (keeps_nothing image) is))

tells : (image : Image) (text : List ℕ) (t : Table Bounded) → table_read image text ≡ Ok t → Tells image text t
unfolding table_read
tells image text t h = read_by image text t (read_text table_grammar (nothing image) text) refl h

pub texts_tell : TextsTellTables
texts_tell image text t short h = let is = tells image text t h in (is.0, is.1 short)

-- the states of a table that a text tells are well
pub told-well : (image : Image) (text : List ℕ) (table : Table Bounded) → table_read image text ≡ Ok table → All (λ row. IsWellState bounded row.1) table.rows
told-well image text table read =
    All-weaker (λ (row : ℕ × Known Bounded). IsStateOf image row.1) (λ (row : ℕ × Known Bounded). IsWellState bounded row.1) (λ row is. is.well) table.rows (tells image text table read).0.rows
