-- The text of a table of an image is read line by line, each line as what it was printed of.
use Rattle.std.proofs.Common.{◌≡◌, ℕ, ◌+◌, ◌-◌, ◌<◌, ◌≤◌, ◌^◌, ◌==◌, Bool, true, false, List, [], ◌∷◌, ◌++◌, length, map, Option, None, Some, Ok, refl, sym, ◌∙◌, ap, subst, arith, append-nil, decimal, nat_lt, ◌+ℤ◌}
use Rattle.std.specs.Prelude.{All, Result, codes, flat_map, nat_le, ◌&&◌, int_lt, if◌then◌else◌}
use Rattle.std.specs.Option.{option_map_or}
use Rattle.std.specs.List.{list_all}
use Rattle.std.specs.declared.cmp.Ordering.{Ordering}
use Rattle.std.specs.declared.cmp.Ordering.TheVariants.{Less, Equal, Greater}
use Rattle.std.proofs.lemmas.Bool.Decides.{nat_tests}
use Rattle.std.proofs.lemmas.Int.{ints}
use Rattle.std.proofs.lemmas.List.Elements.{All-append, All-head, All-tail}
use Rattle.memory_map.specs.Image.{Image, IsLoaded}
use Rattle.memory_map.specs.Ascending.{ascend}
use Rattle.text_fields.specs.Fields.{no_more}
use Rattle.text_fields.specs.Hex.{hex8}
use Rattle.text_fields.specs.Line.{newline}
use Rattle.text_fields.specs.Lines.{CONTENT, COUNT, FIELD, ORDER, fields, demand, or_fault, follows_last, last_of}
use Rattle.text_fields.proofs.Splitting.{ArePlain, Reaches, fields_spaced, plain_line, reaches_both, reaches_end, reaches_line, reaches_none, spaced, spaced_line}
use Rattle.text_fields.proofs.Splitting as plain
use Rattle.bounded_values.specs.declared.value.Bounded.{Bounded}
use Rattle.bounded_values.specs.BoundedLaws.{bounded}
use Rattle.partitioned_memory.specs.declared.fact.Fact.{Fact}
use Rattle.partitioned_memory.specs.declared.fact.Dirty.{Dirty}
use Rattle.partitioned_memory.specs.declared.fact.Counted.{Counted}
use Rattle.partitioned_memory.specs.Areas.{area_cmp, by_area, is_left, is_marked}
use Rattle.partitioned_memory.specs.Building.{are_well, is_block, is_counted_dirty, is_counted_fact, is_sound_dirty, is_sound_fact, lies_inside, may_hold}
use Rattle.partitioned_memory.specs.Held.{PartsHeld, count_before, dirty_before, fact_before, interval_of_dirty, pair_of_fact, spot_at}
use Rattle.partitioned_memory.proofs.FactSpots.{fact-spots, spot_before-is}
use Rattle.partitioned_memory.proofs.Orders.{int_lt-from, int_lt-true}
use Rattle.bit_words.specs.declared.width.Width.TheVariants.{B32}
use Rattle.bit_words.specs.Width.{bytes_of}
use Rattle.abstract_state.specs.declared.truth.Truth.{Truth}
use Rattle.abstract_state.specs.declared.note.Note.{Note}
use Rattle.abstract_state.specs.declared.note.Note.TheVariants.{Register, Word}
use Rattle.abstract_state.specs.declared.plain.StateData.{StateData}
use Rattle.abstract_state.specs.State.{Known}
use Rattle.abstract_state.specs.Building.{built, is_dirty_of, is_fact_of, is_note, is_small, is_state, is_well_note, parts_of, plain_of}
use Rattle.abstract_state.proofs.Building.{plain-built}
use Rattle.table_check.specs.declared.stage.Stage.{Stage}
use Rattle.table_check.specs.declared.stage.Stage.TheVariants as stages
use Rattle.table_check.specs.Fields.{dirty_fields, fact_fields, regs_fields}
use Rattle.table_check.specs.Reading.{TableSoFar, after_state, block_step, closed, closed_by, count_fields, dirty_step, end_step, fact_step, flags_step, is_dirty_above, is_fact_above, is_over, k_step, mark_or_next_step, mark_step, next_step, no_state, note_step, nothing, part_of, regs_step, row_step, state_step, table_grammar, table_read, table_step, told}
use Rattle.table_check.specs.Text.{area_text, block_line, count_text, dirty_line, end_line, fact_line, flags_line, header_text, k_line, note_line, offset_text, open_line, region_text, regs_line, row_line, row_text, state_text, table_text, truth_code, value_text}
use Rattle.table_check.specs.TextLaws.{FitsRow, FitsState, IsStateOf, TablesAreReadBack, fits_count, fits_dirty, fits_fact, fits_note, is_above, is_made}
use Rattle.table_check.proofs.FieldsTold.{block_list, dirty_list, fact_list, note_list}
use Rattle.table_check.proofs.FieldsRead.{block_back, dirty_back, fact_back, flags_back, k_back, note_back, plain_area, plain_count, plain_region, plain_truths, plain_value_text, plain_width, regs_back}
use Rattle.table_check.proofs.Told.{block_text, dirty_text, end_text, fact_text, flags_text, k_text, note_line-none, note_text, open_text, regs_text, row_head}
use Rattle.std.proofs.lemmas.Bool.{and_parts, and_from}
use Rattle.text_fields.proofs.FieldTexts.{then_given, only_word_read, number_written}
use Rattle.text_fields.specs.Decimal.{decimal_is}
use Rattle.text_fields.proofs.PlainTexts.{is_plain, plain_is, plain_word, plain_decimal}
use Rattle.automaton_text.specs.Laws.{is_word}
use Rattle.automaton_text.proofs.ReadBack.{goes_behind, goes_on, one_more, word_small}

-- ---- lists that go on from an element

goes_from : {X : Type 0} (before : X → X → Bool) (x : X) (xs : List X) → ascend before (x ∷ xs) ≡ true → goes_on before (Some x) xs ≡ true
goes_from before x [] e = refl
goes_from before x (y ∷ ys) e =
    let parts : (before x y ≡ true) × (ascend before (y ∷ ys) ≡ true) = and_parts (before x y) (ascend before (y ∷ ys)) e in
    and_from (before x y) (goes_on before (Some y) ys) parts.0 (goes_from before y ys parts.1)

goes_from_none : {X : Type 0} (before : X → X → Bool) (xs : List X) → ascend before xs ≡ true → goes_on before None xs ≡ true
goes_from_none before [] e = refl
goes_from_none before (x ∷ xs) e = goes_from before x xs e

-- ---- orders by spots

fact_above : (f g : Fact Bounded) → fact_before f g ≡ true → is_fact_above f g ≡ true
fact_above f g e = fact-spots (pair_of_fact f) (pair_of_fact g) e

by_area-more : (o : Ordering) (s t : Bool) → (s ≡ true → t ≡ true) → by_area o s ≡ true → by_area o t ≡ true
by_area-more Less s t h e = refl
by_area-more Equal s t h e = h e
by_area-more Greater s t h e = e

dirty_above : (r s : Dirty) → is_sound_dirty r ≡ true → dirty_before r s ≡ true → is_dirty_above r s ≡ true
unfolding is_left
dirty_above r s sound e =
    let some = int_lt-true r.low (r.low +ℤ r.size) (and_parts (int_lt r.low (r.low +ℤ r.size)) (lies_inside (interval_of_dirty r) && is_marked r.area) sound).0 in
    let more : int_lt (r.low +ℤ r.size) s.low ≡ true → int_lt r.low s.low ≡ true = λ h. (let k = int_lt-true (r.low +ℤ r.size) s.low h in int_lt-from r.low s.low (omega (arith, ints, some, k))) in
    spot_before-is (spot_at r.area r.low) (spot_at s.area s.low) ∙ by_area-more (area_cmp r.area s.area) (int_lt (r.low +ℤ r.size) s.low) (int_lt r.low s.low) more e

facts_above : (fs : List (Fact Bounded)) → ascend fact_before fs ≡ true → ascend is_fact_above fs ≡ true
facts_above [] e = refl
facts_above (f ∷ []) e = refl
facts_above (f ∷ g ∷ fs) e =
    let p : (fact_before f g ≡ true) × (ascend fact_before (g ∷ fs) ≡ true) = and_parts (fact_before f g) (ascend fact_before (g ∷ fs)) e in
    and_from (is_fact_above f g) (ascend is_fact_above (g ∷ fs)) (fact_above f g p.0) (facts_above (g ∷ fs) p.1)

dirties_above : (rs : List Dirty) → list_all is_sound_dirty rs ≡ true → ascend dirty_before rs ≡ true → ascend is_dirty_above rs ≡ true
dirties_above [] sound e = refl
dirties_above (r ∷ []) sound e = refl
dirties_above (r ∷ s ∷ rs) sound e =
    let p : (dirty_before r s ≡ true) × (ascend dirty_before (s ∷ rs) ≡ true) = and_parts (dirty_before r s) (ascend dirty_before (s ∷ rs)) e in
    let q : (is_sound_dirty r ≡ true) × (list_all is_sound_dirty (s ∷ rs) ≡ true) = and_parts (is_sound_dirty r) (list_all is_sound_dirty (s ∷ rs)) sound in
    and_from (is_dirty_above r s) (ascend is_dirty_above (s ∷ rs)) (dirty_above r s q.0 p.0) (dirties_above (s ∷ rs) q.1 p.1)

-- ---- what a state of the image meets

tested : (image : Image) (s : Known Bounded) → built bounded image (plain_of s) ≡ Some s → (is_state bounded image (plain_of s) && is_note s.note) ≡ true
unfolding built
tested image s h = by_test (is_state bounded image (plain_of s) && is_note s.note) h
  where
    by_test : (t : Bool) → ◌≡◌ {A = Option (Known Bounded)} (if t then Some s else None) (Some s) → t ≡ true
    by_test true e = refl
    by_test false e = cc

record Meets (image : Image) (p : StateData Bounded) : Type 0 where
  facts_order : ascend fact_before p.facts ≡ true
  facts_sound : list_all (is_sound_fact bounded) p.facts ≡ true
  facts_image : list_all (is_fact_of image) p.facts ≡ true
  dirty_order : ascend dirty_before p.dirty ≡ true
  dirty_sound : list_all is_sound_dirty p.dirty ≡ true
  dirty_image : list_all (is_dirty_of image) p.dirty ≡ true
  blocks_order : ascend count_before p.blocks ≡ true
  blocks_are : list_all is_block p.blocks ≡ true

meets : (image : Image) (p : StateData Bounded) → is_state bounded image p ≡ true → Meets image p
unfolding is_state are_well
meets image p e =
    let h : PartsHeld Bounded = parts_of p in
    let O = ascend fact_before h.facts in
    let S = list_all (is_sound_fact bounded) h.facts in
    let C = list_all (is_counted_fact bounded h.blocks) h.facts in
    let DO = ascend dirty_before h.dirty in
    let DS = list_all is_sound_dirty h.dirty in
    let DC = list_all (is_counted_dirty h.blocks) h.dirty in
    let BO = ascend count_before h.blocks in
    let BB = list_all is_block h.blocks in
    let F = list_all (is_fact_of image) p.facts in
    let R = list_all (is_dirty_of image) p.dirty in
    let V = list_all (may_hold bounded p.blocks B32) p.regs in
    let L = list_all (λ (c : Counted). is_small c.region) p.blocks in
    let a = and_parts ((BO && BB) && ((O && (S && C)) && (DO && (DS && DC)))) (F && (R && (V && L))) e in
    let b = and_parts F (R && (V && L)) a.1 in
    let c = and_parts R (V && L) b.1 in
    let d = and_parts (BO && BB) ((O && (S && C)) && (DO && (DS && DC))) a.0 in
    let g = and_parts (O && (S && C)) (DO && (DS && DC)) d.1 in
    let f = and_parts O (S && C) g.0 in
    let i = and_parts DO (DS && DC) g.1 in
    let j = and_parts BO BB d.0 in
    record {
      facts_order = f.0;
      facts_sound = (and_parts S C f.1).0;
      facts_image = b.0;
      dirty_order = i.0;
      dirty_sound = (and_parts DS DC i.1).0;
      dirty_image = c.0;
      blocks_order = j.0;
      blocks_are = j.1;
    }

-- ---- lines

are_plain : (fs : List (List ℕ)) → list_all is_plain fs ≡ true → ArePlain fs
are_plain [] e = plain.none
are_plain (f ∷ fs) e =
    let p : (is_plain f ≡ true) × (list_all is_plain fs ≡ true) = and_parts (is_plain f) (list_all is_plain fs) e in
    plain.one f fs (plain_is f p.0) (are_plain fs p.1)

parted : (word : List ℕ) (fs : List (List ℕ)) → is_plain word ≡ true → list_all is_plain fs ≡ true → fields (word ++ spaced fs) ≡ word ∷ fs
parted word fs own others = fields_spaced word fs (plain_is word own) (are_plain fs others)

-- a line of a word and fields leads to what the line makes
taken_line : (r t : TableSoFar) (word : List ℕ) (fs : List (List ℕ)) (text : List ℕ) → (word ++ spaced fs) ++ newline ≡ text → is_plain word ≡ true → list_all is_plain fs ≡ true → is_over r.stage ≡ false
    → table_step r (word ++ spaced fs) ≡ Ok t → Reaches table_grammar r text t
taken_line r t word fs text same own others on taken =
    let clear : All (λ b. (b == 10) ≡ false) (word ++ spaced fs) = All-append (λ b. (b == 10) ≡ false) word (spaced fs) (plain_line word (plain_is word own)) (spaced_line fs (are_plain fs others)) in
    subst (λ l. Reaches table_grammar r l t) same (reaches_line table_grammar r t (word ++ spaced fs) clear on taken)

abbrev reading : Image → Stage → ℕ → List ℕ → List (ℕ × Known Bounded) → ℕ → StateData Bounded → TableSoFar
reading image stage k marked rows at state = record { image = image; stage = stage; k = k; marked = marked; rows = rows; at = at; state = state }

-- ---- before the rows

header_reached : (image : Image) → Reaches table_grammar (nothing image) (header_text ++ newline) (reading image stages.Header 0 [] [] 0 no_state)
unfolding table_step
header_reached image = taken_line (nothing image) (reading image stages.Header 0 [] [] 0 no_state) (codes "jakstab-table") (codes "1" ∷ []) (header_text ++ newline) refl refl refl refl refl

k_reached : (image : Image) (k : ℕ) → 1 ≤ k → k ≤ 1024 → Reaches table_grammar (reading image stages.Header 0 [] [] 0 no_state) (k_line k) (reading image stages.Marks k [] [] 0 no_state)
unfolding table_step
k_reached image k least greatest =
    let r : TableSoFar = reading image stages.Header 0 [] [] 0 no_state in
    let fs : List (List ℕ) = decimal k ∷ [] in
    let own : is_plain (decimal k) ≡ true = plain_decimal k (omega arith) in
    let others : list_all is_plain fs ≡ true = and_from (is_plain (decimal k)) true own refl in
    taken_line r (reading image stages.Marks k [] [] 0 no_state) (codes "k") fs (k_line k) (k_text k) refl others refl
    (ap (k_step r) (parted (codes "k") fs refl others)
    ∙ ap (λ o. or_fault FIELD o (λ n. Ok (reading image stages.Marks n [] [] 0 no_state))) (k_back k least greatest))

one_plain : (f : List ℕ) → is_plain f ≡ true → list_all is_plain (f ∷ []) ≡ true
one_plain f e = and_from (is_plain f) true e refl

mark_reached : (image : Image) (k : ℕ) (marked : List ℕ) (at : ℕ) → is_word at ≡ true → follows_last nat_lt marked at ≡ true
    → Reaches table_grammar (reading image stages.Marks k marked [] 0 no_state) (open_line at) (reading image stages.Marks k (marked ++ at ∷ []) [] 0 no_state)
unfolding table_step mark_or_next_step mark_step
mark_reached image k marked at small above =
    let r : TableSoFar = reading image stages.Marks k marked [] 0 no_state in
    let u : TableSoFar = reading image stages.Marks k (marked ++ at ∷ []) [] 0 no_state in
    let fs : List (List ℕ) = hex8 at ∷ [] in
    let others : list_all is_plain fs ≡ true = one_plain (hex8 at) (plain_word at) in
    taken_line r u (codes "open") fs (open_line at) (open_text at) refl others refl
    (ap (mark_or_next_step r) (parted (codes "open") fs refl others)
    ∙ ap (λ o. or_fault FIELD o (mark_step r)) (only_word_read at (word_small at small))
    ∙ ap (λ t. demand t ORDER (Ok u)) above)

marks_reached : (image : Image) (k : ℕ) (done todo : List ℕ) → list_all is_word todo ≡ true → goes_on is_above (last_of done) todo ≡ true
    → Reaches table_grammar (reading image stages.Marks k done [] 0 no_state) (flat_map open_line todo) (reading image stages.Marks k (done ++ todo) [] 0 no_state)
marks_reached image k done [] fits order =
    subst (λ (xs : List ℕ). Reaches table_grammar (reading image stages.Marks k done [] 0 no_state) [] (reading image stages.Marks k xs [] 0 no_state)) (sym (append-nil done))
    (reaches_none table_grammar (reading image stages.Marks k done [] 0 no_state))
marks_reached image k done (at ∷ todo) fits order =
    let f : (is_word at ≡ true) × (list_all is_word todo ≡ true) = and_parts (is_word at) (list_all is_word todo) fits in
    let o : (follows_last nat_lt done at ≡ true) × (goes_on is_above (Some at) todo ≡ true) = and_parts (follows_last nat_lt done at) (goes_on is_above (Some at) todo) order in
    subst (λ (xs : List ℕ). Reaches table_grammar (reading image stages.Marks k done [] 0 no_state) (open_line at ++ flat_map open_line todo) (reading image stages.Marks k xs [] 0 no_state)) (one_more done at todo)
    (reaches_both table_grammar _ _ _ (open_line at) (flat_map open_line todo) (mark_reached image k done at f.0 o.0) (marks_reached image k (done ++ at ∷ []) todo f.1 (goes_behind is_above done at todo o.1)))

-- ---- the lines of a state

abbrev is_part : Stage → Bool
is_part stages.Flags = true
is_part stages.Note = true
is_part stages.Facts = true
is_part stages.Dirty = true
is_part stages.Blocks = true
is_part _ = false

not_over : (stage : Stage) → is_part stage ≡ true → is_over stage ≡ false
not_over stages.Start e = cc
not_over stages.Header e = cc
not_over stages.Marks e = cc
not_over stages.Row e = cc
not_over stages.Regs e = cc
not_over stages.Flags e = refl
not_over stages.Note e = refl
not_over stages.Facts e = refl
not_over stages.Dirty e = refl
not_over stages.Blocks e = refl
not_over stages.Ended e = cc

third_of : (n : ℕ) → nat_le n 2 ≡ true → nat_le n 3 ≡ true
third_of n e = grind (arith, nat_tests)

module _ (image : Image) (k : ℕ) (marked : List ℕ) (rows : List (ℕ × Known Bounded)) (at : ℕ) where
  abbrev part : Stage → StateData Bounded → TableSoFar
  part stage s = reading image stage k marked rows at s

  as_state : (stage : Stage) (s : StateData Bounded) (line : List ℕ) (fs : List (List ℕ)) → is_part stage ≡ true → fields line ≡ fs → table_step (part stage s) line ≡ state_step (part stage s) fs
  unfolding table_step
  as_state stages.Start s line fs on parts = cc
  as_state stages.Header s line fs on parts = cc
  as_state stages.Marks s line fs on parts = cc
  as_state stages.Row s line fs on parts = cc
  as_state stages.Regs s line fs on parts = cc
  as_state stages.Flags s line fs on parts = ap (state_step (part stages.Flags s)) parts
  as_state stages.Note s line fs on parts = ap (state_step (part stages.Note s)) parts
  as_state stages.Facts s line fs on parts = ap (state_step (part stages.Facts s)) parts
  as_state stages.Dirty s line fs on parts = ap (state_step (part stages.Dirty s)) parts
  as_state stages.Blocks s line fs on parts = ap (state_step (part stages.Blocks s)) parts
  as_state stages.Ended s line fs on parts = cc

  plain_values : (vs : List Bounded) → list_all is_plain (map value_text vs) ≡ true
  plain_values [] = refl
  plain_values (v ∷ vs) = and_from (is_plain (value_text v)) (list_all is_plain (map value_text vs)) (plain_value_text v) (plain_values vs)

  regs_reached : (vs : List Bounded) → regs_fields (map value_text vs) ≡ Some vs → Reaches table_grammar (part stages.Row no_state) (regs_line vs) (part stages.Regs (record no_state { regs = vs }))
  unfolding table_step
  regs_reached vs back =
      let r : TableSoFar = part stages.Row no_state in
      let fs : List (List ℕ) = map value_text vs in
      taken_line r (part stages.Regs (record no_state { regs = vs })) (codes "regs") fs (regs_line vs) (regs_text vs) refl (plain_values vs) refl
      (ap (regs_step r) (parted (codes "regs") fs refl (plain_values vs))
      ∙ ap (λ o. or_fault FIELD o (λ us. Ok (part stages.Regs (record no_state { regs = us })))) back)

  flags_reached : (vs : List Bounded) (ts : List Truth) → length ts ≡ 7
      → Reaches table_grammar (part stages.Regs (record no_state { regs = vs })) (flags_line ts) (part stages.Flags (record no_state { regs = vs; flags = ts }))
  unfolding table_step
  flags_reached vs ts seven =
      let r : TableSoFar = part stages.Regs (record no_state { regs = vs }) in
      let fs : List (List ℕ) = map truth_code ts ∷ [] in
      let others : list_all is_plain fs ≡ true = one_plain (map truth_code ts) (plain_truths ts) in
      taken_line r (part stages.Flags (record no_state { regs = vs; flags = ts })) (codes "flags") fs (flags_line ts) (flags_text ts) refl others refl
      (ap (flags_step r) (parted (codes "flags") fs refl others)
      ∙ ap (λ o. or_fault FIELD o (λ us. Ok (part stages.Flags (record no_state { regs = vs; flags = us })))) (flags_back ts seven))

  -- what was read up to a stage of a state's lines
  record ReadTo (s : TableSoFar) (text : List ℕ) (part_to : ℕ) (p : StateData Bounded) : Type 0 where
    later : Stage
    on : is_part later ≡ true
    early : nat_le (part_of later) part_to ≡ true
    reached : Reaches table_grammar s text (part later p)

  plain_note : (n : Note) → is_well_note n ≡ true → list_all is_plain (note_list n) ≡ true
  plain_note (Register r c) well = and_from (is_plain (decimal r)) (is_plain (hex8 c) && true) (plain_decimal r (small r well)) (one_plain (hex8 c) (plain_word c))
    where
      small : (r : ℕ) → nat_lt r 8 ≡ true → r < 2 ^ 64
      small r e = let less : r < 8 = grind (arith, nat_tests) in omega (arith, less)
  plain_note (Word o c) well = and_from (is_plain (offset_text o)) (is_plain (hex8 c) && true) (plain_word _) (one_plain (hex8 c) (plain_word c))

  note_reached : (vs : List Bounded) (ts : List Truth) (note : Option Note) → option_map_or fits_note note true ≡ true → is_note note ≡ true
      → ReadTo (part stages.Flags (record no_state { regs = vs; flags = ts })) (note_line note) 2 (record no_state { regs = vs; flags = ts; note = note })
  unfolding state_step note_step
  note_reached vs ts None fits well =
      let r : TableSoFar = part stages.Flags (record no_state { regs = vs; flags = ts }) in
      record { later = stages.Flags; on = refl; early = refl; reached = subst (λ l. Reaches table_grammar r l r) (sym note_line-none) (reaches_none table_grammar r) }
  note_reached vs ts (Some n) fits well =
      let s : StateData Bounded = record no_state { regs = vs; flags = ts } in
      let r : TableSoFar = part stages.Flags s in
      let u : TableSoFar = part stages.Note (record s { note = Some n }) in
      let fs : List (List ℕ) = note_list n in
      let others : list_all is_plain fs ≡ true = plain_note n well in
      record {
        later = stages.Note;
        on = refl;
        early = refl;
        reached =
            taken_line r u (codes "note") fs (note_line (Some n)) (note_text n) refl others refl
            (as_state stages.Flags s (codes "note" ++ spaced fs) (codes "note" ∷ fs) refl (parted (codes "note") fs refl others)
            ∙ ap (λ o. or_fault FIELD o (note_step r)) (note_back n fits well)
            ∙ ap (λ t. demand t CONTENT (Ok u)) well);
      }

  plain_fact : (f : Fact Bounded) → list_all is_plain (fact_list f) ≡ true
  plain_fact f =
      and_from (is_plain (area_text f.area)) _ (plain_area f.area) (and_from (is_plain (offset_text f.low)) _ (plain_word _)
      (and_from (is_plain (decimal (bytes_of f.w))) _ (plain_width f.w) (one_plain (value_text f.value) (plain_value_text f.value))))

  fact_reached : (stage : Stage) (s : StateData Bounded) (f : Fact Bounded) → is_part stage ≡ true → nat_le (part_of stage) 2 ≡ true → fits_fact f ≡ true → is_made f.value ≡ true
      → follows_last is_fact_above s.facts f ≡ true → is_sound_fact bounded f ≡ true → is_fact_of image f ≡ true → follows_last fact_before s.facts f ≡ true
      → Reaches table_grammar (part stage s) (fact_line f) (part stages.Facts (record s { facts = s.facts ++ f ∷ [] }))
  unfolding state_step fact_step
  fact_reached stage s f on early fits made above sound bytes clear =
      let r : TableSoFar = part stage s in
      let u : TableSoFar = part stages.Facts (record s { facts = s.facts ++ f ∷ [] }) in
      let fs : List (List ℕ) = fact_list f in
      let others : list_all is_plain fs ≡ true = plain_fact f in
      let go : Result TableSoFar ℕ = or_fault FIELD (fact_fields fs) (fact_step r) in
      let content : Bool = is_sound_fact bounded f && (is_fact_of image f && follows_last fact_before s.facts f) in
      let holds : content ≡ true = and_from (is_sound_fact bounded f) (is_fact_of image f && follows_last fact_before s.facts f) sound (and_from (is_fact_of image f) (follows_last fact_before s.facts f) bytes clear) in
      taken_line r u (codes "fact") fs (fact_line f) (fact_text f) refl others (not_over stage on)
      (as_state stage s (codes "fact" ++ spaced fs) (codes "fact" ∷ fs) on (parted (codes "fact") fs refl others)
      ∙ ap (λ t. if t then go else after_state (closed r) (codes "fact") fs) early
      ∙ ap (λ o. or_fault FIELD o (fact_step r)) (fact_back f fits made sound)
      ∙ ap (λ t. demand t ORDER (demand content CONTENT (Ok u))) above
      ∙ ap (λ t. demand t CONTENT (Ok u)) holds)

  facts_reached : (stage : Stage) (s : StateData Bounded) (todo : List (Fact Bounded)) → is_part stage ≡ true → nat_le (part_of stage) 2 ≡ true
      → list_all fits_fact todo ≡ true → list_all (λ f. is_made f.value) todo ≡ true → list_all (is_sound_fact bounded) todo ≡ true → list_all (is_fact_of image) todo ≡ true
      → goes_on is_fact_above (last_of s.facts) todo ≡ true → goes_on fact_before (last_of s.facts) todo ≡ true
      → ReadTo (part stage s) (flat_map fact_line todo) 2 (record s { facts = s.facts ++ todo })
  facts_reached stage s [] on early fits made sound bytes above clear = record {
    later = stage;
    on = on;
    early = early;
    reached = subst (λ (xs : List (Fact Bounded)). Reaches table_grammar (part stage s) [] (part stage (record s { facts = xs }))) (sym (append-nil s.facts)) (reaches_none table_grammar (part stage s));
  }
  facts_reached stage s (f ∷ todo) on early fits made sound bytes above clear =
      let is_value : Fact Bounded → Bool = λ x. is_made x.value in
      let a : (fits_fact f ≡ true) × (list_all fits_fact todo ≡ true) = and_parts (fits_fact f) (list_all fits_fact todo) fits in
      let b : (is_made f.value ≡ true) × (list_all is_value todo ≡ true) = and_parts (is_made f.value) (list_all is_value todo) made in
      let c : (is_sound_fact bounded f ≡ true) × (list_all (is_sound_fact bounded) todo ≡ true) = and_parts (is_sound_fact bounded f) (list_all (is_sound_fact bounded) todo) sound in
      let d : (is_fact_of image f ≡ true) × (list_all (is_fact_of image) todo ≡ true) = and_parts (is_fact_of image f) (list_all (is_fact_of image) todo) bytes in
      let e : (follows_last is_fact_above s.facts f ≡ true) × (goes_on is_fact_above (Some f) todo ≡ true) = and_parts (follows_last is_fact_above s.facts f) (goes_on is_fact_above (Some f) todo) above in
      let g : (follows_last fact_before s.facts f ≡ true) × (goes_on fact_before (Some f) todo ≡ true) = and_parts (follows_last fact_before s.facts f) (goes_on fact_before (Some f) todo) clear in
      let t : StateData Bounded = record s { facts = s.facts ++ f ∷ [] } in
      let rest : ReadTo (part stages.Facts t) (flat_map fact_line todo) 2 (record t { facts = t.facts ++ todo }) =
      facts_reached stages.Facts t todo refl refl a.1 b.1 c.1 d.1 (goes_behind is_fact_above s.facts f todo e.1) (goes_behind fact_before s.facts f todo g.1)
      in
      record {
        later = rest.later;
        on = rest.on;
        early = rest.early;
        reached =
            subst (λ (xs : List (Fact Bounded)). Reaches table_grammar (part stage s) (fact_line f ++ flat_map fact_line todo) (part rest.later (record s { facts = xs }))) (one_more s.facts f todo)
            (reaches_both table_grammar (part stage s) (part stages.Facts t) (part rest.later (record t { facts = t.facts ++ todo })) (fact_line f) (flat_map fact_line todo) (fact_reached stage s f on early a.0 b.0 e.0 c.0 d.0 g.0) rest.reached);
      }

  plain_dirty : (r : Dirty) → list_all is_plain (dirty_list r) ≡ true
  plain_dirty r = and_from (is_plain (area_text r.area)) _ (plain_area r.area) (and_from (is_plain (offset_text r.low)) _ (plain_word _) (one_plain (offset_text r.size) (plain_word _)))

  dirty_reached : (stage : Stage) (s : StateData Bounded) (d : Dirty) → IsLoaded image → is_part stage ≡ true → nat_le (part_of stage) 3 ≡ true → fits_dirty d ≡ true
      → follows_last is_dirty_above s.dirty d ≡ true → is_sound_dirty d ≡ true → is_dirty_of image d ≡ true → follows_last dirty_before s.dirty d ≡ true
      → Reaches table_grammar (part stage s) (dirty_line d) (part stages.Dirty (record s { dirty = s.dirty ++ d ∷ [] }))
  unfolding state_step dirty_step
  dirty_reached stage s d loaded on early fits above sound bytes clear =
      let r : TableSoFar = part stage s in
      let u : TableSoFar = part stages.Dirty (record s { dirty = s.dirty ++ d ∷ [] }) in
      let fs : List (List ℕ) = dirty_list d in
      let others : list_all is_plain fs ≡ true = plain_dirty d in
      let go : Result TableSoFar ℕ = or_fault FIELD (dirty_fields fs) (dirty_step r) in
      let content : Bool = is_sound_dirty d && (is_dirty_of image d && follows_last dirty_before s.dirty d) in
      let holds : content ≡ true = and_from (is_sound_dirty d) (is_dirty_of image d && follows_last dirty_before s.dirty d) sound (and_from (is_dirty_of image d) (follows_last dirty_before s.dirty d) bytes clear) in
      taken_line r u (codes "dirty") fs (dirty_line d) (dirty_text d) refl others (not_over stage on)
      (as_state stage s (codes "dirty" ++ spaced fs) (codes "dirty" ∷ fs) on (parted (codes "dirty") fs refl others)
      ∙ ap (λ t. if t then go else after_state (closed r) (codes "dirty") fs) early
      ∙ ap (λ o. or_fault FIELD o (dirty_step r)) (dirty_back image d loaded fits sound bytes)
      ∙ ap (λ t. demand t ORDER (demand content CONTENT (Ok u))) above
      ∙ ap (λ t. demand t CONTENT (Ok u)) holds)

  dirties_reached : (stage : Stage) (s : StateData Bounded) (todo : List Dirty) → IsLoaded image → is_part stage ≡ true → nat_le (part_of stage) 3 ≡ true
      → list_all fits_dirty todo ≡ true → list_all is_sound_dirty todo ≡ true → list_all (is_dirty_of image) todo ≡ true
      → goes_on is_dirty_above (last_of s.dirty) todo ≡ true → goes_on dirty_before (last_of s.dirty) todo ≡ true
      → ReadTo (part stage s) (flat_map dirty_line todo) 3 (record s { dirty = s.dirty ++ todo })
  dirties_reached stage s [] loaded on early fits sound bytes above clear = record {
    later = stage;
    on = on;
    early = early;
    reached = subst (λ (xs : List Dirty). Reaches table_grammar (part stage s) [] (part stage (record s { dirty = xs }))) (sym (append-nil s.dirty)) (reaches_none table_grammar (part stage s));
  }
  dirties_reached stage s (d ∷ todo) loaded on early fits sound bytes above clear =
      let a : (fits_dirty d ≡ true) × (list_all fits_dirty todo ≡ true) = and_parts (fits_dirty d) (list_all fits_dirty todo) fits in
      let b : (is_sound_dirty d ≡ true) × (list_all is_sound_dirty todo ≡ true) = and_parts (is_sound_dirty d) (list_all is_sound_dirty todo) sound in
      let c : (is_dirty_of image d ≡ true) × (list_all (is_dirty_of image) todo ≡ true) = and_parts (is_dirty_of image d) (list_all (is_dirty_of image) todo) bytes in
      let e : (follows_last is_dirty_above s.dirty d ≡ true) × (goes_on is_dirty_above (Some d) todo ≡ true) = and_parts (follows_last is_dirty_above s.dirty d) (goes_on is_dirty_above (Some d) todo) above in
      let g : (follows_last dirty_before s.dirty d ≡ true) × (goes_on dirty_before (Some d) todo ≡ true) = and_parts (follows_last dirty_before s.dirty d) (goes_on dirty_before (Some d) todo) clear in
      let t : StateData Bounded = record s { dirty = s.dirty ++ d ∷ [] } in
      let rest : ReadTo (part stages.Dirty t) (flat_map dirty_line todo) 3 (record t { dirty = t.dirty ++ todo }) =
      dirties_reached stages.Dirty t todo loaded refl refl a.1 b.1 c.1 (goes_behind is_dirty_above s.dirty d todo e.1) (goes_behind dirty_before s.dirty d todo g.1)
      in
      record {
        later = rest.later;
        on = rest.on;
        early = rest.early;
        reached =
            subst (λ (xs : List Dirty). Reaches table_grammar (part stage s) (dirty_line d ++ flat_map dirty_line todo) (part rest.later (record s { dirty = xs }))) (one_more s.dirty d todo)
            (reaches_both table_grammar (part stage s) (part stages.Dirty t) (part rest.later (record t { dirty = t.dirty ++ todo })) (dirty_line d) (flat_map dirty_line todo) (dirty_reached stage s d loaded on early a.0 e.0 b.0 c.0 g.0) rest.reached);
      }

  plain_block : (c : Counted) → list_all is_plain (block_list c) ≡ true
  plain_block c = and_from (is_plain (region_text c.region)) _ (plain_region c.region) (one_plain (count_text c.many) (plain_count c.many))

  block_reached : (stage : Stage) (s : StateData Bounded) (c : Counted) → is_part stage ≡ true → fits_count c ≡ true → follows_last count_before s.blocks c ≡ true → is_block c ≡ true
      → Reaches table_grammar (part stage s) (block_line c) (part stages.Blocks (record s { blocks = s.blocks ++ c ∷ [] }))
  unfolding state_step block_step
  block_reached stage s c on fits above is =
      let r : TableSoFar = part stage s in
      let u : TableSoFar = part stages.Blocks (record s { blocks = s.blocks ++ c ∷ [] }) in
      let fs : List (List ℕ) = block_list c in
      let others : list_all is_plain fs ≡ true = plain_block c in
      taken_line r u (codes "block") fs (block_line c) (block_text c) refl others (not_over stage on)
      (as_state stage s (codes "block" ++ spaced fs) (codes "block" ∷ fs) on (parted (codes "block") fs refl others)
      ∙ ap (λ o. or_fault FIELD o (block_step r)) (block_back c fits)
      ∙ ap (λ t. demand t ORDER (demand (is_block c) CONTENT (Ok u))) above
      ∙ ap (λ t. demand t CONTENT (Ok u)) is)

  blocks_reached : (stage : Stage) (s : StateData Bounded) (todo : List Counted) → is_part stage ≡ true → nat_le (part_of stage) 4 ≡ true → list_all fits_count todo ≡ true → list_all is_block todo ≡ true
      → goes_on count_before (last_of s.blocks) todo ≡ true → ReadTo (part stage s) (flat_map block_line todo) 4 (record s { blocks = s.blocks ++ todo })
  blocks_reached stage s [] on early fits are above = record {
    later = stage;
    on = on;
    early = early;
    reached = subst (λ (xs : List Counted). Reaches table_grammar (part stage s) [] (part stage (record s { blocks = xs }))) (sym (append-nil s.blocks)) (reaches_none table_grammar (part stage s));
  }
  blocks_reached stage s (c ∷ todo) on early fits are above =
      let a : (fits_count c ≡ true) × (list_all fits_count todo ≡ true) = and_parts (fits_count c) (list_all fits_count todo) fits in
      let b : (is_block c ≡ true) × (list_all is_block todo ≡ true) = and_parts (is_block c) (list_all is_block todo) are in
      let e : (follows_last count_before s.blocks c ≡ true) × (goes_on count_before (Some c) todo ≡ true) = and_parts (follows_last count_before s.blocks c) (goes_on count_before (Some c) todo) above in
      let t : StateData Bounded = record s { blocks = s.blocks ++ c ∷ [] } in
      let rest : ReadTo (part stages.Blocks t) (flat_map block_line todo) 4 (record t { blocks = t.blocks ++ todo }) =
      blocks_reached stages.Blocks t todo refl refl a.1 b.1 (goes_behind count_before s.blocks c todo e.1)
      in
      record {
        later = rest.later;
        on = rest.on;
        early = rest.early;
        reached =
            subst (λ (xs : List Counted). Reaches table_grammar (part stage s) (block_line c ++ flat_map block_line todo) (part rest.later (record s { blocks = xs }))) (one_more s.blocks c todo)
            (reaches_both table_grammar (part stage s) (part stages.Blocks t) (part rest.later (record t { blocks = t.blocks ++ todo })) (block_line c) (flat_map block_line todo) (block_reached stage s c on a.0 e.0 b.0) rest.reached);
      }

  -- ---- whole states

  fourth_of : (stage : Stage) → is_part stage ≡ true → nat_le (part_of stage) 4 ≡ true
  fourth_of stages.Blocks e = refl
  fourth_of stages.Dirty e = refl
  fourth_of stages.Facts e = refl
  fourth_of stages.Note e = refl
  fourth_of _ e = refl

  state_reached : (s : Known Bounded) → IsLoaded image → FitsState (plain_of s) → IsStateOf image s → built bounded image (plain_of s) ≡ Some s → ReadTo (part stages.Row no_state) (state_text (plain_of s)) 4 (plain_of s)
  unfolding state_text
  state_reached s loaded fits is back =
      let p : StateData Bounded = plain_of s in
      let tests : (is_state bounded image p ≡ true) × (is_note s.note ≡ true) = and_parts (is_state bounded image p) (is_note s.note) (tested image s back) in
      let m : Meets image p = meets image p tests.0 in
      let made : (list_all is_made p.regs ≡ true) × (list_all (λ (f : Fact Bounded). is_made f.value) p.facts ≡ true) = and_parts (list_all is_made p.regs) (list_all (λ (f : Fact Bounded). is_made f.value) p.facts) is.made in
      let g = s.regs in
      let a = regs_reached p.regs (regs_back g.eax g.ecx g.edx g.ebx g.esp g.ebp g.esi g.edi fits.regs made.0) in
      let b = flags_reached p.regs p.flags refl in
      let c = note_reached p.regs p.flags p.note fits.note tests.1 in
      let sc : StateData Bounded = record no_state { regs = p.regs; flags = p.flags; note = p.note } in
      let d = facts_reached c.later sc p.facts c.on c.early fits.facts made.1 m.facts_sound m.facts_image (goes_from_none is_fact_above p.facts (facts_above p.facts m.facts_order)) (goes_from_none fact_before p.facts m.facts_order) in
      let sd : StateData Bounded = record sc { facts = p.facts } in
      let e = dirties_reached d.later sd p.dirty loaded d.on (third_of (part_of d.later) d.early) fits.dirty m.dirty_sound m.dirty_image (goes_from_none is_dirty_above p.dirty (dirties_above p.dirty m.dirty_sound m.dirty_order)) (goes_from_none dirty_before p.dirty m.dirty_order) in
      let se : StateData Bounded = record sd { dirty = p.dirty } in
      let f = blocks_reached e.later se p.blocks e.on (fourth_of e.later e.on) fits.blocks m.blocks_are (goes_from_none count_before p.blocks m.blocks_order) in
      let s0 : TableSoFar = part stages.Row no_state in
      let s1 : TableSoFar = part stages.Regs (record no_state { regs = p.regs }) in
      let s2 : TableSoFar = part stages.Flags (record no_state { regs = p.regs; flags = p.flags }) in
      let one : Reaches table_grammar s0 (regs_line p.regs ++ flags_line p.flags) s2 = reaches_both table_grammar s0 s1 s2 (regs_line p.regs) (flags_line p.flags) a b in
      let two : Reaches table_grammar s0 ((regs_line p.regs ++ flags_line p.flags) ++ note_line p.note) (part c.later sc) =
      reaches_both table_grammar s0 s2 (part c.later sc) (regs_line p.regs ++ flags_line p.flags) (note_line p.note) one c.reached
      in
      let three : Reaches table_grammar s0 (((regs_line p.regs ++ flags_line p.flags) ++ note_line p.note) ++ flat_map fact_line p.facts) (part d.later sd) =
      reaches_both table_grammar s0 (part c.later sc) (part d.later sd) ((regs_line p.regs ++ flags_line p.flags) ++ note_line p.note) (flat_map fact_line p.facts) two d.reached
      in
      let four : Reaches table_grammar s0 ((((regs_line p.regs ++ flags_line p.flags) ++ note_line p.note) ++ flat_map fact_line p.facts) ++ flat_map dirty_line p.dirty) (part e.later se) =
      reaches_both table_grammar s0 (part d.later sd) (part e.later se) (((regs_line p.regs ++ flags_line p.flags) ++ note_line p.note) ++ flat_map fact_line p.facts) (flat_map dirty_line p.dirty) three e.reached
      in
      record {
        later = f.later;
        on = f.on;
        early = f.early;
        reached = reaches_both table_grammar s0 (part e.later se) (part f.later p) ((((regs_line p.regs ++ flags_line p.flags) ++ note_line p.note) ++ flat_map fact_line p.facts) ++ flat_map dirty_line p.dirty) (flat_map block_line p.blocks) four f.reached;
      }

-- ---- rows and the end

-- rows were read, and the next row or the end goes on behind them
record IsReady (image : Image) (k : ℕ) (marked : List ℕ) (rows : List (ℕ × Known Bounded)) (s : TableSoFar) : Type 0 where
  stage : Stage
  at : ℕ
  on : is_over s.stage ≡ false
  row : (line : List ℕ) (fs : List (List ℕ)) → fields line ≡ codes "row" ∷ fs → table_step s line ≡ row_step (reading image stage k marked rows at no_state) fs
  end : (line : List ℕ) (fs : List (List ℕ)) → fields line ≡ codes "end" ∷ fs → table_step s line ≡ end_step (reading image stage k marked rows at no_state) fs

ready_first : (image : Image) (k : ℕ) (marked : List ℕ) → IsReady image k marked [] (reading image stages.Marks k marked [] 0 no_state)
unfolding table_step mark_or_next_step next_step
ready_first image k marked =
    let r : TableSoFar = reading image stages.Marks k marked [] 0 no_state in
    record {
      stage = stages.Marks;
      at = 0;
      on = refl;
      row = λ line fs parts. ap (mark_or_next_step r) parts;
      end = λ line fs parts. ap (mark_or_next_step r) parts;
    }

ready_later : (image : Image) (k : ℕ) (marked : List ℕ) (rows : List (ℕ × Known Bounded)) (at : ℕ) (s : Known Bounded) (stage : Stage) → is_part stage ≡ true → built bounded image (plain_of s) ≡ Some s
    → IsReady image k marked (rows ++ (at, s) ∷ []) (reading image stage k marked rows at (plain_of s))
unfolding state_step closed next_step
ready_later image k marked rows at s stage on back =
    let r : TableSoFar = reading image stage k marked rows at (plain_of s) in
    let whole : closed r ≡ Ok (reading image stage k marked (rows ++ (at, s) ∷ []) at no_state) = ap (λ o. closed_by o r) back in
    record {
      stage = stage;
      at = at;
      on = not_over stage on;
      row = λ line fs parts. as_state image k marked rows at stage (plain_of s) line (codes "row" ∷ fs) on parts ∙ ap (λ m. after_state m (codes "row") fs) whole;
      end = λ line fs parts. as_state image k marked rows at stage (plain_of s) line (codes "end" ∷ fs) on parts ∙ ap (λ m. after_state m (codes "end") fs) whole;
    }

row_reached : (image : Image) (k : ℕ) (marked : List ℕ) (rows : List (ℕ × Known Bounded)) (s : TableSoFar) (at : ℕ) → IsReady image k marked rows s → is_word at ≡ true
    → Reaches table_grammar s (row_line at) (reading image stages.Row k marked rows at no_state)
row_reached image k marked rows s at ready small =
    let fs : List (List ℕ) = hex8 at ∷ [] in
    let others : list_all is_plain fs ≡ true = one_plain (hex8 at) (plain_word at) in
    taken_line s (reading image stages.Row k marked rows at no_state) (codes "row") fs (row_line at) (row_head at) refl others ready.on
    (ready.row (codes "row" ++ spaced fs) fs (parted (codes "row") fs refl others)
    ∙ ap (λ o. or_fault FIELD o (λ n. Ok (reading image stages.Row k marked rows n no_state))) (only_word_read at (word_small at small)))

record RowsRead (image : Image) (k : ℕ) (marked : List ℕ) (s : TableSoFar) (done todo : List (ℕ × Known Bounded)) : Type 0 where
  later : TableSoFar
  ready : IsReady image k marked (done ++ todo) later
  reached : Reaches table_grammar s (flat_map row_text todo) later

rows_reached : (image : Image) (k : ℕ) (marked : List ℕ) (s : TableSoFar) (done todo : List (ℕ × Known Bounded)) → IsLoaded image → IsReady image k marked done s → All FitsRow todo → All (λ row. IsStateOf image row.1) todo
    → RowsRead image k marked s done todo
rows_reached image k marked s done [] loaded ready fits are = record {
  later = s;
  ready = subst (λ (xs : List (ℕ × Known Bounded)). IsReady image k marked xs s) (sym (append-nil done)) ready;
  reached = reaches_none table_grammar s;
}
rows_reached image k marked s done (row ∷ todo) loaded ready fits are =
    let own : FitsRow row = All-head FitsRow row todo fits in
    let is : IsStateOf image row.1 = All-head (λ (x : ℕ × Known Bounded). IsStateOf image x.1) row todo are in
    let back : built bounded image (plain_of row.1) ≡ Some row.1 = plain-built bounded image row.1 is.well is.bytes in
    let p : StateData Bounded = plain_of row.1 in
    let head : TableSoFar = reading image stages.Row k marked done row.0 no_state in
    let state = state_reached image k marked done row.0 row.1 loaded own.state is back in
    let next : TableSoFar = reading image state.later k marked done row.0 p in
    let one : Reaches table_grammar s (row_text row) next = reaches_both table_grammar s head next (row_line row.0) (state_text p) (row_reached image k marked done s row.0 ready own.at) state.reached in
    let rest : RowsRead image k marked next (done ++ row ∷ []) todo =
    rows_reached image k marked next (done ++ row ∷ []) todo loaded (ready_later image k marked done row.0 row.1 state.later state.on back) (All-tail FitsRow row todo fits) (All-tail (λ (x : ℕ × Known Bounded). IsStateOf image x.1) row todo are)
    in
    record {
      later = rest.later;
      ready = subst (λ (xs : List (ℕ × Known Bounded)). IsReady image k marked xs rest.later) (one_more done row todo) rest.ready;
      reached = reaches_both table_grammar s next rest.later (row_text row) (flat_map row_text todo) one rest.reached;
    }

count_back : (r : TableSoFar) → length r.rows < 2 ^ 64 → count_fields r (decimal (length r.rows) ∷ []) ≡ Some true
unfolding count_fields
count_back r few = then_given (decimal_is (length r.rows)) (decimal (length r.rows)) [] true (λ same fs. no_more same fs) (number_written (length r.rows) few)

end_reached : (image : Image) (k : ℕ) (marked : List ℕ) (rows : List (ℕ × Known Bounded)) (s : TableSoFar) (ready : IsReady image k marked rows s) → length rows < 2 ^ 64
    → Reaches table_grammar s (end_line (length rows)) (reading image stages.Ended k marked rows ready.at no_state)
unfolding end_step
end_reached image k marked rows s ready few =
    let r : TableSoFar = reading image ready.stage k marked rows ready.at no_state in
    let u : TableSoFar = reading image stages.Ended k marked rows ready.at no_state in
    let fs : List (List ℕ) = decimal (length rows) ∷ [] in
    let others : list_all is_plain fs ≡ true = one_plain (decimal (length rows)) (plain_decimal (length rows) few) in
    taken_line s u (codes "end") fs (end_line (length rows)) (end_text (length rows)) refl others ready.on
    (ready.end (codes "end" ++ spaced fs) fs (parted (codes "end") fs refl others)
    ∙ ap (λ o. or_fault FIELD o (λ same. demand same COUNT (Ok u))) (count_back r few))

-- ---- whole texts

pub read_back : TablesAreReadBack
unfolding table_read table_text
read_back image t loaded fits is =
    let k = t.k in
    let marked = t.marked in
    let rows = t.rows in
    let h : TableSoFar = reading image stages.Header 0 [] [] 0 no_state in
    let b : TableSoFar = reading image stages.Marks k [] [] 0 no_state in
    let m : TableSoFar = reading image stages.Marks k marked [] 0 no_state in
    let all : RowsRead image k marked m [] rows = rows_reached image k marked m [] rows loaded (ready_first image k marked) fits.rows is.rows in
    let u : TableSoFar = reading image stages.Ended k marked rows all.ready.at no_state in
    let one : Reaches table_grammar (nothing image) ((header_text ++ newline) ++ k_line k) b = reaches_both table_grammar (nothing image) h b (header_text ++ newline) (k_line k) (header_reached image) (k_reached image k is.k_least is.k_greatest) in
    let two : Reaches table_grammar (nothing image) (((header_text ++ newline) ++ k_line k) ++ flat_map open_line marked) m =
    reaches_both table_grammar (nothing image) b m ((header_text ++ newline) ++ k_line k) (flat_map open_line marked) one (marks_reached image k [] marked fits.marked (goes_from_none is_above marked is.marked))
    in
    let three : Reaches table_grammar (nothing image) ((((header_text ++ newline) ++ k_line k) ++ flat_map open_line marked) ++ flat_map row_text rows) all.later =
    reaches_both table_grammar (nothing image) m all.later (((header_text ++ newline) ++ k_line k) ++ flat_map open_line marked) (flat_map row_text rows) two all.reached
    in
    let four : Reaches table_grammar (nothing image) (table_text t) u =
    reaches_both table_grammar (nothing image) all.later u ((((header_text ++ newline) ++ k_line k) ++ flat_map open_line marked) ++ flat_map row_text rows) (end_line (length rows)) three (end_reached image k marked rows all.later all.ready fits.few_rows)
    in
    ap told (reaches_end table_grammar (nothing image) u (table_text t) four refl)
