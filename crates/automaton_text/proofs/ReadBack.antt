-- The text of an orderly automaton is read line by line, each line as what it was printed of.
use Rattle.std.proofs.Common.{◌≡◌, ◌⊎◌, inl, inr, ℕ, zero, suc, ◌+◌, ◌<◌, ◌≤◌, ◌^◌, ◌/◌, ◌%◌, ◌==◌, Bool, true, false, List, [], ◌∷◌, ◌++◌, length, get_or, Option, None, Some, Ok, Err, refl, sym, ◌∙◌, ap, subst, arith, append_assoc, append-nil, decimal, nat_lt, nat_le}
use Rattle.std.specs.Prelude.{All, Result, codes, find, flat_map, is_none, is_some, not, ◌&&◌, ◌||◌, option_and_then, option_map, if◌then◌else◌}
use Rattle.std.specs.Option.{option_map_or}
use Rattle.std.specs.List.{list_all, list_any}
use Rattle.std.specs.Str.{bytes_eq}
use Rattle.std.proofs.lemmas.Bool.Decides.{nat_tests}
use Rattle.std.proofs.lemmas.Fmt.{decimal_digit}
use Rattle.std.proofs.lemmas.List.Elements.{All-append}
use Rattle.std.proofs.lemmas.List.Splits.{slice_split_at}
use Rattle.std.proofs.lemmas.List.Sums.{AllPass-from_list_all}
use Rattle.memory_map.specs.Image.{EXIT_PLACE}
use Rattle.memory_map.specs.Name.{is_name}
use Rattle.memory_map.specs.Ascending.{ascend}
use Rattle.text_fields.specs.Decimal.{decimal_is}
use Rattle.text_fields.specs.Fields.{no_more, then_field, word_of}
use Rattle.text_fields.specs.Hex.{hex8, hex_bytes, hex_digit, hex_digits, hex2, hex_text}
use Rattle.text_fields.specs.Line.{newline, space}
use Rattle.text_fields.specs.declared.line_fault.LineFault.{LineFault}
use Rattle.text_fields.specs.Lines.{CONTENT, COUNT, FIELD, HEADER, ORDER, WORD, fields, lines, read_from, demand, or_fault, last_of}
use Rattle.text_fields.proofs.DecimalFacts.{decimal_read}
use Rattle.text_fields.proofs.FieldTexts.{bytes_read, word_read, then_given, only_word_read, number_written}
use Rattle.text_fields.proofs.Splitting.{ArePlain, IsPlain, Reaches, fields_spaced, reaches_both, reaches_end, reaches_line, reaches_none, spaced, spaced_line}
use Rattle.text_fields.proofs.Splitting as plain
use Rattle.x86_syntax.specs.Spelling.{spelled}
use Rattle.flow_log.specs.declared.cause.Cause.{Cause}
use Rattle.flow_log.specs.declared.cause.Cause.TheVariants as causes
use Rattle.flow_log.specs.declared.edge.Edge.{Edge}
use Rattle.flow_log.specs.declared.edge.Label.{Label}
use Rattle.flow_log.specs.declared.edge.Label.TheVariants.{Code, Import}
use Rattle.automaton_text.specs.declared.automaton.Location.{Location}
use Rattle.automaton_text.specs.declared.automaton.OpenMark.{OpenMark}
use Rattle.automaton_text.specs.declared.automaton.Automaton.{Automaton}
use Rattle.automaton_text.specs.declared.stage.Stage.{Stage}
use Rattle.automaton_text.specs.declared.stage.Stage.TheVariants as stages
use Rattle.automaton_text.specs.Laws.{OrderlyAutomataAreReadBack, fits_edge, fits_label, fits_location, fits_mark, fits_name, fits_row, is_word}
use Rattle.automaton_text.specs.Orderly.{IsOrderly, edge_text, has_own_name, is_edge_above, is_edge_among, is_label_at, is_location_above, is_opening_above}
use Rattle.automaton_text.specs.Reading.{NO_ENTRY, AutomatonSoFar, all_causes, automaton_grammar, automaton_read, automaton_step, cause_of, code_fields, code_step, count_fields, edge_step, end_fields, end_step, entry_step, has_own_suffix, header_step, import_fields, import_step, is_above, is_code, is_line_above, is_location, is_mark_above, is_marks, is_named, is_over, is_place_of, label_step, later_step, location_fields, location_or_later_step, location_step, mark_fields, mark_step, name_of, nothing, own_name, row_fields, row_of, suffix_fields, text_fields, told, version_of}
use Rattle.automaton_text.specs.Text.{HaveRowsBy, cause_text, code_text, edge_line, end_line, entry_line, header_line, import_suffix, is_version, label_text, loc_line, open_line, row_suffix, suffix_of, text_of}
use Rattle.automaton_text.proofs.ClearTexts.{clear_both, clear_code, is_clear, plain_cause, plain_clear, plain_name}
use Rattle.automaton_text.proofs.FieldsTold.{import_text, row_list, suffix_list}
use Rattle.automaton_text.proofs.Reading.{text_back}
use Rattle.automaton_text.proofs.Told.{edge_whole, end_whole, mark_whole, reading}
use Rattle.std.proofs.lemmas.Bool.{and_parts, and_from, not-true}
use Rattle.text_fields.proofs.Found.{word_same}
use Rattle.text_fields.proofs.LastOnes.{last_of_more}
use Rattle.text_fields.proofs.PlainTexts.{is_plain, plain_is, plain_word, plain_bytes, plain_decimal}

-- ---- lists that go on from an element

abbrev pub goes_on : {X : Type 0} → (X → X → Bool) → Option X → List X → Bool
goes_on above o [] = true
goes_on above o (x ∷ xs) = option_map_or (λ l. above l x) o true && goes_on above (Some x) xs

goes_from : {X : Type 0} (above : X → X → Bool) (x : X) (xs : List X) → ascend above (x ∷ xs) ≡ true → goes_on above (Some x) xs ≡ true
goes_from above x [] e = refl
goes_from above x (y ∷ ys) e =
    let parts : (above x y ≡ true) × (ascend above (y ∷ ys) ≡ true) = and_parts (above x y) (ascend above (y ∷ ys)) e in
    and_from (above x y) (goes_on above (Some y) ys) parts.0 (goes_from above y ys parts.1)

pub goes_from_none : {X : Type 0} (above : X → X → Bool) (xs : List X) → ascend above xs ≡ true → goes_on above None xs ≡ true
goes_from_none above [] e = refl
goes_from_none above (x ∷ xs) e = goes_from above x xs e

pub goes_behind : {X : Type 0} (above : X → X → Bool) (done : List X) (x : X) (xs : List X) → goes_on above (Some x) xs ≡ true → goes_on above (last_of (done ++ x ∷ [])) xs ≡ true
goes_behind above done x xs e = ap (λ o. goes_on above o xs) (last_of_more done x) ∙ e

pub one_more : {X : Type 0} (done : List X) (x : X) (xs : List X) → (done ++ x ∷ []) ++ xs ≡ done ++ (x ∷ xs)
one_more done x xs = append_assoc done (x ∷ []) xs

-- ---- small facts

pub word_small : (n : ℕ) → is_word n ≡ true → n < 2 ^ 32
word_small n e = grind (arith, nat_tests)

pub clear_is : (text : List ℕ) → is_clear text ≡ true → All (λ b. (b == 10) ≡ false) text
clear_is text e k d below = not-true (get_or text k d == 10) (AllPass-from_list_all (λ b. not (b == 10)) text e k d below)

-- the first field of a line, whatever is behind it
fields_first : (first rest : List ℕ) → is_plain first ≡ true → fields (first ++ (32 ∷ rest)) ≡ first ∷ fields rest
unfolding fields
fields_first first rest is = slice_split_at (λ b. b == 32) first 32 rest (no_space first is) refl
  where
    apart : (b : ℕ) → 32 < b → (b == 32) ≡ false
    apart b h = grind (arith, nat_tests)

    no_space : (field : List ℕ) → is_plain field ≡ true → All (λ b. (b == 32) ≡ false) field
    no_space field e k d below = apart (get_or field k d) (plain_is field e k d below)

-- ---- the first line and the entry

version_cases : (v : ℕ) → is_version v ≡ true → (v ≡ 1) ⊎ (v ≡ 2)
version_cases v e = by_tests (v == 1) (v == 2) refl refl e
  where
    equal : (n : ℕ) → (v == n) ≡ true → v ≡ n
    equal n h = grind (arith, nat_tests)

    by_tests : (one two : Bool) → (v == 1) ≡ one → (v == 2) ≡ two → (one || two) ≡ true → (v ≡ 1) ⊎ (v ≡ 2)
    by_tests true two a b h = inl (equal 1 a)
    by_tests false true a b h = inr (equal 2 b)
    by_tests false false a b h = cc

version_one : version_of (codes "jakstab-automaton " ++ decimal 1) ≡ Some 1
version_one = ap (λ d. version_of (codes "jakstab-automaton " ++ d)) (decimal_digit 1 (omega arith))

version_two : version_of (codes "jakstab-automaton " ++ decimal 2) ≡ Some 2
version_two = ap (λ d. version_of (codes "jakstab-automaton " ++ d)) (decimal_digit 2 (omega arith))

abbrev IsVersionRead : ℕ → Type 0
IsVersionRead v = (version_of (codes "jakstab-automaton " ++ decimal v) ≡ Some v) × (v < 2 ^ 64)

version_read : (v : ℕ) → is_version v ≡ true → IsVersionRead v
version_read v e = elim (version_cases v e) [ inl one ↦ subst IsVersionRead (sym one) (version_one, omega arith) | inr two ↦ subst IsVersionRead (sym two) (version_two, omega arith) ]

pub header_reached : (v : ℕ) → is_version v ≡ true → Reaches automaton_grammar nothing (header_line v) (reading stages.Header v 0 [] [] [] [])
unfolding automaton_step
header_reached v e =
    let read : IsVersionRead v = version_read v e in
    let line : List ℕ = codes "jakstab-automaton " ++ decimal v in
    let clear : is_clear line ≡ true = clear_both (codes "jakstab-automaton ") (decimal v) refl (plain_clear (decimal v) (plain_decimal v read.1)) in
    reaches_line automaton_grammar nothing (reading stages.Header v 0 [] [] [] []) line (clear_is line clear) refl
    (ap (λ o. or_fault HEADER o (λ w. Ok (reading stages.Header w 0 [] [] [] []))) read.0)

pub entry_reached : (v e : ℕ) → is_word e ≡ true → Reaches automaton_grammar (reading stages.Header v 0 [] [] [] []) (entry_line e) (reading stages.Locations v e [] [] [] [])
unfolding automaton_step
entry_reached v e small =
    let line : List ℕ = codes "entry " ++ hex8 e in
    let own : line ≡ codes "entry" ++ spaced (hex8 e ∷ []) = ap (λ l. codes "entry " ++ l) (sym (append-nil (hex8 e))) in
    let clear : is_clear line ≡ true = clear_both (codes "entry ") (hex8 e) refl (plain_clear (hex8 e) (plain_word e)) in
    let parts : fields line ≡ codes "entry" ∷ hex8 e ∷ [] = ap fields own ∙ fields_spaced (codes "entry") (hex8 e ∷ []) (plain_is (codes "entry") refl) (plain.one (hex8 e) [] (plain_is (hex8 e) (plain_word e)) plain.none) in
    reaches_line automaton_grammar (reading stages.Header v 0 [] [] [] []) (reading stages.Locations v e [] [] [] []) line (clear_is line clear) refl
    (ap (entry_step (reading stages.Header v 0 [] [] [] [])) parts ∙ ap (λ o. or_fault FIELD o (λ at. Ok (reading stages.Locations v at [] [] [] []))) (only_word_read e (word_small e small)))

-- ---- locations

-- the name or the dash behind a location
abbrev dashed : Location → Option (List ℕ)
dashed l = if l.at == EXIT_PLACE then Some (codes "-") else l.name

suffix_read : (s : Option (List ℕ)) → fits_name s ≡ true → suffix_fields (suffix_list s) ≡ Some s
suffix_read None fits = refl
suffix_read (Some name) fits = ap (option_and_then (λ n. no_more (Some n) [])) (ap (λ t. if t then Some name else None) fits)

pub location_read : (at : ℕ) (s : Option (List ℕ)) → is_word at ≡ true → fits_name s ≡ true → location_fields (hex8 at ∷ suffix_list s) ≡ Some (at, s)
unfolding location_fields
location_read at s small fits =
    then_given word_of (hex8 at) (suffix_list s) at (λ a fs. option_map (λ suffix. (a, suffix)) (suffix_fields fs)) (word_read at (word_small at small))
    ∙ ap (option_map (λ (suffix : Option (List ℕ)). (at, suffix))) (suffix_read s fits)

none_is : (name : Option (List ℕ)) → is_none name ≡ true → None ≡ name
none_is None e = refl
none_is (Some n) e = cc

record OwnSuffix (l : Location) (s : Option (List ℕ)) : Type 0 where
  own : has_own_suffix l.at s ≡ true
  name : own_name l.at s ≡ l.name
  text : suffix_of l ≡ spaced (suffix_list s)
  fits : fits_name s ≡ true

own_by : (l : Location) (exit : Bool) → (l.at == EXIT_PLACE) ≡ exit → fits_name l.name ≡ true → (if exit then is_none l.name else not (is_named (codes "-") l.name)) ≡ true
    → OwnSuffix l (if exit then Some (codes "-") else l.name)
own_by l true is fits named = record {
  own = ap (λ t. if t then is_named (codes "-") (Some (codes "-")) else not (is_named (codes "-") (Some (codes "-")))) is;
  name = ap (λ t. if t then None else Some (codes "-")) is ∙ none_is l.name named;
  text = ap (λ t. if t then codes " -" else import_suffix l.name) is;
  fits = refl;
}
own_by l false is fits named = record {
  own = ap (λ t. if t then is_named (codes "-") l.name else not (is_named (codes "-") l.name)) is ∙ named;
  name = ap (λ t. if t then None else l.name) is;
  text = ap (λ t. if t then codes " -" else import_suffix l.name) is ∙ sym (import_text l.name);
  fits = fits;
}

own_suffix : (l : Location) → fits_name l.name ≡ true → has_own_name l ≡ true → OwnSuffix l (dashed l)
own_suffix l fits named = own_by l (l.at == EXIT_PLACE) refl fits named

plain_suffixes : (s : Option (List ℕ)) → fits_name s ≡ true → ArePlain (suffix_list s)
plain_suffixes None fits = plain.none
plain_suffixes (Some name) fits = plain.one name [] (plain_is name (plain_name name fits)) plain.none

clear_suffixes : (s : Option (List ℕ)) → fits_name s ≡ true → is_clear (spaced (suffix_list s)) ≡ true
clear_suffixes None fits = refl
clear_suffixes (Some name) fits = clear_both (space ++ name) [] (clear_both space name refl (plain_clear name (plain_name name fits))) refl

-- a line of a location with this suffix
pub location_line : (l : Location) (s : Option (List ℕ)) → suffix_of l ≡ spaced (suffix_list s) → fits_name s ≡ true
    → (fields (codes "loc " ++ hex8 l.at ++ suffix_of l) ≡ codes "loc" ∷ hex8 l.at ∷ suffix_list s) × (is_clear (codes "loc " ++ hex8 l.at ++ suffix_of l) ≡ true)
location_line l s text fits = (
  ap (λ x. fields (codes "loc " ++ (hex8 l.at ++ x))) text
      ∙ fields_spaced (codes "loc") (hex8 l.at ∷ suffix_list s) (plain_is (codes "loc") refl) (plain.one (hex8 l.at) (suffix_list s) (plain_is (hex8 l.at) (plain_word l.at)) (plain_suffixes s fits)),
  clear_both (codes "loc " ++ hex8 l.at) (suffix_of l) (clear_both (codes "loc ") (hex8 l.at) refl (plain_clear (hex8 l.at) (plain_word l.at))) (ap is_clear text ∙ clear_suffixes s fits),
)

pub location_reached : (v e : ℕ) (ls : List Location) (l : Location) → fits_location l ≡ true → has_own_name l ≡ true → is_above ls l.at ≡ true
    → Reaches automaton_grammar (reading stages.Locations v e ls [] [] []) (loc_line l) (reading stages.Locations v e (ls ++ l ∷ []) [] [] [])
unfolding automaton_step loc_line location_or_later_step location_step
location_reached v e ls l fits named above =
    let parts : (is_word l.at ≡ true) × (fits_name l.name ≡ true) = and_parts (is_word l.at) (fits_name l.name) fits in
    let own = own_suffix l parts.1 named in
    let line = location_line l (dashed l) own.text own.fits in
    let r : AutomatonSoFar = reading stages.Locations v e ls [] [] [] in
    let go : ℕ × Option (List ℕ) → Result AutomatonSoFar ℕ = λ p. location_step r p.0 p.1 in
    reaches_line automaton_grammar r (reading stages.Locations v e (ls ++ l ∷ []) [] [] []) (codes "loc " ++ hex8 l.at ++ suffix_of l) (clear_is (codes "loc " ++ hex8 l.at ++ suffix_of l) line.1) refl
    (ap (location_or_later_step r (codes "loc " ++ hex8 l.at ++ suffix_of l)) line.0
    ∙ ap (λ o. or_fault FIELD o go) (location_read l.at (dashed l) parts.0 own.fits)
    ∙ ap (λ t. demand t ORDER (demand (has_own_suffix l.at (dashed l)) CONTENT (Ok (reading stages.Locations v e (ls ++ record { at = l.at; name = own_name l.at (dashed l) } ∷ []) [] [] [])))) above
    ∙ ap (λ t. demand t CONTENT (Ok (reading stages.Locations v e (ls ++ record { at = l.at; name = own_name l.at (dashed l) } ∷ []) [] [] []))) own.own
    ∙ ap (λ (n : Option (List ℕ)). Ok (reading stages.Locations v e (ls ++ record { at = l.at; name = n } ∷ []) [] [] [])) own.name)

places_reached : (v e : ℕ) (ls todo : List Location) → list_all fits_location todo ≡ true → list_all has_own_name todo ≡ true → goes_on is_location_above (last_of ls) todo ≡ true
    → Reaches automaton_grammar (reading stages.Locations v e ls [] [] []) (flat_map loc_line todo) (reading stages.Locations v e (ls ++ todo) [] [] [])
places_reached v e ls [] fits named on =
    subst (λ (xs : List Location). Reaches automaton_grammar (reading stages.Locations v e ls [] [] []) [] (reading stages.Locations v e xs [] [] [])) (sym (append-nil ls)) (reaches_none automaton_grammar (reading stages.Locations v e ls [] [] []))
places_reached v e ls (l ∷ todo) fits named on =
    let f : (fits_location l ≡ true) × (list_all fits_location todo ≡ true) = and_parts (fits_location l) (list_all fits_location todo) fits in
    let n : (has_own_name l ≡ true) × (list_all has_own_name todo ≡ true) = and_parts (has_own_name l) (list_all has_own_name todo) named in
    let o : (is_above ls l.at ≡ true) × (goes_on is_location_above (Some l) todo ≡ true) = and_parts (is_above ls l.at) (goes_on is_location_above (Some l) todo) on in
    subst (λ (xs : List Location). Reaches automaton_grammar (reading stages.Locations v e ls [] [] []) (loc_line l ++ flat_map loc_line todo) (reading stages.Locations v e xs [] [] [])) (one_more ls l todo)
    (reaches_both automaton_grammar _ _ _ (loc_line l) (flat_map loc_line todo) (location_reached v e ls l f.0 n.0 o.0) (places_reached v e (ls ++ l ∷ []) todo f.1 n.1 (goes_behind is_location_above ls l todo o.1)))

-- ---- lines behind the locations

abbrev is_open : Stage → Bool
is_open stages.Locations = true
is_open stages.Edges = true
is_open stages.Marks = true
is_open _ = false

as_later : (stage : Stage) (v e : ℕ) (ls : List Location) (es : List Edge) (last : List ℕ) (ms : List OpenMark) (line word : List ℕ) (fs : List (List ℕ))
    → is_open stage ≡ true → is_location ls e ≡ true → bytes_eq word (codes "loc") ≡ false → fields line ≡ word ∷ fs
    → automaton_step (reading stage v e ls es last ms) line ≡ later_step (reading stage v e ls es last ms) line (word ∷ fs)
unfolding automaton_step location_or_later_step
as_later stages.Start v e ls es last ms line word fs on entry other parts = cc
as_later stages.Header v e ls es last ms line word fs on entry other parts = cc
as_later stages.Locations v e ls es last ms line word fs on entry other parts =
    let r : AutomatonSoFar = reading stages.Locations v e ls es last ms in
    let place : Result AutomatonSoFar ℕ = or_fault FIELD (location_fields fs) (λ l. location_step r l.0 l.1) in
    let later : Result AutomatonSoFar ℕ = later_step r line (word ∷ fs) in
    ap (location_or_later_step r line) parts ∙ ap (λ t. if t then place else demand (is_location ls e) NO_ENTRY later) other ∙ ap (λ t. demand t NO_ENTRY later) entry
as_later stages.Edges v e ls es last ms line word fs on entry other parts = ap (later_step (reading stages.Edges v e ls es last ms) line) parts
as_later stages.Marks v e ls es last ms line word fs on entry other parts = ap (later_step (reading stages.Marks v e ls es last ms) line) parts
as_later stages.Ended v e ls es last ms line word fs on entry other parts = cc

not_over : (stage : Stage) → is_open stage ≡ true → is_over stage ≡ false
not_over stages.Start e = cc
not_over stages.Header e = cc
not_over stages.Locations e = refl
not_over stages.Edges e = refl
not_over stages.Marks e = refl
not_over stages.Ended e = cc

-- ---- edges

abbrev pub label_fields : ℕ → Label → List (List ℕ)
label_fields from (Code bytes) = hex_text bytes.items ∷ fields (code_text from bytes.items)
label_fields from (Import name) = codes "import" ∷ name ∷ []

three_spaced : (a b l : List ℕ) → (((a ++ space) ++ b) ++ space) ++ l ≡ a ++ (32 ∷ (b ++ (32 ∷ l)))
three_spaced a b l = simp append_assoc

one_field : (name : List ℕ) → is_plain name ≡ true → fields name ≡ name ∷ []
one_field name e = ap fields (sym (append-nil name)) ∙ fields_spaced name [] (plain_is name e) plain.none

label_parts : (from : ℕ) (label : Label) → fits_label label ≡ true → fields (label_text from label) ≡ label_fields from label
unfolding label_text
label_parts from (Code bytes) fits =
    ap fields (append_assoc (hex_text bytes.items) space (code_text from bytes.items)) ∙ fields_first (hex_text bytes.items) (code_text from bytes.items) (plain_bytes bytes.items)
label_parts from (Import name) fits = fields_first (codes "import") name refl ∙ ap (λ l. codes "import" ∷ l) (one_field name (plain_name name fits))

pub label_clear : (from : ℕ) (label : Label) → fits_label label ≡ true → is_clear (label_text from label) ≡ true
unfolding label_text
label_clear from (Code bytes) fits =
    clear_both (hex_text bytes.items ++ space) (code_text from bytes.items) (clear_both (hex_text bytes.items) space (plain_clear (hex_text bytes.items) (plain_bytes bytes.items)) refl) (clear_code from bytes.items)
label_clear from (Import name) fits = clear_both (codes "import ") name refl (plain_clear name (plain_name name fits))

pub edge_parts : (x : Edge) → fits_label x.label ≡ true → fields (codes "edge " ++ edge_text x) ≡ codes "edge" ∷ hex8 x.from ∷ hex8 x.to ∷ label_fields x.from x.label
unfolding edge_text
edge_parts x fits =
    let label : List ℕ = label_text x.from x.label in
    ap (λ l. fields (codes "edge " ++ l)) (three_spaced (hex8 x.from) (hex8 x.to) label)
    ∙ fields_first (codes "edge") (hex8 x.from ++ (32 ∷ (hex8 x.to ++ (32 ∷ label)))) refl
    ∙ ap (λ l. codes "edge" ∷ l) (fields_first (hex8 x.from) (hex8 x.to ++ (32 ∷ label)) (plain_word x.from))
    ∙ ap (λ l. codes "edge" ∷ hex8 x.from ∷ l) (fields_first (hex8 x.to) label (plain_word x.to))
    ∙ ap (λ l. codes "edge" ∷ hex8 x.from ∷ hex8 x.to ∷ l) (label_parts x.from x.label fits)

pub edge_clear : (x : Edge) → fits_label x.label ≡ true → is_clear (codes "edge " ++ edge_text x) ≡ true
unfolding edge_text
edge_clear x fits =
    let word_clear : (n : ℕ) → is_clear (hex8 n) ≡ true = λ n. plain_clear (hex8 n) (plain_word n) in
    clear_both (codes "edge ") (hex8 x.from ++ space ++ hex8 x.to ++ space ++ label_text x.from x.label) refl
    (clear_both (hex8 x.from ++ space ++ hex8 x.to ++ space) (label_text x.from x.label)
    (clear_both (hex8 x.from ++ space ++ hex8 x.to) space (clear_both (hex8 x.from ++ space) (hex8 x.to) (clear_both (hex8 x.from) space (word_clear x.from) refl) (word_clear x.to)) refl)
    (label_clear x.from x.label fits))

ends_read : (from to : ℕ) (fs : List (List ℕ)) → is_word from ≡ true → is_word to ≡ true → end_fields (hex8 from ∷ hex8 to ∷ fs) ≡ Some (from, to, fs)
unfolding end_fields
ends_read from to fs small less =
    then_given word_of (hex8 from) (hex8 to ∷ fs) from (λ f fs. then_field word_of fs (λ t fs. Some (f, t, fs))) (word_read from (word_small from small))
    ∙ then_given word_of (hex8 to) fs to (λ t fs. Some (from, t, fs)) (word_read to (word_small to less))

import_read : (name : List ℕ) → is_name name ≡ true → import_fields (name ∷ []) ≡ Some name
unfolding import_fields
import_read name e = then_given name_of name [] name (λ n fs. no_more n fs) (ap (λ t. if t then Some name else None) e)

digit_no_letter : (d : ℕ) → d < 16 → (hex_digit d == 105) ≡ false
unfolding hex_digit
digit_no_letter d small = grind (arith, nat_tests)

-- digits are not the word of imports
pub not_import : (bytes : List ℕ) → bytes_eq (hex_text bytes) (codes "import") ≡ false
unfolding hex_text hex2 hex_digits
not_import [] = refl
not_import (b ∷ bytes) =
    let first : (hex_digit (b / 16 % 16) == 105) ≡ false = digit_no_letter (b / 16 % 16) (omega arith) in
    ap (λ t. t && bytes_eq (hex_digit (b % 16) ∷ hex_text bytes) (codes "mport")) first

pub bytes_small : (bytes : List ℕ) → list_all (λ b. nat_lt b (2 ^ 8)) bytes ≡ true → (k d : ℕ) → k < length bytes → get_or bytes k d < 2 ^ 8
bytes_small bytes e k d below = small (get_or bytes k d) (AllPass-from_list_all (λ b. nat_lt b (2 ^ 8)) bytes e k d below)
  where
    small : (b : ℕ) → nat_lt b (2 ^ 8) ≡ true → b < 2 ^ 8
    small b h = grind (arith, nat_tests)

code_read : (bytes text : List ℕ) → list_all (λ b. nat_lt b (2 ^ 8)) bytes ≡ true → code_fields (hex_text bytes) (fields text) ≡ Some (bytes, text)
unfolding code_fields
code_read bytes text e =
    ap (option_and_then (λ bs. option_map (λ t. (bs, t)) (text_fields (fields text)))) (bytes_read bytes (bytes_small bytes e))
    ∙ ap (option_map (λ (t : List ℕ). (bytes, t))) (text_back text)

code_true : (from : ℕ) (bytes : List ℕ) → nat_le (length bytes) 15 ≡ true → is_some (spelled bytes) ≡ true → is_code from bytes (code_text from bytes) ≡ true
unfolding is_code
code_true from bytes short names =
    and_from (nat_le (length bytes) 15 && is_some (spelled bytes)) (bytes_eq (code_text from bytes) (code_text from bytes)) (and_from (nat_le (length bytes) 15) (is_some (spelled bytes)) short names) (word_same (code_text from bytes))

module _ (stage : Stage) (v e : ℕ) (ls : List Location) (es : List Edge) (last : List ℕ) (ms : List OpenMark) where
  label_read : (from to : ℕ) (label : Label) (line : List ℕ) → fits_label label ≡ true → is_label_at ls from label ≡ true → is_location ls to ≡ true → is_line_above last line ≡ true
      → label_step (reading stage v e ls es last ms) line from to (label_fields from label) ≡ Ok (reading stages.Edges v e ls (es ++ record { from = from; to = to; label = label } ∷ []) line ms)
  unfolding label_step import_step code_step
  label_read from to (Import name) line fits at there above =
      let u : AutomatonSoFar = reading stages.Edges v e ls (es ++ record { from = from; to = to; label = Import name } ∷ []) line ms in
      ap (λ o. or_fault FIELD o (λ n. import_step (reading stage v e ls es last ms) line from to n)) (import_read name fits)
      ∙ ap (λ t. demand t ORDER (demand (is_place_of ls from name && is_location ls to) CONTENT (Ok u))) above
      ∙ ap (λ t. demand t CONTENT (Ok u)) (and_from (is_place_of ls from name) (is_location ls to) at there)
  label_read from to (Code bytes) line fits at there above =
      let u : AutomatonSoFar = reading stages.Edges v e ls (es ++ record { from = from; to = to; label = Code bytes } ∷ []) line ms in
      let r : AutomatonSoFar = reading stage v e ls es last ms in
      let text : List ℕ = code_text from bytes.items in
      let f : (nat_le (length bytes.items) 15 ≡ true) × (list_all (λ b. nat_lt b (2 ^ 8)) bytes.items ≡ true) = and_parts (nat_le (length bytes.items) 15) (list_all (λ b. nat_lt b (2 ^ 8)) bytes.items) fits in
      let a : (is_location ls from ≡ true) × (is_some (spelled bytes.items) ≡ true) = and_parts (is_location ls from) (is_some (spelled bytes.items)) at in
      let ends : Bool = is_location ls from && is_location ls to in
      let import : Result AutomatonSoFar ℕ = or_fault FIELD (import_fields (fields text)) (λ n. import_step r line from to n) in
      let code : Result AutomatonSoFar ℕ = or_fault FIELD (code_fields (hex_text bytes.items) (fields text)) (λ c. code_step r line from to c.0 c.1) in
      ap (λ t. if t then import else code) (not_import bytes.items)
      ∙ ap (λ o. or_fault FIELD o (λ c. code_step r line from to c.0 c.1)) (code_read bytes.items text f.1)
      ∙ ap (λ t. demand t ORDER (demand (ends && is_code from bytes.items text) CONTENT (Ok u))) above
      ∙ ap (λ t. demand t CONTENT (Ok u)) (and_from ends (is_code from bytes.items text) (and_from (is_location ls from) (is_location ls to) a.0 there) (code_true from bytes.items f.0 a.1))

  edge_reached : (x : Edge) → is_open stage ≡ true → is_marks stage ≡ false → is_location ls e ≡ true → fits_edge x ≡ true → is_edge_among ls x ≡ true → is_line_above last (codes "edge " ++ edge_text x) ≡ true
      → Reaches automaton_grammar (reading stage v e ls es last ms) (edge_line x) (reading stages.Edges v e ls (es ++ x ∷ []) (codes "edge " ++ edge_text x) ms)
  unfolding later_step edge_step
  edge_reached x on no_marks entry fits among above =
      let r : AutomatonSoFar = reading stage v e ls es last ms in
      let line : List ℕ = codes "edge " ++ edge_text x in
      let u : AutomatonSoFar = reading stages.Edges v e ls (es ++ x ∷ []) line ms in
      let outer : ((is_word x.from && is_word x.to) ≡ true) × (fits_label x.label ≡ true) = and_parts (is_word x.from && is_word x.to) (fits_label x.label) fits in
      let words : (is_word x.from ≡ true) × (is_word x.to ≡ true) = and_parts (is_word x.from) (is_word x.to) outer.0 in
      let joins : (is_label_at ls x.from x.label ≡ true) × (is_location ls x.to ≡ true) = and_parts (is_label_at ls x.from x.label) (is_location ls x.to) among in
      let fs : List (List ℕ) = hex8 x.from ∷ hex8 x.to ∷ label_fields x.from x.label in
      let taken : automaton_step r line ≡ Ok u =
      as_later stage v e ls es last ms line (codes "edge") fs on entry refl (edge_parts x outer.1)
      ∙ ap (λ t. if t then Err WORD else edge_step r line fs) no_marks
      ∙ ap (λ o. or_fault FIELD o (λ ends. label_step r line ends.0 ends.1 ends.2)) (ends_read x.from x.to (label_fields x.from x.label) words.0 words.1)
      ∙ label_read x.from x.to x.label line outer.1 joins.0 joins.1 above
      in
      subst (λ l. Reaches automaton_grammar r l u) (edge_whole x) (reaches_line automaton_grammar r u line (clear_is line (edge_clear x outer.1)) (not_over stage on) taken)

abbrev last_line : Option Edge → List ℕ
last_line None = []
last_line (Some x) = codes "edge " ++ edge_text x

above_line : (o : Option Edge) (x : Edge) → option_map_or (λ l. is_edge_above l x) o true ≡ true → is_line_above (last_line o) (codes "edge " ++ edge_text x) ≡ true
above_line None x e = refl
above_line (Some l) x e = e

record EdgesRead (stage : Stage) (v e : ℕ) (ls : List Location) (done todo : List Edge) : Type 0 where
  later : Stage
  last : List ℕ
  on : is_open later ≡ true
  reached : Reaches automaton_grammar (reading stage v e ls done (last_line (last_of done)) []) (flat_map edge_line todo) (reading later v e ls (done ++ todo) last [])

edges_reached : (stage : Stage) (v e : ℕ) (ls : List Location) (done todo : List Edge) → is_open stage ≡ true → is_marks stage ≡ false → is_location ls e ≡ true
    → list_all fits_edge todo ≡ true → list_all (is_edge_among ls) todo ≡ true → goes_on is_edge_above (last_of done) todo ≡ true → EdgesRead stage v e ls done todo
edges_reached stage v e ls done [] on no_marks entry fits among order = record {
  later = stage;
  last = last_line (last_of done);
  on = on;
  reached =
      let s : AutomatonSoFar = reading stage v e ls done (last_line (last_of done)) [] in
      subst (λ (xs : List Edge). Reaches automaton_grammar s [] (reading stage v e ls xs (last_line (last_of done)) [])) (sym (append-nil done)) (reaches_none automaton_grammar s);
}
edges_reached stage v e ls done (x ∷ todo) on no_marks entry fits among order =
    let f : (fits_edge x ≡ true) × (list_all fits_edge todo ≡ true) = and_parts (fits_edge x) (list_all fits_edge todo) fits in
    let a : (is_edge_among ls x ≡ true) × (list_all (is_edge_among ls) todo ≡ true) = and_parts (is_edge_among ls x) (list_all (is_edge_among ls) todo) among in
    let first : Bool = option_map_or (λ l. is_edge_above l x) (last_of done) true in
    let o : (first ≡ true) × (goes_on is_edge_above (Some x) todo ≡ true) = and_parts first (goes_on is_edge_above (Some x) todo) order in
    let s : AutomatonSoFar = reading stage v e ls done (last_line (last_of done)) [] in
    let one : Reaches automaton_grammar s (edge_line x) (reading stages.Edges v e ls (done ++ x ∷ []) (codes "edge " ++ edge_text x) []) =
    edge_reached stage v e ls done (last_line (last_of done)) [] x on no_marks entry f.0 a.0 (above_line (last_of done) x o.0)
    in
    let next : Reaches automaton_grammar s (edge_line x) (reading stages.Edges v e ls (done ++ x ∷ []) (last_line (last_of (done ++ x ∷ []))) []) =
    subst (λ l. Reaches automaton_grammar s (edge_line x) (reading stages.Edges v e ls (done ++ x ∷ []) l [])) (ap last_line (sym (last_of_more done x))) one
    in
    let rest : EdgesRead stages.Edges v e ls (done ++ x ∷ []) todo = edges_reached stages.Edges v e ls (done ++ x ∷ []) todo refl refl entry f.1 a.1 (goes_behind is_edge_above done x todo o.1) in
    record {
      later = rest.later;
      last = rest.last;
      on = rest.on;
      reached =
          subst (λ (xs : List Edge). Reaches automaton_grammar s (edge_line x ++ flat_map edge_line todo) (reading rest.later v e ls xs rest.last [])) (one_more done x todo)
          (reaches_both automaton_grammar s (reading stages.Edges v e ls (done ++ x ∷ []) (last_line (last_of (done ++ x ∷ []))) []) (reading rest.later v e ls ((done ++ x ∷ []) ++ todo) rest.last []) (edge_line x) (flat_map edge_line todo) next rest.reached);
    }

-- ---- marks

cause_read : (c : Cause) → cause_of (cause_text c) ≡ Some c
cause_read causes.Bytes = refl
cause_read _ = refl

row_read : (row : ℕ) → is_word row ≡ true → row_of (decimal row) ≡ Some row
row_read row small =
    let below : row < 2 ^ 32 = word_small row small in
    ap (option_and_then (λ n. if nat_lt n (2 ^ 32) then Some n else None)) (decimal_read row (omega arith)) ∙ ap (λ t. if t then Some row else None) small

rows_by : (two : Bool) (row : Option ℕ) → is_some row ≡ two → fits_row row ≡ true → (if two then then_field row_of (row_list row) (λ n fs. no_more (Some n) fs) else no_more None (row_list row)) ≡ Some row
rows_by true None e fits = cc
rows_by false None e fits = refl
rows_by true (Some row) e fits = then_given row_of (decimal row) [] row (λ n fs. no_more (Some n) fs) (row_read row fits)
rows_by false (Some row) e fits = cc

mark_read : (v : ℕ) (m : OpenMark) → fits_mark m ≡ true → is_some m.row ≡ (v == 2) → mark_fields v (hex8 m.at ∷ cause_text m.cause ∷ row_list m.row) ≡ Some m
unfolding mark_fields
mark_read v m fits row =
    let f : (is_word m.at ≡ true) × (fits_row m.row ≡ true) = and_parts (is_word m.at) (fits_row m.row) fits in
    let made : ℕ → Cause → Option ℕ → OpenMark = λ at cause row. record { at = at; cause = cause; row = row } in
    then_given word_of (hex8 m.at) (cause_text m.cause ∷ row_list m.row) m.at (λ at fs. then_field cause_of fs (λ cause fs. option_map (λ row. made at cause row) (row_fields v fs))) (word_read m.at (word_small m.at f.0))
    ∙ then_given cause_of (cause_text m.cause) (row_list m.row) m.cause (λ cause fs. option_map (λ row. made m.at cause row) (row_fields v fs)) (cause_read m.cause)
    ∙ ap (option_map (λ (row : Option ℕ). made m.at m.cause row)) (rows_by (v == 2) m.row row f.1)

pub plain_rows : (row : Option ℕ) → fits_row row ≡ true → ArePlain (row_list row)
plain_rows None fits = plain.none
plain_rows (Some row) fits = let small : row < 2 ^ 32 = word_small row fits in plain.one (decimal row) [] (plain_is (decimal row) (plain_decimal row (omega arith))) plain.none

mark_reached : (stage : Stage) (v e : ℕ) (ls : List Location) (es : List Edge) (last : List ℕ) (ms : List OpenMark) (m : OpenMark) → is_open stage ≡ true → is_location ls e ≡ true
    → fits_mark m ≡ true → is_some m.row ≡ (v == 2) → is_mark_above ms m ≡ true → is_location ls m.at ≡ true
    → Reaches automaton_grammar (reading stage v e ls es last ms) (open_line m) (reading stages.Marks v e ls es last (ms ++ m ∷ []))
unfolding later_step mark_step
mark_reached stage v e ls es last ms m on entry fits row above there =
    let f : (is_word m.at ≡ true) × (fits_row m.row ≡ true) = and_parts (is_word m.at) (fits_row m.row) fits in
    let r : AutomatonSoFar = reading stage v e ls es last ms in
    let u : AutomatonSoFar = reading stages.Marks v e ls es last (ms ++ m ∷ []) in
    let fs : List (List ℕ) = hex8 m.at ∷ cause_text m.cause ∷ row_list m.row in
    let line : List ℕ = codes "open" ++ spaced fs in
    let own : ArePlain fs = plain.one (hex8 m.at) (cause_text m.cause ∷ row_list m.row) (plain_is (hex8 m.at) (plain_word m.at)) (plain.one (cause_text m.cause) (row_list m.row) (plain_is (cause_text m.cause) (plain_cause m.cause)) (plain_rows m.row f.1)) in
    let parts : fields line ≡ codes "open" ∷ fs = fields_spaced (codes "open") fs (plain_is (codes "open") refl) own in
    let taken : automaton_step r line ≡ Ok u =
    as_later stage v e ls es last ms line (codes "open") fs on entry refl parts
    ∙ ap (λ o. or_fault FIELD o (mark_step r)) (mark_read v m fits row)
    ∙ ap (λ t. demand t ORDER (demand (is_location ls m.at) CONTENT (Ok u))) above
    ∙ ap (λ t. demand t CONTENT (Ok u)) there
    in
    subst (λ l. Reaches automaton_grammar r l u) (mark_whole m.at m.cause m.row) (reaches_line automaton_grammar r u line (All-append (λ b. (b == 10) ≡ false) (codes "open") (spaced fs) (clear_is (codes "open") refl) (spaced_line fs own)) (not_over stage on) taken)

record MarksRead (stage : Stage) (v e : ℕ) (ls : List Location) (es : List Edge) (last : List ℕ) (done todo : List OpenMark) : Type 0 where
  later : Stage
  on : is_open later ≡ true
  reached : Reaches automaton_grammar (reading stage v e ls es last done) (flat_map open_line todo) (reading later v e ls es last (done ++ todo))

marks_reached : (stage : Stage) (v e : ℕ) (ls : List Location) (es : List Edge) (last : List ℕ) (done todo : List OpenMark) → is_open stage ≡ true → is_location ls e ≡ true
    → list_all fits_mark todo ≡ true → HaveRowsBy v todo → goes_on is_opening_above (last_of done) todo ≡ true → list_all (λ m. is_location ls m.at) todo ≡ true → MarksRead stage v e ls es last done todo
marks_reached stage v e ls es last done [] on entry fits rows order opened = record {
  later = stage;
  on = on;
  reached =
      let s : AutomatonSoFar = reading stage v e ls es last done in
      subst (λ (xs : List OpenMark). Reaches automaton_grammar s [] (reading stage v e ls es last xs)) (sym (append-nil done)) (reaches_none automaton_grammar s);
}
marks_reached stage v e ls es last done (m ∷ todo) on entry fits rows order opened =
    let f : (fits_mark m ≡ true) × (list_all fits_mark todo ≡ true) = and_parts (fits_mark m) (list_all fits_mark todo) fits in
    let o : (is_mark_above done m ≡ true) × (goes_on is_opening_above (Some m) todo ≡ true) = and_parts (is_mark_above done m) (goes_on is_opening_above (Some m) todo) order in
    let p : (is_location ls m.at ≡ true) × (list_all (λ n. is_location ls n.at) todo ≡ true) = and_parts (is_location ls m.at) (list_all (λ (n : OpenMark). is_location ls n.at) todo) opened in
    let s : AutomatonSoFar = reading stage v e ls es last done in
    let one : Reaches automaton_grammar s (open_line m) (reading stages.Marks v e ls es last (done ++ m ∷ [])) = mark_reached stage v e ls es last done m on entry f.0 (rows 0 m (omega arith)) o.0 p.0 in
    let rest : MarksRead stages.Marks v e ls es last (done ++ m ∷ []) todo =
    marks_reached stages.Marks v e ls es last (done ++ m ∷ []) todo refl entry f.1 (λ k d below. rows (suc k) d (omega arith)) (goes_behind is_opening_above done m todo o.1) p.1
    in
    record {
      later = rest.later;
      on = rest.on;
      reached =
          subst (λ (xs : List OpenMark). Reaches automaton_grammar s (open_line m ++ flat_map open_line todo) (reading rest.later v e ls es last xs)) (one_more done m todo)
          (reaches_both automaton_grammar s (reading stages.Marks v e ls es last (done ++ m ∷ [])) (reading rest.later v e ls es last ((done ++ m ∷ []) ++ todo)) (open_line m) (flat_map open_line todo) one rest.reached);
    }

-- ---- the end

counts_read : (r : AutomatonSoFar) → length r.locations < 2 ^ 64 → length r.edges < 2 ^ 64 → length r.marks < 2 ^ 64
    → count_fields r (decimal (length r.locations) ∷ decimal (length r.edges) ∷ decimal (length r.marks) ∷ []) ≡ Some true
unfolding count_fields
counts_read r few fewer fewest =
    let l = length r.locations in
    let e = length r.edges in
    let o = length r.marks in
    then_given (decimal_is l) (decimal l) (decimal e ∷ decimal o ∷ []) true (λ a fs. then_field (decimal_is e) fs (λ b fs. then_field (decimal_is o) fs (λ c fs. no_more (a && b && c) fs))) (number_written l few)
    ∙ then_given (decimal_is e) (decimal e) (decimal o ∷ []) true (λ b fs. then_field (decimal_is o) fs (λ c fs. no_more (true && b && c) fs)) (number_written e fewer)
    ∙ then_given (decimal_is o) (decimal o) [] true (λ c fs. no_more (true && true && c) fs) (number_written o fewest)

end_reached : (stage : Stage) (v e : ℕ) (ls : List Location) (es : List Edge) (last : List ℕ) (ms : List OpenMark) → is_open stage ≡ true → is_location ls e ≡ true
    → length ls < 2 ^ 64 → length es < 2 ^ 64 → length ms < 2 ^ 64
    → Reaches automaton_grammar (reading stage v e ls es last ms) (end_line (length ls) (length es) (length ms)) (reading stages.Ended v e ls es last ms)
unfolding later_step end_step
end_reached stage v e ls es last ms on entry few fewer fewest =
    let r : AutomatonSoFar = reading stage v e ls es last ms in
    let u : AutomatonSoFar = reading stages.Ended v e ls es last ms in
    let fs : List (List ℕ) = decimal (length ls) ∷ decimal (length es) ∷ decimal (length ms) ∷ [] in
    let line : List ℕ = codes "end" ++ spaced fs in
    let own : ArePlain fs = plain.one (decimal (length ls)) (decimal (length es) ∷ decimal (length ms) ∷ []) (plain_is (decimal (length ls)) (plain_decimal (length ls) few))
    (plain.one (decimal (length es)) (decimal (length ms) ∷ []) (plain_is (decimal (length es)) (plain_decimal (length es) fewer))
    (plain.one (decimal (length ms)) [] (plain_is (decimal (length ms)) (plain_decimal (length ms) fewest)) plain.none))
    in
    let parts : fields line ≡ codes "end" ∷ fs = fields_spaced (codes "end") fs (plain_is (codes "end") refl) own in
    let taken : automaton_step r line ≡ Ok u =
    as_later stage v e ls es last ms line (codes "end") fs on entry refl parts
    ∙ ap (λ o. or_fault FIELD o (λ hold. demand hold COUNT (Ok u))) (counts_read r few fewer fewest)
    in
    subst (λ l. Reaches automaton_grammar r l u) (end_whole (length ls) (length es) (length ms)) (reaches_line automaton_grammar r u line (All-append (λ b. (b == 10) ≡ false) (codes "end") (spaced fs) (clear_is (codes "end") refl) (spaced_line fs own)) (not_over stage on) taken)

-- ---- whole texts

pub read_back : OrderlyAutomataAreReadBack
unfolding automaton_read text_of
read_back a fits is =
    let v = a.version in
    let e = a.entry in
    let ls = a.locations in
    let es = a.edges in
    let ms = a.marks in
    let h : AutomatonSoFar = reading stages.Header v 0 [] [] [] [] in
    let p : AutomatonSoFar = reading stages.Locations v e [] [] [] [] in
    let q : AutomatonSoFar = reading stages.Locations v e ls [] [] [] in
    let places : Reaches automaton_grammar p (flat_map loc_line ls) q = places_reached v e [] ls fits.locations is.names (goes_from_none is_location_above ls is.locations) in
    let edges : EdgesRead stages.Locations v e ls [] es = edges_reached stages.Locations v e ls [] es refl refl is.entry fits.edges is.labels (goes_from_none is_edge_above es is.edges) in
    let s : AutomatonSoFar = reading edges.later v e ls es edges.last [] in
    let marks : MarksRead edges.later v e ls es edges.last [] ms = marks_reached edges.later v e ls es edges.last [] ms edges.on is.entry fits.marks is.rows (goes_from_none is_opening_above ms is.marks) is.opened in
    let t : AutomatonSoFar = reading marks.later v e ls es edges.last ms in
    let u : AutomatonSoFar = reading stages.Ended v e ls es edges.last ms in
    let end : Reaches automaton_grammar t (end_line (length ls) (length es) (length ms)) u = end_reached marks.later v e ls es edges.last ms marks.on is.entry fits.few_locations fits.few_edges fits.few_marks in
    let one : Reaches automaton_grammar nothing (header_line v ++ entry_line e) p = reaches_both automaton_grammar nothing h p (header_line v) (entry_line e) (header_reached v is.version) (entry_reached v e fits.entry) in
    let two : Reaches automaton_grammar nothing ((header_line v ++ entry_line e) ++ flat_map loc_line ls) q = reaches_both automaton_grammar nothing p q (header_line v ++ entry_line e) (flat_map loc_line ls) one places in
    let three : Reaches automaton_grammar nothing (((header_line v ++ entry_line e) ++ flat_map loc_line ls) ++ flat_map edge_line es) s =
    reaches_both automaton_grammar nothing q s ((header_line v ++ entry_line e) ++ flat_map loc_line ls) (flat_map edge_line es) two edges.reached
    in
    let four : Reaches automaton_grammar nothing ((((header_line v ++ entry_line e) ++ flat_map loc_line ls) ++ flat_map edge_line es) ++ flat_map open_line ms) t =
    reaches_both automaton_grammar nothing s t (((header_line v ++ entry_line e) ++ flat_map loc_line ls) ++ flat_map edge_line es) (flat_map open_line ms) three marks.reached
    in
    let five : Reaches automaton_grammar nothing (text_of a) u =
    reaches_both automaton_grammar nothing t u ((((header_line v ++ entry_line e) ++ flat_map loc_line ls) ++ flat_map edge_line es) ++ flat_map open_line ms) (end_line (length ls) (length es) (length ms)) four end
    in
    ap told (reaches_end automaton_grammar nothing u (text_of a) five refl)
