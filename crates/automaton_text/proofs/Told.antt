-- What an automaton's text tells is an orderly automaton, and the text is that automaton's.
use Rattle.std.proofs.Common.{◌≡◌, ℕ, zero, suc, ◌+◌, ◌<◌, ◌≤◌, ◌^◌, ◌==◌, Bool, true, false, List, [], ◌∷◌, ◌++◌, length, Option, None, Some, Ok, Err, refl, sym, ◌∙◌, ap, subst, arith, append_assoc, append-nil, decimal}
use Rattle.std.specs.Prelude.{All, Result, codes, flat_map, is_some, nat_le, ◌&&◌, if◌then◌else◌}
use Rattle.std.specs.Option.{option_map_or}
use Rattle.std.specs.List.{join_with_byte, list_all}
use Rattle.std.specs.Str.{bytes_eq}
use Rattle.std.proofs.lemmas.Bool.Decides.{nat_tests}
use Rattle.std.proofs.lemmas.Grind.{flat_map-append}
use Rattle.std.proofs.lemmas.List.Splits.{join_with_byte-slice_split}
use Rattle.std.proofs.lemmas.List.{length-append}
use Rattle.std.proofs.lemmas.List.Elements.{All-nil, All-push}
use Rattle.text_fields.specs.Hex.{hex8, hex_text}
use Rattle.text_fields.specs.Line.{newline, space}
use Rattle.text_fields.specs.declared.line_fault.LineFault.{LineFault}
use Rattle.text_fields.specs.Lines.{CONTENT, COUNT, END, FIELD, HEADER, ORDER, WORD, after_line, end_fault, fields, lines, read_from, read_text, demand, or_fault, last_of}
use Rattle.text_fields.proofs.Splitting.{fields_back, spaced}
use Rattle.x86_syntax.specs.Spelling.{spelled}
use Rattle.memory_map.specs.Image.{EXIT_PLACE}
use Rattle.memory_map.specs.Ascending.{ascend}
use Rattle.flow_log.specs.declared.cause.Cause.{Cause}
use Rattle.flow_log.specs.declared.edge.Edge.{Edge}
use Rattle.flow_log.specs.declared.edge.Label.TheVariants.{Code, Import}
use Rattle.automaton_text.specs.declared.automaton.Location.{Location}
use Rattle.automaton_text.specs.declared.automaton.OpenMark.{OpenMark}
use Rattle.automaton_text.specs.declared.automaton.Automaton.{Automaton}
use Rattle.automaton_text.specs.declared.stage.Stage.{Stage}
use Rattle.automaton_text.specs.declared.stage.Stage.TheVariants as stages
use Rattle.automaton_text.specs.Laws.{TextsTellOrderlyAutomata}
use Rattle.automaton_text.specs.Orderly.{IsOrderly, edge_text, has_own_name, is_edge_above, is_edge_among, is_location_above, is_opening_above}
use Rattle.automaton_text.specs.Reading.{NO_ENTRY, AutomatonSoFar, automaton_grammar, automaton_read, automaton_step, code_fields, code_step, count_fields, edge_step, end_fields, end_step, entry_step, has_own_suffix, header_step, import_fields, import_step, is_above, is_code, is_line_above, is_location, is_mark_above, is_marks, is_over, is_place_of, label_step, later_step, location_fields, location_or_later_step, location_step, mark_fields, mark_step, nothing, step_after, told, version_of, with_edge}
use Rattle.automaton_text.specs.Text.{HaveRowsBy, cause_text, code_text, edge_line, end_line, entry_line, header_line, is_version, label_text, loc_line, open_line, row_suffix, text_of}
use Rattle.automaton_text.proofs.Ascends.{ascend_more, list_all-push}
use Rattle.automaton_text.proofs.FieldsTold.{code_told, counts_told, ends_told, entry_text, import_told, location_named, location_text, location_told, mark_told, row_list, suffix_list, version_told}
use Rattle.std.proofs.lemmas.Bool.{and_parts, and_from}
use Rattle.text_fields.proofs.Found.{if_ok, found_ok, same_ok, same_word}
use Rattle.text_fields.proofs.LastOnes.{last_of_more}
use Rattle.text_fields.proofs.FieldTexts.{only_word_is}
use Rattle.text_fields.specs.Fields.{only_word}

-- ---- what was told so far

abbrev pub reading : Stage → ℕ → ℕ → List Location → List Edge → List ℕ → List OpenMark → AutomatonSoFar
reading stage v e ls es last ms = record { stage = stage; version = v; entry = e; locations = ls; edges = es; last_edge = last; marks = ms }

-- the lines but the last one
abbrev pub said_body : AutomatonSoFar → List ℕ
said_body r = header_line r.version ++ entry_line r.entry ++ flat_map loc_line r.locations ++ flat_map edge_line r.edges ++ flat_map open_line r.marks

abbrev pub said_at : Stage → AutomatonSoFar → List ℕ
said_at stages.Start r = []
said_at stages.Header r = header_line r.version
said_at stages.Locations r = said_body r
said_at stages.Edges r = said_body r
said_at stages.Marks r = said_body r
said_at stages.Ended r = said_body r ++ end_line (length r.locations) (length r.edges) (length r.marks)

abbrev pub said : AutomatonSoFar → List ℕ
said r = said_at r.stage r

-- nothing is there before its turn
abbrev pub IsBegun : Stage → AutomatonSoFar → Type 0
IsBegun stages.Start r = (r.locations ≡ []) × (r.edges ≡ []) × (r.marks ≡ [])
IsBegun stages.Header r = (is_version r.version ≡ true) × (r.locations ≡ []) × (r.edges ≡ []) × (r.marks ≡ [])
IsBegun stages.Locations r = (is_version r.version ≡ true) × (r.edges ≡ []) × (r.marks ≡ [])
IsBegun stages.Edges r = (is_version r.version ≡ true) × (is_location r.locations r.entry ≡ true) × (r.marks ≡ [])
IsBegun stages.Marks r = (is_version r.version ≡ true) × (is_location r.locations r.entry ≡ true)
IsBegun stages.Ended r = (is_version r.version ≡ true) × (is_location r.locations r.entry ≡ true)

pub record IsOrderlySoFar (r : AutomatonSoFar) : Type 0 where
  pub begun : IsBegun r.stage r
  pub locations : ascend is_location_above r.locations ≡ true
  pub names : list_all has_own_name r.locations ≡ true
  pub edges : ascend is_edge_above r.edges ≡ true
  pub last : (e : Edge) → last_of r.edges ≡ Some e → r.last_edge ≡ codes "edge " ++ edge_text e
  pub labels : list_all (is_edge_among r.locations) r.edges ≡ true
  pub marks : ascend is_opening_above r.marks ≡ true
  pub rows : HaveRowsBy r.version r.marks
  pub opened : list_all (λ m. is_location r.locations m.at) r.marks ≡ true

pub record Adds (r t : AutomatonSoFar) (line : List ℕ) : Type 0 where
  pub kept : IsOrderlySoFar t
  pub text : said t ≡ said r ++ (line ++ newline)

pub flat_map-last : {X : Type 0} (f : X → List ℕ) (xs : List X) (x : X) → flat_map f (xs ++ x ∷ []) ≡ flat_map f xs ++ f x
flat_map-last f xs x = flat_map-append f xs (x ∷ []) ∙ ap (λ l. flat_map f xs ++ l) (append-nil (f x))

-- ---- the first line and the entry

after_start : (v e : ℕ) (ls : List Location) (es : List Edge) (last : List ℕ) (ms : List OpenMark) (t : AutomatonSoFar) (line : List ℕ)
    → IsOrderlySoFar (reading stages.Start v e ls es last ms) → header_step (reading stages.Start v e ls es last ms) line ≡ Ok t → Adds (reading stages.Start v e ls es last ms) t line
after_start v e ls es last ms t line kept h =
    let r : AutomatonSoFar = reading stages.Start v e ls es last ms in
    let f : (w : ℕ) × (version_of line ≡ Some w) × (Ok (reading stages.Header w e ls es last ms) ≡ Ok t) = found_ok HEADER (version_of line) (λ w. Ok (reading stages.Header w e ls es last ms)) t h in
    let is : (line ++ newline ≡ header_line f.0) × (is_version f.0 ≡ true) = version_told line f.0 f.1 in
    let rows : HaveRowsBy f.0 ms = subst (HaveRowsBy f.0) (sym kept.begun.2) (All-nil _) in
    subst (λ (u : AutomatonSoFar). Adds r u line) (same_ok (reading stages.Header f.0 e ls es last ms) t f.2) (record {
      kept = record { begun = (is.1, kept.begun.0, kept.begun.1, kept.begun.2); locations = kept.locations; names = kept.names; edges = kept.edges; last = kept.last; labels = kept.labels; marks = kept.marks; rows = rows; opened = kept.opened };
      text = sym is.0;
    })

entry_added : (v at : ℕ) (ls : List Location) (es : List Edge) (ms : List OpenMark) (line : List ℕ) → ls ≡ [] → es ≡ [] → ms ≡ [] → line ≡ entry_line at
    → header_line v ++ entry_line at ++ flat_map loc_line ls ++ flat_map edge_line es ++ flat_map open_line ms ≡ header_line v ++ line
entry_added v at ls es ms line no_location no_edge no_mark is =
    let front : List ℕ = header_line v ++ entry_line at in
    rw (no_location, no_edge, no_mark, is) (append-nil ((front ++ []) ++ []) ∙ append-nil (front ++ []) ∙ append-nil front)

entry_by : (v e : ℕ) (ls : List Location) (es : List Edge) (last : List ℕ) (ms : List OpenMark) (t : AutomatonSoFar) (line : List ℕ) (fs : List (List ℕ))
    → IsOrderlySoFar (reading stages.Header v e ls es last ms) → fields line ≡ fs → entry_step (reading stages.Header v e ls es last ms) fs ≡ Ok t → Adds (reading stages.Header v e ls es last ms) t line
entry_by v e ls es last ms t line [] kept parts h = cc
entry_by v e ls es last ms t line (word ∷ fs) kept parts h =
    let r : AutomatonSoFar = reading stages.Header v e ls es last ms in
    let go : ℕ → Result AutomatonSoFar ℕ = λ at. Ok (reading stages.Locations v at ls es last ms) in
    let w : (bytes_eq word (codes "entry") ≡ true) × (or_fault FIELD (only_word fs) go ≡ Ok t) = if_ok (bytes_eq word (codes "entry")) WORD (or_fault FIELD (only_word fs) go) t h in
    let f : (at : ℕ) × (only_word fs ≡ Some at) × (go at ≡ Ok t) = found_ok FIELD (only_word fs) go t w.1 in
    let is : line ≡ codes "entry" ++ spaced (hex8 f.0 ∷ []) =
    fields_back line word fs parts ∙ ap (λ l. l ++ spaced fs) (same_word word (codes "entry") w.0) ∙ ap (λ gs. codes "entry" ++ spaced gs) (only_word_is fs f.0 f.1)
    in
    let whole : line ++ newline ≡ entry_line f.0 = ap (λ l. l ++ newline) is ∙ entry_text f.0 in
    let none = kept.begun in
    subst (λ (u : AutomatonSoFar). Adds r u line) (same_ok (reading stages.Locations v f.0 ls es last ms) t f.2) (record {
      kept = record { begun = (none.0, none.2, none.3); locations = kept.locations; names = kept.names; edges = kept.edges; last = kept.last; labels = kept.labels; marks = kept.marks; rows = kept.rows; opened = kept.opened };
      text = entry_added v f.0 ls es ms (line ++ newline) none.1 none.2 none.3 whole;
    })

-- ---- locations

no_labels : (ls : List Location) (es : List Edge) → es ≡ [] → list_all (is_edge_among ls) es ≡ true
no_labels ls es none = ap (list_all (is_edge_among ls)) none

none_opened : (ls : List Location) (ms : List OpenMark) → ms ≡ [] → list_all (λ m. is_location ls m.at) ms ≡ true
none_opened ls ms none = ap (list_all (λ (m : OpenMark). is_location ls m.at)) none

-- lines told with one location more, where no edge and no mark is there
location_added : (front : List ℕ) (ls : List Location) (es : List Edge) (ms : List OpenMark) (l : Location) (line : List ℕ) → es ≡ [] → ms ≡ [] → line ≡ loc_line l
    → front ++ flat_map loc_line (ls ++ l ∷ []) ++ flat_map edge_line es ++ flat_map open_line ms ≡ (front ++ flat_map loc_line ls ++ flat_map edge_line es ++ flat_map open_line ms) ++ line
location_added front ls es ms l line no_edge no_mark is = rw (no_edge, no_mark, is, flat_map-last loc_line ls l) (simp (append_assoc, append-nil))

location_by : (v e : ℕ) (ls : List Location) (es : List Edge) (last : List ℕ) (ms : List OpenMark) (t : AutomatonSoFar) (line : List ℕ) (at : ℕ) (suffix : Option (List ℕ))
    → IsOrderlySoFar (reading stages.Locations v e ls es last ms) → line ≡ codes "loc" ++ spaced (hex8 at ∷ suffix_list suffix)
    → location_step (reading stages.Locations v e ls es last ms) at suffix ≡ Ok t → Adds (reading stages.Locations v e ls es last ms) t line
unfolding location_step
location_by v e ls es last ms t line at suffix kept is h =
    let r : AutomatonSoFar = reading stages.Locations v e ls es last ms in
    let l : Location = record { at = at; name = (if at == EXIT_PLACE then None else suffix) } in
    let u : AutomatonSoFar = reading stages.Locations v e (ls ++ l ∷ []) es last ms in
    let order : (is_above ls at ≡ true) × (demand (has_own_suffix at suffix) CONTENT (Ok u) ≡ Ok t) = if_ok (is_above ls at) ORDER (demand (has_own_suffix at suffix) CONTENT (Ok u)) t h in
    let content : (has_own_suffix at suffix ≡ true) × (Ok u ≡ Ok t) = if_ok (has_own_suffix at suffix) CONTENT (Ok u) t order.1 in
    let whole : line ++ newline ≡ loc_line l = ap (λ x. x ++ newline) is ∙ location_text at suffix content.0 in
    subst (λ (w : AutomatonSoFar). Adds r w line) (same_ok u t content.1) (record {
      kept = record {
        begun = kept.begun;
        locations = ascend_more is_location_above ls l kept.locations order.0;
        names = list_all-push has_own_name ls l kept.names (location_named at suffix content.0);
        edges = kept.edges;
        last = kept.last;
        labels = no_labels (ls ++ l ∷ []) es kept.begun.1;
        marks = kept.marks;
        rows = kept.rows;
        opened = none_opened (ls ++ l ∷ []) ms kept.begun.2;
      };
      text = location_added (header_line v ++ entry_line e) ls es ms l (line ++ newline) kept.begun.1 kept.begun.2 whole;
    })

-- ---- edges

pub edge_whole : (e : Edge) → (codes "edge " ++ edge_text e) ++ newline ≡ edge_line e
unfolding edge_text edge_line
edge_whole e = simp append_assoc

edge_added : (front : List ℕ) (es : List Edge) (ms : List OpenMark) (e : Edge) (line : List ℕ) → ms ≡ [] → line ≡ edge_line e
    → front ++ flat_map edge_line (es ++ e ∷ []) ++ flat_map open_line ms ≡ (front ++ flat_map edge_line es ++ flat_map open_line ms) ++ line
edge_added front es ms e line no_mark is = rw (no_mark, is, flat_map-last edge_line es e) (simp (append_assoc, append-nil))

-- the line of an edge stands above the last one where the edge does
above_by : (last line : List ℕ) (l : Option Edge) (e : Edge) → ((d : Edge) → l ≡ Some d → last ≡ codes "edge " ++ edge_text d) → line ≡ codes "edge " ++ edge_text e
    → is_line_above last line ≡ true → option_map_or (λ d. is_edge_above d e) l true ≡ true
above_by last line None e lasts is h = refl
above_by last line (Some d) e lasts is h = ap (λ x. is_line_above x (codes "edge " ++ edge_text e)) (sym (lasts d refl)) ∙ ap (is_line_above last) (sym is) ∙ h

last_by : (es : List Edge) (e : Edge) (line : List ℕ) → line ≡ codes "edge " ++ edge_text e → (d : Edge) → last_of (es ++ e ∷ []) ≡ Some d → line ≡ codes "edge " ++ edge_text d
last_by es e line is d at =
    let found : last_of (es ++ e ∷ []) ≡ Some e = last_of_more es e in
    let same : e ≡ d = cc in
    is ∙ ap (λ x. codes "edge " ++ edge_text x) same

-- a stage of the lines behind the locations, and what is so there
pub record IsLater (stage : Stage) (r : AutomatonSoFar) : Type 0 where
  pub version : is_version r.version ≡ true
  pub entry : is_location r.locations r.entry ≡ true
  pub fresh : is_marks stage ≡ false → r.marks ≡ []
  pub tells : said_at stage r ≡ said_body r

edge_kept : (stage : Stage) (v e : ℕ) (ls : List Location) (es : List Edge) (last : List ℕ) (ms : List OpenMark) (line : List ℕ) (x : Edge)
    → IsOrderlySoFar (reading stage v e ls es last ms) → IsLater stage (reading stage v e ls es last ms) → is_marks stage ≡ false
    → line ≡ codes "edge " ++ edge_text x → is_line_above last line ≡ true → is_edge_among ls x ≡ true
    → Adds (reading stage v e ls es last ms) (reading stages.Edges v e ls (es ++ x ∷ []) line ms) line
edge_kept stage v e ls es last ms line x kept later on is above among = record {
  kept = record {
    begun = (later.version, later.entry, later.fresh on);
    locations = kept.locations;
    names = kept.names;
    edges = ascend_more is_edge_above es x kept.edges (above_by last line (last_of es) x kept.last is above);
    last = last_by es x line is;
    labels = list_all-push (is_edge_among ls) es x kept.labels among;
    marks = kept.marks;
    rows = kept.rows;
    opened = kept.opened;
  };
  text =
      edge_added (header_line v ++ entry_line e ++ flat_map loc_line ls) es ms x (line ++ newline) (later.fresh on) (ap (λ l. l ++ newline) is ∙ edge_whole x)
      ∙ ap (λ l. l ++ (line ++ newline)) (sym later.tells);
}

import_line : (from to : ℕ) (name : List ℕ) → codes "edge" ++ spaced (hex8 from ∷ hex8 to ∷ codes "import" ∷ name ∷ []) ≡ codes "edge " ++ edge_text (record { from = from; to = to; label = Import name })
unfolding edge_text label_text
import_line from to name = simp (append_assoc, append-nil)

code_line : (from to : ℕ) (bytes text : List ℕ) (fs : List (List ℕ)) → spaced fs ≡ space ++ text → text ≡ code_text from bytes
    → codes "edge" ++ spaced (hex8 from ∷ hex8 to ∷ hex_text bytes ∷ fs) ≡ codes "edge " ++ edge_text (record { from = from; to = to; label = Code (record { items = bytes }) })
unfolding edge_text label_text
code_line from to bytes text fs rest own = ap (λ l. codes "edge " ++ (hex8 from ++ (32 ∷ (hex8 to ++ (32 ∷ (hex_text bytes ++ l)))))) (rest ∙ ap (λ l. space ++ l) own) ∙ simp append_assoc

code_is : (from : ℕ) (bytes text : List ℕ) → is_code from bytes text ≡ true → (is_some (spelled bytes) ≡ true) × (text ≡ code_text from bytes)
unfolding is_code
code_is from bytes text h =
    let outer : ((nat_le (length bytes) 15 && is_some (spelled bytes)) ≡ true) × (bytes_eq (code_text from bytes) text ≡ true) = and_parts (nat_le (length bytes) 15 && is_some (spelled bytes)) (bytes_eq (code_text from bytes) text) h in
    let inner : (nat_le (length bytes) 15 ≡ true) × (is_some (spelled bytes) ≡ true) = and_parts (nat_le (length bytes) 15) (is_some (spelled bytes)) outer.0 in
    (inner.1, sym (same_word (code_text from bytes) text outer.1))

-- the lines of marks and of the end
two_fields : (a b : List ℕ) → (a ++ (32 ∷ (b ++ []))) ++ newline ≡ (((a ++ space) ++ b) ++ []) ++ newline
two_fields a b = simp (append_assoc, append-nil)

two_and_one : (a b c : List ℕ) → (a ++ (32 ∷ (b ++ (32 ∷ (c ++ []))))) ++ newline ≡ (((a ++ space) ++ b) ++ (space ++ c)) ++ newline
two_and_one a b c = simp (append_assoc, append-nil)

three_fields : (a b c : List ℕ) → (a ++ (32 ∷ (b ++ (32 ∷ (c ++ []))))) ++ newline ≡ ((((a ++ space) ++ b) ++ space) ++ c) ++ newline
three_fields a b c = simp (append_assoc, append-nil)

pub mark_whole : (at : ℕ) (cause : Cause) (row : Option ℕ) → (codes "open" ++ spaced (hex8 at ∷ cause_text cause ∷ row_list row)) ++ newline ≡ open_line (record { at = at; cause = cause; row = row })
unfolding open_line
mark_whole at cause None = ap (λ l. codes "open " ++ l) (two_fields (hex8 at) (cause_text cause))
mark_whole at cause (Some row) = ap (λ l. codes "open " ++ l) (two_and_one (hex8 at) (cause_text cause) (decimal row))

pub end_whole : (l e o : ℕ) → (codes "end" ++ spaced (decimal l ∷ decimal e ∷ decimal o ∷ [])) ++ newline ≡ end_line l e o
end_whole l e o = ap (λ x. codes "end " ++ x) (three_fields (decimal l) (decimal e) (decimal o))

module _ (stage : Stage) (v e : ℕ) (ls : List Location) (es : List Edge) (last : List ℕ) (ms : List OpenMark) (t : AutomatonSoFar) (line : List ℕ)
    (kept : IsOrderlySoFar (reading stage v e ls es last ms)) (later : IsLater stage (reading stage v e ls es last ms)) where
  import_by : (from to : ℕ) (name : List ℕ) → is_marks stage ≡ false → line ≡ codes "edge" ++ spaced (hex8 from ∷ hex8 to ∷ codes "import" ∷ name ∷ [])
      → import_step (reading stage v e ls es last ms) line from to name ≡ Ok t → Adds (reading stage v e ls es last ms) t line
  unfolding import_step
  import_by from to name on is h =
      let x : Edge = record { from = from; to = to; label = Import name } in
      let u : AutomatonSoFar = reading stages.Edges v e ls (es ++ x ∷ []) line ms in
      let joins : Bool = is_place_of ls from name && is_location ls to in
      let order : (is_line_above last line ≡ true) × (demand joins CONTENT (Ok u) ≡ Ok t) = if_ok (is_line_above last line) ORDER (demand joins CONTENT (Ok u)) t h in
      let content : (joins ≡ true) × (Ok u ≡ Ok t) = if_ok joins CONTENT (Ok u) t order.1 in
      subst (λ (w : AutomatonSoFar). Adds (reading stage v e ls es last ms) w line) (same_ok u t content.1)
      (edge_kept stage v e ls es last ms line x kept later on (is ∙ import_line from to name) order.0 content.0)

  code_by : (from to : ℕ) (bytes text : List ℕ) (fs : List (List ℕ)) → is_marks stage ≡ false → spaced fs ≡ space ++ text → line ≡ codes "edge" ++ spaced (hex8 from ∷ hex8 to ∷ hex_text bytes ∷ fs)
      → code_step (reading stage v e ls es last ms) line from to bytes text ≡ Ok t → Adds (reading stage v e ls es last ms) t line
  unfolding code_step
  code_by from to bytes text fs on rest is h =
      let x : Edge = record { from = from; to = to; label = Code (record { items = bytes }) } in
      let u : AutomatonSoFar = reading stages.Edges v e ls (es ++ x ∷ []) line ms in
      let joins : Bool = is_location ls from && is_location ls to && is_code from bytes text in
      let order : (is_line_above last line ≡ true) × (demand joins CONTENT (Ok u) ≡ Ok t) = if_ok (is_line_above last line) ORDER (demand joins CONTENT (Ok u)) t h in
      let content : (joins ≡ true) × (Ok u ≡ Ok t) = if_ok joins CONTENT (Ok u) t order.1 in
      let outer : ((is_location ls from && is_location ls to) ≡ true) × (is_code from bytes text ≡ true) = and_parts (is_location ls from && is_location ls to) (is_code from bytes text) content.0 in
      let ends : (is_location ls from ≡ true) × (is_location ls to ≡ true) = and_parts (is_location ls from) (is_location ls to) outer.0 in
      let own : (is_some (spelled bytes) ≡ true) × (text ≡ code_text from bytes) = code_is from bytes text outer.1 in
      let among : is_edge_among ls x ≡ true = and_from (is_location ls from && is_some (spelled bytes)) (is_location ls to) (and_from (is_location ls from) (is_some (spelled bytes)) ends.0 own.0) ends.1 in
      subst (λ (w : AutomatonSoFar). Adds (reading stage v e ls es last ms) w line) (same_ok u t content.1)
      (edge_kept stage v e ls es last ms line x kept later on (is ∙ code_line from to bytes text fs rest own.1) order.0 among)

  label_by : (from to : ℕ) (field : List ℕ) (fs : List (List ℕ)) (import : Bool) → bytes_eq field (codes "import") ≡ import → is_marks stage ≡ false
      → line ≡ codes "edge" ++ spaced (hex8 from ∷ hex8 to ∷ field ∷ fs)
      → (if import then or_fault FIELD (import_fields fs) (λ name. import_step (reading stage v e ls es last ms) line from to name)
      else or_fault FIELD (code_fields field fs) (λ code. code_step (reading stage v e ls es last ms) line from to code.0 code.1)) ≡ Ok t
      → Adds (reading stage v e ls es last ms) t line
  label_by from to field fs true word on is h =
      let go : List ℕ → Result AutomatonSoFar ℕ = λ name. import_step (reading stage v e ls es last ms) line from to name in
      let f : (name : List ℕ) × (import_fields fs ≡ Some name) × (go name ≡ Ok t) = found_ok FIELD (import_fields fs) go t h in
      import_by from to f.0 on
      (is ∙ ap (λ l. codes "edge" ++ spaced (hex8 from ∷ hex8 to ∷ l ∷ fs)) (same_word field (codes "import") word) ∙ ap (λ gs. codes "edge" ++ spaced (hex8 from ∷ hex8 to ∷ codes "import" ∷ gs)) (import_told fs f.0 f.1)) f.2
  label_by from to field fs false word on is h =
      let go : List ℕ × List ℕ → Result AutomatonSoFar ℕ = λ code. code_step (reading stage v e ls es last ms) line from to code.0 code.1 in
      let f : (code : List ℕ × List ℕ) × (code_fields field fs ≡ Some code) × (go code ≡ Ok t) = found_ok FIELD (code_fields field fs) go t h in
      let c : (field ≡ hex_text f.0.0) × (spaced fs ≡ space ++ f.0.1) = code_told field fs f.0 f.1 in
      code_by from to f.0.0 f.0.1 fs on c.1 (is ∙ ap (λ l. codes "edge" ++ spaced (hex8 from ∷ hex8 to ∷ l ∷ fs)) c.0) f.2

  labels_by : (from to : ℕ) (fs : List (List ℕ)) → is_marks stage ≡ false → line ≡ codes "edge" ++ spaced (hex8 from ∷ hex8 to ∷ fs)
      → label_step (reading stage v e ls es last ms) line from to fs ≡ Ok t → Adds (reading stage v e ls es last ms) t line
  unfolding label_step
  labels_by from to [] on is h = cc
  labels_by from to (field ∷ fs) on is h = label_by from to field fs (bytes_eq field (codes "import")) refl on is h

  edge_by : (fs : List (List ℕ)) → is_marks stage ≡ false → line ≡ codes "edge" ++ spaced fs → edge_step (reading stage v e ls es last ms) line fs ≡ Ok t → Adds (reading stage v e ls es last ms) t line
  unfolding edge_step
  edge_by fs on is h =
      let go : ℕ × ℕ × List (List ℕ) → Result AutomatonSoFar ℕ = λ ends. label_step (reading stage v e ls es last ms) line ends.0 ends.1 ends.2 in
      let f : (ends : ℕ × ℕ × List (List ℕ)) × (end_fields fs ≡ Some ends) × (go ends ≡ Ok t) = found_ok FIELD (end_fields fs) go t h in
      labels_by f.0.0 f.0.1 f.0.2 on (is ∙ ap (λ gs. codes "edge" ++ spaced gs) (ends_told fs f.0 f.1)) f.2

  -- ---- marks

  mark_by : (m : OpenMark) → line ≡ codes "open" ++ spaced (hex8 m.at ∷ cause_text m.cause ∷ row_list m.row) → is_some m.row ≡ (v == 2)
      → mark_step (reading stage v e ls es last ms) m ≡ Ok t → Adds (reading stage v e ls es last ms) t line
  unfolding mark_step
  mark_by m is row h =
      let u : AutomatonSoFar = reading stages.Marks v e ls es last (ms ++ m ∷ []) in
      let order : (is_mark_above ms m ≡ true) × (demand (is_location ls m.at) CONTENT (Ok u) ≡ Ok t) = if_ok (is_mark_above ms m) ORDER (demand (is_location ls m.at) CONTENT (Ok u)) t h in
      let content : (is_location ls m.at ≡ true) × (Ok u ≡ Ok t) = if_ok (is_location ls m.at) CONTENT (Ok u) t order.1 in
      subst (λ (w : AutomatonSoFar). Adds (reading stage v e ls es last ms) w line) (same_ok u t content.1) (record {
        kept = record {
          begun = (later.version, later.entry);
          locations = kept.locations;
          names = kept.names;
          edges = kept.edges;
          last = kept.last;
          labels = kept.labels;
          marks = ascend_more is_opening_above ms m kept.marks order.0;
          rows = All-push (λ (n : OpenMark). is_some n.row ≡ (v == 2)) ms m kept.rows row;
          opened = list_all-push (λ n. is_location ls n.at) ms m kept.opened content.0;
        };
        text =
            ap (λ l. (header_line v ++ entry_line e ++ flat_map loc_line ls ++ flat_map edge_line es) ++ l) (flat_map-last open_line ms m)
            ∙ sym (append_assoc (header_line v ++ entry_line e ++ flat_map loc_line ls ++ flat_map edge_line es) (flat_map open_line ms) (open_line m))
            ∙ ap (λ l. said_body (reading stage v e ls es last ms) ++ l) (sym (ap (λ l. l ++ newline) is ∙ mark_whole m.at m.cause m.row))
            ∙ ap (λ l. l ++ (line ++ newline)) (sym later.tells);
      })

  -- ---- the end

  end_by : (fs : List (List ℕ)) → length ls < 2 ^ 64 → length es < 2 ^ 64 → length ms < 2 ^ 64 → line ≡ codes "end" ++ spaced fs
      → end_step (reading stage v e ls es last ms) fs ≡ Ok t → Adds (reading stage v e ls es last ms) t line
  unfolding end_step
  end_by fs few fewer fewest is h =
      let r : AutomatonSoFar = reading stage v e ls es last ms in
      let u : AutomatonSoFar = reading stages.Ended v e ls es last ms in
      let go : Bool → Result AutomatonSoFar ℕ = λ hold. demand hold COUNT (Ok u) in
      let f : (hold : Bool) × (count_fields r fs ≡ Some hold) × (go hold ≡ Ok t) = found_ok FIELD (count_fields r fs) go t h in
      let holds : (f.0 ≡ true) × (Ok u ≡ Ok t) = if_ok f.0 COUNT (Ok u) t f.2 in
      let own : fs ≡ decimal (length ls) ∷ decimal (length es) ∷ decimal (length ms) ∷ [] = counts_told r fs few fewer fewest (f.1 ∙ ap Some holds.0) in
      subst (λ (w : AutomatonSoFar). Adds r w line) (same_ok u t holds.1) (record {
        kept = record { begun = (later.version, later.entry); locations = kept.locations; names = kept.names; edges = kept.edges; last = kept.last; labels = kept.labels; marks = kept.marks; rows = kept.rows; opened = kept.opened };
        text =
            ap (λ l. said_body r ++ l) (sym (ap (λ l. l ++ newline) (is ∙ ap (λ gs. codes "end" ++ spaced gs) own) ∙ end_whole (length ls) (length es) (length ms)))
            ∙ ap (λ l. l ++ (line ++ newline)) (sym later.tells);
      })

  later_by : (word : List ℕ) (fs : List (List ℕ)) (edge mark end marks : Bool) → length ls < 2 ^ 64 → length es < 2 ^ 64 → length ms < 2 ^ 64 → fields line ≡ word ∷ fs
      → bytes_eq word (codes "edge") ≡ edge → bytes_eq word (codes "open") ≡ mark → bytes_eq word (codes "end") ≡ end → is_marks stage ≡ marks
      → (if edge then (if marks then Err WORD else edge_step (reading stage v e ls es last ms) line fs)
      else if mark then or_fault FIELD (mark_fields v fs) (mark_step (reading stage v e ls es last ms))
      else if end then end_step (reading stage v e ls es last ms) fs
      else Err WORD) ≡ Ok t
      → Adds (reading stage v e ls es last ms) t line
  later_by word fs true mark end true few fewer fewest parts a b c d h = cc
  later_by word fs true mark end false few fewer fewest parts a b c d h = edge_by fs d (fields_back line word fs parts ∙ ap (λ l. l ++ spaced fs) (same_word word (codes "edge") a)) h
  later_by word fs false true end marks few fewer fewest parts a b c d h =
      let f : (m : OpenMark) × (mark_fields v fs ≡ Some m) × (mark_step (reading stage v e ls es last ms) m ≡ Ok t) = found_ok FIELD (mark_fields v fs) (mark_step (reading stage v e ls es last ms)) t h in
      let m : (fs ≡ hex8 f.0.at ∷ cause_text f.0.cause ∷ row_list f.0.row) × (is_some f.0.row ≡ (v == 2)) = mark_told v fs f.0 f.1 in
      mark_by f.0 (fields_back line word fs parts ∙ ap (λ l. l ++ spaced fs) (same_word word (codes "open") b) ∙ ap (λ gs. codes "open" ++ spaced gs) m.0) m.1 f.2
  later_by word fs false false true marks few fewer fewest parts a b c d h =
      end_by fs few fewer fewest (fields_back line word fs parts ∙ ap (λ l. l ++ spaced fs) (same_word word (codes "end") c)) h
  later_by word fs false false false marks few fewer fewest parts a b c d h = cc

  after_places : (fs : List (List ℕ)) → length ls < 2 ^ 64 → length es < 2 ^ 64 → length ms < 2 ^ 64 → fields line ≡ fs
      → later_step (reading stage v e ls es last ms) line fs ≡ Ok t → Adds (reading stage v e ls es last ms) t line
  unfolding later_step
  after_places [] few fewer fewest parts h = cc
  after_places (word ∷ fs) few fewer fewest parts h =
      later_by word fs (bytes_eq word (codes "edge")) (bytes_eq word (codes "open")) (bytes_eq word (codes "end")) (is_marks stage) few fewer fewest parts refl refl refl refl h

-- ---- all lines

place_by : (v e : ℕ) (ls : List Location) (es : List Edge) (last : List ℕ) (ms : List OpenMark) (t : AutomatonSoFar) (line word : List ℕ) (fs : List (List ℕ)) (loc : Bool)
    → IsOrderlySoFar (reading stages.Locations v e ls es last ms) → length ls < 2 ^ 64 → length es < 2 ^ 64 → length ms < 2 ^ 64 → fields line ≡ word ∷ fs → bytes_eq word (codes "loc") ≡ loc
    → (if loc then or_fault FIELD (location_fields fs) (λ l. location_step (reading stages.Locations v e ls es last ms) l.0 l.1)
    else demand (is_location ls e) NO_ENTRY (later_step (reading stages.Locations v e ls es last ms) line (word ∷ fs))) ≡ Ok t
    → Adds (reading stages.Locations v e ls es last ms) t line
place_by v e ls es last ms t line word fs true kept few fewer fewest parts a h =
    let go : ℕ × Option (List ℕ) → Result AutomatonSoFar ℕ = λ l. location_step (reading stages.Locations v e ls es last ms) l.0 l.1 in
    let f : (l : ℕ × Option (List ℕ)) × (location_fields fs ≡ Some l) × (go l ≡ Ok t) = found_ok FIELD (location_fields fs) go t h in
    location_by v e ls es last ms t line f.0.0 f.0.1 kept
    (fields_back line word fs parts ∙ ap (λ l. l ++ spaced fs) (same_word word (codes "loc") a) ∙ ap (λ gs. codes "loc" ++ spaced gs) (location_told fs f.0 f.1)) f.2
place_by v e ls es last ms t line word fs false kept few fewer fewest parts a h =
    let go : Result AutomatonSoFar ℕ = later_step (reading stages.Locations v e ls es last ms) line (word ∷ fs) in
    let d : (is_location ls e ≡ true) × (go ≡ Ok t) = if_ok (is_location ls e) NO_ENTRY go t h in
    after_places stages.Locations v e ls es last ms t line kept (record { version = kept.begun.0; entry = d.0; fresh = λ _. kept.begun.2; tells = refl }) (word ∷ fs) few fewer fewest parts d.1

places_by : (v e : ℕ) (ls : List Location) (es : List Edge) (last : List ℕ) (ms : List OpenMark) (t : AutomatonSoFar) (line : List ℕ) (fs : List (List ℕ))
    → IsOrderlySoFar (reading stages.Locations v e ls es last ms) → length ls < 2 ^ 64 → length es < 2 ^ 64 → length ms < 2 ^ 64 → fields line ≡ fs
    → location_or_later_step (reading stages.Locations v e ls es last ms) line fs ≡ Ok t → Adds (reading stages.Locations v e ls es last ms) t line
unfolding location_or_later_step
places_by v e ls es last ms t line [] kept few fewer fewest parts h = cc
places_by v e ls es last ms t line (word ∷ fs) kept few fewer fewest parts h = place_by v e ls es last ms t line word fs (bytes_eq word (codes "loc")) kept few fewer fewest parts refl h

step_by : (stage : Stage) (v e : ℕ) (ls : List Location) (es : List Edge) (last : List ℕ) (ms : List OpenMark) (t : AutomatonSoFar) (line : List ℕ)
    → IsOrderlySoFar (reading stage v e ls es last ms) → length ls < 2 ^ 64 → length es < 2 ^ 64 → length ms < 2 ^ 64
    → step_after stage (reading stage v e ls es last ms) line ≡ Ok t → Adds (reading stage v e ls es last ms) t line
step_by stages.Start v e ls es last ms t line kept few fewer fewest h = after_start v e ls es last ms t line kept h
step_by stages.Header v e ls es last ms t line kept few fewer fewest h = entry_by v e ls es last ms t line (fields line) kept refl h
step_by stages.Locations v e ls es last ms t line kept few fewer fewest h = places_by v e ls es last ms t line (fields line) kept few fewer fewest refl h
step_by stages.Edges v e ls es last ms t line kept few fewer fewest h =
    after_places stages.Edges v e ls es last ms t line kept (record { version = kept.begun.0; entry = kept.begun.1; fresh = λ _. kept.begun.2; tells = refl }) (fields line) few fewer fewest refl h
step_by stages.Marks v e ls es last ms t line kept few fewer fewest h =
    after_places stages.Marks v e ls es last ms t line kept (record { version = kept.begun.0; entry = kept.begun.1; fresh = λ on. cc; tells = refl }) (fields line) few fewer fewest refl h
step_by stages.Ended v e ls es last ms t line kept few fewer fewest h = cc

-- a text has at least as many bytes as lines
pub lines_few : {X : Type 0} (f : X → List ℕ) → ((x : X) → 0 < length (f x)) → (xs : List X) → length xs ≤ length (flat_map f xs)
lines_few f some [] = omega arith
lines_few f some (x ∷ xs) =
    let here = some x in
    let others = lines_few f some xs in
    let whole : length (f x ++ flat_map f xs) ≡ length (f x) + length (flat_map f xs) = length-append (f x) (flat_map f xs) in
    omega arith

some_loc : (l : Location) → 0 < length (loc_line l)
unfolding loc_line
some_loc l = omega arith

some_edge : (e : Edge) → 0 < length (edge_line e)
unfolding edge_line
some_edge e = omega arith

some_open : (m : OpenMark) → 0 < length (open_line m)
unfolding open_line
some_open m = omega arith

pub record AreFew (r : AutomatonSoFar) : Type 0 where
  pub locations : length r.locations < 2 ^ 64
  pub edges : length r.edges < 2 ^ 64
  pub marks : length r.marks < 2 ^ 64

sizes : (a b c d : List ℕ) → length (((a ++ b) ++ c) ++ d) ≡ ((length a + length b) + length c) + length d
sizes a b c d = length-append ((a ++ b) ++ c) d ∙ ap (λ n. n + length d) (length-append (a ++ b) c ∙ ap (λ n. n + length c) (length-append a b))

few_by : (f a b c : ℕ) (r : AutomatonSoFar) → ((f + a) + b) + c < 2 ^ 64 → length r.locations ≤ a → length r.edges ≤ b → length r.marks ≤ c → AreFew r
few_by f a b c r all locations edges marks = record { locations = omega arith; edges = omega arith; marks = omega arith }

zero_few : {n : ℕ} → n ≡ 0 → n < 2 ^ 64
zero_few none = omega arith

body_few : (r : AutomatonSoFar) → length (said_body r) < 2 ^ 64 → AreFew r
body_few r short =
    let front : List ℕ = header_line r.version ++ entry_line r.entry in
    let a : List ℕ = flat_map loc_line r.locations in
    let b : List ℕ = flat_map edge_line r.edges in
    let c : List ℕ = flat_map open_line r.marks in
    let whole : length (((front ++ a) ++ b) ++ c) ≡ ((length front + length a) + length b) + length c = sizes front a b c in
    let locations : length r.locations ≤ length a = lines_few loc_line some_loc r.locations in
    let edges : length r.edges ≤ length b = lines_few edge_line some_edge r.edges in
    let marks : length r.marks ≤ length c = lines_few open_line some_open r.marks in
    let all : length (((front ++ a) ++ b) ++ c) < 2 ^ 64 = short in
    few_by (length front) (length a) (length b) (length c) r (subst (λ n. n < 2 ^ 64) whole all) locations edges marks

none_few : (r : AutomatonSoFar) → r.locations ≡ [] → r.edges ≡ [] → r.marks ≡ [] → AreFew r
none_few r a b c = record { locations = zero_few (ap length a); edges = zero_few (ap length b); marks = zero_few (ap length c) }

are_few : (stage : Stage) (r : AutomatonSoFar) → IsBegun stage r → length (said_at stage r) < 2 ^ 64 → AreFew r
are_few stages.Start r begun short = none_few r begun.0 begun.1 begun.2
are_few stages.Header r begun short = none_few r begun.1 begun.2 begun.3
are_few stages.Locations r begun short = body_few r short
are_few stages.Edges r begun short = body_few r short
are_few stages.Marks r begun short = body_few r short
are_few stages.Ended r begun short =
    let last : List ℕ = end_line (length r.locations) (length r.edges) (length r.marks) in
    let whole : length (said_body r ++ last) ≡ length (said_body r) + length last = length-append (said_body r) last in
    let all : length (said_body r ++ last) < 2 ^ 64 = short in
    body_few r (omega arith)

pub record Told (s t : AutomatonSoFar) (added : List ℕ) : Type 0 where
  pub text : said t ≡ said s ++ added
  pub kept : IsOrderlySoFar t
  pub over : is_over t.stage ≡ true

last_line : (n : ℕ) (s t : AutomatonSoFar) (rest : List ℕ) (ended none : Bool) → is_over s.stage ≡ ended → (length rest == 0) ≡ none → IsOrderlySoFar s
    → ◌≡◌ {A = Result AutomatonSoFar LineFault} (if ended && none then Ok s else Err (end_fault n)) (Ok t) → Told s t rest
last_line n s t [] true true over e kept h =
    let same : s ≡ t = cc in
    subst (λ (u : AutomatonSoFar). Told s u []) same (record { text = sym (append-nil (said s)); kept = kept; over = over })
last_line n s t (b ∷ rest) ended true over e kept h = let never : length (b ∷ rest) ≡ 0 = grind (arith, nat_tests) in absurd (omega (arith, never))
last_line n s t rest true false over e kept h = cc
last_line n s t rest false none over e kept h = cc

whole_line : (n : ℕ) (s t : AutomatonSoFar) (line next : List ℕ) (others : List (List ℕ)) (ended : Bool) (made : Result AutomatonSoFar ℕ) → IsOrderlySoFar s
    → length (said s ++ join_with_byte 10 (line ∷ next ∷ others)) < 2 ^ 64 → automaton_step s line ≡ made
    → ((n : ℕ) (u : AutomatonSoFar) → IsOrderlySoFar u → length (said u ++ join_with_byte 10 (next ∷ others)) < 2 ^ 64 → read_from automaton_grammar n u (next ∷ others) ≡ Ok t → Told u t (join_with_byte 10 (next ∷ others)))
    → ◌≡◌ {A = Result AutomatonSoFar LineFault} (if ended then Err (end_fault n) else after_line automaton_grammar n made (λ read. read_from automaton_grammar (n + 1) read (next ∷ others))) (Ok t)
    → Told s t (join_with_byte 10 (line ∷ next ∷ others))
unfolding automaton_step
whole_line n s t line next others true made kept short is later h = cc
whole_line n s t line next others false (Err kind) kept short is later h = cc
whole_line n s t line next others false (Ok u) kept short is later h =
    let behind : List ℕ = join_with_byte 10 (next ∷ others) in
    let size : length (said s ++ (line ++ (10 ∷ behind))) ≡ length (said s) + length (line ++ (10 ∷ behind)) = length-append (said s) (line ++ (10 ∷ behind)) in
    let all : length (said s ++ (line ++ (10 ∷ behind))) < 2 ^ 64 = short in
    let few : AreFew s = are_few s.stage s kept.begun (omega arith) in
    let one : Adds s u line = step_by s.stage s.version s.entry s.locations s.edges s.last_edge s.marks u line kept few.locations few.edges few.marks is in
    let same : said u ++ behind ≡ said s ++ (line ++ (10 ∷ behind)) =
    ap (λ l. l ++ behind) one.text ∙ append_assoc (said s) (line ++ newline) behind ∙ ap (λ l. said s ++ l) (append_assoc line newline behind)
    in
    let rest : Told u t behind = later (n + 1) u one.kept (subst (λ l. length l < 2 ^ 64) (sym same) short) h in
    record { text = rest.text ∙ same; kept = rest.kept; over = rest.over }

all_lines : (ls : List (List ℕ)) (n : ℕ) (s t : AutomatonSoFar) → IsOrderlySoFar s → length (said s ++ join_with_byte 10 ls) < 2 ^ 64 → read_from automaton_grammar n s ls ≡ Ok t → Told s t (join_with_byte 10 ls)
unfolding read_from
all_lines [] n s t kept short h = cc
all_lines (rest ∷ []) n s t kept short h = last_line n s t rest (is_over s.stage) (length rest == 0) refl refl kept h
all_lines (line ∷ next ∷ others) n s t kept short h =
    whole_line n s t line next others (is_over s.stage) (automaton_step s line) kept short refl (λ n u more room k. all_lines (next ∷ others) n u t more room k) h

-- ---- whole texts

said_over : (stage : Stage) (r : AutomatonSoFar) → is_over stage ≡ true → said_at stage r ≡ said_body r ++ end_line (length r.locations) (length r.edges) (length r.marks)
said_over stages.Start r e = cc
said_over stages.Header r e = cc
said_over stages.Locations r e = cc
said_over stages.Edges r e = cc
said_over stages.Marks r e = cc
said_over stages.Ended r e = refl

begun_over : (stage : Stage) (r : AutomatonSoFar) → is_over stage ≡ true → IsBegun stage r → (is_version r.version ≡ true) × (is_location r.locations r.entry ≡ true)
begun_over stages.Start r e begun = cc
begun_over stages.Header r e begun = cc
begun_over stages.Locations r e begun = cc
begun_over stages.Edges r e begun = cc
begun_over stages.Marks r e begun = cc
begun_over stages.Ended r e begun = begun

nothing_orderly : IsOrderlySoFar nothing
nothing_orderly = record { begun = (refl, refl, refl); locations = refl; names = refl; edges = refl; last = λ e none. cc; labels = refl; marks = refl; rows = All-nil _; opened = refl }

abbrev automaton_of : AutomatonSoFar → Automaton
automaton_of r = record { version = r.version; entry = r.entry; locations = r.locations; edges = r.edges; marks = r.marks }

orderly_by : (text : List ℕ) (r : AutomatonSoFar) → Told nothing r (join_with_byte 10 (lines text)) → IsOrderly (automaton_of r) × (text_of (automaton_of r) ≡ text)
unfolding lines text_of
orderly_by text r is =
    let begun = begun_over r.stage r is.over is.kept.begun in (
      record {
        version = begun.0;
        entry = begun.1;
        locations = is.kept.locations;
        names = is.kept.names;
        edges = is.kept.edges;
        labels = is.kept.labels;
        marks = is.kept.marks;
        rows = is.kept.rows;
        opened = is.kept.opened;
      },
      sym (said_over r.stage r is.over) ∙ is.text ∙ join_with_byte-slice_split 10 text,
    )

read_by : (text : List ℕ) (a : Automaton) (read : Result AutomatonSoFar LineFault) → length text < 2 ^ 64 → read_text automaton_grammar nothing text ≡ read → told read ≡ Ok a → IsOrderly a × (text_of a ≡ text)
unfolding lines
read_by text a (Err f) short is h = cc
read_by text a (Ok r) short is h =
    let same : automaton_of r ≡ a = cc in
    let room : length (join_with_byte 10 (lines text)) < 2 ^ 64 = subst (λ l. length l < 2 ^ 64) (sym (join_with_byte-slice_split 10 text)) short in
    subst (λ (b : Automaton). IsOrderly b × (text_of b ≡ text)) same (orderly_by text r (all_lines (lines text) 1 nothing r nothing_orderly room is))

pub texts_tell : TextsTellOrderlyAutomata
unfolding automaton_read
texts_tell text a short h = read_by text a (read_text automaton_grammar nothing text) short refl h
