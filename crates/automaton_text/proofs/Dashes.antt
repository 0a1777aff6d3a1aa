-- An import that is named `-` is refused where its location is read.
use Rattle.std.proofs.Common.{◌≡◌, ℕ, ◌+◌, ◌==◌, Bool, true, false, List, [], ◌∷◌, ◌++◌, length, Option, None, Some, Ok, Err, refl, sym, ◌∙◌, ap, append_assoc}
use Rattle.std.specs.Prelude.{Result, codes, flat_map, is_none, not, ◌&&◌, ◌||◌, if◌then◌else◌}
use Rattle.std.specs.List.{list_all, list_any}
use Rattle.memory_map.specs.Image.{EXIT_PLACE}
use Rattle.text_fields.specs.Hex.{hex8}
use Rattle.text_fields.specs.Line.{newline}
use Rattle.text_fields.specs.declared.line_fault.LineFault.{LineFault}
use Rattle.text_fields.specs.Lines.{CONTENT, FIELD, ORDER, lines, read_from, demand, or_fault, last_of}
use Rattle.text_fields.proofs.LineFacts.{line_refused}
use Rattle.text_fields.proofs.Splitting.{Reaches, lines_first, reaches_both, spaced}
use Rattle.automaton_text.specs.declared.automaton.Location.{Location}
use Rattle.automaton_text.specs.declared.automaton.Automaton.{Automaton}
use Rattle.automaton_text.specs.declared.stage.Stage.TheVariants as stages
use Rattle.automaton_text.specs.Laws.{DashesAreRefused, fits_location, fits_name, has_any_name, has_dash, is_word}
use Rattle.automaton_text.specs.Orderly.{has_own_name, is_location_above}
use Rattle.automaton_text.specs.Reading.{AutomatonSoFar, automaton_grammar, automaton_read, automaton_step, has_own_suffix, is_above, is_named, location_or_later_step, location_step, nothing, own_name, told}
use Rattle.automaton_text.specs.Text.{edge_line, end_line, entry_line, header_line, import_suffix, loc_line, open_line, suffix_of, text_of}
use Rattle.automaton_text.proofs.FieldsTold.{import_text, suffix_list}
use Rattle.automaton_text.proofs.ReadBack.{clear_is, entry_reached, goes_behind, goes_from_none, goes_on, header_reached, location_line, location_reached, location_read}
use Rattle.automaton_text.proofs.Told.{reading}
use Rattle.std.proofs.lemmas.Bool.{and_parts}

-- reading a text from this line on is refused for what some line says
abbrev IsRefused : ℕ → AutomatonSoFar → List ℕ → Type 0
IsRefused n s text = (m : ℕ) × (read_from automaton_grammar n s (lines text) ≡ Err (record { line = m; kind = CONTENT }))

-- the location of an import with the name `-` is none of the exit place
not_exit : (name : Option (List ℕ)) (exit : Bool) → is_named (codes "-") name ≡ true → (if exit then is_none name else true) ≡ true → exit ≡ false
not_exit None exit dash named = cc
not_exit (Some name) true dash named = cc
not_exit (Some name) false dash named = refl

dash_refused : (v e : ℕ) (ls : List Location) (l : Location) (behind : List ℕ) (n : ℕ) → fits_location l ≡ true → has_any_name l ≡ true → has_dash l ≡ true → is_above ls l.at ≡ true
    → IsRefused n (reading stages.Locations v e ls [] [] []) (loc_line l ++ behind)
unfolding automaton_step loc_line location_or_later_step location_step
dash_refused v e ls l behind n fits named dash above =
    let parts : (is_word l.at ≡ true) × (fits_name l.name ≡ true) = and_parts (is_word l.at) (fits_name l.name) fits in
    let exit : (l.at == EXIT_PLACE) ≡ false = not_exit l.name (l.at == EXIT_PLACE) dash named in
    let text : suffix_of l ≡ spaced (suffix_list l.name) = ap (λ t. if t then codes " -" else import_suffix l.name) exit ∙ sym (import_text l.name) in
    let other : has_own_suffix l.at l.name ≡ false = ap (λ t. if t then is_named (codes "-") l.name else not (is_named (codes "-") l.name)) exit ∙ ap not dash in
    let line = location_line l l.name text parts.1 in
    let own : List ℕ = codes "loc " ++ hex8 l.at ++ suffix_of l in
    let r : AutomatonSoFar = reading stages.Locations v e ls [] [] [] in
    let more : Result AutomatonSoFar ℕ = Ok (reading stages.Locations v e (ls ++ record { at = l.at; name = own_name l.at l.name } ∷ []) [] [] []) in
    let go : ℕ × Option (List ℕ) → Result AutomatonSoFar ℕ = λ p. location_step r p.0 p.1 in
    let refused : automaton_step r own ≡ Err CONTENT =
    ap (location_or_later_step r own) line.0
    ∙ ap (λ o. or_fault FIELD o go) (location_read l.at l.name parts.0 parts.1)
    ∙ ap (λ t. demand t ORDER (demand (has_own_suffix l.at l.name) CONTENT more)) above
    ∙ ap (λ t. demand t CONTENT more) other
    in (
      n,
      ap (λ text. read_from automaton_grammar n r (lines text)) (append_assoc own newline behind)
          ∙ line_refused automaton_grammar n r (own ++ 10 ∷ behind) own behind CONTENT (lines_first own behind (clear_is own line.1)) refl refused,
    )

own_by : (name : Option (List ℕ)) (exit : Bool) → is_named (codes "-") name ≡ false → (if exit then is_none name else true) ≡ true → (if exit then is_none name else not (is_named (codes "-") name)) ≡ true
own_by name true dash named = named
own_by name false dash named = ap not dash

own_without_dash : (l : Location) → has_dash l ≡ false → has_any_name l ≡ true → has_own_name l ≡ true
own_without_dash l dash named = own_by l.name (l.at == EXIT_PLACE) dash named

some_refused : (v e : ℕ) (ls todo : List Location) (behind : List ℕ) (n : ℕ) → list_all fits_location todo ≡ true → list_all has_any_name todo ≡ true
    → goes_on is_location_above (last_of ls) todo ≡ true → list_any has_dash todo ≡ true → IsRefused n (reading stages.Locations v e ls [] [] []) (flat_map loc_line todo ++ behind)
some_refused v e ls [] behind n fits named order dash = cc
some_refused v e ls (l ∷ todo) behind n fits named order dash =
    let f : (fits_location l ≡ true) × (list_all fits_location todo ≡ true) = and_parts (fits_location l) (list_all fits_location todo) fits in
    let a : (has_any_name l ≡ true) × (list_all has_any_name todo ≡ true) = and_parts (has_any_name l) (list_all has_any_name todo) named in
    let o : (is_above ls l.at ≡ true) × (goes_on is_location_above (Some l) todo ≡ true) = and_parts (is_above ls l.at) (goes_on is_location_above (Some l) todo) order in
    by_dash (has_dash l) refl f.0 a.0 o.0 dash (λ m more. some_refused v e (ls ++ l ∷ []) todo behind m f.1 a.1 (goes_behind is_location_above ls l todo o.1) more)
  where
    by_dash : (t : Bool) → has_dash l ≡ t → fits_location l ≡ true → has_any_name l ≡ true → is_above ls l.at ≡ true → (t || list_any has_dash todo) ≡ true
        → ((m : ℕ) → list_any has_dash todo ≡ true → IsRefused m (reading stages.Locations v e (ls ++ l ∷ []) [] [] []) (flat_map loc_line todo ++ behind))
        → IsRefused n (reading stages.Locations v e ls [] [] []) ((loc_line l ++ flat_map loc_line todo) ++ behind)
    by_dash true is fit any above some later =
        let here : IsRefused n (reading stages.Locations v e ls [] [] []) (loc_line l ++ (flat_map loc_line todo ++ behind)) = dash_refused v e ls l (flat_map loc_line todo ++ behind) n fit any is above in
        (here.0, ap (λ text. read_from automaton_grammar n (reading stages.Locations v e ls [] [] []) (lines text)) (append_assoc (loc_line l) (flat_map loc_line todo) behind) ∙ here.1)
    by_dash false is fit any above some later =
        let one : Reaches automaton_grammar (reading stages.Locations v e ls [] [] []) (loc_line l) (reading stages.Locations v e (ls ++ l ∷ []) [] [] []) = location_reached v e ls l fit (own_without_dash l is any) above in
        let step = one.goes n (flat_map loc_line todo ++ behind) in
        let rest : IsRefused step.0 (reading stages.Locations v e (ls ++ l ∷ []) [] [] []) (flat_map loc_line todo ++ behind) = later step.0 some in
        (rest.0, ap (λ text. read_from automaton_grammar n (reading stages.Locations v e ls [] [] []) (lines text)) (append_assoc (loc_line l) (flat_map loc_line todo) behind) ∙ step.1 ∙ rest.1)

regrouped : (a b c d e f : List ℕ) → ((((a ++ b) ++ c) ++ d) ++ e) ++ f ≡ (a ++ b) ++ (c ++ ((d ++ e) ++ f))
regrouped a b c d e f = simp append_assoc

pub dashes : DashesAreRefused
unfolding automaton_read text_of
dashes a fits is some =
    let v = a.version in
    let e = a.entry in
    let ls = a.locations in
    let h : AutomatonSoFar = reading stages.Header v 0 [] [] [] [] in
    let p : AutomatonSoFar = reading stages.Locations v e [] [] [] [] in
    let last : List ℕ = end_line (length a.locations) (length a.edges) (length a.marks) in
    let behind : List ℕ = (flat_map edge_line a.edges ++ flat_map open_line a.marks) ++ last in
    let one : Reaches automaton_grammar nothing (header_line v ++ entry_line e) p = reaches_both automaton_grammar nothing h p (header_line v) (entry_line e) (header_reached v is.version) (entry_reached v e fits.entry) in
    let step = one.goes 1 (flat_map loc_line ls ++ behind) in
    let rest : IsRefused step.0 p (flat_map loc_line ls ++ behind) = some_refused v e [] ls behind step.0 fits.locations is.names (goes_from_none is_location_above ls is.locations) some in
    let f : LineFault = record { line = rest.0; kind = CONTENT } in (
      f,
      ap told
          (ap (λ text. read_from automaton_grammar 1 nothing (lines text)) (regrouped (header_line v) (entry_line e) (flat_map loc_line ls) (flat_map edge_line a.edges) (flat_map open_line a.marks) last) ∙ step.1 ∙ rest.1),
      refl,
    )
