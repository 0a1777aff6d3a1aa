-- Automata of one text have the same edges, and mark the same addresses open.
use Rattle.std.proofs.Common.{◌≡◌, ◌⊎◌, inl, inr, ℕ, ◌<◌, ◌^◌, ◌==◌, Bool, true, false, List, [], ◌∷◌, ◌++◌, length, map, get_or, Option, None, Some, refl, sym, ◌∙◌, ap, subst, arith, append_assoc, decimal, nat_lt}
use Rattle.std.specs.Prelude.{All, Contains, codes, flat_map, ◌&&◌, ◌||◌, if◌then◌else◌}
use Rattle.std.specs.List.{list_all}
use Rattle.std.specs.Str.{bytes_eq}
use Rattle.std.proofs.lemmas.Bool.Decides.{nat_tests}
use Rattle.std.proofs.lemmas.Slice.Eq.{bytes_eq-Decides}
use Rattle.std.proofs.lemmas.List.Elements.{All-append, Contains-append_cases, Contains-append_left, Contains-append_right}
use Rattle.memory_map.specs.Image.{EXIT_PLACE}
use Rattle.text_fields.specs.Fields.{word_of}
use Rattle.text_fields.specs.Hex.{hex8, hex_bytes, hex_text}
use Rattle.text_fields.specs.Line.{newline, space}
use Rattle.text_fields.specs.Lines.{fields, lines}
use Rattle.text_fields.proofs.FieldTexts.{bytes_read, word_read}
use Rattle.text_fields.proofs.Splitting.{ArePlain, fields_spaced, lines_first, spaced, spaced_line}
use Rattle.text_fields.proofs.Splitting as plain
use Rattle.flow_log.specs.declared.edge.Edge.{Edge}
use Rattle.flow_log.specs.declared.edge.Label.{Label}
use Rattle.flow_log.specs.declared.edge.Label.TheVariants.{Code, Import}
use Rattle.flow_log.proofs.Members.{Contains-cases, Contains-here, Contains-later, Contains-map, Contains-none}
use Rattle.automaton_text.specs.declared.automaton.Location.{Location}
use Rattle.automaton_text.specs.declared.automaton.OpenMark.{OpenMark}
use Rattle.automaton_text.specs.declared.automaton.Automaton.{Automaton}
use Rattle.automaton_text.specs.Laws.{FitsTypes, fits_edge, fits_label, fits_location, fits_mark, fits_name, fits_row, is_word}
use Rattle.automaton_text.specs.Orderly.{edge_text}
use Rattle.automaton_text.specs.Text.{cause_text, edge_line, end_line, entry_line, header_line, import_suffix, is_version, loc_line, open_line, suffix_of, text_of}
use Rattle.std.proofs.lemmas.Bool.{and_parts}
use Rattle.text_fields.proofs.PlainTexts.{plain_decimal, plain_is, plain_word}
use Rattle.automaton_text.proofs.ClearTexts.{clear_both, is_clear, plain_cause, plain_clear, plain_name, clear_word}
use Rattle.automaton_text.proofs.FieldsTold.{row_list}
use Rattle.automaton_text.proofs.ReadBack.{clear_is, bytes_small, edge_clear, edge_parts, label_fields, not_import, plain_rows, word_small}
use Rattle.automaton_text.proofs.Told.{edge_whole, end_whole, mark_whole}
use Rattle.run_replayer.specs.Verdict.{open_of}
use Rattle.std.proofs.lemmas.Option.{same_Some}
use Rattle.table_check.proofs.Closing.{all_of}

-- ---- texts by their lines

record Lined (text : List ℕ) (bodies : List (List ℕ)) : Type 0 where
  splits : (rest : List ℕ) → lines (text ++ rest) ≡ bodies ++ lines rest

lined_one : (body : List ℕ) → All (λ b. (b == 10) ≡ false) body → Lined (body ++ newline) (body ∷ [])
lined_one body clear = record { splits = λ rest. ap lines (append_assoc body newline rest) ∙ lines_first body rest clear }

lined_both : (t u : List ℕ) (b c : List (List ℕ)) → Lined t b → Lined u c → Lined (t ++ u) (b ++ c)
lined_both t u b c h k = record {
  splits = λ rest. ap lines (append_assoc t u rest) ∙ h.splits (u ++ rest) ∙ ap (λ l. b ++ l) (k.splits rest) ∙ sym (append_assoc b c (lines rest));
}

module _ {X : Type 0} (line body : X → List ℕ) (fits : X → Bool) (one : (x : X) → fits x ≡ true → Lined (line x) (body x ∷ [])) where
  lined_all : (xs : List X) → list_all fits xs ≡ true → Lined (flat_map line xs) (map body xs)
  lined_all [] all = record { splits = λ rest. refl }
  lined_all (x ∷ xs) all =
      let f : (fits x ≡ true) × (list_all fits xs ≡ true) = and_parts (fits x) (list_all fits xs) all in
      lined_both (line x) (flat_map line xs) (body x ∷ []) (map body xs) (one x f.0) (lined_all xs f.1)

lined_clear : (body : List ℕ) → is_clear body ≡ true → Lined (body ++ newline) (body ∷ [])
lined_clear body clear = lined_one body (clear_is body clear)

lined_fields : (word : List ℕ) (fs : List (List ℕ)) → is_clear word ≡ true → ArePlain fs → Lined ((word ++ spaced fs) ++ newline) ((word ++ spaced fs) ∷ [])
lined_fields word fs clear fields_plain = lined_one (word ++ spaced fs) (All-append (λ b. (b == 10) ≡ false) word (spaced fs) (clear_is word clear) (spaced_line fs fields_plain))

-- ---- small facts

version_small : (v : ℕ) → is_version v ≡ true → v < 2 ^ 64
version_small v e = by_tests (v == 1) (v == 2) refl refl e
  where
    equal : (n : ℕ) → (v == n) ≡ true → v ≡ n
    equal n h = grind (arith, nat_tests)

    by_tests : (one two : Bool) → (v == 1) ≡ one → (v == 2) ≡ two → (one || two) ≡ true → v < 2 ^ 64
    by_tests true two a b h = let is : v ≡ 1 = equal 1 a in omega arith
    by_tests false true a b h = let is : v ≡ 2 = equal 2 b in omega arith
    by_tests false false a b h = cc

-- ---- the lines of each part

header_body : ℕ → List ℕ
header_body v = codes "jakstab-automaton " ++ decimal v

entry_body : ℕ → List ℕ
entry_body e = codes "entry " ++ hex8 e

loc_body : Location → List ℕ
loc_body l = codes "loc " ++ hex8 l.at ++ suffix_of l

edge_body : Edge → List ℕ
edge_body x = codes "edge " ++ edge_text x

mark_fields : OpenMark → List (List ℕ)
mark_fields m = hex8 m.at ∷ cause_text m.cause ∷ row_list m.row

mark_body : OpenMark → List ℕ
mark_body m = codes "open" ++ spaced (mark_fields m)

count_fields : Automaton → List (List ℕ)
count_fields a = decimal (length a.locations) ∷ decimal (length a.edges) ∷ decimal (length a.marks) ∷ []

end_body : Automaton → List ℕ
end_body a = codes "end" ++ spaced (count_fields a)

header_lined : (v : ℕ) → v < 2 ^ 64 → Lined (header_line v) (header_body v ∷ [])
unfolding header_body
header_lined v small = lined_clear (codes "jakstab-automaton " ++ decimal v) (clear_both (codes "jakstab-automaton ") (decimal v) refl (plain_clear (decimal v) (plain_decimal v small)))

entry_lined : (e : ℕ) → Lined (entry_line e) (entry_body e ∷ [])
unfolding entry_body
entry_lined e = lined_clear (codes "entry " ++ hex8 e) (clear_both (codes "entry ") (hex8 e) refl (clear_word e))

clear_suffix : (exit : Bool) (name : Option (List ℕ)) → fits_name name ≡ true → is_clear (if exit then codes " -" else import_suffix name) ≡ true
clear_suffix true name fits = refl
clear_suffix false None fits = refl
clear_suffix false (Some name) fits = clear_both space name refl (plain_clear name (plain_name name fits))

loc_lined : (l : Location) → fits_location l ≡ true → Lined (loc_line l) (loc_body l ∷ [])
unfolding loc_body loc_line
loc_lined l fits =
    let f : (is_word l.at ≡ true) × (fits_name l.name ≡ true) = and_parts (is_word l.at) (fits_name l.name) fits in
    lined_clear (codes "loc " ++ hex8 l.at ++ suffix_of l)
    (clear_both (codes "loc " ++ hex8 l.at) (suffix_of l) (clear_both (codes "loc ") (hex8 l.at) refl (clear_word l.at)) (clear_suffix (l.at == EXIT_PLACE) l.name f.1))

edge_label : (x : Edge) → fits_edge x ≡ true → fits_label x.label ≡ true
edge_label x fits = (and_parts (is_word x.from && is_word x.to) (fits_label x.label) fits).1

edge_words : (x : Edge) → fits_edge x ≡ true → (x.from < 2 ^ 32) × (x.to < 2 ^ 32)
edge_words x fits =
    let w : (is_word x.from ≡ true) × (is_word x.to ≡ true) = and_parts (is_word x.from) (is_word x.to) (and_parts (is_word x.from && is_word x.to) (fits_label x.label) fits).0 in
    (word_small x.from w.0, word_small x.to w.1)

edge_lined : (x : Edge) → fits_edge x ≡ true → Lined (edge_line x) (edge_body x ∷ [])
unfolding edge_body
edge_lined x fits =
    let P : List ℕ → Type 0 = λ text. Lined text ((codes "edge " ++ edge_text x) ∷ []) in
    subst P (edge_whole x) (lined_clear (codes "edge " ++ edge_text x) (edge_clear x (edge_label x fits)))

mark_plain : (m : OpenMark) → fits_mark m ≡ true → ArePlain (mark_fields m)
unfolding mark_fields
mark_plain m fits =
    let f : (is_word m.at ≡ true) × (fits_row m.row ≡ true) = and_parts (is_word m.at) (fits_row m.row) fits in
    plain.one (hex8 m.at) (cause_text m.cause ∷ row_list m.row) (plain_is (hex8 m.at) (plain_word m.at)) (plain.one (cause_text m.cause) (row_list m.row) (plain_is (cause_text m.cause) (plain_cause m.cause)) (plain_rows m.row f.1))

mark_lined : (m : OpenMark) → fits_mark m ≡ true → Lined (open_line m) (mark_body m ∷ [])
unfolding mark_body mark_fields
mark_lined m fits =
    let P : List ℕ → Type 0 = λ text. Lined text (mark_body m ∷ []) in
    subst P (mark_whole m.at m.cause m.row) (lined_fields (codes "open") (mark_fields m) refl (mark_plain m fits))

end_lined : (a : Automaton) → FitsTypes a → Lined (end_line (length a.locations) (length a.edges) (length a.marks)) (end_body a ∷ [])
unfolding end_body count_fields
end_lined a fits =
    let P : List ℕ → Type 0 = λ text. Lined text (end_body a ∷ []) in
    let l : List ℕ = decimal (length a.locations) in
    let e : List ℕ = decimal (length a.edges) in
    let o : List ℕ = decimal (length a.marks) in
    let own : ArePlain (count_fields a) =
    plain.one l (e ∷ o ∷ []) (plain_is l (plain_decimal (length a.locations) fits.few_locations))
    (plain.one e (o ∷ []) (plain_is e (plain_decimal (length a.edges) fits.few_edges)) (plain.one o [] (plain_is o (plain_decimal (length a.marks) fits.few_marks)) plain.none)) in
    subst P (end_whole (length a.locations) (length a.edges) (length a.marks)) (lined_fields (codes "end") (count_fields a) refl own)

-- ---- the lines of a whole text

places_upto : Automaton → List (List ℕ)
places_upto a = ((header_body a.version ∷ []) ++ (entry_body a.entry ∷ [])) ++ map loc_body a.locations

edges_upto : Automaton → List (List ℕ)
edges_upto a = places_upto a ++ map edge_body a.edges

marks_upto : Automaton → List (List ℕ)
marks_upto a = edges_upto a ++ map mark_body a.marks

bodies : Automaton → List (List ℕ)
bodies a = marks_upto a ++ (end_body a ∷ [])

text_lined : (a : Automaton) → FitsTypes a → is_version a.version ≡ true → Lined (text_of a) (bodies a)
unfolding text_of bodies marks_upto edges_upto places_upto
text_lined a fits version =
    let one = lined_both (header_line a.version) (entry_line a.entry) (header_body a.version ∷ []) (entry_body a.entry ∷ []) (header_lined a.version (version_small a.version version)) (entry_lined a.entry) in
    let two = lined_both _ _ _ _ one (lined_all loc_line loc_body fits_location loc_lined a.locations fits.locations) in
    let three = lined_both _ _ _ _ two (lined_all edge_line edge_body fits_edge edge_lined a.edges fits.edges) in
    let four = lined_both _ _ _ _ three (lined_all open_line mark_body fits_mark mark_lined a.marks fits.marks) in
    lined_both _ _ _ _ four (end_lined a fits)

same_bodies : (a b : Automaton) → FitsTypes a → FitsTypes b → is_version a.version ≡ true → is_version b.version ≡ true → text_of a ≡ text_of b → bodies b ++ ([] ∷ []) ≡ bodies a ++ ([] ∷ [])
unfolding lines
same_bodies a b fits also version other same =
    let first : lines (text_of a ++ []) ≡ bodies a ++ ([] ∷ []) = (text_lined a fits version).splits [] in
    let second : lines (text_of b ++ []) ≡ bodies b ++ ([] ∷ []) = (text_lined b also other).splits [] in
    sym second ∙ ap (λ text. lines (text ++ [])) (sym same) ∙ first

-- ---- which line is which

abbrev IsOne : {X : Type 0} → (X → List ℕ) → List X → List ℕ → Type 0
IsOne f xs y = (x : _) × Contains xs x × (f x ≡ y)

in_map : {X : Type 0} (f : X → List ℕ) (xs : List X) (y : List ℕ) → Contains (map f xs) y → IsOne f xs y
in_map f [] y h = absurd (Contains-none y h)
in_map f (x ∷ xs) y h =
    elim (Contains-cases (f x) y (map f xs) h) [
      | inl same ↦ (x, Contains-here x xs, same)
      | inr later ↦ (let t : IsOne f xs y = in_map f xs y later in (t.0, Contains-later x t.0 xs t.1, t.2))
    ]

only : (z y : List ℕ) → Contains (z ∷ []) y → z ≡ y
only z y h = elim (Contains-cases z y [] h) [ inl same ↦ same | inr later ↦ absurd (Contains-none y later) ]

abbrev second : List ℕ → ℕ
second l = get_or l 1 0

-- a line whose second letter is that of no other kind
record IsApart (a : Automaton) (y : List ℕ) : Type 0 where
  header : header_body a.version ≡ y → ⊥
  entry : entry_body a.entry ≡ y → ⊥
  loc : (l : Location) → loc_body l ≡ y → ⊥
  end : end_body a ≡ y → ⊥
  none : [] ≡ y → ⊥

in_places : (a : Automaton) (y : List ℕ) → IsApart a y → Contains (places_upto a) y → ⊥
unfolding places_upto
in_places a y apart h =
    elim (Contains-append_cases ((header_body a.version ∷ []) ++ (entry_body a.entry ∷ [])) (map loc_body a.locations) y h) [
      | inl head ↦ elim (Contains-append_cases (header_body a.version ∷ []) (entry_body a.entry ∷ []) y head) [
        | inl p ↦ apart.header (only (header_body a.version) y p)
        | inr p ↦ apart.entry (only (entry_body a.entry) y p)
      ]
      | inr p ↦ (let t : IsOne loc_body a.locations y = in_map loc_body a.locations y p in apart.loc t.0 t.2)
    ]

in_bodies : (a : Automaton) (y : List ℕ) → IsApart a y → Contains (bodies a ++ ([] ∷ [])) y → IsOne edge_body a.edges y ⊎ IsOne mark_body a.marks y
unfolding bodies marks_upto edges_upto
in_bodies a y apart h =
    elim (Contains-append_cases (marks_upto a ++ (end_body a ∷ [])) ([] ∷ []) y h) [
      | inl p ↦ elim (Contains-append_cases (marks_upto a) (end_body a ∷ []) y p) [
        | inl q ↦ elim (Contains-append_cases (edges_upto a) (map mark_body a.marks) y q) [
          | inl r ↦ elim (Contains-append_cases (places_upto a) (map edge_body a.edges) y r) [
            | inl s ↦ absurd (in_places a y apart s)
            | inr s ↦ inl (in_map edge_body a.edges y s)
          ]
          | inr r ↦ inr (in_map mark_body a.marks y r)
        ]
        | inr q ↦ absurd (apart.end (only (end_body a) y q))
      ]
      | inr p ↦ absurd (apart.none (only [] y p))
    ]

edge_apart : (a : Automaton) (x : Edge) → IsApart a (edge_body x)
unfolding header_body entry_body loc_body end_body edge_body
edge_apart a x = record {
  header = λ same. (let e : 97 ≡ 100 = ap second same in absurd (omega arith));
  entry = λ same. (let e : 110 ≡ 100 = ap second same in absurd (omega arith));
  loc = λ l same. (let e : 111 ≡ 100 = ap second same in absurd (omega arith));
  end = λ same. (let e : 110 ≡ 100 = ap second same in absurd (omega arith));
  none = λ same. (let e : 0 ≡ 100 = ap second same in absurd (omega arith));
}

mark_apart : (a : Automaton) (m : OpenMark) → IsApart a (mark_body m)
unfolding header_body entry_body loc_body end_body mark_body
mark_apart a m = record {
  header = λ same. (let e : 97 ≡ 112 = ap second same in absurd (omega arith));
  entry = λ same. (let e : 110 ≡ 112 = ap second same in absurd (omega arith));
  loc = λ l same. (let e : 111 ≡ 112 = ap second same in absurd (omega arith));
  end = λ same. (let e : 110 ≡ 112 = ap second same in absurd (omega arith));
  none = λ same. (let e : 0 ≡ 112 = ap second same in absurd (omega arith));
}

no_mark_line : (m : OpenMark) (x : Edge) → mark_body m ≡ edge_body x → ⊥
unfolding mark_body edge_body
no_mark_line m x same = absurd (let e : ◌≡◌ {A = ℕ} 112 100 = ap second same in omega (arith, e))

-- ---- what a line says

word_same : (m n : ℕ) → m < 2 ^ 32 → n < 2 ^ 32 → hex8 m ≡ hex8 n → m ≡ n
word_same m n small less e = same_Some m n (sym (word_read m small) ∙ ap word_of e ∙ word_read n less)

bytes_same : (b c : List ℕ) → list_all (λ b. nat_lt b (2 ^ 8)) b ≡ true → list_all (λ b. nat_lt b (2 ^ 8)) c ≡ true → hex_text b ≡ hex_text c → b ≡ c
bytes_same b c small less e = same_Some b c (sym (bytes_read b (bytes_small b small)) ∙ ap hex_bytes e ∙ bytes_read c (bytes_small c less))

no_import : (bytes : List ℕ) → hex_text bytes ≡ codes "import" → ⊥
no_import bytes e =
    let yes : bytes_eq (hex_text bytes) (codes "import") ≡ true = (bytes_eq-Decides (hex_text bytes) (codes "import")).1 e in
    (let bad : false ≡ true = sym (not_import bytes) ∙ yes in cc)

abbrev first_of : List (List ℕ) → List ℕ
first_of fs = get_or fs 0 []

label_same : (f g : ℕ) (l k : Label) → fits_label l ≡ true → fits_label k ≡ true → label_fields f l ≡ label_fields g k → l ≡ k
label_same f g (Code b) (Code c) fits also e =
    let hex : hex_text b.items ≡ hex_text c.items = ap first_of e in
    let small = and_parts _ (list_all (λ b. nat_lt b (2 ^ 8)) b.items) fits in
    let less = and_parts _ (list_all (λ b. nat_lt b (2 ^ 8)) c.items) also in
    ap (λ (l : List ℕ). Code (record { items = l })) (bytes_same b.items c.items small.1 less.1 hex)
label_same f g (Import m) (Import n) fits also e = let names : m ≡ n = ap (λ fs. get_or fs 1 []) e in ap Import names
label_same f g (Code b) (Import n) fits also e = absurd (no_import b.items (let hex : hex_text b.items ≡ codes "import" = ap first_of e in hex))
label_same f g (Import m) (Code c) fits also e = absurd (no_import c.items (let hex : codes "import" ≡ hex_text c.items = ap first_of e in sym hex))

abbrev behind_three : List (List ℕ) → List (List ℕ)
behind_three (a ∷ b ∷ c ∷ fs) = fs
behind_three _ = []

edge_same : (x e : Edge) → fits_edge x ≡ true → fits_edge e ≡ true → edge_body x ≡ edge_body e → x ≡ e
unfolding edge_body
edge_same x e fits also same =
    let parts : codes "edge" ∷ hex8 x.from ∷ hex8 x.to ∷ label_fields x.from x.label ≡ codes "edge" ∷ hex8 e.from ∷ hex8 e.to ∷ label_fields e.from e.label =
    sym (edge_parts x (edge_label x fits)) ∙ ap fields same ∙ edge_parts e (edge_label e also) in
    let w = edge_words x fits in
    let v = edge_words e also in
    let from : x.from ≡ e.from = word_same x.from e.from w.0 v.0 (ap (λ fs. get_or fs 1 []) parts) in
    let to : x.to ≡ e.to = word_same x.to e.to w.1 v.1 (ap (λ fs. get_or fs 2 []) parts) in
    let label : x.label ≡ e.label = label_same x.from e.from x.label e.label (edge_label x fits) (edge_label e also) (ap behind_three parts) in
    let made : ℕ → ℕ → Label → Edge = λ f t l. record { from = f; to = t; label = l } in
    ap (λ n. made n x.to x.label) from ∙ ap (λ n. made e.from n x.label) to ∙ ap (λ (l : Label). made e.from e.to l) label

mark_parts : (m : OpenMark) → fits_mark m ≡ true → fields (mark_body m) ≡ codes "open" ∷ mark_fields m
unfolding mark_body
mark_parts m fits = fields_spaced (codes "open") (mark_fields m) (plain_is (codes "open") refl) (mark_plain m fits)

mark_word : (m : OpenMark) → fits_mark m ≡ true → m.at < 2 ^ 32
mark_word m fits = word_small m.at (and_parts (is_word m.at) (fits_row m.row) fits).0

mark_same : (m n : OpenMark) → fits_mark m ≡ true → fits_mark n ≡ true → mark_body m ≡ mark_body n → m.at ≡ n.at
unfolding mark_fields
mark_same m n fits also same =
    let parts : codes "open" ∷ mark_fields m ≡ codes "open" ∷ mark_fields n = sym (mark_parts m fits) ∙ ap fields same ∙ mark_parts n also in
    word_same m.at n.at (mark_word m fits) (mark_word n also) (ap (λ fs. get_or fs 1 []) parts)

-- ---- whole automata

module _ (a b : Automaton) (fits : FitsTypes a) (also : FitsTypes b) (version : is_version a.version ≡ true) (other : is_version b.version ≡ true) (same : text_of a ≡ text_of b) where
  moved : (y : List ℕ) → Contains (bodies b) y → Contains (bodies a ++ ([] ∷ [])) y
  moved y held = let P : List (List ℕ) → Type 0 = λ l. Contains l y in subst P (same_bodies a b fits also version other same) (Contains-append_left (bodies b) ([] ∷ []) y held)

  edge_held : (x : Edge) → Contains b.edges x → Contains (bodies b) (edge_body x)
  unfolding bodies marks_upto edges_upto
  edge_held x held =
      Contains-append_left (marks_upto b) (end_body b ∷ []) (edge_body x) (Contains-append_left (edges_upto b) (map mark_body b.marks) (edge_body x)
      (Contains-append_right (places_upto b) (map edge_body b.edges) (edge_body x) (Contains-map edge_body b.edges x held)))

  mark_held : (m : OpenMark) → Contains b.marks m → Contains (bodies b) (mark_body m)
  unfolding bodies marks_upto
  mark_held m held =
      Contains-append_left (marks_upto b) (end_body b ∷ []) (mark_body m)
      (Contains-append_right (edges_upto b) (map mark_body b.marks) (mark_body m) (Contains-map mark_body b.marks m held))

  pub same_edges : (x : Edge) → Contains b.edges x → Contains a.edges x
  same_edges x held =
      elim (in_bodies a (edge_body x) (edge_apart a x) (moved (edge_body x) (edge_held x held))) [
        | inl t ↦ (let P : Edge → Type 0 = Contains a.edges in subst P (edge_same t.0 x (all_of fits_edge a.edges t.0 fits.edges t.1) (all_of fits_edge b.edges x also.edges held) t.2) t.1)
        | inr t ↦ absurd (no_mark_line t.0 x t.2)
      ]

  mark_there : (m : OpenMark) → Contains b.marks m → Contains (open_of a) m.at
  mark_there m held =
      elim (in_bodies a (mark_body m) (mark_apart a m) (moved (mark_body m) (mark_held m held))) [
        | inl t ↦ absurd (no_mark_line m t.0 (sym t.2))
        | inr t ↦ (let P : ℕ → Type 0 = Contains (open_of a) in
            subst P (mark_same t.0 m (all_of fits_mark a.marks t.0 fits.marks t.1) (all_of fits_mark b.marks m also.marks held) t.2)
            (Contains-map (λ (m : OpenMark). m.at) a.marks t.0 t.1))
      ]

  pub same_open : (at : ℕ) → Contains (open_of b) at → Contains (open_of a) at
  same_open at held =
      let t : (m : OpenMark) × Contains b.marks m × (m.at ≡ at) = in_marks b.marks at held in
      let P : ℕ → Type 0 = Contains (open_of a) in subst P t.2 (mark_there t.0 t.1)
    where
      in_marks : (marks : List OpenMark) (at : ℕ) → Contains (map (λ (m : OpenMark). m.at) marks) at → (m : OpenMark) × Contains marks m × (m.at ≡ at)
      in_marks [] at h = absurd (Contains-none at h)
      in_marks (m ∷ ms) at h =
          elim (Contains-cases m.at at (map (λ (m : OpenMark). m.at) ms) h) [
            | inl is ↦ (m, Contains-here m ms, is)
            | inr later ↦ (let t : (m : OpenMark) × Contains ms m × (m.at ≡ at) = in_marks ms at later in (t.0, Contains-later m t.0 ms t.1, t.2))
          ]
