-- The fields of an automaton's lines are the texts of what they give.
use Rattle.std.proofs.Common.{◌≡◌, ℕ, ◌+◌, ◌<◌, ◌^◌, ◌==◌, Bool, true, false, List, [], ◌∷◌, ◌++◌, length, cond, Option, None, Some, refl, sym, ◌∙◌, ap, subst, arith, append-nil, nat_lt, decimal}
use Rattle.std.specs.Prelude.{codes, find, is_some, is_none, not, ◌&&◌, option_map, if◌then◌else◌}
use Rattle.std.specs.List.{join_with_byte}
use Rattle.std.specs.Str.{bytes_eq}
use Rattle.std.proofs.lemmas.Fmt.{decimal_digit}
use Rattle.memory_map.specs.Image.{EXIT_PLACE}
use Rattle.memory_map.specs.Name.{is_name}
use Rattle.text_fields.specs.Decimal.{decimal_number, decimal_is}
use Rattle.text_fields.specs.Fields.{no_more, then_field, word_of}
use Rattle.text_fields.specs.Hex.{hex8, hex_bytes, hex_text}
use Rattle.text_fields.specs.Line.{newline, space}
use Rattle.text_fields.proofs.DecimalFacts.{decimal_is_text}
use Rattle.text_fields.proofs.FieldTexts.{bytes_back, has_field, is_done, word_is, number_told}
use Rattle.text_fields.proofs.Splitting.{joined, spaced}
use Rattle.flow_log.specs.declared.cause.Cause.{Cause}
use Rattle.automaton_text.specs.declared.automaton.Location.{Location}
use Rattle.automaton_text.specs.declared.automaton.OpenMark.{OpenMark}
use Rattle.automaton_text.specs.Orderly.{has_own_name}
use Rattle.automaton_text.specs.Reading.{AutomatonSoFar, all_causes, cause_of, code_fields, count_fields, end_fields, has_own_suffix, import_fields, is_named, location_fields, mark_fields, name_of, own_name, row_fields, row_of, suffix_fields, text_fields, version_of}
use Rattle.automaton_text.specs.Text.{cause_text, entry_line, header_line, import_suffix, is_version, loc_line}
use Rattle.std.proofs.lemmas.Bool.{and_parts}
use Rattle.text_fields.proofs.Found.{mapped, chained, same_word}
use Rattle.automaton_text.proofs.Ascending.{less}

-- ---- tests

if_some : {A : Type 0} (t : Bool) (a b : A) → ◌≡◌ {A = Option A} (if t then Some a else None) (Some b) → (t ≡ true) × (a ≡ b)
if_some true a b h = (refl, cc)
if_some false a b h = cc

-- ---- the first line

version_text : (line : List ℕ) (v : ℕ) → v < 10 → line ≡ codes "jakstab-automaton " ++ (48 + v) ∷ [] → line ++ newline ≡ header_line v
version_text line v small is = ap (λ l. l ++ newline) (is ∙ ap (λ d. codes "jakstab-automaton " ++ d) (sym (decimal_digit v small)))

version_by : (line : List ℕ) (v : ℕ) (one two : Bool) → bytes_eq line (codes "jakstab-automaton 1") ≡ one → bytes_eq line (codes "jakstab-automaton 2") ≡ two
    → ◌≡◌ {A = Option ℕ} (if one then Some 1 else if two then Some 2 else None) (Some v) → (line ++ newline ≡ header_line v) × (is_version v ≡ true)
version_by line v true two e f h =
    let is : 1 ≡ v = cc in
    subst (λ n. (line ++ newline ≡ header_line n) × (is_version n ≡ true)) is (version_text line 1 (omega arith) (same_word line (codes "jakstab-automaton 1") e), refl)
version_by line v false true e f h =
    let is : 2 ≡ v = cc in
    subst (λ n. (line ++ newline ≡ header_line n) × (is_version n ≡ true)) is (version_text line 2 (omega arith) (same_word line (codes "jakstab-automaton 2") f), refl)
version_by line v false false e f h = cc

pub version_told : (line : List ℕ) (v : ℕ) → version_of line ≡ Some v → (line ++ newline ≡ header_line v) × (is_version v ≡ true)
version_told line v h = version_by line v (bytes_eq line (codes "jakstab-automaton 1")) (bytes_eq line (codes "jakstab-automaton 2")) refl refl h

-- ---- the entry

pub entry_text : (at : ℕ) → (codes "entry" ++ spaced (hex8 at ∷ [])) ++ newline ≡ entry_line at
entry_text at = ap (λ l. codes "entry " ++ (l ++ newline)) (append-nil (hex8 at))

-- ---- locations

abbrev pub suffix_list : Option (List ℕ) → List (List ℕ)
suffix_list None = []
suffix_list (Some name) = name ∷ []

name_is : (field name : List ℕ) → name_of field ≡ Some name → field ≡ name
name_is field name h = (if_some (is_name field) field name h).1

suffix_told : (fs : List (List ℕ)) (suffix : Option (List ℕ)) → suffix_fields fs ≡ Some suffix → fs ≡ suffix_list suffix
suffix_told [] suffix h = let is : ◌≡◌ {A = Option (List ℕ)} None suffix = cc in ap suffix_list is
suffix_told (field ∷ fs) suffix h =
    let f : (name : List ℕ) × (name_of field ≡ Some name) × (no_more (Some name) fs ≡ Some suffix) = chained (λ name. no_more (Some name) fs) (name_of field) suffix h in
    let d = is_done (Some f.0) suffix fs f.2 in
    ap (λ gs. field ∷ gs) d.none ∙ ap (λ l. l ∷ []) (name_is field f.0 f.1) ∙ ap suffix_list d.same

pub location_told : (fs : List (List ℕ)) (p : ℕ × Option (List ℕ)) → location_fields fs ≡ Some p → fs ≡ hex8 p.0 ∷ suffix_list p.1
unfolding location_fields
location_told fs p h =
    let f = has_field word_of fs (λ at fs. option_map (λ suffix. (at, suffix)) (suffix_fields fs)) p h in
    let m : (suffix : Option (List ℕ)) × (suffix_fields f.others ≡ Some suffix) × ((f.value, suffix) ≡ p) = mapped (λ suffix. (f.value, suffix)) (suffix_fields f.others) p f.after in
    f.begins ∙ ap (λ l. l ∷ f.others) (word_is f.field f.value f.gives) ∙ ap (λ gs. hex8 f.value ∷ gs) (suffix_told f.others m.0 m.1) ∙ ap (λ (q : ℕ × Option (List ℕ)). hex8 q.0 ∷ suffix_list q.1) m.2

abbrev own_location : ℕ → Option (List ℕ) → Location
own_location at suffix = record { at = at; name = own_name at suffix }

dash_of : (suffix : Option (List ℕ)) → is_named (codes "-") suffix ≡ true → suffix ≡ Some (codes "-")
dash_of None e = cc
dash_of (Some name) e = ap Some (same_word name (codes "-") e)

pub import_text : (suffix : Option (List ℕ)) → spaced (suffix_list suffix) ≡ import_suffix suffix
import_text None = refl
import_text (Some name) = append-nil (space ++ name)

suffix_by : (at : ℕ) (suffix : Option (List ℕ)) (exit : Bool) → (at == EXIT_PLACE) ≡ exit
    → (if exit then is_named (codes "-") suffix else not (is_named (codes "-") suffix)) ≡ true
    → spaced (suffix_list suffix) ≡ (if exit then codes " -" else import_suffix (if exit then None else suffix))
suffix_by at suffix true is h = ap (λ s. spaced (suffix_list s)) (dash_of suffix h)
suffix_by at suffix false is h = import_text suffix

named_by : (suffix : Option (List ℕ)) (exit : Bool) → (if exit then is_named (codes "-") suffix else not (is_named (codes "-") suffix)) ≡ true
    → (if exit then is_none (if exit then None else suffix) else not (is_named (codes "-") (if exit then None else suffix))) ≡ true
named_by suffix true h = refl
named_by suffix false h = h

pub location_named : (at : ℕ) (suffix : Option (List ℕ)) → has_own_suffix at suffix ≡ true → has_own_name (own_location at suffix) ≡ true
location_named at suffix h = named_by suffix (at == EXIT_PLACE) h

pub location_text : (at : ℕ) (suffix : Option (List ℕ)) → has_own_suffix at suffix ≡ true → (codes "loc" ++ spaced (hex8 at ∷ suffix_list suffix)) ++ newline ≡ loc_line (own_location at suffix)
unfolding loc_line
location_text at suffix h = ap (λ l. codes "loc " ++ ((hex8 at ++ l) ++ newline)) (suffix_by at suffix (at == EXIT_PLACE) refl h)

-- ---- edges

pub ends_told : (fs : List (List ℕ)) (p : ℕ × ℕ × List (List ℕ)) → end_fields fs ≡ Some p → fs ≡ hex8 p.0 ∷ hex8 p.1 ∷ p.2
unfolding end_fields
ends_told fs p h =
    let go : ℕ → List (List ℕ) → Option (ℕ × ℕ × List (List ℕ)) = λ from fs. then_field word_of fs (λ to fs. Some (from, to, fs)) in
    let f = has_field word_of fs go p h in
    let k = has_field word_of f.others (λ to fs. Some (f.value, to, fs)) p f.after in
    let same : (f.value, k.value, k.others) ≡ p = cc in
    f.begins ∙ ap (λ gs. f.field ∷ gs) k.begins ∙ ap (λ l. l ∷ k.field ∷ k.others) (word_is f.field f.value f.gives) ∙ ap (λ l. hex8 f.value ∷ l ∷ k.others) (word_is k.field k.value k.gives)
    ∙ ap (λ (q : ℕ × ℕ × List (List ℕ)). hex8 q.0 ∷ hex8 q.1 ∷ q.2) same

pub import_told : (fs : List (List ℕ)) (name : List ℕ) → import_fields fs ≡ Some name → fs ≡ name ∷ []
unfolding import_fields
import_told fs name h =
    let f = has_field name_of fs (λ n fs. no_more n fs) name h in
    let d = is_done f.value name f.others f.after in
    f.begins ∙ ap (λ gs. f.field ∷ gs) d.none ∙ ap (λ l. l ∷ []) (name_is f.field f.value f.gives ∙ d.same)

-- all fields that are left, behind a space
rest_text : (fs : List (List ℕ)) (text : List ℕ) → text_fields fs ≡ Some text → spaced fs ≡ space ++ text
rest_text [] text h = cc
rest_text (f ∷ fs) text h = let is : join_with_byte 32 (f ∷ fs) ≡ text = cc in ap (λ l. 32 ∷ l) (sym (joined f fs) ∙ is)

pub code_told : (field : List ℕ) (fs : List (List ℕ)) (p : List ℕ × List ℕ) → code_fields field fs ≡ Some p → (field ≡ hex_text p.0) × (spaced fs ≡ space ++ p.1)
unfolding code_fields
code_told field fs p h =
    let c : (bytes : List ℕ) × (hex_bytes field ≡ Some bytes) × (option_map (λ text. (bytes, text)) (text_fields fs) ≡ Some p) = chained (λ bytes. option_map (λ text. (bytes, text)) (text_fields fs)) (hex_bytes field) p h in
    let m : (text : List ℕ) × (text_fields fs ≡ Some text) × ((c.0, text) ≡ p) = mapped (λ text. (c.0, text)) (text_fields fs) p c.2 in
    (bytes_back field c.0 c.1 ∙ ap (λ (q : List ℕ × List ℕ). hex_text q.0) m.2, rest_text fs m.0 m.1 ∙ ap (λ (q : List ℕ × List ℕ). space ++ q.1) m.2)

-- ---- marks

passes_by : {X : Type 0} (p : X → Bool) (y x : X) (rest : Option X) (t : Bool) → p y ≡ t → (rest ≡ Some x → p x ≡ true) → cond t (Some y) rest ≡ Some x → p x ≡ true
passes_by p y x rest true e later h = (let same : y ≡ x = cc in ap p (sym same) ∙ e)
passes_by p y x rest false e later h = later h

find_passes : {X : Type 0} (p : X → Bool) (xs : List X) (x : X) → find p xs ≡ Some x → p x ≡ true
find_passes p [] x h = cc
find_passes p (y ∷ ys) x h = passes_by p y x (find p ys) (p y) refl (find_passes p ys x) h

cause_is : (field : List ℕ) (c : Cause) → cause_of field ≡ Some c → field ≡ cause_text c
cause_is field c h = sym (same_word (cause_text c) field (find_passes (λ c. bytes_eq (cause_text c) field) all_causes c h))

row_is : (field : List ℕ) (row : ℕ) → row_of field ≡ Some row → field ≡ decimal row
row_is field row h =
    let c : (n : ℕ) × (decimal_number field ≡ Some n) × ((if nat_lt n (2 ^ 32) then Some n else None) ≡ Some row) = chained (λ n. if nat_lt n (2 ^ 32) then Some n else None) (decimal_number field) row h in
    let i : (nat_lt c.0 (2 ^ 32) ≡ true) × (c.0 ≡ row) = if_some (nat_lt c.0 (2 ^ 32)) c.0 row c.2 in
    let small : c.0 < 2 ^ 32 = less c.0 (2 ^ 32) i.0 in
    decimal_is_text field c.0 (omega arith) c.1 ∙ ap decimal i.1

abbrev pub row_list : Option ℕ → List (List ℕ)
row_list None = []
row_list (Some row) = decimal row ∷ []

row_by : (two : Bool) (fs : List (List ℕ)) (row : Option ℕ) → (if two then then_field row_of fs (λ n fs. no_more (Some n) fs) else no_more None fs) ≡ Some row → (fs ≡ row_list row) × (is_some row ≡ two)
row_by true fs row h =
    let f = has_field row_of fs (λ n fs. no_more (Some n) fs) row h in
    let d = is_done (Some f.value) row f.others f.after in
    (f.begins ∙ ap (λ gs. f.field ∷ gs) d.none ∙ ap (λ l. l ∷ []) (row_is f.field f.value f.gives) ∙ ap row_list d.same, ap is_some (sym d.same))
row_by false fs row h = let d = is_done None row fs h in (d.none ∙ ap row_list d.same, ap is_some (sym d.same))

pub mark_told : (version : ℕ) (fs : List (List ℕ)) (m : OpenMark) → mark_fields version fs ≡ Some m → (fs ≡ hex8 m.at ∷ cause_text m.cause ∷ row_list m.row) × (is_some m.row ≡ (version == 2))
unfolding mark_fields
mark_told version fs m h =
    let made : ℕ → Cause → Option ℕ → OpenMark = λ at cause row. record { at = at; cause = cause; row = row } in
    let go : ℕ → List (List ℕ) → Option OpenMark = λ at fs. then_field cause_of fs (λ cause fs. option_map (λ row. made at cause row) (row_fields version fs)) in
    let f = has_field word_of fs go m h in
    let k = has_field cause_of f.others (λ cause fs. option_map (λ row. made f.value cause row) (row_fields version fs)) m f.after in
    let r : (row : Option ℕ) × (row_fields version k.others ≡ Some row) × (made f.value k.value row ≡ m) = mapped (λ row. made f.value k.value row) (row_fields version k.others) m k.after in
    let rows : (k.others ≡ row_list r.0) × (is_some r.0 ≡ (version == 2)) = row_by (version == 2) k.others r.0 r.1 in (
      f.begins ∙ ap (λ gs. f.field ∷ gs) k.begins ∙ ap (λ l. l ∷ k.field ∷ k.others) (word_is f.field f.value f.gives) ∙ ap (λ l. hex8 f.value ∷ l ∷ k.others) (cause_is k.field k.value k.gives)
          ∙ ap (λ gs. hex8 f.value ∷ cause_text k.value ∷ gs) rows.0 ∙ ap (λ (n : OpenMark). hex8 n.at ∷ cause_text n.cause ∷ row_list n.row) r.2,
      ap (λ (n : OpenMark). is_some n.row) (sym r.2) ∙ rows.1,
    )

-- ---- the end

pub counts_told : (r : AutomatonSoFar) (fs : List (List ℕ)) → length r.locations < 2 ^ 64 → length r.edges < 2 ^ 64 → length r.marks < 2 ^ 64
    → count_fields r fs ≡ Some true → fs ≡ decimal (length r.locations) ∷ decimal (length r.edges) ∷ decimal (length r.marks) ∷ []
unfolding count_fields
counts_told r fs few fewer fewest h =
    let third : Bool → Bool → Bool → List (List ℕ) → Option Bool = λ a b c fs. no_more (a && b && c) fs in
    let second : Bool → Bool → List (List ℕ) → Option Bool = λ a b fs. then_field (decimal_is (length r.marks)) fs (third a b) in
    let first : Bool → List (List ℕ) → Option Bool = λ a fs. then_field (decimal_is (length r.edges)) fs (second a) in
    let f = has_field (decimal_is (length r.locations)) fs first true h in
    let k = has_field (decimal_is (length r.edges)) f.others (second f.value) true f.after in
    let j = has_field (decimal_is (length r.marks)) k.others (third f.value k.value) true k.after in
    let d = is_done (f.value && k.value && j.value) true j.others j.after in
    let outer : ((f.value && k.value) ≡ true) × (j.value ≡ true) = and_parts (f.value && k.value) j.value d.same in
    let inner : (f.value ≡ true) × (k.value ≡ true) = and_parts f.value k.value outer.0 in
    f.begins ∙ ap (λ gs. f.field ∷ gs) k.begins ∙ ap (λ gs. f.field ∷ k.field ∷ gs) j.begins ∙ ap (λ gs. f.field ∷ k.field ∷ j.field ∷ gs) d.none
    ∙ ap (λ l. l ∷ k.field ∷ j.field ∷ []) (number_told f.field (length r.locations) few (f.gives ∙ ap Some inner.0))
    ∙ ap (λ l. decimal (length r.locations) ∷ l ∷ j.field ∷ []) (number_told k.field (length r.edges) fewer (k.gives ∙ ap Some inner.1))
    ∙ ap (λ l. decimal (length r.locations) ∷ decimal (length r.edges) ∷ l ∷ []) (number_told j.field (length r.marks) fewest (j.gives ∙ ap Some outer.1))
