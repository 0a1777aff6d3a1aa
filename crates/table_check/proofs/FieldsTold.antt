-- The fields of a table's lines are the texts of what they give.
use Rattle.std.proofs.Common.{◌≡◌, ℕ, ◌+◌, ◌-◌, ◌<◌, ◌^◌, ◌%◌, ◌==◌, Bool, true, false, List, [], ◌∷◌, ◌++◌, length, map, Option, None, Some, refl, sym, ◌∙◌, ap, subst, arith, append_assoc, nat_lt, decimal, pos, negsuc}
use Rattle.std.specs.Prelude.{codes, nat_le, ◌&&◌, option_and_then, option_map, if◌then◌else◌}
use Rattle.std.specs.List.{list_all}
use Rattle.std.specs.Str.{bytes_eq}
use Rattle.std.proofs.lemmas.Bool.Decides.{nat_tests}
use Rattle.std.proofs.lemmas.Fmt.{decimal_digit}
use Rattle.text_fields.specs.Decimal.{decimal_below, decimal_number}
use Rattle.text_fields.specs.Fields.{no_more, then_field, word_of, bool_of, bool_text}
use Rattle.text_fields.specs.Hex.{hex8}
use Rattle.text_fields.proofs.DecimalFacts.{decimal_is_text}
use Rattle.text_fields.proofs.FieldTexts.{has_field, is_done, word_is, bool_is}
use Rattle.bit_words.specs.declared.width.Width.{Width}
use Rattle.bit_words.specs.declared.width.Width.TheVariants.{B8, B16, B32}
use Rattle.bit_words.specs.Width.{bytes_of, signed_of, word_of as word_in}
use Rattle.address_regions.specs.declared.region.Region.{Region}
use Rattle.address_regions.specs.declared.region.Region.TheVariants.{Stack, Fs, Gs, Block}
use Rattle.address_regions.specs.Extents.{has_one_base, has_room}
use Rattle.bounded_values.specs.declared.value.Bounded.{Bounded}
use Rattle.bounded_values.specs.declared.value.Bounded.TheVariants.{Number, Exact, Inside, Any}
use Rattle.partitioned_memory.specs.declared.area.Area.{Area}
use Rattle.partitioned_memory.specs.declared.area.Area.TheVariants.{Image, In}
use Rattle.partitioned_memory.specs.declared.fact.Fact.{Fact}
use Rattle.partitioned_memory.specs.declared.fact.Dirty.{Dirty}
use Rattle.partitioned_memory.specs.declared.fact.Counted.{Counted}
use Rattle.abstract_state.specs.declared.truth.Truth.{Truth}
use Rattle.abstract_state.specs.declared.truth.Truth.TheVariants.{Yes, No, Unknown}
use Rattle.abstract_state.specs.declared.note.Note.{Note}
use Rattle.abstract_state.specs.declared.note.Note.TheVariants.{Register, Word}
use Rattle.abstract_state.specs.Notes.{compared_with}
use Rattle.table_check.specs.Fields.{area_of, block_by, block_fields, block_of, dirty_fields, fact_fields, flags_fields, flags_of, inside_in, inside_of, k_fields, k_of, low_in, many_of, note_fields, place_by, place_of, region_by, region_of, register_note, register_of, regs_fields, truth_of, truths_by, value_by, value_of, width_of, window_of, word_note}
use Rattle.table_check.specs.Text.{area_text, count_text, offset_text, region_text, truth_code, value_text}
use Rattle.table_check.specs.TextLaws.{is_made}
use Rattle.std.proofs.lemmas.Bool.{and_from}
use Rattle.text_fields.proofs.Found.{if_some, mapped, chained, same_word}
use Rattle.text_fields.proofs.Cutting.{cut-is}
use Rattle.text_fields.specs.Lines.{cut_at}
use Rattle.automaton_text.proofs.Ascending.{less}
use Rattle.automaton_text.proofs.HexBounds.{word_below}

-- ---- what is behind a test or something found

-- a field that is a word, and what is left where it is not
word_by : {A : Type 0} (f : A → List ℕ) (field own : List ℕ) (a b : A) (rest : Option A) (t : Bool) → bytes_eq field own ≡ t → own ≡ f a → (rest ≡ Some b → field ≡ f b)
    → (if t then Some a else rest) ≡ Some b → field ≡ f b
word_by f field own a b rest true e same later h = (let is : a ≡ b = cc in same_word field own e ∙ same ∙ ap f is)
word_by f field own a b rest false e same later h = later h

word_case : {A : Type 0} (f : A → List ℕ) (field own : List ℕ) (a b : A) (rest : Option A) → own ≡ f a → (rest ≡ Some b → field ≡ f b)
    → (if bytes_eq field own then Some a else rest) ≡ Some b → field ≡ f b
word_case f field own a b rest same later h = word_by f field own a b rest (bytes_eq field own) refl same later h

-- ---- offsets

pub low_bits : (n : ℕ) → n < 2 ^ 32 → n % 2 ^ 32 ≡ n
low_bits n small = omega arith

signed_back : (n m : ℕ) (t : Bool) → n < 2 ^ 32 → m ≡ n → nat_lt m (2 ^ 31) ≡ t → word_in B32 (if t then pos m else negsuc (2 ^ 32 - 1 - m)) ≡ n
signed_back n m true small is e = omega arith
signed_back n m false small is e = omega arith

pub word-signed : (n : ℕ) → n < 2 ^ 32 → word_in B32 (signed_of B32 n) ≡ n
word-signed n small = signed_back n (n % 2 ^ 32) (nat_lt (n % 2 ^ 32) (2 ^ 31)) small (low_bits n small) refl

low-either : (n : ℕ) (t : Bool) → n < 2 ^ 32 → word_in B32 (if t then signed_of B32 n else pos n) ≡ n
low-either n true small = word-signed n small
low-either n false small = low_bits n small

pub word-low : (area : Area) (n : ℕ) → n < 2 ^ 32 → word_in B32 (low_in area n) ≡ n
word-low Image n small = low_bits n small
word-low (In r) n small = low-either n (has_one_base r) small

-- a field is the text of the offset that it writes
pub low_is : (area : Area) (field : List ℕ) (n : ℕ) → word_of field ≡ Some n → field ≡ offset_text (low_in area n)
low_is area field n h = word_is field n h ∙ ap hex8 (sym (word-low area n (word_below field n h)))

pub offset_is : (field : List ℕ) (n : ℕ) → word_of field ≡ Some n → field ≡ offset_text (signed_of B32 n)
offset_is field n h = word_is field n h ∙ ap hex8 (sym (word-signed n (word_below field n h)))

pub size_is : (field : List ℕ) (n : ℕ) → word_of field ≡ Some n → field ≡ offset_text (pos n)
size_is field n h = word_is field n h ∙ ap hex8 (sym (low_bits n (word_below field n h)))

-- ---- regions and areas

window_is : (field : List ℕ) (r : Region) → window_of field ≡ Some r → field ≡ region_text r
unfolding region_text
window_is field r h =
    word_case region_text field (codes "stack") Stack r _ refl (λ k.
    word_case region_text field (codes "fs") Fs r _ refl (λ m.
    word_case region_text field (codes "gs") Gs r None refl (λ none. cc) m) k) h

block_joined : (site size bit : List ℕ) → codes "b." ++ (site ++ 46 ∷ (size ++ 46 ∷ bit)) ≡ codes "b." ++ site ++ codes "." ++ size ++ codes "." ++ bit
block_joined site size bit = simp append_assoc

block_is : (text : List ℕ) (r : Region) → block_of text ≡ Some r → codes "b." ++ text ≡ region_text r
unfolding region_text
block_is text r h =
    let go : List ℕ × List ℕ → Option Region = λ first. option_and_then (λ (second : List ℕ × List ℕ). block_by first.0 second.0 second.1) (cut_at 46 first.1) in
    let f : (first : List ℕ × List ℕ) × (cut_at 46 text ≡ Some first) × (go first ≡ Some r) = chained go (cut_at 46 text) r h in
    let on : List ℕ × List ℕ → Option Region = λ second. block_by f.0.0 second.0 second.1 in
    let s : (second : List ℕ × List ℕ) × (cut_at 46 f.0.1 ≡ Some second) × (on second ≡ Some r) = chained on (cut_at 46 f.0.1) r f.2 in
    let sized : ℕ → Option Region = λ site. option_and_then (λ size. option_map (λ zeroed. Block site size zeroed) (bool_of s.0.1)) (word_of s.0.0) in
    let site : (n : ℕ) × (word_of f.0.0 ≡ Some n) × (sized n ≡ Some r) = chained sized (word_of f.0.0) r s.2 in
    let lasting : ℕ → Option Region = λ size. option_map (λ zeroed. Block site.0 size zeroed) (bool_of s.0.1) in
    let size : (n : ℕ) × (word_of s.0.0 ≡ Some n) × (lasting n ≡ Some r) = chained lasting (word_of s.0.0) r site.2 in
    let bit : (z : Bool) × (bool_of s.0.1 ≡ Some z) × (Block site.0 size.0 z ≡ r) = mapped (λ z. Block site.0 size.0 z) (bool_of s.0.1) r size.2 in
    let inner : f.0.1 ≡ hex8 size.0 ++ 46 ∷ bool_text bit.0 = cut-is 46 f.0.1 s.0 s.1 ∙ ap (λ l. l ++ 46 ∷ s.0.1) (word_is s.0.0 size.0 size.1) ∙ ap (λ l. hex8 size.0 ++ 46 ∷ l) (bool_is s.0.1 bit.0 bit.1) in
    let whole : text ≡ hex8 site.0 ++ 46 ∷ (hex8 size.0 ++ 46 ∷ bool_text bit.0) = cut-is 46 text f.0 f.1 ∙ ap (λ l. l ++ 46 ∷ f.0.1) (word_is f.0.0 site.0 site.1) ∙ ap (λ l. hex8 site.0 ++ 46 ∷ l) inner in
    ap (λ l. codes "b." ++ l) whole ∙ block_joined (hex8 site.0) (hex8 size.0) (bool_text bit.0) ∙ ap region_text bit.2

region_by-is : (field : List ℕ) (r : Region) (o : Option (List ℕ × List ℕ)) → cut_at 46 field ≡ o → region_by field o ≡ Some r → field ≡ region_text r
region_by-is field r None e h = window_is field r h
region_by-is field r (Some p) e h =
    let i : (bytes_eq p.0 (codes "b") ≡ true) × (block_of p.1 ≡ Some r) = if_some (bytes_eq p.0 (codes "b")) (block_of p.1) r h in
    cut-is 46 field p e ∙ ap (λ l. l ++ 46 ∷ p.1) (same_word p.0 (codes "b") i.0) ∙ block_is p.1 r i.1

pub region_is : (field : List ℕ) (r : Region) → region_of field ≡ Some r → field ≡ region_text r
unfolding region_of
region_is field r h = region_by-is field r (cut_at 46 field) refl h

area_by-is : (field : List ℕ) (a : Area) (t : Bool) → bytes_eq field (codes "image") ≡ t → (if t then Some Image else option_map (λ r. In r) (region_of field)) ≡ Some a → field ≡ area_text a
area_by-is field a true e h = (let is : Image ≡ a = cc in same_word field (codes "image") e ∙ ap area_text is)
area_by-is field a false e h =
    let m : (r : Region) × (region_of field ≡ Some r) × (In r ≡ a) = mapped (λ r. In r) (region_of field) a h in
    region_is field m.0 m.1 ∙ ap area_text m.2

pub area_is : (field : List ℕ) (a : Area) → area_of field ≡ Some a → field ≡ area_text a
unfolding area_of
area_is field a h = area_by-is field a (bytes_eq field (codes "image")) refl h

-- ---- values

plain_by-is : (field : List ℕ) (v : Bounded) (t : Bool) → bytes_eq field (codes "a") ≡ t → (if t then Some Any else option_map (λ n. Number n) (word_of field)) ≡ Some v → field ≡ value_text v
unfolding value_text
plain_by-is field v true e h = (let is : Any ≡ v = cc in same_word field (codes "a") e ∙ ap value_text is)
plain_by-is field v false e h =
    let m : (n : ℕ) × (word_of field ≡ Some n) × (Number n ≡ v) = mapped (λ n. Number n) (word_of field) v h in
    word_is field m.0 m.1 ∙ ap value_text m.2

place_joined : (region offset : List ℕ) → codes "e:" ++ (region ++ 58 ∷ offset) ≡ codes "e:" ++ region ++ codes ":" ++ offset
place_joined region offset = simp append_assoc

place_is : (text : List ℕ) (v : Bounded) → place_of text ≡ Some v → codes "e:" ++ text ≡ value_text v
unfolding value_text
place_is text v h =
    let go : List ℕ × List ℕ → Option Bounded = λ p. place_by p.0 p.1 in
    let f : (p : List ℕ × List ℕ) × (cut_at 58 text ≡ Some p) × (go p ≡ Some v) = chained go (cut_at 58 text) v h in
    let on : Region → Option Bounded = λ r. option_map (λ n. Exact r (signed_of B32 n)) (word_of f.0.1) in
    let r : (r : Region) × (region_of f.0.0 ≡ Some r) × (on r ≡ Some v) = chained on (region_of f.0.0) v f.2 in
    let o : (n : ℕ) × (word_of f.0.1 ≡ Some n) × (Exact r.0 (signed_of B32 n) ≡ v) = mapped (λ n. Exact r.0 (signed_of B32 n)) (word_of f.0.1) v r.2 in
    let whole : text ≡ region_text r.0 ++ 58 ∷ offset_text (signed_of B32 o.0) = cut-is 58 text f.0 f.1 ∙ ap (λ l. l ++ 58 ∷ f.0.1) (region_is f.0.0 r.0 r.1) ∙ ap (λ l. region_text r.0 ++ 58 ∷ l) (offset_is f.0.1 o.0 o.1) in
    ap (λ l. codes "e:" ++ l) whole ∙ place_joined (region_text r.0) (offset_text (signed_of B32 o.0)) ∙ ap value_text o.2

inside_is : (text : List ℕ) (v : Bounded) → inside_of text ≡ Some v → codes "i:" ++ text ≡ value_text v
unfolding value_text
inside_is text v h =
    let r : (r : Region) × (region_of text ≡ Some r) × (inside_in r ≡ Some v) = chained inside_in (region_of text) v h in
    let i : (has_room r.0 ≡ true) × (Some (Inside r.0) ≡ Some v) = if_some (has_room r.0) (Some (Inside r.0)) v r.2 in
    let is : Inside r.0 ≡ v = cc in
    ap (λ l. codes "i:" ++ l) (region_is text r.0 r.1) ∙ ap value_text is

letter_by : (field : List ℕ) (v : Bounded) (p : List ℕ × List ℕ) (e i : Bool) → field ≡ p.0 ++ 58 ∷ p.1 → bytes_eq p.0 (codes "e") ≡ e → bytes_eq p.0 (codes "i") ≡ i
    → (if e then place_of p.1 else if i then inside_of p.1 else None) ≡ Some v → field ≡ value_text v
letter_by field v p true i whole a b h = whole ∙ ap (λ l. l ++ 58 ∷ p.1) (same_word p.0 (codes "e") a) ∙ place_is p.1 v h
letter_by field v p false true whole a b h = whole ∙ ap (λ l. l ++ 58 ∷ p.1) (same_word p.0 (codes "i") b) ∙ inside_is p.1 v h
letter_by field v p false false whole a b h = cc

value_by-is : (field : List ℕ) (v : Bounded) (o : Option (List ℕ × List ℕ)) → cut_at 58 field ≡ o → value_by field o ≡ Some v → field ≡ value_text v
value_by-is field v None e h = plain_by-is field v (bytes_eq field (codes "a")) refl h
value_by-is field v (Some p) e h = letter_by field v p (bytes_eq p.0 (codes "e")) (bytes_eq p.0 (codes "i")) (cut-is 58 field p e) refl refl h

pub value_is : (field : List ℕ) (v : Bounded) → value_of field ≡ Some v → field ≡ value_text v
unfolding value_of
value_is field v h = value_by-is field v (cut_at 58 field) refl h

-- ---- what is read is made by a method

made_along : (a v : Bounded) → a ≡ v → is_made a ≡ true → is_made v ≡ true
made_along a v e h = ap is_made (sym e) ∙ h

plain_made : (field : List ℕ) (v : Bounded) (t : Bool) → (if t then Some Any else option_map (λ n. Number n) (word_of field)) ≡ Some v → is_made v ≡ true
plain_made field v true h = (let is : Any ≡ v = cc in made_along Any v is refl)
plain_made field v false h =
    let m : (n : ℕ) × (word_of field ≡ Some n) × (Number n ≡ v) = mapped (λ n. Number n) (word_of field) v h in
    made_along (Number m.0) v m.2 refl

place_made : (text : List ℕ) (v : Bounded) → place_of text ≡ Some v → is_made v ≡ true
place_made text v h =
    let go : List ℕ × List ℕ → Option Bounded = λ p. place_by p.0 p.1 in
    let f : (p : List ℕ × List ℕ) × (cut_at 58 text ≡ Some p) × (go p ≡ Some v) = chained go (cut_at 58 text) v h in
    let on : Region → Option Bounded = λ r. option_map (λ n. Exact r (signed_of B32 n)) (word_of f.0.1) in
    let r : (r : Region) × (region_of f.0.0 ≡ Some r) × (on r ≡ Some v) = chained on (region_of f.0.0) v f.2 in
    let o : (n : ℕ) × (word_of f.0.1 ≡ Some n) × (Exact r.0 (signed_of B32 n) ≡ v) = mapped (λ n. Exact r.0 (signed_of B32 n)) (word_of f.0.1) v r.2 in
    made_along (Exact r.0 (signed_of B32 o.0)) v o.2 refl

inside_made : (text : List ℕ) (v : Bounded) → inside_of text ≡ Some v → is_made v ≡ true
inside_made text v h =
    let r : (r : Region) × (region_of text ≡ Some r) × (inside_in r ≡ Some v) = chained inside_in (region_of text) v h in
    let i : (has_room r.0 ≡ true) × (Some (Inside r.0) ≡ Some v) = if_some (has_room r.0) (Some (Inside r.0)) v r.2 in
    let is : Inside r.0 ≡ v = cc in
    made_along (Inside r.0) v is i.0

letter_made : (v : Bounded) (p : List ℕ × List ℕ) (e i : Bool) → (if e then place_of p.1 else if i then inside_of p.1 else None) ≡ Some v → is_made v ≡ true
letter_made v p true i h = place_made p.1 v h
letter_made v p false true h = inside_made p.1 v h
letter_made v p false false h = cc

made_by : (field : List ℕ) (v : Bounded) (o : Option (List ℕ × List ℕ)) → value_by field o ≡ Some v → is_made v ≡ true
made_by field v None h = plain_made field v (bytes_eq field (codes "a")) h
made_by field v (Some p) h = letter_made v p (bytes_eq p.0 (codes "e")) (bytes_eq p.0 (codes "i")) h

pub value_made : (field : List ℕ) (v : Bounded) → value_of field ≡ Some v → is_made v ≡ true
unfolding value_of
value_made field v h = made_by field v (cut_at 58 field) h

-- ---- other forms

width_text : Width → List ℕ
width_text w = decimal (bytes_of w)

pub width_is : (field : List ℕ) (w : Width) → width_of field ≡ Some w → field ≡ decimal (bytes_of w)
unfolding width_text
width_is field w h =
    word_case width_text field (codes "1") B8 w _ (sym (decimal_digit 1 (omega arith))) (λ k.
    word_case width_text field (codes "2") B16 w _ (sym (decimal_digit 2 (omega arith))) (λ m.
    word_case width_text field (codes "4") B32 w None (sym (decimal_digit 4 (omega arith))) (λ none. cc) m) k) h

pub many_is : (field : List ℕ) (b : Bool) → many_of field ≡ Some b → field ≡ count_text b
many_is field b h = word_case count_text field (codes "one") false b _ refl (λ k. word_case count_text field (codes "many") true b None refl (λ none. cc) k) h

code_by : (c : ℕ) (t : Truth) (one none unknown : Bool) → (c == 49) ≡ one → (c == 48) ≡ none → (c == 63) ≡ unknown
    → (if one then Some Yes else if none then Some No else if unknown then Some Unknown else None) ≡ Some t → c ≡ truth_code t
code_by c t true none unknown a b d h = (let is : Yes ≡ t = cc in let e : c ≡ 49 = grind (arith, nat_tests) in e ∙ ap truth_code is)
code_by c t false true unknown a b d h = (let is : No ≡ t = cc in let e : c ≡ 48 = grind (arith, nat_tests) in e ∙ ap truth_code is)
code_by c t false false true a b d h = (let is : Unknown ≡ t = cc in let e : c ≡ 63 = grind (arith, nat_tests) in e ∙ ap truth_code is)
code_by c t false false false a b d h = cc

truths_are : (field : List ℕ) (ts : List Truth) → truths_by field ≡ Some ts → field ≡ map truth_code ts
truths_are [] ts h = (let is : [] ≡ ts = cc in ap (map truth_code) is)
truths_are (c ∷ cs) ts h =
    let go : Truth → Option (List Truth) = λ t. option_map (λ us. t ∷ us) (truths_by cs) in
    let f : (t : Truth) × (truth_of c ≡ Some t) × (go t ≡ Some ts) = chained go (truth_of c) ts h in
    let m : (us : List Truth) × (truths_by cs ≡ Some us) × (f.0 ∷ us ≡ ts) = mapped (λ us. f.0 ∷ us) (truths_by cs) ts f.2 in
    ap (λ x. x ∷ cs) (code_by c f.0 (c == 49) (c == 48) (c == 63) refl refl refl f.1) ∙ ap (λ l. truth_code f.0 ∷ l) (truths_are cs m.0 m.1) ∙ ap (map truth_code) m.2

pub flags_are : (field : List ℕ) (ts : List Truth) → flags_of field ≡ Some ts → field ≡ map truth_code ts
flags_are field ts h = truths_are field ts (if_some (length field == 7) (truths_by field) ts h).1

-- a number in decimal that a test lets through
below_is : (field : List ℕ) (n : ℕ) → decimal_below (2 ^ 64) field ≡ Some n → field ≡ decimal n
below_is field n h =
    let c : (m : ℕ) × (decimal_number field ≡ Some m) × ((if nat_lt m (2 ^ 64) then Some m else None) ≡ Some n) = chained (λ m. if nat_lt m (2 ^ 64) then Some m else None) (decimal_number field) n h in
    let i : (nat_lt c.0 (2 ^ 64) ≡ true) × (Some c.0 ≡ Some n) = if_some (nat_lt c.0 (2 ^ 64)) (Some c.0) n c.2 in
    let is : c.0 ≡ n = cc in
    decimal_is_text field c.0 (less c.0 (2 ^ 64) i.0) c.1 ∙ ap decimal is

chosen_is : (field : List ℕ) (n : ℕ) (test : ℕ → Bool) → option_and_then (λ m. if test m then Some m else None) (decimal_below (2 ^ 64) field) ≡ Some n → (field ≡ decimal n) × (test n ≡ true)
chosen_is field n test h =
    let c : (m : ℕ) × (decimal_below (2 ^ 64) field ≡ Some m) × ((if test m then Some m else None) ≡ Some n) = chained (λ m. if test m then Some m else None) (decimal_below (2 ^ 64) field) n h in
    let i : (test c.0 ≡ true) × (Some c.0 ≡ Some n) = if_some (test c.0) (Some c.0) n c.2 in
    let is : c.0 ≡ n = cc in
    (below_is field c.0 c.1 ∙ ap decimal is, ap test (sym is) ∙ i.0)

pub k_is : (field : List ℕ) (k : ℕ) → k_of field ≡ Some k → (field ≡ decimal k) × ((nat_le 1 k && nat_le k 1024) ≡ true)
k_is field k h = chosen_is field k (λ n. nat_le 1 n && nat_le n 1024) h

pub register_is : (field : List ℕ) (r : ℕ) → register_of field ≡ Some r → field ≡ decimal r
register_is field r h = (chosen_is field r (λ n. nat_lt n 8) h).0

-- ---- lines behind their first words

pub k_told : (fs : List (List ℕ)) (k : ℕ) → k_fields fs ≡ Some k → (fs ≡ decimal k ∷ []) × ((nat_le 1 k && nat_le k 1024) ≡ true)
unfolding k_fields
k_told fs k h =
    let f = has_field k_of fs (λ k fs. no_more k fs) k h in
    let d = is_done f.value k f.others f.after in
    let is = k_is f.field f.value f.gives in
    (f.begins ∙ ap (λ gs. f.field ∷ gs) d.none ∙ ap (λ l. l ∷ []) (is.0 ∙ ap decimal d.same), ap (λ n. nat_le 1 n && nat_le n 1024) (sym d.same) ∙ is.1)

pub flags_told : (fs : List (List ℕ)) (ts : List Truth) → flags_fields fs ≡ Some ts → fs ≡ map truth_code ts ∷ []
unfolding flags_fields
flags_told fs ts h =
    let f = has_field flags_of fs (λ truths fs. no_more truths fs) ts h in
    let d = is_done f.value ts f.others f.after in
    f.begins ∙ ap (λ gs. f.field ∷ gs) d.none ∙ ap (λ l. l ∷ []) (flags_are f.field f.value f.gives ∙ ap (map truth_code) d.same)

-- a value more, and what it makes of the other fields
pub record HasValue {B : Type 0} (fs : List (List ℕ)) (go : Bounded → List (List ℕ) → Option B) (b : B) : Type 0 where
  pub value : Bounded
  pub others : List (List ℕ)
  pub begins : fs ≡ value_text value ∷ others
  pub made : is_made value ≡ true
  pub after : go value others ≡ Some b

has_value : {B : Type 0} (fs : List (List ℕ)) (go : Bounded → List (List ℕ) → Option B) (b : B) → then_field value_of fs go ≡ Some b → HasValue fs go b
has_value fs go b h =
    let f = has_field value_of fs go b h in
    record { value = f.value; others = f.others; begins = f.begins ∙ ap (λ l. l ∷ f.others) (value_is f.field f.value f.gives); made = value_made f.field f.value f.gives; after = f.after }

pub regs_told : (fs : List (List ℕ)) (vs : List Bounded) → regs_fields fs ≡ Some vs → (fs ≡ map value_text vs) × (list_all is_made vs ≡ true)
unfolding regs_fields
regs_told fs vs h =
    let a = has_value fs _ vs h in
    let b = has_value a.others _ vs a.after in
    let c = has_value b.others _ vs b.after in
    let d = has_value c.others _ vs c.after in
    let e = has_value d.others _ vs d.after in
    let f = has_value e.others _ vs e.after in
    let g = has_value f.others _ vs f.after in
    let i = has_value g.others _ vs g.after in
    let made : List Bounded = a.value ∷ b.value ∷ c.value ∷ d.value ∷ e.value ∷ f.value ∷ g.value ∷ i.value ∷ [] in
    let last = is_done made vs i.others i.after in
    let t : Bounded → List ℕ = value_text in
    let text : fs ≡ map value_text vs =
    a.begins ∙ ap (λ l. t a.value ∷ l) b.begins ∙ ap (λ l. t a.value ∷ t b.value ∷ l) c.begins ∙ ap (λ l. t a.value ∷ t b.value ∷ t c.value ∷ l) d.begins
    ∙ ap (λ l. t a.value ∷ t b.value ∷ t c.value ∷ t d.value ∷ l) e.begins ∙ ap (λ l. t a.value ∷ t b.value ∷ t c.value ∷ t d.value ∷ t e.value ∷ l) f.begins
    ∙ ap (λ l. t a.value ∷ t b.value ∷ t c.value ∷ t d.value ∷ t e.value ∷ t f.value ∷ l) g.begins
    ∙ ap (λ l. t a.value ∷ t b.value ∷ t c.value ∷ t d.value ∷ t e.value ∷ t f.value ∷ t g.value ∷ l) i.begins
    ∙ ap (λ l. t a.value ∷ t b.value ∷ t c.value ∷ t d.value ∷ t e.value ∷ t f.value ∷ t g.value ∷ t i.value ∷ l) last.none
    ∙ ap (map value_text) last.same
    in
    let all : list_all is_made made ≡ true =
    and_from (is_made a.value) _ a.made (and_from (is_made b.value) _ b.made (and_from (is_made c.value) _ c.made (and_from (is_made d.value) _ d.made
    (and_from (is_made e.value) _ e.made (and_from (is_made f.value) _ f.made (and_from (is_made g.value) _ g.made (and_from (is_made i.value) true i.made refl)))))))
    in
    (text, ap (list_all is_made) (sym last.same) ∙ all)

-- the fields of a note's line
abbrev pub note_list : Note → List (List ℕ)
note_list (Register r c) = codes "reg" ∷ decimal r ∷ hex8 c ∷ []
note_list (Word o c) = codes "word" ∷ offset_text o ∷ hex8 c ∷ []

register_told : (fs : List (List ℕ)) (n : Note) → register_note fs ≡ Some n → codes "reg" ∷ fs ≡ note_list n
unfolding register_note
register_told fs n h =
    let f = has_field register_of fs (λ r fs. then_field word_of fs (λ c fs. no_more (Register r c) fs)) n h in
    let g = has_field word_of f.others (λ c fs. no_more (Register f.value c) fs) n f.after in
    let d = is_done (Register f.value g.value) n g.others g.after in
    ap (λ gs. codes "reg" ∷ gs) (f.begins ∙ ap (λ gs. f.field ∷ gs) g.begins ∙ ap (λ gs. f.field ∷ g.field ∷ gs) d.none
    ∙ ap (λ l. l ∷ g.field ∷ []) (register_is f.field f.value f.gives) ∙ ap (λ l. decimal f.value ∷ l ∷ []) (word_is g.field g.value g.gives)) ∙ ap note_list d.same

word_told : (fs : List (List ℕ)) (n : Note) → word_note fs ≡ Some n → codes "word" ∷ fs ≡ note_list n
unfolding word_note
word_told fs n h =
    let f = has_field word_of fs (λ o fs. then_field word_of fs (λ c fs. no_more (Word (signed_of B32 o) c) fs)) n h in
    let g = has_field word_of f.others (λ c fs. no_more (Word (signed_of B32 f.value) c) fs) n f.after in
    let d = is_done (Word (signed_of B32 f.value) g.value) n g.others g.after in
    ap (λ gs. codes "word" ∷ gs) (f.begins ∙ ap (λ gs. f.field ∷ gs) g.begins ∙ ap (λ gs. f.field ∷ g.field ∷ gs) d.none
    ∙ ap (λ l. l ∷ g.field ∷ []) (offset_is f.field f.value f.gives) ∙ ap (λ l. offset_text (signed_of B32 f.value) ∷ l ∷ []) (word_is g.field g.value g.gives)) ∙ ap note_list d.same

note_by : (kind : List ℕ) (fs : List (List ℕ)) (n : Note) (reg word : Bool) → bytes_eq kind (codes "reg") ≡ reg → bytes_eq kind (codes "word") ≡ word
    → (if reg then register_note fs else if word then word_note fs else None) ≡ Some n → kind ∷ fs ≡ note_list n
note_by kind fs n true word a b h = ap (λ l. l ∷ fs) (same_word kind (codes "reg") a) ∙ register_told fs n h
note_by kind fs n false true a b h = ap (λ l. l ∷ fs) (same_word kind (codes "word") b) ∙ word_told fs n h
note_by kind fs n false false a b h = cc

pub note_told : (fs : List (List ℕ)) (n : Note) → note_fields fs ≡ Some n → fs ≡ note_list n
unfolding note_fields
note_told [] n h = cc
note_told (kind ∷ fs) n h = note_by kind fs n (bytes_eq kind (codes "reg")) (bytes_eq kind (codes "word")) refl refl h

-- what a note was compared with is a word
register_small : (fs : List (List ℕ)) (n : Note) → register_note fs ≡ Some n → compared_with n < 2 ^ 32
unfolding register_note
register_small fs n h =
    let f = has_field register_of fs (λ r fs. then_field word_of fs (λ c fs. no_more (Register r c) fs)) n h in
    let g = has_field word_of f.others (λ c fs. no_more (Register f.value c) fs) n f.after in
    let d = is_done (Register f.value g.value) n g.others g.after in
    subst (λ m. compared_with m < 2 ^ 32) d.same (word_below g.field g.value g.gives)

word_note_small : (fs : List (List ℕ)) (n : Note) → word_note fs ≡ Some n → compared_with n < 2 ^ 32
unfolding word_note
word_note_small fs n h =
    let f = has_field word_of fs (λ o fs. then_field word_of fs (λ c fs. no_more (Word (signed_of B32 o) c) fs)) n h in
    let g = has_field word_of f.others (λ c fs. no_more (Word (signed_of B32 f.value) c) fs) n f.after in
    let d = is_done (Word (signed_of B32 f.value) g.value) n g.others g.after in
    subst (λ m. compared_with m < 2 ^ 32) d.same (word_below g.field g.value g.gives)

small_by : (fs : List (List ℕ)) (n : Note) (reg word : Bool) → (if reg then register_note fs else if word then word_note fs else None) ≡ Some n → compared_with n < 2 ^ 32
small_by fs n true word h = register_small fs n h
small_by fs n false true h = word_note_small fs n h
small_by fs n false false h = cc

pub note_small : (fs : List (List ℕ)) (n : Note) → note_fields fs ≡ Some n → compared_with n < 2 ^ 32
unfolding note_fields
note_small [] n h = cc
note_small (kind ∷ fs) n h = small_by fs n (bytes_eq kind (codes "reg")) (bytes_eq kind (codes "word")) h

abbrev pub fact_list : Fact Bounded → List (List ℕ)
fact_list f = area_text f.area ∷ offset_text f.low ∷ decimal (bytes_of f.w) ∷ value_text f.value ∷ []

pub fact_told : (fs : List (List ℕ)) (f : Fact Bounded) → fact_fields fs ≡ Some f → fs ≡ fact_list f
unfolding fact_fields
fact_told fs f h =
    let made : Area → ℕ → Width → Bounded → Fact Bounded = λ area low w v. record { area = area; low = low_in area low; w = w; value = v } in
    let third : Area → ℕ → Width → List (List ℕ) → Option (Fact Bounded) = λ area low w fs. then_field value_of fs (λ v fs. no_more (made area low w v) fs) in
    let second : Area → ℕ → List (List ℕ) → Option (Fact Bounded) = λ area low fs. then_field width_of fs (third area low) in
    let first : Area → List (List ℕ) → Option (Fact Bounded) = λ area fs. then_field word_of fs (second area) in
    let a = has_field area_of fs first f h in
    let b = has_field word_of a.others (second a.value) f a.after in
    let c = has_field width_of b.others (third a.value b.value) f b.after in
    let e = has_field value_of c.others (λ v fs. no_more (made a.value b.value c.value v) fs) f c.after in
    let d = is_done (made a.value b.value c.value e.value) f e.others e.after in
    a.begins ∙ ap (λ gs. a.field ∷ gs) b.begins ∙ ap (λ gs. a.field ∷ b.field ∷ gs) c.begins ∙ ap (λ gs. a.field ∷ b.field ∷ c.field ∷ gs) e.begins ∙ ap (λ gs. a.field ∷ b.field ∷ c.field ∷ e.field ∷ gs) d.none
    ∙ ap (λ l. l ∷ b.field ∷ c.field ∷ e.field ∷ []) (area_is a.field a.value a.gives)
    ∙ ap (λ l. area_text a.value ∷ l ∷ c.field ∷ e.field ∷ []) (low_is a.value b.field b.value b.gives)
    ∙ ap (λ l. area_text a.value ∷ offset_text (low_in a.value b.value) ∷ l ∷ e.field ∷ []) (width_is c.field c.value c.gives)
    ∙ ap (λ l. area_text a.value ∷ offset_text (low_in a.value b.value) ∷ decimal (bytes_of c.value) ∷ l ∷ []) (value_is e.field e.value e.gives)
    ∙ ap fact_list d.same

pub fact_made : (fs : List (List ℕ)) (f : Fact Bounded) → fact_fields fs ≡ Some f → is_made f.value ≡ true
unfolding fact_fields
fact_made fs f h =
    let made : Area → ℕ → Width → Bounded → Fact Bounded = λ area low w v. record { area = area; low = low_in area low; w = w; value = v } in
    let third : Area → ℕ → Width → List (List ℕ) → Option (Fact Bounded) = λ area low w fs. then_field value_of fs (λ v fs. no_more (made area low w v) fs) in
    let second : Area → ℕ → List (List ℕ) → Option (Fact Bounded) = λ area low fs. then_field width_of fs (third area low) in
    let first : Area → List (List ℕ) → Option (Fact Bounded) = λ area fs. then_field word_of fs (second area) in
    let a = has_field area_of fs first f h in
    let b = has_field word_of a.others (second a.value) f a.after in
    let c = has_field width_of b.others (third a.value b.value) f b.after in
    let e = has_field value_of c.others (λ v fs. no_more (made a.value b.value c.value v) fs) f c.after in
    let d = is_done (made a.value b.value c.value e.value) f e.others e.after in
    made_along e.value f.value (ap (λ (x : Fact Bounded). x.value) d.same) (value_made e.field e.value e.gives)

abbrev pub dirty_list : Dirty → List (List ℕ)
dirty_list r = area_text r.area ∷ offset_text r.low ∷ offset_text r.size ∷ []

pub dirty_told : (fs : List (List ℕ)) (r : Dirty) → dirty_fields fs ≡ Some r → fs ≡ dirty_list r
unfolding dirty_fields
dirty_told fs r h =
    let made : Area → ℕ → ℕ → Dirty = λ area low size. record { area = area; low = low_in area low; size = pos size } in
    let second : Area → ℕ → List (List ℕ) → Option Dirty = λ area low fs. then_field word_of fs (λ size fs. no_more (made area low size) fs) in
    let first : Area → List (List ℕ) → Option Dirty = λ area fs. then_field word_of fs (second area) in
    let a = has_field area_of fs first r h in
    let b = has_field word_of a.others (second a.value) r a.after in
    let c = has_field word_of b.others (λ size fs. no_more (made a.value b.value size) fs) r b.after in
    let d = is_done (made a.value b.value c.value) r c.others c.after in
    a.begins ∙ ap (λ gs. a.field ∷ gs) b.begins ∙ ap (λ gs. a.field ∷ b.field ∷ gs) c.begins ∙ ap (λ gs. a.field ∷ b.field ∷ c.field ∷ gs) d.none
    ∙ ap (λ l. l ∷ b.field ∷ c.field ∷ []) (area_is a.field a.value a.gives)
    ∙ ap (λ l. area_text a.value ∷ l ∷ c.field ∷ []) (low_is a.value b.field b.value b.gives)
    ∙ ap (λ l. area_text a.value ∷ offset_text (low_in a.value b.value) ∷ l ∷ []) (size_is c.field c.value c.gives)
    ∙ ap dirty_list d.same

abbrev pub block_list : Counted → List (List ℕ)
block_list c = region_text c.region ∷ count_text c.many ∷ []

pub block_told : (fs : List (List ℕ)) (c : Counted) → block_fields fs ≡ Some c → fs ≡ block_list c
unfolding block_fields
block_told fs c h =
    let made : Region → Bool → Counted = λ region many. record { region = region; many = many } in
    let a = has_field region_of fs (λ region fs. then_field many_of fs (λ many fs. no_more (made region many) fs)) c h in
    let b = has_field many_of a.others (λ many fs. no_more (made a.value many) fs) c a.after in
    let d = is_done (made a.value b.value) c b.others b.after in
    a.begins ∙ ap (λ gs. a.field ∷ gs) b.begins ∙ ap (λ gs. a.field ∷ b.field ∷ gs) d.none
    ∙ ap (λ l. l ∷ b.field ∷ []) (region_is a.field a.value a.gives) ∙ ap (λ l. region_text a.value ∷ l ∷ []) (many_is b.field b.value b.gives)
    ∙ ap block_list d.same
