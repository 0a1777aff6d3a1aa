-- The texts of a table's fields are read as what they are of.
use Rattle.std.proofs.Common.{◌≡◌, ℕ, zero, suc, ◌-◌, ◌/◌, ◌%◌, ◌<◌, ◌≤◌, ◌^◌, ◌==◌, Bool, true, false, List, [], ◌∷◌, ◌++◌, length, map, Option, None, Some, refl, ◌∙◌, ap, arith, append_assoc, nat_lt, decimal, ℤ, pos, negsuc, neg_ℤ, ◌+ℤ◌, ◌≤ℤ◌, ◌<ℤ◌}
use Rattle.std.specs.Prelude.{codes, nat_le, not, ◌&&◌, int_le, int_lt, is_some, unsigned_abs, option_and_then, option_map, if◌then◌else◌}
use Rattle.std.specs.List.{list_all}
use Rattle.std.specs.Str.{bytes_eq}
use Rattle.std.proofs.lemmas.Bool.Decides.{nat_tests}
use Rattle.std.proofs.lemmas.Fmt.{decimal_digit}
use Rattle.std.proofs.lemmas.Int.{ints}
use Rattle.std.proofs.lemmas.List.Folds.{list_all-append}
use Rattle.memory_map.specs.Image.{Image, IsLoaded}
use Rattle.memory_map.specs.Range.{USER_LOW, byte_at, maps_all}
use Rattle.memory_map.proofs.Mappings.{mapped_inside}
use Rattle.text_fields.specs.Decimal.{decimal_below}
use Rattle.text_fields.specs.Fields.{no_more, then_field, word_of, bool_of, bool_text}
use Rattle.text_fields.specs.Hex.{hex8, hex_digit, hex_digits}
use Rattle.text_fields.proofs.DecimalFacts.{decimal_read}
use Rattle.text_fields.proofs.FieldTexts.{word_read, then_given, bool_read}
use Rattle.bit_words.specs.declared.width.Width.{Width}
use Rattle.bit_words.specs.declared.width.Width.TheVariants.{B8, B16, B32}
use Rattle.bit_words.specs.Width.{bytes_of, is_signed, signed_of, word_of as word_in}
use Rattle.address_regions.specs.declared.region.Region.{Region}
use Rattle.address_regions.specs.declared.region.Region.TheVariants.{Stack, Fs, Gs, Block}
use Rattle.address_regions.specs.Extents.{has_room}
use Rattle.bounded_values.specs.declared.value.Bounded.{Bounded}
use Rattle.bounded_values.specs.declared.value.Bounded.TheVariants.{Number, Exact, Inside, Any}
use Rattle.bounded_values.specs.BoundedLaws.{bounded}
use Rattle.partitioned_memory.specs.declared.area.Area.{Area}
use Rattle.partitioned_memory.specs.declared.area.Area.TheVariants.{Image as ImageArea, In}
use Rattle.partitioned_memory.specs.declared.fact.Fact.{Fact}
use Rattle.partitioned_memory.specs.declared.fact.Dirty.{Dirty}
use Rattle.partitioned_memory.specs.declared.fact.Counted.{Counted}
use Rattle.partitioned_memory.specs.Areas.{bounds_of, interval_at, is_marked}
use Rattle.partitioned_memory.specs.Building.{is_sound_dirty, is_sound_fact, lies_inside}
use Rattle.partitioned_memory.specs.Held.{interval_of_dirty, interval_of_fact}
use Rattle.partitioned_memory.proofs.Orders.{int_le-true, int_lt-true}
use Rattle.abstract_state.specs.declared.truth.Truth.{Truth}
use Rattle.abstract_state.specs.declared.truth.Truth.TheVariants.{Yes, No, Unknown}
use Rattle.abstract_state.specs.declared.note.Note.{Note}
use Rattle.abstract_state.specs.declared.note.Note.TheVariants.{Register, Word}
use Rattle.abstract_state.specs.Building.{are_image_bytes, is_dirty_of, is_well_note}
use Rattle.table_check.specs.Fields.{area_of, block_by, block_fields, block_of, dirty_fields, fact_fields, flags_fields, flags_of, inside_in, k_fields, k_of, low_in, many_of, note_fields, place_by, region_by, region_of, register_note, register_of, regs_fields, truth_of, truths_by, value_by, value_of, width_of, word_note}
use Rattle.table_check.specs.Text.{area_text, count_text, offset_text, region_text, truth_code, value_text}
use Rattle.table_check.specs.TextLaws.{fits_area, fits_count, fits_dirty, fits_fact, fits_note, fits_region, fits_value, is_made}
use Rattle.table_check.proofs.FieldsTold.{block_list, dirty_list, fact_list, note_list, low_bits}
use Rattle.std.proofs.lemmas.Bool.{and_parts, and_from}
use Rattle.text_fields.proofs.Cutting.{cut-there, cut-nowhere, lacks}
use Rattle.text_fields.specs.Lines.{cut_at}
use Rattle.text_fields.proofs.PlainTexts.{is_plain, plain_word, plain_decimal, digit_above}
use Rattle.automaton_text.specs.Laws.{is_word}
use Rattle.automaton_text.proofs.Ascending.{less, test_less}
use Rattle.automaton_text.proofs.ReadBack.{word_small}

-- ---- small facts

not_less : (a b : ℕ) → b ≤ a → nat_lt a b ≡ false
not_less a b h = grind (arith, nat_tests)

-- ---- bytes of texts

all_both : (p : ℕ → Bool) (a b : List ℕ) → list_all p a ≡ true → list_all p b ≡ true → list_all p (a ++ b) ≡ true
all_both p a b e f = list_all-append p a b ∙ and_from (list_all p a) (list_all p b) e f

all_digits : (p : ℕ → Bool) → ((d : ℕ) → d < 16 → p (hex_digit d) ≡ true) → (k n : ℕ) → list_all p (hex_digits k n) ≡ true
unfolding hex_digits
all_digits p digit zero n = refl
all_digits p digit (suc k) n =
    all_both p (hex_digits k (n / 16)) (hex_digit (n % 16) ∷ []) (all_digits p digit k (n / 16)) (and_from (p (hex_digit (n % 16))) true (digit (n % 16) (omega arith)) refl)

all_word : (p : ℕ → Bool) → ((d : ℕ) → d < 16 → p (hex_digit d) ≡ true) → (n : ℕ) → list_all p (hex8 n) ≡ true
unfolding hex8
all_word p digit n = all_digits p digit 8 n

all_region : (p : ℕ → Bool) → ((d : ℕ) → d < 16 → p (hex_digit d) ≡ true) → list_all p (codes "stack") ≡ true → list_all p (codes "fs") ≡ true → list_all p (codes "gs") ≡ true
    → list_all p (codes "b.") ≡ true → list_all p (codes ".") ≡ true → list_all p (codes "1") ≡ true → list_all p (codes "0") ≡ true → (r : Region) → list_all p (region_text r) ≡ true
unfolding region_text
all_region p digit stack fs gs block dot one none Stack = stack
all_region p digit stack fs gs block dot one none Fs = fs
all_region p digit stack fs gs block dot one none Gs = gs
all_region p digit stack fs gs block dot one none (Block site size zeroed) =
    let a = hex8 site in
    let b = hex8 size in
    let bit : list_all p (bool_text zeroed) ≡ true = elim zeroed as (λ z. list_all p (bool_text z) ≡ true) [ true ↦ one | false ↦ none ] in
    all_both p (codes "b." ++ a ++ codes "." ++ b ++ codes ".") (bool_text zeroed)
    (all_both p (codes "b." ++ a ++ codes "." ++ b) (codes ".")
    (all_both p (codes "b." ++ a ++ codes ".") b (all_both p (codes "b." ++ a) (codes ".") (all_both p (codes "b.") a block (all_word p digit site)) dot) (all_word p digit size)) dot) bit

digit_no_dot : (d : ℕ) → d < 16 → not (hex_digit d == 46) ≡ true
unfolding hex_digit
digit_no_dot d small = grind (arith, nat_tests)

digit_no_colon : (d : ℕ) → d < 16 → not (hex_digit d == 58) ≡ true
unfolding hex_digit
digit_no_colon d small = grind (arith, nat_tests)

pub plain_region : (r : Region) → is_plain (region_text r) ≡ true
plain_region r = all_region (nat_lt 32) (λ d small. digit_above d) refl refl refl refl refl refl refl r

pub plain_area : (a : Area) → is_plain (area_text a) ≡ true
plain_area ImageArea = refl
plain_area (In r) = plain_region r

pub plain_value_text : (v : Bounded) → is_plain (value_text v) ≡ true
unfolding value_text
plain_value_text (Number n) = plain_word n
plain_value_text (Exact r o) =
    all_both (nat_lt 32) (codes "e:" ++ region_text r ++ codes ":") (offset_text o)
    (all_both (nat_lt 32) (codes "e:" ++ region_text r) (codes ":") (all_both (nat_lt 32) (codes "e:") (region_text r) refl (plain_region r)) refl) (plain_word (word_in B32 o))
plain_value_text (Inside r) = all_both (nat_lt 32) (codes "i:") (region_text r) refl (plain_region r)
plain_value_text Any = refl

pub plain_width : (w : Width) → is_plain (decimal (bytes_of w)) ≡ true
plain_width B8 = plain_decimal 1 (omega arith)
plain_width B16 = plain_decimal 2 (omega arith)
plain_width B32 = plain_decimal 4 (omega arith)

pub plain_truths : (ts : List Truth) → is_plain (map truth_code ts) ≡ true
plain_truths [] = refl
plain_truths (Yes ∷ ts) = plain_truths ts
plain_truths (No ∷ ts) = plain_truths ts
plain_truths (Unknown ∷ ts) = plain_truths ts

pub plain_count : (many : Bool) → is_plain (count_text many) ≡ true
plain_count true = refl
plain_count false = refl

no_dot : (n : ℕ) → lacks 46 (hex8 n) ≡ true
no_dot n = all_word (λ b. not (b == 46)) digit_no_dot n

no_colon : (n : ℕ) → lacks 58 (hex8 n) ≡ true
no_colon n = all_word (λ b. not (b == 58)) digit_no_colon n

region_no_colon : (r : Region) → lacks 58 (region_text r) ≡ true
region_no_colon r = all_region (λ b. not (b == 58)) digit_no_colon refl refl refl refl refl refl refl r

-- ---- offsets and sizes

signed_from : (n m : ℕ) → n < 2 ^ 31 → m ≡ n → (if nat_lt m (2 ^ 31) then pos m else negsuc (2 ^ 32 - 1 - m)) ≡ pos n
signed_from n m small is = ap (λ t. if t then pos m else negsuc (2 ^ 32 - 1 - m)) (test_less m (2 ^ 31) (omega (arith, is))) ∙ ap pos is

signed_below : (n m : ℕ) → n < 2 ^ 31 → m ≡ 2 ^ 32 - 1 - n → (if nat_lt m (2 ^ 31) then pos m else negsuc (2 ^ 32 - 1 - m)) ≡ negsuc n
signed_below n m small is =
    let back : 2 ^ 32 - 1 - m ≡ n = omega (arith, is) in
    ap (λ t. if t then pos m else negsuc (2 ^ 32 - 1 - m)) (not_less m (2 ^ 31) (omega (arith, is))) ∙ ap negsuc back

signed_pos : (n : ℕ) → n < 2 ^ 31 → signed_of B32 (word_in B32 (pos n)) ≡ pos n
signed_pos n small =
    let once : n % 2 ^ 32 ≡ n = low_bits n (omega arith) in
    signed_from n (n % 2 ^ 32 % 2 ^ 32) small (low_bits (n % 2 ^ 32) (omega arith) ∙ once)

signed_neg : (n : ℕ) → n < 2 ^ 31 → signed_of B32 (word_in B32 (negsuc n)) ≡ negsuc n
signed_neg n small =
    let once : 2 ^ 32 - 1 - n % 2 ^ 32 ≡ 2 ^ 32 - 1 - n = ap (λ m. 2 ^ 32 - 1 - m) (low_bits n (omega arith)) in
    signed_below n ((2 ^ 32 - 1 - n % 2 ^ 32) % 2 ^ 32) small (low_bits (2 ^ 32 - 1 - n % 2 ^ 32) (omega arith) ∙ once)

-- a signed word is read back
pub signed_read : (o : ℤ) → is_signed B32 o ≡ true → signed_of B32 (word_in B32 o) ≡ o
signed_read (pos n) e = signed_pos n (less n (2 ^ 31) e)
signed_read (negsuc n) e = signed_neg n (less n (2 ^ 31) e)

is_signed_by : (o : ℤ) → neg_ℤ (pos (2 ^ 31)) ≤ℤ o → o <ℤ pos (2 ^ 31) → is_signed B32 o ≡ true
is_signed_by (pos n) low high = test_less n (2 ^ 31) (omega (arith, ints, high))
is_signed_by (negsuc n) low high = test_less n (2 ^ 31) (omega (arith, ints, low))

-- an offset from 0 on is read back
unsigned_read : (o : ℤ) → pos 0 ≤ℤ o → o <ℤ pos (2 ^ 32) → pos (word_in B32 o) ≡ o
unsigned_read (pos n) low high = ap pos (low_bits n (omega (arith, ints, high)))
unsigned_read (negsuc n) low high = absurd (omega (arith, ints, low))

word_bound : (o : ℤ) → word_in B32 o < 2 ^ 32
word_bound (pos n) = omega arith
word_bound (negsuc n) = omega arith

pub offset_read : (o : ℤ) → word_of (offset_text o) ≡ Some (word_in B32 o)
offset_read o = word_read (word_in B32 o) (word_bound o)

record Lies (a : Area) (low end : ℤ) : Type 0 where
  from : (bounds_of a).0 ≤ℤ low
  filled : low ≤ℤ end
  to : end ≤ℤ (bounds_of a).1
  least : end ≤ℤ pos (2 ^ 32)

lies_of : (a : Area) (low end : ℤ) → (int_le (bounds_of a).0 low && (int_le low end && (int_le end (bounds_of a).1 && int_le end (pos (2 ^ 32))))) ≡ true → Lies a low end
lies_of a low end e =
    let p = and_parts (int_le (bounds_of a).0 low) (int_le low end && (int_le end (bounds_of a).1 && int_le end (pos (2 ^ 32)))) e in
    let q = and_parts (int_le low end) (int_le end (bounds_of a).1 && int_le end (pos (2 ^ 32))) p.1 in
    let r = and_parts (int_le end (bounds_of a).1) (int_le end (pos (2 ^ 32))) q.1 in
    record {
      from = int_le-true (bounds_of a).0 low p.0;
      filled = int_le-true low end q.0;
      to = int_le-true end (bounds_of a).1 r.0;
      least = int_le-true end (pos (2 ^ 32)) r.1;
    }

low_by : (a : Area) (low end : ℤ) → low <ℤ end → Lies a low end → low_in a (word_in B32 low) ≡ low
low_by ImageArea low end some is = unsigned_read low is.from (let l = is.least in omega (arith, ints, l, some))
low_by (In Stack) low end some is =
    let f = is.from in
    let t = is.to in
    signed_read low (is_signed_by low (omega (arith, ints, f)) (omega (arith, ints, t, some)))
low_by (In Fs) low end some is =
    let f = is.from in
    let t = is.to in
    signed_read low (is_signed_by low (omega (arith, ints, f)) (omega (arith, ints, t, some)))
low_by (In Gs) low end some is =
    let f = is.from in
    let t = is.to in
    signed_read low (is_signed_by low (omega (arith, ints, f)) (omega (arith, ints, t, some)))
low_by (In (Block site size zeroed)) low end some is = unsigned_read low is.from (let l = is.least in omega (arith, ints, l, some))

-- an offset of bytes of an area is read back
pub low_read : (a : Area) (low size : ℤ) → low <ℤ (low +ℤ size) → lies_inside (interval_at a low size) ≡ true → low_in a (word_in B32 low) ≡ low
low_read a low size some e = low_by a low (low +ℤ size) some (lies_of a low (low +ℤ size) e)

-- ---- regions and areas

block_shape : (a b c : List ℕ) → codes "b." ++ a ++ codes "." ++ b ++ codes "." ++ c ≡ codes "b" ++ 46 ∷ (a ++ 46 ∷ (b ++ 46 ∷ c))
block_shape a b c = simp append_assoc

block_by_read : (site size : ℕ) (zeroed : Bool) → site < 2 ^ 32 → size < 2 ^ 32 → block_by (hex8 site) (hex8 size) (bool_text zeroed) ≡ Some (Block site size zeroed)
block_by_read site size zeroed small less =
    ap (option_and_then (λ (a : ℕ). option_and_then (λ (b : ℕ). option_map (λ z. Block a b z) (bool_of (bool_text zeroed))) (word_of (hex8 size)))) (word_read site small)
    ∙ ap (option_and_then (λ (b : ℕ). option_map (λ z. Block site b z) (bool_of (bool_text zeroed)))) (word_read size less)
    ∙ ap (option_map (λ z. Block site size z)) (bool_read zeroed)

block_read : (site size : ℕ) (zeroed : Bool) → site < 2 ^ 32 → size < 2 ^ 32 → block_of (hex8 site ++ 46 ∷ (hex8 size ++ 46 ∷ bool_text zeroed)) ≡ Some (Block site size zeroed)
block_read site size zeroed small less =
    let rest : List ℕ = hex8 size ++ 46 ∷ bool_text zeroed in
    let go : List ℕ × List ℕ → Option Region = λ first. option_and_then (λ (second : List ℕ × List ℕ). block_by first.0 second.0 second.1) (cut_at 46 first.1) in
    let on : List ℕ × List ℕ → Option Region = λ second. block_by (hex8 site) second.0 second.1 in
    ap (option_and_then go) (cut-there 46 (hex8 site) rest (no_dot site))
    ∙ ap (option_and_then on) (cut-there 46 (hex8 size) (bool_text zeroed) (no_dot size))
    ∙ block_by_read site size zeroed small less

pub region_read : (r : Region) → fits_region r ≡ true → region_of (region_text r) ≡ Some r
unfolding region_of region_text
region_read Stack fits = refl
region_read Fs fits = refl
region_read Gs fits = refl
region_read (Block site size zeroed) fits =
    let f = and_parts (is_word site) (is_word size) fits in
    let rest : List ℕ = hex8 site ++ 46 ∷ (hex8 size ++ 46 ∷ bool_text zeroed) in
    ap (λ l. region_by l (cut_at 46 l)) (block_shape (hex8 site) (hex8 size) (bool_text zeroed))
    ∙ ap (region_by (codes "b" ++ 46 ∷ rest)) (cut-there 46 (codes "b") rest refl)
    ∙ block_read site size zeroed (word_small site f.0) (word_small size f.1)

not_image : (r : Region) → bytes_eq (region_text r) (codes "image") ≡ false
unfolding region_text
not_image Stack = refl
not_image Fs = refl
not_image Gs = refl
not_image (Block site size zeroed) = ap (λ l. bytes_eq l (codes "image")) (block_shape (hex8 site) (hex8 size) (bool_text zeroed))

pub area_read : (a : Area) → fits_area a ≡ true → area_of (area_text a) ≡ Some a
unfolding area_of
area_read ImageArea fits = refl
area_read (In r) fits =
    ap (λ t. if t then Some ImageArea else option_map (λ s. In s) (region_of (region_text r))) (not_image r)
    ∙ ap (option_map (λ s. In s)) (region_read r fits)

-- ---- values

digit_no_letter : (d : ℕ) → d < 16 → (hex_digit d == 97) ≡ false
unfolding hex_digit
digit_no_letter d small = grind (arith, nat_tests)

-- digits are not the letter of all numbers
not_any : (n : ℕ) → bytes_eq (hex8 n) (codes "a") ≡ false
unfolding hex8 hex_digits
not_any n =
    let d : ℕ = n / 16 / 16 / 16 / 16 / 16 / 16 / 16 % 16 in
    let e : ℕ = n / 16 / 16 / 16 / 16 / 16 / 16 % 16 in
    ap (λ t. t && bytes_eq (hex_digit e ∷ hex_digit (n / 16 / 16 / 16 / 16 / 16 % 16) ∷ hex_digit (n / 16 / 16 / 16 / 16 % 16) ∷ hex_digit (n / 16 / 16 / 16 % 16) ∷ hex_digit (n / 16 / 16 % 16) ∷ hex_digit (n / 16 % 16) ∷ hex_digit (n % 16) ∷ []) [])
    (digit_no_letter d (omega arith))

number_read : (n : ℕ) → n < 2 ^ 32 → value_of (hex8 n) ≡ Some (Number n)
unfolding value_of
number_read n small =
    ap (value_by (hex8 n)) (cut-nowhere 58 (hex8 n) (no_colon n))
    ∙ ap (λ t. if t then Some Any else option_map (λ m. Number m) (word_of (hex8 n))) (not_any n)
    ∙ ap (option_map (λ m. Number m)) (word_read n small)

exact_shape : (region offset : List ℕ) → codes "e:" ++ region ++ codes ":" ++ offset ≡ codes "e" ++ 58 ∷ (region ++ 58 ∷ offset)
exact_shape region offset = simp append_assoc

exact_read : (r : Region) (o : ℤ) → fits_region r ≡ true → is_signed B32 o ≡ true → value_of (codes "e:" ++ region_text r ++ codes ":" ++ offset_text o) ≡ Some (Exact r o)
unfolding value_of
exact_read r o fits signed =
    let rest : List ℕ = region_text r ++ 58 ∷ offset_text o in
    let go : List ℕ × List ℕ → Option Bounded = λ p. place_by p.0 p.1 in
    ap (λ l. value_by l (cut_at 58 l)) (exact_shape (region_text r) (offset_text o))
    ∙ ap (value_by (codes "e" ++ 58 ∷ rest)) (cut-there 58 (codes "e") rest refl)
    ∙ ap (option_and_then go) (cut-there 58 (region_text r) (offset_text o) (region_no_colon r))
    ∙ ap (option_and_then (λ s. option_map (λ n. Exact s (signed_of B32 n)) (word_of (offset_text o)))) (region_read r fits)
    ∙ ap (option_map (λ n. Exact r (signed_of B32 n))) (offset_read o)
    ∙ ap (λ (z : ℤ). Some (Exact r z)) (signed_read o signed)

inside_read : (r : Region) → fits_region r ≡ true → has_room r ≡ true → value_of (codes "i:" ++ region_text r) ≡ Some (Inside r)
unfolding value_of
inside_read r fits room =
    ap (value_by (codes "i" ++ 58 ∷ region_text r)) (cut-there 58 (codes "i") (region_text r) refl)
    ∙ ap (option_and_then inside_in) (region_read r fits)
    ∙ ap (λ t. if t then Some (Inside r) else None) room

pub value_read : (v : Bounded) → fits_value v ≡ true → is_made v ≡ true → value_of (value_text v) ≡ Some v
unfolding value_of value_text
value_read (Number n) fits made = number_read n (word_small n fits)
value_read (Exact r o) fits made = let f = and_parts (fits_region r) (is_signed B32 o) fits in exact_read r o f.0 f.1
value_read (Inside r) fits made = inside_read r fits made
value_read Any fits made = refl

-- ---- other forms

truth_read : (t : Truth) → truth_of (truth_code t) ≡ Some t
truth_read Yes = refl
truth_read No = refl
truth_read Unknown = refl

truths_read : (ts : List Truth) → truths_by (map truth_code ts) ≡ Some ts
truths_read [] = refl
truths_read (t ∷ ts) =
    ap (option_and_then (λ u. option_map (λ us. u ∷ us) (truths_by (map truth_code ts)))) (truth_read t) ∙ ap (option_map (λ us. t ∷ us)) (truths_read ts)

length-codes : (ts : List Truth) → length (map truth_code ts) ≡ length ts
length-codes [] = refl
length-codes (t ∷ ts) = ap suc (length-codes ts)

flags_read : (ts : List Truth) → length ts ≡ 7 → flags_of (map truth_code ts) ≡ Some ts
flags_read ts seven = ap (λ n. if n == 7 then truths_by (map truth_code ts) else None) (length-codes ts ∙ seven) ∙ truths_read ts

width_read : (w : Width) → width_of (decimal (bytes_of w)) ≡ Some w
width_read B8 = ap width_of (decimal_digit 1 (omega arith))
width_read B16 = ap width_of (decimal_digit 2 (omega arith))
width_read B32 = ap width_of (decimal_digit 4 (omega arith))

many_read : (b : Bool) → many_of (count_text b) ≡ Some b
many_read true = refl
many_read false = refl

below_read : (n : ℕ) → n < 2 ^ 64 → decimal_below (2 ^ 64) (decimal n) ≡ Some n
below_read n small =
    ap (option_and_then (λ m. if nat_lt m (2 ^ 64) then Some m else None)) (decimal_read n small) ∙ ap (λ t. if t then Some n else None) (test_less n (2 ^ 64) small)

most_true : (a b : ℕ) → a ≤ b → nat_le a b ≡ true
most_true a b h = grind (arith, nat_tests)

k_read : (k : ℕ) → 1 ≤ k → k ≤ 1024 → k_of (decimal k) ≡ Some k
k_read k least greatest =
    ap (option_and_then (λ n. if nat_le 1 n && nat_le n 1024 then Some n else None)) (below_read k (omega arith))
    ∙ ap (λ t. if t then Some k else None) (and_from (nat_le 1 k) (nat_le k 1024) (most_true 1 k least) (most_true k 1024 greatest))

register_read : (r : ℕ) → nat_lt r 8 ≡ true → register_of (decimal r) ≡ Some r
register_read r small =
    let below : r < 8 = less r 8 small in
    ap (option_and_then (λ n. if nat_lt n 8 then Some n else None)) (below_read r (omega (arith, below))) ∙ ap (λ t. if t then Some r else None) small

-- ---- lines behind their first words

pub k_back : (k : ℕ) → 1 ≤ k → k ≤ 1024 → k_fields (decimal k ∷ []) ≡ Some k
unfolding k_fields
k_back k least greatest = then_given k_of (decimal k) [] k (λ n fs. no_more n fs) (k_read k least greatest)

pub flags_back : (ts : List Truth) → length ts ≡ 7 → flags_fields (map truth_code ts ∷ []) ≡ Some ts
unfolding flags_fields
flags_back ts seven = then_given flags_of (map truth_code ts) [] ts (λ us fs. no_more us fs) (flags_read ts seven)

pub regs_back : (a b c d e f g h : Bounded) → (let vs : List Bounded = a ∷ b ∷ c ∷ d ∷ e ∷ f ∷ g ∷ h ∷ [] in list_all fits_value vs ≡ true)
    → (let vs : List Bounded = a ∷ b ∷ c ∷ d ∷ e ∷ f ∷ g ∷ h ∷ [] in list_all is_made vs ≡ true)
    → (let vs : List Bounded = a ∷ b ∷ c ∷ d ∷ e ∷ f ∷ g ∷ h ∷ [] in regs_fields (map value_text vs) ≡ Some vs)
unfolding regs_fields
regs_back a b c d e f g h fits made =
    let t : Bounded → List ℕ = value_text in
    let fa = and_parts (fits_value a) _ fits in
    let fb = and_parts (fits_value b) _ fa.1 in
    let fc = and_parts (fits_value c) _ fb.1 in
    let fd = and_parts (fits_value d) _ fc.1 in
    let fe = and_parts (fits_value e) _ fd.1 in
    let ff = and_parts (fits_value f) _ fe.1 in
    let fg = and_parts (fits_value g) _ ff.1 in
    let fh = and_parts (fits_value h) true fg.1 in
    let ma = and_parts (is_made a) _ made in
    let mb = and_parts (is_made b) _ ma.1 in
    let mc = and_parts (is_made c) _ mb.1 in
    let md = and_parts (is_made d) _ mc.1 in
    let me = and_parts (is_made e) _ md.1 in
    let mf = and_parts (is_made f) _ me.1 in
    let mg = and_parts (is_made g) _ mf.1 in
    let mh = and_parts (is_made h) true mg.1 in
    then_given value_of (t a) (t b ∷ t c ∷ t d ∷ t e ∷ t f ∷ t g ∷ t h ∷ []) a _ (value_read a fa.0 ma.0)
    ∙ then_given value_of (t b) (t c ∷ t d ∷ t e ∷ t f ∷ t g ∷ t h ∷ []) b _ (value_read b fb.0 mb.0)
    ∙ then_given value_of (t c) (t d ∷ t e ∷ t f ∷ t g ∷ t h ∷ []) c _ (value_read c fc.0 mc.0)
    ∙ then_given value_of (t d) (t e ∷ t f ∷ t g ∷ t h ∷ []) d _ (value_read d fd.0 md.0)
    ∙ then_given value_of (t e) (t f ∷ t g ∷ t h ∷ []) e _ (value_read e fe.0 me.0)
    ∙ then_given value_of (t f) (t g ∷ t h ∷ []) f _ (value_read f ff.0 mf.0)
    ∙ then_given value_of (t g) (t h ∷ []) g _ (value_read g fg.0 mg.0)
    ∙ then_given value_of (t h) [] h (λ x fs. no_more (a ∷ b ∷ c ∷ d ∷ e ∷ f ∷ g ∷ x ∷ []) fs) (value_read h fh.0 mh.0)

stack_word : (o : ℤ) → lies_inside (interval_at (In Stack) o (pos 4)) ≡ true → signed_of B32 (word_in B32 o) ≡ o
stack_word o e = low_read (In Stack) o (pos 4) (omega (arith, ints)) e

pub note_back : (n : Note) → fits_note n ≡ true → is_well_note n ≡ true → note_fields (note_list n) ≡ Some n
unfolding note_fields register_note word_note
note_back (Register r c) fits well =
    then_given register_of (decimal r) (hex8 c ∷ []) r (λ x fs. then_field word_of fs (λ y fs. no_more (Register x y) fs)) (register_read r well)
    ∙ then_given word_of (hex8 c) [] c (λ y fs. no_more (Register r y) fs) (word_read c (word_small c fits))
note_back (Word o c) fits well =
    then_given word_of (offset_text o) (hex8 c ∷ []) (word_in B32 o) (λ x fs. then_field word_of fs (λ y fs. no_more (Word (signed_of B32 x) y) fs)) (offset_read o)
    ∙ then_given word_of (hex8 c) [] c (λ y fs. no_more (Word (signed_of B32 (word_in B32 o)) y) fs) (word_read c (word_small c fits))
    ∙ ap (λ (z : ℤ). Some (Word z c)) (stack_word o well)

width_filled : (low : ℤ) (w : Width) → low <ℤ (low +ℤ pos (bytes_of w))
width_filled low B8 = omega (arith, ints)
width_filled low B16 = omega (arith, ints)
width_filled low B32 = omega (arith, ints)

pub fact_back : (f : Fact Bounded) → fits_fact f ≡ true → is_made f.value ≡ true → is_sound_fact bounded f ≡ true → fact_fields (fact_list f) ≡ Some f
unfolding fact_fields
fact_back f fits made sound =
    let fa = and_parts (fits_area f.area) (fits_value f.value) fits in
    let inside = (and_parts (lies_inside (interval_of_fact f)) _ sound).0 in
    let make : Area → ℤ → Width → Bounded → Fact Bounded = λ area low w v. record { area = area; low = low; w = w; value = v } in
    let n : ℕ = word_in B32 f.low in
    let a : List ℕ = area_text f.area in
    let b : List ℕ = offset_text f.low in
    let c : List ℕ = decimal (bytes_of f.w) in
    let d : List ℕ = value_text f.value in
    then_given area_of a (b ∷ c ∷ d ∷ []) f.area (λ area fs. then_field word_of fs (λ low fs. then_field width_of fs (λ w fs. then_field value_of fs (λ v fs. no_more (make area (low_in area low) w v) fs)))) (area_read f.area fa.0)
    ∙ then_given word_of b (c ∷ d ∷ []) n (λ low fs. then_field width_of fs (λ w fs. then_field value_of fs (λ v fs. no_more (make f.area (low_in f.area low) w v) fs))) (offset_read f.low)
    ∙ then_given width_of c (d ∷ []) f.w (λ w fs. then_field value_of fs (λ v fs. no_more (make f.area (low_in f.area n) w v) fs)) (width_read f.w)
    ∙ then_given value_of d [] f.value (λ v fs. no_more (make f.area (low_in f.area n) f.w v) fs) (value_read f.value fa.1 made)
    ∙ ap (λ (z : ℤ). Some (make f.area z f.w f.value)) (low_read f.area f.low (pos (bytes_of f.w)) (width_filled f.low f.w) inside)

-- ---- sizes of dirty ranges

-- the first of some bytes that are mapped lies where a program's memory may
first_mapped : (image : Image) (a n : ℕ) → IsLoaded image → maps_all image.segments a (suc n) ≡ true → USER_LOW ≤ a
first_mapped image a n loaded e =
    let first = and_parts (is_some (byte_at image.segments a)) _ e in
    (mapped_inside image.segments a first.0 loaded.map.inside).0

size_of_image : (image : Image) (low size : ℤ) → IsLoaded image → pos 0 ≤ℤ low → low <ℤ (low +ℤ size) → (low +ℤ size) ≤ℤ pos (2 ^ 32) → maps_all image.segments (unsigned_abs low) (unsigned_abs size) ≡ true → size <ℤ pos (2 ^ 32)
size_of_image image (pos a) (pos zero) loaded from some to e = absurd (omega (arith, ints, some))
size_of_image image (pos a) (pos (suc n)) loaded from some to e = let l = first_mapped image a n loaded e in omega (arith, ints, l, to)
size_of_image image (pos a) (negsuc n) loaded from some to e = omega (arith, ints)
size_of_image image (negsuc a) size loaded from some to e = absurd (omega (arith, ints, from))

size_by : (image : Image) (a : Area) (low size : ℤ) → IsLoaded image → fits_area a ≡ true → low <ℤ (low +ℤ size) → Lies a low (low +ℤ size) → is_marked a ≡ true → are_image_bytes image a low size ≡ true
    → size <ℤ pos (2 ^ 32)
size_by image ImageArea low size loaded fits some is marked bytes =
    let p = and_parts (int_le (pos 0) low) _ bytes in
    let q = and_parts (int_le (low +ℤ size) (pos (2 ^ 32))) (maps_all image.segments (unsigned_abs low) (unsigned_abs size)) p.1 in
    size_of_image image low size loaded is.from some is.least q.1
size_by image (In Stack) low size loaded fits some is marked bytes = cc
size_by image (In Fs) low size loaded fits some is marked bytes = cc
size_by image (In Gs) low size loaded fits some is marked bytes = cc
size_by image (In (Block site long zeroed)) low size loaded fits some is marked bytes =
    let f = and_parts (is_word site) (is_word long) fits in
    let small : long < 2 ^ 32 = word_small long f.1 in
    let from : pos 0 ≤ℤ low = is.from in
    let to : (low +ℤ size) ≤ℤ pos long = is.to in
    omega (arith, ints, small, from, to)

pub dirty_back : (image : Image) (r : Dirty) → IsLoaded image → fits_dirty r ≡ true → is_sound_dirty r ≡ true → is_dirty_of image r ≡ true → dirty_fields (dirty_list r) ≡ Some r
unfolding dirty_fields
dirty_back image r loaded fits sound bytes =
    let p = and_parts (int_lt r.low (r.low +ℤ r.size)) _ sound in
    let q = and_parts (lies_inside (interval_of_dirty r)) (is_marked r.area) p.1 in
    let some : r.low <ℤ (r.low +ℤ r.size) = int_lt-true r.low (r.low +ℤ r.size) p.0 in
    let small : r.size <ℤ pos (2 ^ 32) = size_by image r.area r.low r.size loaded fits some (lies_of r.area r.low (r.low +ℤ r.size) q.0) q.1 bytes in
    let least : pos 0 ≤ℤ r.size = omega (arith, ints, some) in
    let make : Area → ℤ → ℤ → Dirty = λ area low size. record { area = area; low = low; size = size } in
    let n : ℕ = word_in B32 r.low in
    let m : ℕ = word_in B32 r.size in
    let a : List ℕ = area_text r.area in
    let b : List ℕ = offset_text r.low in
    let c : List ℕ = offset_text r.size in
    then_given area_of a (b ∷ c ∷ []) r.area (λ area fs. then_field word_of fs (λ low fs. then_field word_of fs (λ size fs. no_more (make area (low_in area low) (pos size)) fs))) (area_read r.area fits)
    ∙ then_given word_of b (c ∷ []) n (λ low fs. then_field word_of fs (λ size fs. no_more (make r.area (low_in r.area low) (pos size)) fs)) (offset_read r.low)
    ∙ then_given word_of c [] m (λ size fs. no_more (make r.area (low_in r.area n) (pos size)) fs) (offset_read r.size)
    ∙ ap (λ (z : ℤ). Some (make r.area z (pos m))) (low_read r.area r.low r.size some q.0)
    ∙ ap (λ (z : ℤ). Some (make r.area r.low z)) (unsigned_read r.size least small)

pub block_back : (c : Counted) → fits_count c ≡ true → block_fields (block_list c) ≡ Some c
unfolding block_fields
block_back c fits =
    let make : Region → Bool → Counted = λ region many. record { region = region; many = many } in
    then_given region_of (region_text c.region) (count_text c.many ∷ []) c.region (λ region fs. then_field many_of fs (λ many fs. no_more (make region many) fs)) (region_read c.region fits)
    ∙ then_given many_of (count_text c.many) [] c.many (λ many fs. no_more (make c.region many) fs) (many_read c.many)
