-- Each spelling names an instruction of a row of the table.
use Rattle.std.proofs.Common.{◌≡◌, ℕ, suc, zero, ◌+◌, ◌*◌, ◌≤◌, List, [], ◌∷◌, ◌++◌, Bool, true, false, cond, refl, sym, ◌∙◌, ap, Option, Some, None, arith}
use Rattle.std.proofs.lemmas.List.Sums.{sum_by-append}
use Rattle.std.specs.Prelude.{sum_by, ◌==◌, ◌&&◌}
use Rattle.std.specs.List.{list_all}
use Rattle.std.specs.Option.{option_and_then}
use Rattle.bit_words.specs.declared.width.Width.{Width}
use Rattle.bit_words.specs.declared.width.Width.TheVariants.{B8, B16}
use Rattle.x86_syntax.specs.declared.instr.Seg.{Seg}
use Rattle.x86_syntax.specs.declared.instr.Seg.TheVariants.{Plain}
use Rattle.x86_syntax.specs.declared.instr.Instr.{Instr}
use Rattle.x86_syntax.specs.declared.instr.Place.{Place}
use Rattle.x86_syntax.specs.declared.instr.Place.TheVariants as places
use Rattle.x86_syntax.specs.declared.prefixes.Prefixes.{Prefixes}
use Rattle.x86_syntax.specs.declared.table.Map.{Map}
use Rattle.x86_syntax.specs.declared.table.Map.TheVariants.{One, Two, Three}
use Rattle.x86_syntax.specs.declared.table.Form.{Form}
use Rattle.x86_syntax.specs.declared.table.Form.TheVariants as forms
use Rattle.x86_syntax.specs.declared.table.Row.{Row}
use Rattle.x86_syntax.specs.declared.table.TheConstants.{ROWS}
use Rattle.x86_syntax.specs.Formats.{Format, Whole, Never, Byte, matched, number_then}
use Rattle.x86_syntax.specs.Opcodes.{takes_modrm, row_of, opcode_row, has_all, has_opcode}
use Rattle.x86_syntax.specs.Spelling.{spelled_with, is_prefix, with_prefix, no_prefixes, opcodes, escaped, opcode_then, behind, behind_modrm, is_wrong_place, ending, place_then, address_then, index_register, displacement_size, mod_of, reg_of, rm_of, row_number_size, instr_of, operands, placed, Parts, word_width, segment_named}
use Rattle.x86_syntax.specs.Decodes.{HasSpelling}
use Rattle.x86_syntax.specs.Text.{operand_room}
use Rattle.x86_syntax.proofs.FormatLemmas.{never_matched}
use Rattle.x86_syntax.proofs.TableLemmas.{find_all}

-- an instruction of a row that keeps what all rows keep
pub record OfRow (i : Instr) : Type 0 where
  pub prefixes : Prefixes
  pub row : Row
  pub parts : Parts
  pub is : i ≡ instr_of prefixes row parts
  pub keeps : (fact : Row → Bool) → list_all fact ROWS ≡ true → fact row ≡ true

never_named : (s : List ℕ) (i : Instr) → matched Never s ≡ Some i → OfRow i
never_named s i h = (let none = never_matched {A = Instr} s in cc)

number_named : (n : ℕ) (go : ℕ → Format Instr) (i : Instr) → ((v : ℕ) (s : List ℕ) → matched (go v) s ≡ Some i → OfRow i) → (s : List ℕ) → matched (number_then n go) s ≡ Some i → OfRow i
unfolding matched
number_named zero go i each s h = each 0 s h
number_named (suc n) go i each [] h = cc
number_named (suc n) go i each (b ∷ s) h = number_named n (λ high. go (b + 256 * high)) i (λ v. each (b + 256 * v)) s h

whole_named : (i j : Instr) (s : List ℕ) → matched (Whole j) s ≡ Some i → j ≡ i
unfolding matched
whole_named i j [] h = cc
whole_named i j (b ∷ s) h = cc

ending_named : (p : Prefixes) (row : Row) (code modrm : ℕ) (place : Place) (i : Instr) → ((fact : Row → Bool) → list_all fact ROWS ≡ true → fact row ≡ true) → (s : List ℕ) → matched (ending p row code modrm place) s ≡ Some i → OfRow i
unfolding ending
ending_named p row code modrm place i keeps s h =
    number_named (row_number_size p row) _ i (λ v x e. record {
      prefixes = p;
      row = row;
      parts = record { code = code; modrm = modrm; place = place; number = v };
      is = sym (whole_named i (instr_of p row (record { code = code; modrm = modrm; place = place; number = v })) x e);
      keeps = keeps;
    }) s h

address_named : (mode base : ℕ) (index : Option (ℕ × ℕ)) (go : Place → Format Instr) (i : Instr) → ((place : Place) (s : List ℕ) → matched (go place) s ≡ Some i → OfRow i) → (s : List ℕ) → matched (address_then mode base index go) s ≡ Some i → OfRow i
unfolding address_then
address_named mode base index go i each s h = number_named (displacement_size mode base) _ i (λ v. each _) s h

byte_named : (next : ℕ → Format Instr) (i : Instr) → ((b : ℕ) (s : List ℕ) → matched (next b) s ≡ Some i → OfRow i) → (s : List ℕ) → matched (Byte next) s ≡ Some i → OfRow i
unfolding matched
byte_named next i each [] h = cc
byte_named next i each (b ∷ s) h = each b s h

if_named : (t : Bool) (yes_set no_set : Format Instr) (i : Instr) (s : List ℕ) → (matched yes_set s ≡ Some i → OfRow i) → (matched no_set s ≡ Some i → OfRow i) → matched (cond t yes_set no_set) s ≡ Some i → OfRow i
if_named true yes_set no_set i s there here h = there h
if_named false yes_set no_set i s there here h = here h

place_named : (m : ℕ) (go : Place → Format Instr) (i : Instr) → ((place : Place) (s : List ℕ) → matched (go place) s ≡ Some i → OfRow i) → (s : List ℕ) → matched (place_then m go) s ≡ Some i → OfRow i
unfolding place_then
place_named m go i each s h =
    if_named (mod_of m == 3) _ _ i s (each (places.Register (rm_of m)) s) (λ h.
    if_named (rm_of m == 4) _ _ i s
    (λ h. byte_named _ i (λ sib x. address_named (mod_of m) (rm_of sib) (index_register sib) go i each x) s h)
    (λ h. address_named (mod_of m) (rm_of m) None go i each s h) h) h

modrm_named : (p : Prefixes) (code m : ℕ) (found : Option Row) (i : Instr) → ((row : Row) → found ≡ Some row → (fact : Row → Bool) → list_all fact ROWS ≡ true → fact row ≡ true) → (s : List ℕ) → matched (behind_modrm p found code m) s ≡ Some i → OfRow i
unfolding behind_modrm
modrm_named p code m None i keeps s h = never_named s i h
modrm_named p code m (Some row) i keeps s h =
    if_named (is_wrong_place p row (mod_of m)) _ _ i s (never_named s i) (place_named m _ i (λ place x. ending_named p row code m place i (keeps row refl) x) s) h

row_keeps : (p : Prefixes) (map : Map) (code reg : ℕ) (row : Row) → row_of p map code reg ≡ Some row → (fact : Row → Bool) → list_all fact ROWS ≡ true → fact row ≡ true
unfolding row_of
row_keeps p map code reg row found fact all = find_all fact (has_all p map code reg) ROWS row all found

opcode_keeps : (p : Prefixes) (map : Map) (code : ℕ) (row : Row) → opcode_row p map code ≡ Some row → (fact : Row → Bool) → list_all fact ROWS ≡ true → fact row ≡ true
unfolding opcode_row
opcode_keeps p map code row found fact all = find_all fact (has_opcode p map code) ROWS row all found

behind_named : (p : Prefixes) (map : Map) (code : ℕ) (found : Option Row) (i : Instr) → ((row : Row) → found ≡ Some row → (fact : Row → Bool) → list_all fact ROWS ≡ true → fact row ≡ true) → (s : List ℕ) → matched (behind p map code found) s ≡ Some i → OfRow i
unfolding behind
behind_named p map code None i keeps s h = never_named s i h
behind_named p map code (Some row) i keeps s h =
    if_named (takes_modrm row) _ _ i s
    (byte_named _ i (λ m x. modrm_named p code m (row_of p map code (reg_of m)) i (row_keeps p map code (reg_of m)) x) s)
    (ending_named p row code 0 (places.Register 0) i (keeps row refl) s) h

opcode_named : (p : Prefixes) (map : Map) (code : ℕ) (i : Instr) (s : List ℕ) → matched (opcode_then p map code) s ≡ Some i → OfRow i
unfolding opcode_then
opcode_named p map code i s h = behind_named p map code (opcode_row p map code) i (opcode_keeps p map code) s h

opcodes_named : (p : Prefixes) (code : ℕ) (i : Instr) (s : List ℕ) → matched (opcodes p code) s ≡ Some i → OfRow i
unfolding opcodes escaped
opcodes_named p code i s h =
    if_named (code == 0x0F) _ _ i s
    (byte_named _ i (λ second x. if_named (second == 0x1E) _ _ i x (byte_named _ i (λ last y. opcode_named p Three last i y) x) (opcode_named p Two second i x)) s)
    (opcode_named p One code i s) h

pub spelled_row : (p : Prefixes) (s : List ℕ) (i : Instr) → spelled_with p s ≡ Some i → OfRow i
unfolding spelled_with
spelled_row p [] i h = cc
spelled_row p (b ∷ s) i h =
    let P : Bool → Type 0 = λ t. cond t (option_and_then (λ q. spelled_with q s) (with_prefix p b)) (matched (opcodes p b) s) ≡ Some i → OfRow i in
    let Q : Option Prefixes → Type 0 = λ o. option_and_then (λ q. spelled_with q s) o ≡ Some i → OfRow i in
    (elim (is_prefix b) as P [
      | true ↦ (elim (with_prefix p b) as Q [ None ↦ λ e. cc | (Some q) ↦ λ e. spelled_row q s i e ])
      | false ↦ λ e. opcodes_named p b i s e
    ]) h

-- the room of the operands

is_number_form : Form → Bool
is_number_form forms.Nothing = true
is_number_form forms.Iv = true
is_number_form forms.Is = true
is_number_form forms.Ib = true
is_number_form forms.Cl = true
is_number_form _ = false

has_number_third : Row → Bool
has_number_third row = is_number_form row.forms.third

all_number_third : list_all has_number_third ROWS ≡ true
unfolding has_number_third is_number_form
all_number_third = refl

placed_room : (w : Width) (segment : Seg) (place : Place) → operand_room (placed w segment place) ≤ 31
placed_room w segment (places.Register r) = omega arith
placed_room w segment (places.Memory a) = omega arith

third_room : (p : Prefixes) (parts : Parts) (form : Form) → is_number_form form ≡ true → sum_by operand_room (operands p parts form) ≤ 10
unfolding is_number_form
third_room p parts forms.Nothing h = omega arith
third_room p parts forms.V h = cc
third_room p parts forms.Eb h = cc
third_room p parts forms.Ev h = cc
third_room p parts forms.Ew h = cc
third_room p parts forms.Gb h = cc
third_room p parts forms.Gv h = cc
third_room p parts forms.M h = cc
third_room p parts forms.N h = cc
third_room p parts forms.Uv h = cc
third_room p parts forms.Ab h = cc
third_room p parts forms.Av h = cc
third_room p parts forms.Rb h = cc
third_room p parts forms.Rv h = cc
third_room p parts forms.Ib h = omega arith
third_room p parts forms.Iw h = cc
third_room p parts forms.Iv h = omega arith
third_room p parts forms.Is h = omega arith
third_room p parts forms.One h = cc
third_room p parts forms.Cl h = omega arith
third_room p parts forms.Ob h = cc
third_room p parts forms.Ov h = cc
third_room p parts forms.J8 h = cc
third_room p parts forms.J32 h = cc
third_room p parts forms.Xb h = cc
third_room p parts forms.Xv h = cc
third_room p parts forms.Yb h = cc
third_room p parts forms.Yv h = cc

form_room : (p : Prefixes) (parts : Parts) (form : Form) → sum_by operand_room (operands p parts form) ≤ 31
form_room p parts forms.Nothing = omega arith
form_room p parts forms.V = omega arith
form_room p parts forms.Eb = omega (arith, placed_room B8 (segment_named p.segment) parts.place)
form_room p parts forms.Ev = omega (arith, placed_room (word_width p) (segment_named p.segment) parts.place)
form_room p parts forms.Ew = omega (arith, placed_room B16 (segment_named p.segment) parts.place)
form_room p parts forms.Gb = omega arith
form_room p parts forms.Gv = omega arith
form_room p parts forms.M = omega (arith, placed_room (word_width p) Plain parts.place)
form_room p parts forms.N = omega (arith, placed_room (word_width p) Plain parts.place)
form_room p parts forms.Uv = omega (arith, placed_room (word_width p) Plain parts.place)
form_room p parts forms.Ab = omega arith
form_room p parts forms.Av = omega arith
form_room p parts forms.Rb = omega arith
form_room p parts forms.Rv = omega arith
form_room p parts forms.Ib = omega arith
form_room p parts forms.Iw = omega arith
form_room p parts forms.Iv = omega arith
form_room p parts forms.Is = omega arith
form_room p parts forms.One = omega arith
form_room p parts forms.Cl = omega arith
form_room p parts forms.Ob = omega arith
form_room p parts forms.Ov = omega arith
form_room p parts forms.J8 = omega arith
form_room p parts forms.J32 = omega arith
form_room p parts forms.Xb = omega arith
form_room p parts forms.Xv = omega arith
form_room p parts forms.Yb = omega arith
form_room p parts forms.Yv = omega arith

pub operands_room : (i : Instr) (len : ℕ) → HasSpelling i len → sum_by operand_room i.ops.items ≤ 72
unfolding instr_of has_number_third
operands_room i len h =
    let r = spelled_row no_prefixes h.bytes i h.names in
    let a = operands r.prefixes r.parts r.row.forms.first in
    let b = operands r.prefixes r.parts r.row.forms.second in
    let c = operands r.prefixes r.parts r.row.forms.third in
    let split : sum_by operand_room ((a ++ b) ++ c) ≡ sum_by operand_room a + sum_by operand_room b + sum_by operand_room c =
    sum_by-append operand_room (a ++ b) c ∙ ap (λ n. n + sum_by operand_room c) (sum_by-append operand_room a b) in
    let same : sum_by operand_room i.ops.items ≡ sum_by operand_room ((a ++ b) ++ c) = ap (λ (j : Instr). sum_by operand_room j.ops.items) r.is in
    omega (
      arith,
      same,
      split,
      form_room r.prefixes r.parts r.row.forms.first,
      form_room r.prefixes r.parts r.row.forms.second,
      third_room r.prefixes r.parts r.row.forms.third (r.keeps has_number_third all_number_third),
    )
