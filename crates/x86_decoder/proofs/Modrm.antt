-- The set behind an opcode with a ModRM byte.
use Rattle.std.proofs.Common.{◌≡◌, ℕ, ◌+◌, ◌*◌, ◌≤◌, ◌<◌, List, [], ◌∷◌, Bool, true, false, length, refl, sym, ap, Option, Some, None, arith, cond, inl, inr, min}
use Rattle.std.specs.Prelude.{◌==◌, IfSome, All}
use Rattle.std.proofs.lemmas.List.Elements.{All-cons}
use Rattle.std.proofs.lemmas.Bool.{cases_lt}
use Rattle.x86_syntax.specs.declared.instr.Instr.{Instr}
use Rattle.x86_syntax.specs.declared.instr.Place.{Place}
use Rattle.x86_syntax.specs.declared.instr.Place.TheVariants as places
use Rattle.x86_syntax.specs.declared.prefixes.Prefixes.{Prefixes}
use Rattle.x86_syntax.specs.declared.table.Map.{Map}
use Rattle.x86_syntax.specs.declared.table.Row.{Row}
use Rattle.x86_syntax.specs.Formats.{Format, Never, Byte, matched}
use Rattle.x86_syntax.specs.Opcodes.{row_of, opcode_row}
use Rattle.x86_syntax.specs.Spelling.{mod_of, reg_of, rm_of, index_register, address_then, place_then, ending, behind_modrm, is_wrong_place, needs_memory, needs_register, row_number_size}
use Rattle.x86_syntax.proofs.FormatLemmas.{never_matched}
use Rattle.x86_syntax.proofs.TableLemmas.{row_reg, row_found, row_kind}
use Rattle.x86_decoder.specs.Reading.{Begins, IsLeastBelow}
use Rattle.x86_decoder.proofs.Shortest.{Shortest, ending_shortest, address_shortest, sib_shortest}

place_least : (m k : ℕ) (go : Place → Format Instr) → ((place : Place) → Shortest (matched (go place)) k) → (x : List ℕ) (i : Instr) → matched (place_then m go) x ≡ Some i → k ≤ length x
unfolding place_then
place_least m k go each x i h =
    let memory = λ (b : Bool). cond b (Byte (λ sib. address_then (mod_of m) (rm_of sib) (index_register sib) go)) (address_then (mod_of m) (rm_of m) None go) in
    let P : Bool → Type 0 = λ b. matched (cond b (go (places.Register (rm_of m))) (memory (rm_of m == 4))) x ≡ Some i → k ≤ length x in
    let Q : Bool → Type 0 = λ b. matched (memory b) x ≡ Some i → k ≤ length x in
    (elim (mod_of m == 3) as P [
      | true ↦ λ e. (each (places.Register (rm_of m))).least x i e
      | false ↦ (elim (rm_of m == 4) as Q [
        | true ↦ λ e. omega (arith, (sib_shortest (mod_of m) k go each).least x i e)
        | false ↦ λ e. omega (arith, (address_shortest (mod_of m) (rm_of m) k None go each).least x i e)
      ])
    ]) h

-- mod 0 with rm 0 is the memory at EAX
at_eax : (p : Prefixes) (row : Row) (code reg : ℕ) → reg < 8 → needs_register row ≡ false → behind_modrm p (Some row) code (8 * reg) ≡ address_then 0 0 None (λ place. ending p row code (8 * reg) place)
unfolding behind_modrm place_then
at_eax p row code reg small register =
    let mode : mod_of (8 * reg) ≡ 0 = omega arith in
    let rm : rm_of (8 * reg) ≡ 0 = omega arith in
    rw (mode, rm, register) refl

-- mod 3 with rm 0 is EAX
in_eax : (p : Prefixes) (row : Row) (code reg : ℕ) → reg < 8 → needs_memory p row ≡ false → behind_modrm p (Some row) code (192 + 8 * reg) ≡ ending p row code (192 + 8 * reg) (places.Register 0)
unfolding behind_modrm place_then
in_eax p row code reg small memory =
    let mode : mod_of (192 + 8 * reg) ≡ 3 = omega arith in
    let rm : rm_of (192 + 8 * reg) ≡ 0 = omega arith in
    rw (mode, rm, memory) refl

-- a ModRM byte with this reg field that the row has, and a shortest string behind it
record RowString (p : Prefixes) (row : Row) (code reg : ℕ) : Type 0 where
  modrm : ℕ
  is_byte : modrm < 256
  field : reg_of modrm ≡ reg
  string : List ℕ
  are_bytes : All (λ b. b < 256) string
  size : length string ≡ row_number_size p row
  names : Instr
  whole : matched (behind_modrm p (Some row) code modrm) string ≡ Some names

row_string : (p : Prefixes) (row : Row) (code reg : ℕ) → reg < 8 → (needs_register row ≡ true → needs_memory p row ≡ false) → RowString p row code reg
row_string p row code reg small kind =
    let P : Bool → Type 0 = λ b. needs_register row ≡ b → RowString p row code reg in
    (elim (needs_register row) as P [
      | true ↦ λ e.
          let s = ending_shortest p row code (192 + 8 * reg) (places.Register 0) in
          record {
            modrm = 192 + 8 * reg;
            is_byte = omega arith;
            field = omega arith;
            string = s.string;
            are_bytes = s.are_bytes;
            size = s.size;
            names = s.names;
            whole = rw (in_eax p row code reg small (kind e)) s.whole;
          }
      | false ↦ λ e.
          let s = address_shortest 0 0 (row_number_size p row) None _ (ending_shortest p row code (8 * reg)) in
          record {
            modrm = 8 * reg;
            is_byte = omega arith;
            field = omega arith;
            string = s.string;
            are_bytes = s.are_bytes;
            size = omega (arith, s.size);
            names = s.names;
            whole = rw (at_eax p row code reg small e) s.whole;
          }
    ]) refl

modrm_least : (p : Prefixes) (map : Map) (code n : ℕ) → IsLeastBelow 8 p map code n → (x : List ℕ) (i : Instr) → matched (Byte (λ m. behind_modrm p (row_of p map code (reg_of m)) code m)) x ≡ Some i → 1 + n ≤ length x
unfolding matched behind_modrm
modrm_least p map code n h [] i e = cc
modrm_least p map code n h (m ∷ x) i e =
    let P : Option Row → Type 0 = λ o. row_of p map code (reg_of m) ≡ o → matched (behind_modrm p o code m) x ≡ Some i → n ≤ length x in
    let Q : Row → Bool → Type 0 = λ row b. matched (cond b Never (place_then m (λ place. ending p row code m place))) x ≡ Some i → row_number_size p row ≤ length x in
    let bound : n ≤ length x = (elim (row_of p map code (reg_of m)) as P [
      | None ↦ λ found e. (let none = never_matched {A = Instr} x in cc)
      | (Some row) ↦ λ found e.
          let least : n ≤ row_number_size p row = h.least (reg_of m) row (omega arith) found in
          let long : row_number_size p row ≤ length x = (elim (is_wrong_place p row (mod_of m)) as (λ b. Q row b) [
            | true ↦ λ e. (let none = never_matched {A = Instr} x in cc)
            | false ↦ λ e. place_least m (row_number_size p row) _ (ending_shortest p row code m) x i e
          ]) e in
          omega arith
    ]) refl e in
    omega arith

pub modrm_shortest : (p : Prefixes) (map : Map) (code n : ℕ) → IsLeastBelow 8 p map code n → Shortest (matched (Byte (λ m. behind_modrm p (row_of p map code (reg_of m)) code m))) (1 + n)
unfolding matched
modrm_shortest p map code n h =
    let s = row_string p h.row code h.reg h.small (row_kind p map code h.reg h.row h.found) in
    let whole : matched (behind_modrm p (row_of p map code (reg_of s.modrm)) code s.modrm) s.string ≡ Some s.names = rw (s.field, h.found) s.whole in
    record {
      string = s.modrm ∷ s.string;
      are_bytes = All-cons (λ b. b < 256) s.modrm s.string s.is_byte s.are_bytes;
      size = omega (arith, s.size, h.size);
      names = s.names;
      whole = whole;
      least = modrm_least p map code n h;
    }

pub modrm_begins : (p : Prefixes) (map : Map) (code : ℕ) (first : Row) → opcode_row p map code ≡ Some first → Begins (matched (Byte (λ m. behind_modrm p (row_of p map code (reg_of m)) code m))) []
unfolding matched
modrm_begins p map code first found =
    let order = row_reg p map code first found in
    let other = row_found p map code first found in
    let small : first.low < 8 = omega (arith, order.0, order.1) in
    let s = row_string p other.0 code first.low small (row_kind p map code first.low other.0 other.1) in
    let whole : matched (behind_modrm p (row_of p map code (reg_of s.modrm)) code s.modrm) s.string ≡ Some s.names = rw (s.field, other.1) s.whole in
    record { rest = s.modrm ∷ s.string; are_bytes = All-cons (λ b. b < 256) s.modrm s.string s.is_byte s.are_bytes; more = omega arith; names = s.names; whole = whole }

-- the row of the first reg field begins the search for the least number
pub least_begins : (p : Prefixes) (map : Map) (code : ℕ) (first : Row) (n : ℕ) → opcode_row p map code ≡ Some first → IfSome (row_of p map code first.low) (λ row. n ≡ row_number_size p row) → IsLeastBelow 0 p map code n
least_begins p map code first n found size =
    let order = row_reg p map code first found in
    let other = row_found p map code first found in
    record {
      reg = first.low;
      small = omega (arith, order.0, order.1);
      row = other.0;
      found = other.1;
      size = sym (rw other.1 at size);
      least = λ k row below f. absurd (omega arith);
    }

pub least_goes_on : (p : Prefixes) (map : Map) (code : ℕ) (limit n size : ℕ) (row : Row) → limit < 8 → IsLeastBelow limit p map code n → row_of p map code limit ≡ Some row → size ≡ row_number_size p row → IsLeastBelow (limit + 1) p map code (min n size)
least_goes_on p map code limit n size row small h found is_size =
    elim (cases_lt n size) [
      | (inl lt) ↦
          let same : min n size ≡ n = omega arith in
          rw same (record {
            reg = h.reg;
            small = h.small;
            row = h.row;
            found = h.found;
            size = h.size;
            least = λ k other below f. elim (cases_lt k limit) [
              | (inl under) ↦ h.least k other under f
              | (inr ge) ↦ (let same_k : k ≡ limit = omega arith in let f2 : row_of p map code limit ≡ Some other = rw same_k at f in let one : row ≡ other = cc in omega (arith, ap (row_number_size p) one))
            ];
          })
      | (inr ge) ↦
          let same : min n size ≡ size = omega arith in
          rw same (record {
            reg = limit;
            small = small;
            row = row;
            found = found;
            size = sym is_size;
            least = λ k other below f. elim (cases_lt k limit) [
              | (inl under) ↦ omega (arith, h.least k other under f)
              | (inr ge) ↦ (let same_k : k ≡ limit = omega arith in let f2 : row_of p map code limit ≡ Some other = rw same_k at f in let one : row ≡ other = cc in omega (arith, ap (row_number_size p) one))
            ];
          })
    ]

pub least_skips : (p : Prefixes) (map : Map) (code : ℕ) (limit n : ℕ) → IsLeastBelow limit p map code n → row_of p map code limit ≡ None → IsLeastBelow (limit + 1) p map code n
least_skips p map code limit n h none = record {
  reg = h.reg;
  small = h.small;
  row = h.row;
  found = h.found;
  size = h.size;
  least = λ k row below f. elim (cases_lt k limit) [
    | (inl lt) ↦ h.least k row lt f
    | (inr ge) ↦ (let same : k ≡ limit = omega arith in let f2 : row_of p map code limit ≡ Some row = rw same at f in cc)
  ];
}
