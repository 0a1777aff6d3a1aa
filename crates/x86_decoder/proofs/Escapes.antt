-- The sets behind 0F and 0F 1E, and behind prefixes.
use Rattle.std.proofs.Common.{◌≡◌, ℕ, ◌≤◌, List, [], ◌∷◌, Bool, true, false, length, ◌<◌, refl, Option, Some, None, arith, cond}
use Rattle.std.specs.Prelude.{◌==◌, All}
use Rattle.std.proofs.lemmas.List.Elements.{All-cons, All-nil}
use Rattle.std.specs.Option.{option_and_then}
use Rattle.x86_syntax.specs.declared.instr.Instr.{Instr}
use Rattle.bit_words.specs.declared.width.Width.TheVariants.{B32}
use Rattle.x86_syntax.specs.declared.instr.Mnemonic.TheVariants.{Nop}
use Rattle.x86_syntax.specs.declared.instr.Seg.TheVariants.{Plain}
use Rattle.x86_syntax.specs.declared.instr.Repeat.TheVariants.{Once}
use Rattle.x86_syntax.specs.declared.prefixes.Group.{Group}
use Rattle.x86_syntax.specs.declared.prefixes.Group.TheVariants.{Empty, Lock, Repne, Rep}
use Rattle.x86_syntax.specs.declared.prefixes.Prefixes.{Prefixes}
use Rattle.x86_syntax.specs.declared.table.Map.{Map}
use Rattle.x86_syntax.specs.declared.table.Map.TheVariants.{One, Two, Three}
use Rattle.x86_syntax.specs.declared.table.Row.{Row}
use Rattle.x86_syntax.specs.Formats.{Format, Byte, matched}
use Rattle.x86_syntax.specs.Opcodes.{row_of, opcode_row, takes_modrm, may_escape, may_escape_twice}
use Rattle.x86_syntax.specs.Spelling.{spelled_with, is_prefix, with_prefix, opcodes, escaped, opcode_then, behind, behind_modrm, ending, place_then, address_then}
use Rattle.x86_syntax.proofs.FormatLemmas.{never_matched}
use Rattle.x86_syntax.proofs.TableLemmas.{prefixed, two_dead, three_dead, lock_modrm, size_modrm, rep_modrm}
use Rattle.x86_decoder.specs.Reading.{shortest_behind, shortest_escaped}
use Rattle.x86_decoder.proofs.Shortest.{Shortest}

one_byte : (b : ℕ) → b < 256 → All (λ x. x < 256) (b ∷ [])
one_byte b small = All-cons (λ x. x < 256) b [] small (All-nil (λ x. x < 256))

two_bytes : (b c : ℕ) → b < 256 → c < 256 → All (λ x. x < 256) (b ∷ c ∷ [])
two_bytes b c small less = All-cons (λ x. x < 256) b (c ∷ []) small (one_byte c less)

-- an instruction, for a set that has the string
abbrev named_by : Option Instr → Instr
named_by (Some i) = i
named_by None = record { name = Nop; w = B32; ops = record { items = [] }; seg = Plain; lock = false; repeat = Once }

-- a ModRM byte follows the opcode
modrm_follows : (p : Prefixes) (map : Map) (code : ℕ) (i : Instr) → ((row : Row) → opcode_row p map code ≡ Some row → takes_modrm row ≡ true) → matched (opcode_then p map code) [] ≡ Some i → ⊥
unfolding matched opcode_then behind
modrm_follows p map code i all h =
    let P : Option Row → Type 0 = λ o. opcode_row p map code ≡ o → matched (behind p map code o) [] ≡ Some i → ⊥ in
    (elim (opcode_row p map code) as P [
      | None ↦ λ e h. cc
      | (Some row) ↦ λ e h. (let takes = all row e in let none : matched (behind p map code (Some row)) [] ≡ None = rw takes refl in cc)
    ]) refl h

some_bytes : (next : ℕ → Format Instr) (x : List ℕ) (i : Instr) → matched (Byte next) x ≡ Some i → 1 ≤ length x
unfolding matched
some_bytes next [] i h = cc
some_bytes next (b ∷ x) i h = omega arith

never_twice : (group : Group) (size : Bool) → may_escape group size ≡ false → may_escape_twice group size ≡ false
never_twice Empty size h = cc
never_twice Rep false h = cc
never_twice Rep true h = refl
never_twice Lock size h = cc
never_twice Repne size h = refl

-- behind 0F 1E

pub third_shortest : (segment : Option ℕ) → Shortest (matched (Byte (λ code. opcode_then (prefixed Rep false segment) Three code))) 1
unfolding matched opcode_then opcode_row behind ending
third_shortest segment = record {
  string = 0xFB ∷ [];
  are_bytes = one_byte 0xFB (omega arith);
  size = refl;
  names = named_by (matched (Byte (λ code. opcode_then (prefixed Rep false segment) Three code)) (0xFB ∷ []));
  whole = refl;
  least = some_bytes (λ code. opcode_then (prefixed Rep false segment) Three code);
}

pub third_dead : (group : Group) (size : Bool) (segment : Option ℕ) → may_escape_twice group size ≡ false → (s : List ℕ) → matched (Byte (λ code. opcode_then (prefixed group size segment) Three code)) s ≡ None
unfolding matched opcode_then behind opcode_row
third_dead group size segment h [] = refl
third_dead group size segment h (code ∷ s) = rw (three_dead group size segment code h) (never_matched {A = Instr} s)

-- behind 0F

second_least : (p : Prefixes) → ((code : ℕ) (row : Row) → opcode_row p Two code ≡ Some row → takes_modrm row ≡ true) → (x : List ℕ) (i : Instr) → matched (Byte (λ code. escaped p code)) x ≡ Some i → 2 ≤ length x
unfolding matched escaped
second_least p all [] i h = cc
second_least p all (code ∷ last ∷ x) i h = omega arith
second_least p all (code ∷ []) i h =
    let P : Bool → Type 0 = λ b. matched (cond b (Byte (λ last. opcode_then p Three last)) (opcode_then p Two code)) [] ≡ Some i → 2 ≤ 1 in
    (elim (code == 0x1E) as P [ true ↦ λ e. cc | false ↦ λ e. absurd (modrm_follows p Two code i (all code) e) ]) h

pub second_shortest : (group : Group) (size : Bool) (segment : Option ℕ) → may_escape group size ≡ true → Shortest (matched (Byte (λ code. escaped (prefixed group size segment) code))) (shortest_escaped group size)
unfolding matched escaped opcode_then opcode_row row_of behind behind_modrm place_then address_then ending
second_shortest Empty false segment h = record {
  string = 0x0B ∷ [];
  are_bytes = one_byte 0x0B (omega arith);
  size = refl;
  names = named_by (matched (Byte (λ code. escaped (prefixed Empty false segment) code)) (0x0B ∷ []));
  whole = refl;
  least = some_bytes (λ code. escaped (prefixed Empty false segment) code);
}
second_shortest Empty true segment h = record {
  string = 0x40 ∷ 0 ∷ [];
  are_bytes = two_bytes 0x40 0 (omega arith) (omega arith);
  size = refl;
  names = named_by (matched (Byte (λ code. escaped (prefixed Empty true segment) code)) (0x40 ∷ 0 ∷ []));
  whole = refl;
  least = second_least (prefixed Empty true segment) (size_modrm segment);
}
second_shortest Rep false segment h = record {
  string = 0x1E ∷ 0xFB ∷ [];
  are_bytes = two_bytes 0x1E 0xFB (omega arith) (omega arith);
  size = refl;
  names = named_by (matched (Byte (λ code. escaped (prefixed Rep false segment) code)) (0x1E ∷ 0xFB ∷ []));
  whole = refl;
  least = second_least (prefixed Rep false segment) (rep_modrm segment);
}
second_shortest Rep true segment h = cc
second_shortest Lock false segment h = record {
  string = 0xC0 ∷ 0 ∷ [];
  are_bytes = two_bytes 0xC0 0 (omega arith) (omega arith);
  size = refl;
  names = named_by (matched (Byte (λ code. escaped (prefixed Lock false segment) code)) (0xC0 ∷ 0 ∷ []));
  whole = refl;
  least = second_least (prefixed Lock false segment) (lock_modrm false segment Two);
}
second_shortest Lock true segment h = record {
  string = 0xC1 ∷ 0 ∷ [];
  are_bytes = two_bytes 0xC1 0 (omega arith) (omega arith);
  size = refl;
  names = named_by (matched (Byte (λ code. escaped (prefixed Lock true segment) code)) (0xC1 ∷ 0 ∷ []));
  whole = refl;
  least = second_least (prefixed Lock true segment) (lock_modrm true segment Two);
}
second_shortest Repne size segment h = cc

pub second_dead : (group : Group) (size : Bool) (segment : Option ℕ) → may_escape group size ≡ false → (s : List ℕ) → matched (Byte (λ code. escaped (prefixed group size segment) code)) s ≡ None
unfolding matched escaped opcode_then behind
second_dead group size segment h [] = refl
second_dead group size segment h (code ∷ s) =
    let p = prefixed group size segment in
    let P : Bool → Type 0 = λ b. matched (cond b (Byte (λ last. opcode_then p Three last)) (opcode_then p Two code)) s ≡ None in
    elim (code == 0x1E) as P [
      | true ↦ third_dead group size segment (never_twice group size h) s
      | false ↦ rw (two_dead group size segment code h) (never_matched {A = Instr} s)
    ]

-- behind prefixes

lock_least : (size : Bool) (segment : Option ℕ) (x : List ℕ) (i : Instr) → spelled_with (prefixed Lock size segment) x ≡ Some i → 2 ≤ length x
unfolding spelled_with opcodes matched
lock_least size segment [] i h = cc
lock_least size segment (b ∷ c ∷ x) i h = omega arith
lock_least size segment (b ∷ []) i h =
    let p = prefixed Lock size segment in
    let P : Bool → Type 0 = λ t. cond t (option_and_then (λ q. spelled_with q []) (with_prefix p b)) (matched (opcodes p b) []) ≡ Some i → 2 ≤ 1 in
    let Q : Option Prefixes → Type 0 = λ o. option_and_then (λ q. spelled_with q []) o ≡ Some i → 2 ≤ 1 in
    let R : Bool → Type 0 = λ t. matched (cond t (Byte (λ second. escaped p second)) (opcode_then p One b)) [] ≡ Some i → 2 ≤ 1 in
    (elim (is_prefix b) as P [
      | true ↦ (elim (with_prefix p b) as Q [ None ↦ λ e. cc | (Some q) ↦ λ e. cc ])
      | false ↦ (elim (b == 0x0F) as R [ true ↦ λ e. cc | false ↦ λ e. absurd (modrm_follows p One b i (lock_modrm size segment One b) e) ])
    ]) h

some_byte_least : (p : Prefixes) (x : List ℕ) (i : Instr) → spelled_with p x ≡ Some i → 1 ≤ length x
unfolding spelled_with
some_byte_least p [] i h = cc
some_byte_least p (b ∷ x) i h = omega arith

pub prefixes_shortest : (group : Group) (size : Bool) (segment : Option ℕ) → Shortest (spelled_with (prefixed group size segment)) (shortest_behind group)
unfolding spelled_with is_prefix opcodes matched opcode_then opcode_row row_of behind behind_modrm place_then address_then ending
prefixes_shortest Empty true segment = record { string = 0x90 ∷ []; are_bytes = one_byte 0x90 (omega arith); size = refl; names = named_by (spelled_with (prefixed Empty true segment) (0x90 ∷ [])); whole = refl; least = some_byte_least (prefixed Empty true segment) }
prefixes_shortest Empty false segment = record { string = 0x90 ∷ []; are_bytes = one_byte 0x90 (omega arith); size = refl; names = named_by (spelled_with (prefixed Empty false segment) (0x90 ∷ [])); whole = refl; least = some_byte_least (prefixed Empty false segment) }
prefixes_shortest Rep true segment = record { string = 0x90 ∷ []; are_bytes = one_byte 0x90 (omega arith); size = refl; names = named_by (spelled_with (prefixed Rep true segment) (0x90 ∷ [])); whole = refl; least = some_byte_least (prefixed Rep true segment) }
prefixes_shortest Rep false segment = record { string = 0x90 ∷ []; are_bytes = one_byte 0x90 (omega arith); size = refl; names = named_by (spelled_with (prefixed Rep false segment) (0x90 ∷ [])); whole = refl; least = some_byte_least (prefixed Rep false segment) }
prefixes_shortest Repne true segment = record { string = 0xA7 ∷ []; are_bytes = one_byte 0xA7 (omega arith); size = refl; names = named_by (spelled_with (prefixed Repne true segment) (0xA7 ∷ [])); whole = refl; least = some_byte_least (prefixed Repne true segment) }
prefixes_shortest Repne false segment = record { string = 0xA7 ∷ []; are_bytes = one_byte 0xA7 (omega arith); size = refl; names = named_by (spelled_with (prefixed Repne false segment) (0xA7 ∷ [])); whole = refl; least = some_byte_least (prefixed Repne false segment) }
prefixes_shortest Lock true segment = record { string = 0x01 ∷ 0 ∷ []; are_bytes = two_bytes 0x01 0 (omega arith) (omega arith); size = refl; names = named_by (spelled_with (prefixed Lock true segment) (0x01 ∷ 0 ∷ [])); whole = refl; least = lock_least true segment }
prefixes_shortest Lock false segment = record { string = 0x01 ∷ 0 ∷ []; are_bytes = two_bytes 0x01 0 (omega arith) (omega arith); size = refl; names = named_by (spelled_with (prefixed Lock false segment) (0x01 ∷ 0 ∷ [])); whole = refl; least = lock_least false segment }
