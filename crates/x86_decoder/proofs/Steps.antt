-- The decoder's steps: what an answer behind a byte says of the bytes before it.
use Rattle.std.proofs.Common.{◌≡◌, ◌≢◌, ℕ, ◌+◌, ◌-◌, ◌≤◌, ◌<◌, List, [], ◌∷◌, inl, inr, Bool, true, false, length, take, drop, refl, ◌∙◌, ap, Option, Some, None, Result, Ok, Err, arith}
use Rattle.std.proofs.lemmas.Bool.{ne_eqb}
use Rattle.std.specs.Prelude.{◌==◌}
use Rattle.x86_syntax.specs.declared.instr.Instr.{Instr}
use Rattle.x86_syntax.specs.declared.instr.Place.{Place}
use Rattle.x86_syntax.specs.declared.instr.Place.TheVariants as places
use Rattle.x86_syntax.specs.declared.prefixes.Group.{Group}
use Rattle.x86_syntax.specs.declared.prefixes.Group.TheVariants.{Empty, Lock, Repne, Rep}
use Rattle.x86_syntax.specs.declared.prefixes.Prefixes.{Prefixes}
use Rattle.x86_syntax.specs.declared.table.Map.{Map}
use Rattle.x86_syntax.specs.declared.table.Map.TheVariants.{One, Two, Three}
use Rattle.x86_syntax.specs.declared.table.Row.{Row}
use Rattle.x86_syntax.specs.Formats.{Format, Byte, matched, little_endian}
use Rattle.x86_syntax.specs.Opcodes.{row_of, opcode_row, takes_modrm, may_escape, may_escape_twice}
use Rattle.x86_syntax.specs.Spelling.{spelled_with, is_prefix, with_prefix, opcodes, escaped, opcode_then, behind, behind_modrm, is_wrong_place, ending, place_then, address_then, index_register, displacement_size, mod_of, reg_of, rm_of, row_number_size, instr_of}
use Rattle.x86_syntax.proofs.FormatLemmas.{never_matched}
use Rattle.x86_syntax.proofs.SpellingLemmas.{spelled_prefix, spelled_refused, spelled_opcode}
use Rattle.x86_syntax.proofs.TableLemmas.{prefixed}
use Rattle.x86_decoder.specs.declared.fault.DecodeFault.{DecodeFault}
use Rattle.x86_decoder.specs.declared.fault.DecodeFault.TheVariants.{NotListed}
use Rattle.x86_decoder.specs.Pieces.{address_place}
use Rattle.x86_decoder.specs.Reading.{Begins, Reads, ReadsOrDead, IsLeastBelow, fault_at, shortest_behind, shortest_escaped}
use Rattle.x86_decoder.proofs.Readings.{reads_byte, reads_or_dead, needs_reads}
use Rattle.x86_decoder.proofs.Shortest.{Shortest, shortest_needs, ending_shortest, ending_needs, ending_ends, address_needs, sib_shortest, reads_number}
use Rattle.x86_decoder.proofs.Modrm.{modrm_shortest, modrm_begins}
use Rattle.x86_decoder.proofs.Escapes.{second_shortest, second_dead, third_shortest, third_dead, prefixes_shortest}

needs_empty : (lang : List ℕ → Option Instr) (k at : ℕ) (bytes : List ℕ) → 0 < k → Shortest lang k → bytes ≡ [] → Reads lang bytes at (Err (fault_at (at + k)))
needs_empty lang k at bytes some h e = rw e (needs_reads lang [] at k (shortest_needs lang k some h))

-- behind prefixes

some_behind : (group : Group) → 0 < shortest_behind group
some_behind Empty = omega arith
some_behind Lock = omega arith
some_behind Repne = omega arith
some_behind Rep = omega arith

behind_some : (p : Prefixes) → 0 < shortest_behind p.group
behind_some p = some_behind p.group

pub prefixes_end : (p : Prefixes) (bytes : List ℕ) (at : ℕ) → bytes ≡ [] → Reads (spelled_with p) bytes at (Err (fault_at (at + shortest_behind p.group)))
prefixes_end p bytes at e = needs_empty (spelled_with p) (shortest_behind p.group) at bytes (behind_some p) (prefixes_shortest p.group p.size p.segment) e

prefixes_begin : (p : Prefixes) → Begins (spelled_with p) []
prefixes_begin p = (shortest_needs (spelled_with p) (shortest_behind p.group) (behind_some p) (prefixes_shortest p.group p.size p.segment)).begins

pub prefix_step : (p more : Prefixes) (b : ℕ) (bytes rest : List ℕ) (at : ℕ) (r : Result (Instr × ℕ) DecodeFault) → bytes ≡ b ∷ rest → is_prefix b ≡ true → with_prefix p b ≡ Some more → Reads (spelled_with more) rest (at + 1) r → Reads (spelled_with p) bytes at r
prefix_step p more b bytes rest at r e is joined h = rw e (reads_byte (spelled_with p) (spelled_with more) b rest at r (λ s. spelled_prefix p more b s is joined) h)

pub prefix_refused : (p : Prefixes) (b : ℕ) (bytes rest : List ℕ) (at : ℕ) → bytes ≡ b ∷ rest → is_prefix b ≡ true → with_prefix p b ≡ None → Reads (spelled_with p) bytes at (Err (NotListed at))
prefix_refused p b bytes rest at e is refused =
    rw e (reads_or_dead (spelled_with p) (λ s. None) b rest at (Err (NotListed at)) (λ s. spelled_refused p b s is refused) (prefixes_begin p) (inr (refl, λ s. refl)))

pub opcode_step : (p : Prefixes) (b : ℕ) (bytes rest : List ℕ) (at : ℕ) (r : Result (Instr × ℕ) DecodeFault) → bytes ≡ b ∷ rest → is_prefix b ≡ false → ReadsOrDead (matched (opcodes p b)) rest (at + 1) r → Reads (spelled_with p) bytes at r
opcode_step p b bytes rest at r e isnt h = rw e (reads_or_dead (spelled_with p) (matched (opcodes p b)) b rest at r (λ s. spelled_opcode p b s isnt) (prefixes_begin p) h)

-- the first byte of an opcode

one_opcode : (p : Prefixes) (code : ℕ) → code ≢ 15 → opcodes p code ≡ opcode_then p One code
unfolding opcodes
one_opcode p code ne = rw (ne_eqb code 15 ne) refl

two_opcode : (p : Prefixes) (code : ℕ) → code ≢ 0x1E → escaped p code ≡ opcode_then p Two code
unfolding escaped
two_opcode p code ne = rw (ne_eqb code 0x1E ne) refl

wrong_never : (p : Prefixes) (row : Row) (code m : ℕ) (s : List ℕ) → is_wrong_place p row (mod_of m) ≡ true → matched (behind_modrm p (Some row) code m) s ≡ None
unfolding behind_modrm
wrong_never p row code m s wrong = rw wrong (never_matched {A = Instr} s)

pub opcode_escape : (p : Prefixes) (code : ℕ) (bytes : List ℕ) (at : ℕ) (r : Result (Instr × ℕ) DecodeFault) → code ≡ 15 → ReadsOrDead (matched (Byte (λ second. escaped p second))) bytes at r → ReadsOrDead (matched (opcodes p code)) bytes at r
unfolding opcodes
opcode_escape p code bytes at r e h = rw e h

pub opcode_one : (p : Prefixes) (code : ℕ) (bytes : List ℕ) (at : ℕ) (r : Result (Instr × ℕ) DecodeFault) → code ≢ 15 → ReadsOrDead (matched (opcode_then p One code)) bytes at r → ReadsOrDead (matched (opcodes p code)) bytes at r
opcode_one p code bytes at r ne h = (let same : opcodes p code ≡ opcode_then p One code = one_opcode p code ne in rw same h)

-- behind 0F

some_escaped : (group : Group) (size : Bool) → 0 < shortest_escaped group size
some_escaped Empty false = omega arith
some_escaped Empty true = omega arith
some_escaped Lock size = omega arith
some_escaped Repne size = omega arith
some_escaped Rep size = omega arith

escaped_some : (p : Prefixes) → 0 < shortest_escaped p.group p.size
escaped_some p = some_escaped p.group p.size

pub second_none : (p : Prefixes) (bytes : List ℕ) (at : ℕ) → 1 ≤ at → may_escape p.group p.size ≡ false → ReadsOrDead (matched (Byte (λ second. escaped p second))) bytes at (Err (NotListed (at - 1)))
second_none p bytes at some no_escape = inr (omega arith, second_dead p.group p.size p.segment no_escape)

pub second_end : (p : Prefixes) (bytes : List ℕ) (at : ℕ) → may_escape p.group p.size ≡ true → bytes ≡ [] → ReadsOrDead (matched (Byte (λ second. escaped p second))) bytes at (Err (fault_at (at + shortest_escaped p.group p.size)))
second_end p bytes at escape e = inl (needs_empty _ (shortest_escaped p.group p.size) at bytes (escaped_some p) (second_shortest p.group p.size p.segment escape) e)

second_begin : (p : Prefixes) → may_escape p.group p.size ≡ true → Begins (matched (Byte (λ second. escaped p second))) []
second_begin p escape = (shortest_needs _ (shortest_escaped p.group p.size) (escaped_some p) (second_shortest p.group p.size p.segment escape)).begins

pub second_third : (p : Prefixes) (code : ℕ) (bytes rest : List ℕ) (at : ℕ) (r : Result (Instr × ℕ) DecodeFault) → may_escape p.group p.size ≡ true → bytes ≡ code ∷ rest → code ≡ 0x1E → ReadsOrDead (matched (Byte (λ last. opcode_then p Three last))) rest (at + 1) r → ReadsOrDead (matched (Byte (λ second. escaped p second))) bytes at r
unfolding escaped matched
second_third p code bytes rest at r escape e is h =
    rw e (inl (reads_or_dead (matched (Byte (λ second. escaped p second))) (matched (Byte (λ last. opcode_then p Three last))) code rest at r (λ s. rw is refl) (second_begin p escape) h))

pub second_row : (p : Prefixes) (code : ℕ) (bytes rest : List ℕ) (at : ℕ) (r : Result (Instr × ℕ) DecodeFault) → may_escape p.group p.size ≡ true → bytes ≡ code ∷ rest → code ≢ 0x1E → ReadsOrDead (matched (opcode_then p Two code)) rest (at + 1) r → ReadsOrDead (matched (Byte (λ second. escaped p second))) bytes at r
unfolding matched
second_row p code bytes rest at r escape e isnt h =
    rw e (inl (reads_or_dead (matched (Byte (λ second. escaped p second))) (matched (opcode_then p Two code)) code rest at r (λ s. ap (λ t. matched t s) (two_opcode p code isnt)) (second_begin p escape) h))

-- behind 0F 1E

pub third_none : (p : Prefixes) (bytes : List ℕ) (at : ℕ) → 1 ≤ at → may_escape_twice p.group p.size ≡ false → ReadsOrDead (matched (Byte (λ last. opcode_then p Three last))) bytes at (Err (NotListed (at - 1)))
third_none p bytes at some no_escape = inr (omega arith, third_dead p.group p.size p.segment no_escape)

least_third : (group : Group) (size : Bool) (segment : Option ℕ) → may_escape_twice group size ≡ true → Shortest (matched (Byte (λ last. opcode_then (prefixed group size segment) Three last))) 1
least_third Rep false segment h = third_shortest segment
least_third Rep true segment h = cc
least_third Empty size segment h = cc
least_third Lock size segment h = cc
least_third Repne size segment h = cc

third_least : (p : Prefixes) → may_escape_twice p.group p.size ≡ true → Shortest (matched (Byte (λ last. opcode_then p Three last))) 1
third_least p escape = least_third p.group p.size p.segment escape

pub third_end : (p : Prefixes) (bytes : List ℕ) (at : ℕ) → may_escape_twice p.group p.size ≡ true → bytes ≡ [] → ReadsOrDead (matched (Byte (λ last. opcode_then p Three last))) bytes at (Err (fault_at (at + 1)))
third_end p bytes at escape e = inl (needs_empty _ 1 at bytes (omega arith) (third_least p escape) e)

pub third_row : (p : Prefixes) (code : ℕ) (bytes rest : List ℕ) (at : ℕ) (r : Result (Instr × ℕ) DecodeFault) → may_escape_twice p.group p.size ≡ true → bytes ≡ code ∷ rest → ReadsOrDead (matched (opcode_then p Three code)) rest (at + 1) r → ReadsOrDead (matched (Byte (λ last. opcode_then p Three last))) bytes at r
unfolding matched
third_row p code bytes rest at r escape e h =
    let begins = (shortest_needs _ 1 (omega arith) (third_least p escape)).begins in
    rw e (inl (reads_or_dead (matched (Byte (λ last. opcode_then p Three last))) (matched (opcode_then p Three code)) code rest at r (λ s. refl) begins h))

-- behind an opcode

pub row_none : (p : Prefixes) (map : Map) (code : ℕ) (bytes : List ℕ) (at : ℕ) → 1 ≤ at → opcode_row p map code ≡ None → ReadsOrDead (matched (opcode_then p map code)) bytes at (Err (NotListed (at - 1)))
unfolding opcode_then behind
row_none p map code bytes at some none = inr (omega arith, λ s. rw none (never_matched {A = Instr} s))

pub row_modrm : (p : Prefixes) (map : Map) (code : ℕ) (row : Row) (bytes : List ℕ) (at : ℕ) (r : Result (Instr × ℕ) DecodeFault) → opcode_row p map code ≡ Some row → takes_modrm row ≡ true → Reads (matched (Byte (λ m. behind_modrm p (row_of p map code (reg_of m)) code m))) bytes at r → ReadsOrDead (matched (opcode_then p map code)) bytes at r
unfolding opcode_then behind
row_modrm p map code row bytes at r found takes h = inl (rw (found, takes) h)

pub row_ending : (p : Prefixes) (map : Map) (code : ℕ) (row : Row) (bytes : List ℕ) (at : ℕ) (r : Result (Instr × ℕ) DecodeFault) → opcode_row p map code ≡ Some row → takes_modrm row ≡ false → Reads (matched (ending p row code 0 (places.Register 0))) bytes at r → ReadsOrDead (matched (opcode_then p map code)) bytes at r
unfolding opcode_then behind
row_ending p map code row bytes at r found takes h = inl (rw (found, takes) h)

-- the ModRM byte

at_row : (p : Prefixes) (map : Map) (code m : ℕ) (row : Option Row) (s : List ℕ) → row_of p map code (reg_of m) ≡ row → matched (behind_modrm p (row_of p map code (reg_of m)) code m) s ≡ matched (behind_modrm p row code m) s
at_row p map code m row s is = ap (λ o. matched (behind_modrm p o code m) s) is

none_never : (p : Prefixes) (code m : ℕ) (s : List ℕ) → matched (behind_modrm p None code m) s ≡ None
unfolding behind_modrm
none_never p code m s = never_matched {A = Instr} s

right_place : (p : Prefixes) (row : Row) (code m : ℕ) → is_wrong_place p row (mod_of m) ≡ false → behind_modrm p (Some row) code m ≡ place_then m (λ place. ending p row code m place)
unfolding behind_modrm
right_place p row code m right = rw right refl

pub modrm_end : (p : Prefixes) (map : Map) (code n : ℕ) (bytes : List ℕ) (at : ℕ) → IsLeastBelow 8 p map code n → bytes ≡ [] → Reads (matched (Byte (λ m. behind_modrm p (row_of p map code (reg_of m)) code m))) bytes at (Err (fault_at (at + (1 + n))))
modrm_end p map code n bytes at least e = needs_empty _ (1 + n) at bytes (omega arith) (modrm_shortest p map code n least) e

pub modrm_none : (p : Prefixes) (map : Map) (code m : ℕ) (first : Row) (bytes rest : List ℕ) (at : ℕ) → opcode_row p map code ≡ Some first → bytes ≡ m ∷ rest → row_of p map code (reg_of m) ≡ None → Reads (matched (Byte (λ m. behind_modrm p (row_of p map code (reg_of m)) code m))) bytes at (Err (NotListed at))
unfolding matched
modrm_none p map code m first bytes rest at found e none =
    rw e (reads_or_dead (matched (Byte (λ m. behind_modrm p (row_of p map code (reg_of m)) code m))) (λ s. None) m rest at (Err (NotListed at)) (λ s. at_row p map code m None s none ∙ none_never p code m s) (modrm_begins p map code first found) (inr (refl, λ s. refl)))

pub modrm_wrong : (p : Prefixes) (map : Map) (code m : ℕ) (first row : Row) (bytes rest : List ℕ) (at : ℕ) → opcode_row p map code ≡ Some first → bytes ≡ m ∷ rest → row_of p map code (reg_of m) ≡ Some row → is_wrong_place p row (mod_of m) ≡ true → Reads (matched (Byte (λ m. behind_modrm p (row_of p map code (reg_of m)) code m))) bytes at (Err (NotListed at))
unfolding matched
modrm_wrong p map code m first row bytes rest at found e is wrong =
    rw e (reads_or_dead (matched (Byte (λ m. behind_modrm p (row_of p map code (reg_of m)) code m))) (λ s. None) m rest at (Err (NotListed at)) (λ s. at_row p map code m (Some row) s is ∙ wrong_never p row code m s wrong) (modrm_begins p map code first found) (inr (refl, λ s. refl)))

pub modrm_place : (p : Prefixes) (map : Map) (code m : ℕ) (row : Row) (bytes rest : List ℕ) (at : ℕ) (r : Result (Instr × ℕ) DecodeFault) → bytes ≡ m ∷ rest → row_of p map code (reg_of m) ≡ Some row → is_wrong_place p row (mod_of m) ≡ false → Reads (matched (place_then m (λ place. ending p row code m place))) rest (at + 1) r → Reads (matched (Byte (λ m. behind_modrm p (row_of p map code (reg_of m)) code m))) bytes at r
unfolding matched
modrm_place p map code m row bytes rest at r e is right h =
    rw e (reads_byte (matched (Byte (λ m. behind_modrm p (row_of p map code (reg_of m)) code m))) (matched (place_then m (λ place. ending p row code m place))) m rest at r (λ s. at_row p map code m (Some row) s is ∙ ap (λ t. matched t s) (right_place p row code m right)) h)

-- the place

pub place_register : (m : ℕ) (go : Place → Format Instr) (bytes : List ℕ) (at : ℕ) (r : Result (Instr × ℕ) DecodeFault) → mod_of m ≡ 3 → Reads (matched (go (places.Register (rm_of m)))) bytes at r → Reads (matched (place_then m go)) bytes at r
unfolding place_then
place_register m go bytes at r three h = rw three h

pub place_address : (m : ℕ) (go : Place → Format Instr) (bytes : List ℕ) (at : ℕ) (r : Result (Instr × ℕ) DecodeFault) → mod_of m ≢ 3 → rm_of m ≢ 4 → Reads (matched (address_then (mod_of m) (rm_of m) None go)) bytes at r → Reads (matched (place_then m go)) bytes at r
unfolding place_then
place_address m go bytes at r mode rm h = rw (ne_eqb (mod_of m) 3 mode, ne_eqb (rm_of m) 4 rm) h

sib_place : (m : ℕ) (go : Place → Format Instr) → mod_of m ≢ 3 → rm_of m ≡ 4 → place_then m go ≡ Byte (λ sib. address_then (mod_of m) (rm_of sib) (index_register sib) go)
unfolding place_then
sib_place m go mode rm = rw (ne_eqb (mod_of m) 3 mode, rm) refl

pub place_sib_end : (m k : ℕ) (go : Place → Format Instr) (bytes : List ℕ) (at : ℕ) → mod_of m ≢ 3 → rm_of m ≡ 4 → ((place : Place) → Shortest (matched (go place)) k) → bytes ≡ [] → Reads (matched (place_then m go)) bytes at (Err (fault_at (at + (1 + (displacement_size (mod_of m) 0 + k)))))
place_sib_end m k go bytes at mode rm each e =
    rw (sib_place m go mode rm) (needs_empty _ (1 + (displacement_size (mod_of m) 0 + k)) at bytes (omega arith) (sib_shortest (mod_of m) k go each) e)

pub place_sib : (m sib : ℕ) (go : Place → Format Instr) (bytes rest : List ℕ) (at : ℕ) (r : Result (Instr × ℕ) DecodeFault) → mod_of m ≢ 3 → rm_of m ≡ 4 → bytes ≡ sib ∷ rest → Reads (matched (address_then (mod_of m) (rm_of sib) (index_register sib) go)) rest (at + 1) r → Reads (matched (place_then m go)) bytes at r
unfolding matched
place_sib m sib go bytes rest at r mode rm e h =
    rw (sib_place m go mode rm, e) (reads_byte (matched (Byte (λ sib. address_then (mod_of m) (rm_of sib) (index_register sib) go))) (matched (address_then (mod_of m) (rm_of sib) (index_register sib) go)) sib rest at r (λ s. refl) h)

-- the displacement

pub address_end : (p : Prefixes) (row : Row) (mode base code m : ℕ) (index : Option (ℕ × ℕ)) (bytes : List ℕ) (at : ℕ) → length bytes < displacement_size mode base → Reads (matched (address_then mode base index (λ place. ending p row code m place))) bytes at (Err (fault_at (at + (displacement_size mode base + row_number_size p row))))
address_end p row mode base code m index bytes at few =
    needs_reads _ bytes at (displacement_size mode base + row_number_size p row) (address_needs mode base (row_number_size p row) index _ bytes few (ending_shortest p row code m))

pub address_step : (mode base size : ℕ) (index : Option (ℕ × ℕ)) (go : Place → Format Instr) (bytes front rest : List ℕ) (at : ℕ) (r : Result (Instr × ℕ) DecodeFault) → size ≡ displacement_size mode base → size ≤ length bytes → front ≡ take size bytes → rest ≡ drop size bytes → Reads (matched (go (address_place mode base index (little_endian front)))) rest (at + size) r → Reads (matched (address_then mode base index go)) bytes at r
unfolding address_then
address_step mode base size index go bytes front rest at r is_size enough is_front is_rest h =
    let g = rw (is_front, is_rest, is_size) at h in
    reads_number (displacement_size mode base) _ bytes at r (omega arith) g

-- the number at the end

pub ending_end : (p : Prefixes) (row : Row) (code m : ℕ) (place : Place) (bytes : List ℕ) (at : ℕ) → length bytes < row_number_size p row → Reads (matched (ending p row code m place)) bytes at (Err (fault_at (at + row_number_size p row)))
ending_end p row code m place bytes at few = needs_reads _ bytes at (row_number_size p row) (ending_needs p row code m place bytes few)

pub ending_whole : (p : Prefixes) (row : Row) (code m : ℕ) (place : Place) (bytes front : List ℕ) (at size : ℕ) (i : Instr) → size ≡ row_number_size p row → size ≤ length bytes → front ≡ take size bytes
    → i ≡ instr_of p row (record { code = code; modrm = m; place = place; number = little_endian front }) → Reads (matched (ending p row code m place)) bytes at (Ok (i, at + size))
ending_whole p row code m place bytes front at size i is_size enough is_front is_i =
    ending_ends p row code m place bytes at size i is_size enough (is_i ∙ ap (λ xs. instr_of p row (record { code = code; modrm = m; place = place; number = little_endian xs })) is_front)

-- for the answers

pub no_bytes : (bytes : List ℕ) → length bytes ≡ 0 → bytes ≡ []
no_bytes [] e = refl
no_bytes (b ∷ bytes) e = absurd (omega arith)
