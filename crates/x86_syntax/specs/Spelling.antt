-- The byte strings of the opcode table.
use Rattle.std.specs.Prelude.{ℕ, ◌+◌, ◌-◌, ◌/◌, ◌%◌, ◌^◌, ◌&&◌, ◌||◌, ◌==◌, Bool, true, false, if◌then◌else◌, List, [], ◌∷◌, ◌++◌, Option, Some, None, slice_index_or}
use Rattle.std.specs.List.{list_any}
use Rattle.std.specs.Option.{option_map, option_and_then}
use Rattle.std.specs.Int.{cast_signed, cast_unsigned, w8, w32}
use Rattle.bit_words.specs.declared.width.Width.{Width}
use Rattle.bit_words.specs.declared.width.Width.TheVariants.{B8, B16, B32}
use Rattle.bit_words.specs.Width.{bits_of}
use Rattle.x86_syntax.specs.declared.instr.Place.{Place}
use Rattle.x86_syntax.specs.declared.instr.Place.TheVariants as places
use Rattle.x86_syntax.specs.declared.instr.Mnemonic.{Mnemonic}
use Rattle.x86_syntax.specs.declared.instr.Mnemonic.TheVariants as mnemonics
use Rattle.x86_syntax.specs.declared.instr.Seg.{Seg}
use Rattle.x86_syntax.specs.declared.instr.Seg.TheVariants.{Plain, Fs, Gs}
use Rattle.x86_syntax.specs.declared.instr.Repeat.{Repeat}
use Rattle.x86_syntax.specs.declared.instr.Repeat.TheVariants as repeated
use Rattle.x86_syntax.specs.declared.instr.Operand.{Operand}
use Rattle.x86_syntax.specs.declared.instr.Operand.TheVariants.{Register, Number, Memory, Offset}
use Rattle.x86_syntax.specs.declared.instr.Instr.{Instr}
use Rattle.x86_syntax.specs.declared.prefixes.Group.{Group}
use Rattle.x86_syntax.specs.declared.prefixes.Group.TheVariants.{Empty, Lock, Repne, Rep}
use Rattle.x86_syntax.specs.declared.prefixes.Prefixes.{Prefixes}
use Rattle.x86_syntax.specs.declared.table.Map.{Map}
use Rattle.x86_syntax.specs.declared.table.Map.TheVariants.{One, Two, Three}
use Rattle.x86_syntax.specs.declared.table.Name.{Name}
use Rattle.x86_syntax.specs.declared.table.Name.TheVariants as names
use Rattle.x86_syntax.specs.declared.table.Repeats.{Repeats}
use Rattle.x86_syntax.specs.declared.table.Repeats.TheVariants as repeats
use Rattle.x86_syntax.specs.declared.table.Form.{Form}
use Rattle.x86_syntax.specs.declared.table.Form.TheVariants as forms
use Rattle.x86_syntax.specs.declared.table.Row.{Row}
use Rattle.x86_syntax.specs.Formats.{Format, Whole, Never, Byte, matched, number_then}
use Rattle.x86_syntax.specs.Opcodes.{takes_modrm, row_of, opcode_row}

-- Prefixes

-- the bytes of the four groups: F0 F2 F3; 2E 36 3E 26 64 65; 66; 67
abbrev pub prefix_bytes : List ℕ
prefix_bytes = 0xF0 ∷ 0xF2 ∷ 0xF3 ∷ 0x2E ∷ 0x36 ∷ 0x3E ∷ 0x26 ∷ 0x64 ∷ 0x65 ∷ 0x66 ∷ 0x67 ∷ []

unfoldable pub is_prefix : ℕ → Bool
is_prefix b = list_any (λ c. b == c) prefix_bytes

-- the same byte again changes nothing, and another of the first group is not listed
abbrev pub with_group : Group → Group → Option Group
with_group Empty new = Some new
with_group Lock Lock = Some Lock
with_group Repne Repne = Some Repne
with_group Rep Rep = Some Rep
with_group _ _ = None

abbrev pub with_segment : Option ℕ → ℕ → Option (Option ℕ)
with_segment None new = Some (Some new)
with_segment (Some old) new = if old == new then Some (Some old) else None

abbrev pub grouped : Prefixes → Group → Option Prefixes
grouped p new = option_map (λ group. record p { group = group }) (with_group p.group new)

abbrev pub segmented : Prefixes → ℕ → Option Prefixes
segmented p b = option_map (λ segment. record p { segment = segment }) (with_segment p.segment b)

-- the prefixes with one more of the bytes above, where that is listed
unfoldable pub with_prefix : Prefixes → ℕ → Option Prefixes
with_prefix p b =
    if b == 0x66 then Some (record p { size = true })
    else if b == 0xF0 then grouped p Lock
    else if b == 0xF2 then grouped p Repne
    else if b == 0xF3 then grouped p Rep
    else if b == 0x67 then None
    else segmented p b

-- Widths and segments

-- 16 bits where the prefix 66 stands, and else 32
abbrev pub word_width : Prefixes → Width
word_width p = if p.size then B16 else B32

-- the width of an operand
abbrev pub form_width : Prefixes → Form → Width
form_width p forms.Nothing = B32
form_width p forms.V = word_width p
form_width p forms.Eb = B8
form_width p forms.Ev = word_width p
form_width p forms.Ew = B16
form_width p forms.Gb = B8
form_width p forms.Gv = word_width p
form_width p forms.M = word_width p
form_width p forms.N = word_width p
form_width p forms.Uv = word_width p
form_width p forms.Ab = B8
form_width p forms.Av = word_width p
form_width p forms.Rb = B8
form_width p forms.Rv = word_width p
form_width p forms.Ib = B8
form_width p forms.Iw = B16
form_width p forms.Iv = word_width p
form_width p forms.Is = word_width p
form_width p forms.One = B8
form_width p forms.Cl = B8
form_width p forms.Ob = B8
form_width p forms.Ov = word_width p
form_width p forms.J8 = B32
form_width p forms.J32 = B32
form_width p forms.Xb = B8
form_width p forms.Xv = word_width p
form_width p forms.Yb = B8
form_width p forms.Yv = word_width p

-- 64 is fs, 65 is gs, and the other bytes have no effect
abbrev pub segment_named : Option ℕ → Seg
segment_named None = Plain
segment_named (Some b) = if b == 0x64 then Fs else if b == 0x65 then Gs else Plain

-- the low bits of a byte, sign-extended
abbrev pub sign_extended : Width → ℕ → ℕ
sign_extended w n = cast_unsigned w32 (cast_signed w8 (n % 2 ^ 8)) % 2 ^ bits_of w

-- The ModRM and SIB bytes

abbrev pub mod_of : ℕ → ℕ
mod_of m = m / 64

abbrev pub reg_of : ℕ → ℕ
reg_of m = m / 8 % 8

abbrev pub rm_of : ℕ → ℕ
rm_of m = m % 8

-- how many bytes of displacement follow; base is the rm field, or that of the SIB byte
abbrev pub displacement_size : ℕ → ℕ → ℕ
displacement_size mode base = if mode == 1 then 1 else if mode == 2 then 4 else if base == 5 then 4 else 0

abbrev pub displacement : ℕ → ℕ → ℕ
displacement mode n = if mode == 1 then sign_extended B32 n else n

-- mod 0 with base 5 has none
abbrev pub base_register : ℕ → ℕ → Option ℕ
base_register mode base = if mode == 0 && base == 5 then None else Some base

-- index 4 is none, and else the top two bits are the scale's power of two
abbrev pub index_register : ℕ → Option (ℕ × ℕ)
index_register sib = if reg_of sib == 4 then None else Some (reg_of sib, 2 ^ (sib / 64))

-- an address: its displacement, and what follows the address
unfoldable pub address_then : ℕ → ℕ → Option (ℕ × ℕ) → (Place → Format Instr) → Format Instr
address_then mode base index go = number_then (displacement_size mode base) (λ n. go (places.Memory (record {
  seg = Plain;
  base = base_register mode base;
  index = index;
  disp = displacement mode n;
})))

-- behind the ModRM byte m: mod 3 is a register, rm 4 has a SIB byte, and what follows the place
unfoldable pub place_then : ℕ → (Place → Format Instr) → Format Instr
place_then m go =
    if mod_of m == 3 then go (places.Register (rm_of m))
    else if rm_of m == 4 then Byte (λ sib. address_then (mod_of m) (rm_of sib) (index_register sib) go)
    else address_then (mod_of m) (rm_of m) None go

-- Operands

-- how many bytes behind the address an operand takes
abbrev pub number_size : Prefixes → Form → ℕ
number_size p forms.Ib = 1
number_size p forms.Is = 1
number_size p forms.J8 = 1
number_size p forms.Iw = 2
number_size p forms.Iv = if p.size then 2 else 4
number_size p forms.J32 = 4
number_size p forms.Ob = 4
number_size p forms.Ov = 4
number_size p _ = 0

-- one operand at most takes any
abbrev pub row_number_size : Prefixes → Row → ℕ
row_number_size p row = number_size p row.forms.first + number_size p row.forms.second + number_size p row.forms.third

-- a place as an operand, with the segment that its address has
abbrev pub placed : Width → Seg → Place → Operand
placed w segment (places.Register r) = Register w r
placed w segment (places.Memory a) = Memory w (record a { seg = segment })

-- memory at an absolute address
abbrev pub absolute : Width → Seg → ℕ → Operand
absolute w segment n = Memory w (record { seg = segment; base = None; index = None; disp = n })

-- what the operands are made of: the opcode, the ModRM byte or 0, its place, and the number behind it
pub record Parts : Type 0 where
  pub code : ℕ
  pub modrm : ℕ
  pub place : Place
  pub number : ℕ

-- the operand of a form; the string elements are none
abbrev pub operands : Prefixes → Parts → Form → List Operand
operands p parts forms.Eb = placed B8 (segment_named p.segment) parts.place ∷ []
operands p parts forms.Ev = placed (word_width p) (segment_named p.segment) parts.place ∷ []
operands p parts forms.Ew = placed B16 (segment_named p.segment) parts.place ∷ []
operands p parts forms.Gb = Register B8 (reg_of parts.modrm) ∷ []
operands p parts forms.Gv = Register (word_width p) (reg_of parts.modrm) ∷ []
operands p parts forms.M = placed (word_width p) Plain parts.place ∷ []
operands p parts forms.N = placed (word_width p) Plain parts.place ∷ []
operands p parts forms.Uv = placed (word_width p) Plain parts.place ∷ []
operands p parts forms.Ab = Register B8 0 ∷ []
operands p parts forms.Av = Register (word_width p) 0 ∷ []
operands p parts forms.Rb = Register B8 (parts.code % 8) ∷ []
operands p parts forms.Rv = Register (word_width p) (parts.code % 8) ∷ []
operands p parts forms.Ib = Number B8 parts.number ∷ []
operands p parts forms.Iw = Number B16 parts.number ∷ []
operands p parts forms.Iv = Number (word_width p) parts.number ∷ []
operands p parts forms.Is = Number (word_width p) (sign_extended (word_width p) parts.number) ∷ []
operands p parts forms.One = Number B8 1 ∷ []
operands p parts forms.Cl = Register B8 1 ∷ []
operands p parts forms.Ob = absolute B8 (segment_named p.segment) parts.number ∷ []
operands p parts forms.Ov = absolute (word_width p) (segment_named p.segment) parts.number ∷ []
operands p parts forms.J8 = Offset (cast_signed w8 (parts.number % 2 ^ 8)) ∷ []
operands p parts forms.J32 = Offset (cast_signed w32 parts.number) ∷ []
operands p parts _ = []

-- The instruction

abbrev pub arithmetic : ℕ → Mnemonic
arithmetic k = slice_index_or (mnemonics.Add ∷ mnemonics.Or ∷ mnemonics.Adc ∷ mnemonics.Sbb ∷ mnemonics.And ∷ mnemonics.Sub ∷ mnemonics.Xor ∷ []) k mnemonics.Cmp

abbrev pub shift : ℕ → Mnemonic
shift k = slice_index_or (mnemonics.Rol ∷ mnemonics.Ror ∷ mnemonics.Rol ∷ mnemonics.Ror ∷ mnemonics.Shl ∷ mnemonics.Shr ∷ mnemonics.Shl ∷ []) k mnemonics.Sar

-- the mnemonic at this place in a row, with this reg field
abbrev pub named : Name → Bool → ℕ → ℕ → Mnemonic
named (names.All name) size place reg = name
named (names.BySize long word) size place reg = if size then word else long
named names.Arithmetic size place reg = arithmetic place
named names.J size place reg = mnemonics.J (record { 0 = place })
named names.Set size place reg = mnemonics.Set (record { 0 = place })
named names.Cmov size place reg = mnemonics.Cmov (record { 0 = place })
named names.ArithmeticByReg size place reg = arithmetic reg
named names.ShiftByReg size place reg = shift reg

-- the place of an opcode in its row
abbrev pub place_in : Row → ℕ → ℕ
place_in row code = if row.step == 0 then 0 else (code - row.first) / row.step

abbrev pub is_lock : Group → Bool
is_lock Lock = true
is_lock _ = false

-- how F3 and F2 repeat a string operation
abbrev pub repeat_of : Repeats → Group → Repeat
repeat_of repeats.Rep Rep = repeated.Rep
repeat_of repeats.RepeRepne Rep = repeated.Repe
repeat_of repeats.RepeRepne Repne = repeated.Repne
repeat_of _ _ = repeated.Once

-- the segment of a string element at ESI
abbrev pub string_segment : Form → Seg → Seg
string_segment forms.Xb segment = segment
string_segment forms.Xv segment = segment
string_segment _ segment = Plain

unfoldable pub instr_of : Prefixes → Row → Parts → Instr
instr_of p row parts = record {
  name = named row.name p.size (place_in row parts.code) (reg_of parts.modrm);
  w = form_width p row.forms.first;
  ops = record { items = operands p parts row.forms.first ++ operands p parts row.forms.second ++ operands p parts row.forms.third };
  seg = string_segment row.forms.first (segment_named p.segment);
  lock = is_lock p.group;
  repeat = repeat_of row.repeats p.group;
}

-- Spellings

abbrev pub is_m : Form → Bool
is_m forms.M = true
is_m _ = false

abbrev pub is_u : Form → Bool
is_u forms.Uv = true
is_u _ = false

-- whether mod 3 is not listed: LEA, and where LOCK stands
abbrev pub needs_memory : Prefixes → Row → Bool
needs_memory p row = is_lock p.group || is_m row.forms.second

-- whether mod 3 alone is listed: the bit tests
abbrev pub needs_register : Row → Bool
needs_register row = is_u row.forms.first

-- whether the operand with this mod field is not listed
abbrev pub is_wrong_place : Prefixes → Row → ℕ → Bool
is_wrong_place p row mode = if mode == 3 then needs_memory p row else needs_register row

-- the number that ends an instruction
unfoldable pub ending : Prefixes → Row → ℕ → ℕ → Place → Format Instr
ending p row code modrm place =
    number_then (row_number_size p row) (λ n. Whole (instr_of p row (record { code = code; modrm = modrm; place = place; number = n })))

-- behind the ModRM byte
unfoldable pub behind_modrm : Prefixes → Option Row → ℕ → ℕ → Format Instr
behind_modrm p None code modrm = Never
behind_modrm p (Some row) code modrm =
    if is_wrong_place p row (mod_of modrm) then Never else place_then modrm (λ place. ending p row code modrm place)

-- behind the opcode, of which this is the first row
unfoldable pub behind : Prefixes → Map → ℕ → Option Row → Format Instr
behind p map code None = Never
behind p map code (Some row) =
    if takes_modrm row then Byte (λ modrm. behind_modrm p (row_of p map code (reg_of modrm)) code modrm)
    else ending p row code 0 (places.Register 0)

-- an opcode of the map, and what stands behind it
unfoldable pub opcode_then : Prefixes → Map → ℕ → Format Instr
opcode_then p map code = behind p map code (opcode_row p map code)

-- behind 0F, and behind 0F 1E
unfoldable pub escaped : Prefixes → ℕ → Format Instr
escaped p code = if code == 0x1E then Byte (λ last. opcode_then p Three last) else opcode_then p Two code

-- behind the prefixes
unfoldable pub opcodes : Prefixes → ℕ → Format Instr
opcodes p code = if code == 0x0F then Byte (λ second. escaped p second) else opcode_then p One code

-- the instruction that the string spells behind these prefixes
unfoldable pub spelled_with : Prefixes → List ℕ → Option Instr
spelled_with p [] = None
spelled_with p (b ∷ bytes) =
    if is_prefix b then option_and_then (λ more. spelled_with more bytes) (with_prefix p b) else matched (opcodes p b) bytes

abbrev pub no_prefixes : Prefixes
no_prefixes = record { group = Empty; segment = None; size = false }

-- the instruction that the whole string spells, where it is a spelling
abbrev pub spelled : List ℕ → Option Instr
spelled bytes = spelled_with no_prefixes bytes
