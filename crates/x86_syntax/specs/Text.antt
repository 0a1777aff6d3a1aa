-- The text of an instruction.
use Rattle.std.specs.Prelude.{ℕ, ◌+◌, ◌%◌, ◌^◌, ◌==◌, ◌&&◌, ◌||◌, Bool, true, false, if◌then◌else◌, is_some, List, [], ◌∷◌, ◌++◌, Option, Some, None, slice_index_or, codes}
use Rattle.std.specs.Int.{cast_unsigned, w32}
use Rattle.bit_words.specs.declared.width.Width.{Width}
use Rattle.bit_words.specs.declared.width.Width.TheVariants.{B8, B16, B32}
use Rattle.text_fields.specs.Hex.{hex_digits, hex8}
use Rattle.x86_syntax.specs.declared.instr.Address.{Address}
use Rattle.x86_syntax.specs.declared.instr.Cond.{Cond}
use Rattle.x86_syntax.specs.declared.instr.Seg.{Seg}
use Rattle.x86_syntax.specs.declared.instr.Seg.TheVariants.{Plain, Fs, Gs}
use Rattle.x86_syntax.specs.declared.instr.Repeat.{Repeat}
use Rattle.x86_syntax.specs.declared.instr.Repeat.TheVariants.{Once, Rep, Repe, Repne}
use Rattle.x86_syntax.specs.declared.instr.Mnemonic.{Mnemonic}
use Rattle.x86_syntax.specs.declared.instr.Mnemonic.TheVariants as m
use Rattle.x86_syntax.specs.declared.instr.Operand.{Operand}
use Rattle.x86_syntax.specs.declared.instr.Operand.TheVariants.{Register, Number, Memory, Offset}
use Rattle.x86_syntax.specs.declared.instr.Instr.{Instr}

-- Numbers

-- two, four or eight digits, by the width
abbrev pub digits_of : Width → ℕ
digits_of B8 = 2
digits_of B16 = 4
digits_of B32 = 8

-- Mnemonics

-- the endings of the conditions 0 to 15
abbrev pub endings : List (List ℕ)
endings = codes "o" ∷ codes "no" ∷ codes "b" ∷ codes "ae" ∷ codes "e" ∷ codes "ne" ∷ codes "be" ∷ codes "a"
    ∷ codes "s" ∷ codes "ns" ∷ codes "p" ∷ codes "np" ∷ codes "l" ∷ codes "ge" ∷ codes "le" ∷ codes "g" ∷ []

unfoldable pub ending_text : Cond → List ℕ
ending_text c = slice_index_or endings c.0 []

-- string operations end in the width of their elements
abbrev pub width_letter : Width → List ℕ
width_letter B8 = codes "b"
width_letter B16 = codes "w"
width_letter B32 = codes "d"

-- a mnemonic without its ending
unfoldable pub stem_text : Mnemonic → List ℕ
stem_text m.Add = codes "add"
stem_text m.Or = codes "or"
stem_text m.Adc = codes "adc"
stem_text m.Sbb = codes "sbb"
stem_text m.And = codes "and"
stem_text m.Sub = codes "sub"
stem_text m.Xor = codes "xor"
stem_text m.Cmp = codes "cmp"
stem_text m.Test = codes "test"
stem_text m.Xchg = codes "xchg"
stem_text m.Cmpxchg = codes "cmpxchg"
stem_text m.Xadd = codes "xadd"
stem_text m.Nop = codes "nop"
stem_text m.Mov = codes "mov"
stem_text m.Lea = codes "lea"
stem_text m.Inc = codes "inc"
stem_text m.Dec = codes "dec"
stem_text m.Push = codes "push"
stem_text m.Pop = codes "pop"
stem_text m.Call = codes "call"
stem_text m.Jmp = codes "jmp"
stem_text m.Not = codes "not"
stem_text m.Neg = codes "neg"
stem_text m.Mul = codes "mul"
stem_text m.Imul = codes "imul"
stem_text m.Div = codes "div"
stem_text m.Idiv = codes "idiv"
stem_text m.Rol = codes "rol"
stem_text m.Ror = codes "ror"
stem_text m.Shl = codes "shl"
stem_text m.Shr = codes "shr"
stem_text m.Sar = codes "sar"
stem_text m.Shld = codes "shld"
stem_text m.Shrd = codes "shrd"
stem_text m.Bt = codes "bt"
stem_text m.Bts = codes "bts"
stem_text m.Btr = codes "btr"
stem_text m.Btc = codes "btc"
stem_text m.Bsf = codes "bsf"
stem_text m.Bsr = codes "bsr"
stem_text (m.J c) = codes "j"
stem_text (m.Set c) = codes "set"
stem_text (m.Cmov c) = codes "cmov"
stem_text m.Movzx = codes "movzx"
stem_text m.Movsx = codes "movsx"
stem_text m.Ret = codes "ret"
stem_text m.Leave = codes "leave"
stem_text m.Cwde = codes "cwde"
stem_text m.Cbw = codes "cbw"
stem_text m.Cdq = codes "cdq"
stem_text m.Cwd = codes "cwd"
stem_text m.Loopne = codes "loopne"
stem_text m.Loope = codes "loope"
stem_text m.Loop = codes "loop"
stem_text m.Jecxz = codes "jecxz"
stem_text m.Movs = codes "movs"
stem_text m.Cmps = codes "cmps"
stem_text m.Stos = codes "stos"
stem_text m.Lods = codes "lods"
stem_text m.Scas = codes "scas"
stem_text m.Cmc = codes "cmc"
stem_text m.Clc = codes "clc"
stem_text m.Stc = codes "stc"
stem_text m.Cld = codes "cld"
stem_text m.Std = codes "std"
stem_text m.Sahf = codes "sahf"
stem_text m.Lahf = codes "lahf"
stem_text m.Bswap = codes "bswap"
stem_text m.Endbr32 = codes "endbr32"
stem_text m.Ud2 = codes "ud2"
stem_text m.Int3 = codes "int3"
stem_text m.Hlt = codes "hlt"

-- the ending: a condition's, or a string operation's letter
abbrev pub suffix_text : Mnemonic → Width → List ℕ
suffix_text (m.J c) w = ending_text c
suffix_text (m.Set c) w = ending_text c
suffix_text (m.Cmov c) w = ending_text c
suffix_text m.Movs w = width_letter w
suffix_text m.Cmps w = width_letter w
suffix_text m.Stos w = width_letter w
suffix_text m.Lods w = width_letter w
suffix_text m.Scas w = width_letter w
suffix_text _ w = []

abbrev pub mnemonic_text : Mnemonic → Width → List ℕ
mnemonic_text name w = stem_text name ++ suffix_text name w

-- the words before the mnemonic
abbrev pub lock_text : Bool → List ℕ
lock_text true = codes "lock "
lock_text false = []

abbrev pub repeat_text : Repeat → List ℕ
repeat_text Once = []
repeat_text Rep = codes "rep "
repeat_text Repe = codes "repe "
repeat_text Repne = codes "repne "

-- the word of a string operation's segment, behind the mnemonic
abbrev pub string_segment_text : Seg → List ℕ
string_segment_text Plain = []
string_segment_text Fs = codes " fs"
string_segment_text Gs = codes " gs"

-- Operands

abbrev pub byte_registers : List (List ℕ)
byte_registers = codes "al" ∷ codes "cl" ∷ codes "dl" ∷ codes "bl" ∷ codes "ah" ∷ codes "ch" ∷ codes "dh" ∷ codes "bh" ∷ []

abbrev pub word_registers : List (List ℕ)
word_registers = codes "ax" ∷ codes "cx" ∷ codes "dx" ∷ codes "bx" ∷ codes "sp" ∷ codes "bp" ∷ codes "si" ∷ codes "di" ∷ []

abbrev pub long_registers : List (List ℕ)
long_registers = codes "eax" ∷ codes "ecx" ∷ codes "edx" ∷ codes "ebx" ∷ codes "esp" ∷ codes "ebp" ∷ codes "esi" ∷ codes "edi" ∷ []

abbrev pub registers : Width → List (List ℕ)
registers B8 = byte_registers
registers B16 = word_registers
registers B32 = long_registers

unfoldable pub register_text : Width → ℕ → List ℕ
register_text w r = slice_index_or (registers w) r []

abbrev pub size_text : Width → List ℕ
size_text B8 = codes "byte "
size_text B16 = codes "word "
size_text B32 = codes "dword "

abbrev pub segment_text : Seg → List ℕ
segment_text Plain = []
segment_text Fs = codes "fs:"
segment_text Gs = codes "gs:"

-- a plus where a part stands before
abbrev pub plus : Bool → List ℕ
plus true = codes "+"
plus false = []

abbrev pub base_text : Option ℕ → List ℕ
base_text None = []
base_text (Some r) = register_text B32 r

-- an index with its scale
abbrev pub index_text : Bool → Option (ℕ × ℕ) → List ℕ
index_text behind None = []
index_text behind (Some part) = plus behind ++ register_text B32 part.0 ++ codes "*" ++ hex_digits 1 part.1

-- the displacement, left out where it is 0 beside another part
abbrev pub displacement_text : Bool → ℕ → List ℕ
displacement_text behind disp = if (disp == 0) && behind then [] else plus behind ++ hex8 disp

unfoldable pub address_text : Address → List ℕ
address_text a = segment_text a.seg ++ codes "[" ++ base_text a.base ++ index_text (is_some a.base) a.index
    ++ displacement_text (is_some a.base || is_some a.index) a.disp ++ codes "]"

-- LEA alone prints no size word
abbrev pub has_size : Mnemonic → Bool
has_size m.Lea = false
has_size _ = true

abbrev pub sized_text : Bool → Width → List ℕ
sized_text true w = size_text w
sized_text false w = []

-- an operand of an instruction that ends before the address `next`; a branch offset is printed as its target
unfoldable pub operand_text : Bool → ℕ → Operand → List ℕ
operand_text sized next (Register w r) = register_text w r
operand_text sized next (Number w n) = hex_digits (digits_of w) n
operand_text sized next (Memory w a) = sized_text sized w ++ address_text a
operand_text sized next (Offset offset) = hex8 ((next + cast_unsigned w32 offset) % 2 ^ 32)

-- a space before the first operand, a comma and a space before each other
abbrev pub separator : ℕ → List ℕ
separator k = if k == 0 then codes " " else codes ", "

-- the operands from the one with the number k on
unfoldable pub operands_text : Bool → ℕ → ℕ → List Operand → List ℕ
operands_text sized next k [] = []
operands_text sized next k (op ∷ ops) = separator k ++ operand_text sized next op ++ operands_text sized next (k + 1) ops

-- the address after an instruction of `len` bytes
abbrev pub next_address : ℕ → ℕ → ℕ
next_address at len = (at + len) % 2 ^ 32

-- what stands before the operands
abbrev pub head_text : Instr → List ℕ
head_text i = lock_text i.lock ++ repeat_text i.repeat ++ mnemonic_text i.name i.w ++ string_segment_text i.seg

-- the text of an instruction of `len` bytes at an address
unfoldable pub instr_text : ℕ → Instr → ℕ → List ℕ
instr_text at i len = head_text i ++ operands_text (has_size i.name) (next_address at len) 0 i.ops.items

-- at most so many bytes an operand and its separator take
abbrev pub operand_room : Operand → ℕ
operand_room (Register w r) = 10
operand_room (Number w n) = 10
operand_room (Memory w a) = 31
operand_room (Offset offset) = 10
