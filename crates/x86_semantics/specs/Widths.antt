-- The widths of operands that each operation has, as the opcode table spells it.
use Rattle.std.specs.Prelude.{◌==◌, ◌&&◌, ◌||◌, nat_le, Bool, true, false}
use Rattle.bit_words.specs.declared.width.Width.{Width}
use Rattle.bit_words.specs.declared.width.Width.TheVariants.{B8, B16, B32}
use Rattle.bit_words.specs.Width.{bits_of}
use Rattle.x86_syntax.specs.declared.instr.Operand.{Operand}
use Rattle.x86_syntax.specs.declared.instr.Operand.TheVariants.{Register, Number, Memory, Offset}
use Rattle.x86_semantics.specs.declared.operation.Operation.{Operation}
use Rattle.x86_semantics.specs.declared.operation.Operation.TheVariants as does

abbrev pub is_width : Width → Width → Bool
is_width v w = bits_of v == bits_of w

abbrev pub is_within : Width → Width → Bool
is_within v w = nat_le (bits_of v) (bits_of w)

abbrev pub width_of : Operand → Width
width_of (Register w r) = w
width_of (Number w n) = w
width_of (Memory w a) = w
width_of (Offset o) = B32

-- a register, memory or a number: what is read as a value
abbrev pub is_value : Operand → Bool
is_value (Offset o) = false
is_value _ = true

-- a register or memory: what may be written
abbrev pub is_place : Operand → Bool
is_place (Register w r) = true
is_place (Memory w a) = true
is_place _ = false

abbrev pub is_register : Operand → Bool
is_register (Register w r) = true
is_register _ = false

-- a value of this width, one no wider, and a place of this width
abbrev pub has_width : Width → Operand → Bool
has_width w o = is_value o && is_width (width_of o) w

abbrev pub fits_width : Width → Operand → Bool
fits_width w o = is_value o && is_within (width_of o) w

abbrev pub has_place : Width → Operand → Bool
has_place w o = is_place o && is_width (width_of o) w

-- the count of a shift: a number, or CL
abbrev pub is_count : Operand → Bool
is_count (Number B8 n) = true
is_count (Register B8 r) = r == 1
is_count _ = false

-- the index of a bit: a number of 8 bits, or a register of the width
abbrev pub is_bit_index : Width → Operand → Bool
is_bit_index w (Number B8 n) = true
is_bit_index w (Register v r) = is_width v w
is_bit_index w _ = false

-- where JMP and CALL go: an offset, or an address
abbrev pub is_target : Operand → Bool
is_target (Offset o) = true
is_target o = has_width B32 o

-- whether the operands have the widths that the operation spells; no number is a place to write to
unfoldable pub has_own_widths : Operation → Bool
has_own_widths (does.Combine op rule w to from) = has_place w to && has_width w from
has_own_widths (does.Carry op rule w to from) = has_place w to && has_width w from
has_own_widths (does.Compare op rule w left right) = has_width w left && has_width w right
has_own_widths (does.Move to from) = is_place to && fits_width (width_of to) from
has_own_widths (does.Convert op w to from by) = has_place w to && fits_width w from
has_own_widths (does.Lea to address) = is_register to && (has_place B16 to || has_place B32 to)
has_own_widths (does.Exchange place w r) = has_place w place
has_own_widths (does.Shift op rule w to count) = has_place w to && is_count count
has_own_widths (does.DoubleShift op other rule w to register count) = has_place w to && is_count count
has_own_widths (does.TestBit change w register index) = is_bit_index w index
has_own_widths (does.FindBit op w register from) = has_width w from
has_own_widths (does.CompareExchange place w register) = has_place w place
has_own_widths (does.ExchangeAdd place w register) = has_place w place
has_own_widths (does.MultiplyLong high rule w from) = has_width w from
has_own_widths (does.Multiply w r left right) = has_width w left && has_width w right
has_own_widths (does.Divide signed w by) = has_width w by
has_own_widths (does.Goto target) = is_target target
has_own_widths (does.Call target) = is_target target
has_own_widths (does.Push from) = has_width B32 from
has_own_widths (does.Pop to) = has_place B32 to
has_own_widths (does.Set c to) = has_place B8 to
has_own_widths (does.MoveIf c to from) = is_place to && has_width (width_of to) from
has_own_widths _ = true
