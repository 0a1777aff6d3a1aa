-- Which operation an instruction is: the table of the mnemonics, by how many operands they have.
use Rattle.std.specs.Prelude.{ℕ, true, false, if◌then◌else◌, List, [], ◌∷◌}
use Rattle.bit_words.specs.declared.width.Width.{Width}
use Rattle.bit_words.specs.declared.width.Width.TheVariants.{B8, B16, B32}
use Rattle.bit_words.specs.Width.{cut}
use Rattle.bit_words.specs.declared.op.Op.{Op}
use Rattle.bit_words.specs.declared.op.Op.TheVariants as ops
use Rattle.memory_map.specs.declared.fault.FaultKind.TheVariants.{Halt, Trap, Undefined}
use Rattle.memory_map.specs.declared.registers.TheConstants.{EAX, EDX}
use Rattle.x86_syntax.specs.declared.instr.Instr.{Instr}
use Rattle.x86_syntax.specs.declared.instr.Cond.{Cond}
use Rattle.x86_syntax.specs.declared.instr.Mnemonic.{Mnemonic}
use Rattle.x86_syntax.specs.declared.instr.Mnemonic.TheVariants as names
use Rattle.x86_syntax.specs.declared.instr.Operand.{Operand}
use Rattle.x86_syntax.specs.declared.instr.Operand.TheVariants.{Register, Number, Memory, Offset}
use Rattle.x86_semantics.specs.declared.flag_rule.FlagRule.{FlagRule}
use Rattle.x86_semantics.specs.declared.flag_rule.FlagRule.TheVariants as rules
use Rattle.x86_semantics.specs.declared.operation.Looping.{Looping}
use Rattle.x86_semantics.specs.declared.operation.Looping.TheVariants.{Counted, Equal, NotEqual}
use Rattle.x86_semantics.specs.declared.operation.StringKind.{StringKind}
use Rattle.x86_semantics.specs.declared.operation.StringKind.TheVariants as kinds
use Rattle.x86_semantics.specs.declared.operation.BitChange.{BitChange}
use Rattle.x86_semantics.specs.declared.operation.BitChange.TheVariants.{KeepBit, SetBit, ClearBit, FlipBit}
use Rattle.x86_semantics.specs.declared.operation.FlagChange.TheVariants.{FlipCarry, ClearCarry, SetCarry, ClearDirection, SetDirection}
use Rattle.x86_semantics.specs.declared.operation.Operation.{Operation}
use Rattle.x86_semantics.specs.declared.operation.Operation.TheVariants as does
use Rattle.x86_semantics.specs.Widths.{has_own_widths}

-- what no spelling names
abbrev pub unlisted : Operation
unlisted = does.Stop Undefined

-- ---- no operand

abbrev pub element : Instr → StringKind → Operation
element i kind = does.Element kind i.w i.seg i.repeat

abbrev pub of_none : Mnemonic → Instr → Operation
of_none names.Nop i = does.Nothing
of_none names.Endbr32 i = does.Nothing
of_none names.Ret i = does.Return 0
of_none names.Leave i = does.Leave
of_none names.Cbw i = does.Convert ops.Sign8 B16 (Register B16 EAX) (Register B8 EAX) 0
of_none names.Cwde i = does.Convert ops.Sign16 B32 (Register B32 EAX) (Register B16 EAX) 0
of_none names.Cwd i = does.Convert ops.Sar B16 (Register B16 EDX) (Register B16 EAX) 15
of_none names.Cdq i = does.Convert ops.Sar B32 (Register B32 EDX) (Register B32 EAX) 31
of_none names.Movs i = element i kinds.Move
of_none names.Cmps i = element i kinds.Compare
of_none names.Stos i = element i kinds.Store
of_none names.Lods i = element i kinds.Load
of_none names.Scas i = element i kinds.Scan
of_none names.Cmc i = does.Flag FlipCarry
of_none names.Clc i = does.Flag ClearCarry
of_none names.Stc i = does.Flag SetCarry
of_none names.Cld i = does.Flag ClearDirection
of_none names.Std i = does.Flag SetDirection
of_none names.Lahf i = does.LoadStatus
of_none names.Sahf i = does.StoreStatus
of_none names.Ud2 i = does.Stop Undefined
of_none names.Int3 i = does.Stop Trap
of_none names.Hlt i = does.Stop Halt
of_none _ i = unlisted

-- ---- one operand

-- INC, DEC and NEG are ADD, SUB and the negation of a number
abbrev pub with_number : Op → FlagRule → ℕ → Width → Operand → Operation
with_number op rule n w to = does.Combine op rule w to (Number w n)

abbrev pub converted : Op → Width → Operand → Operation
converted op w to = does.Convert op w to to 0

abbrev pub jump_of : Cond → Operand → Operation
jump_of c (Offset o) = does.Jump c o
jump_of c _ = unlisted

abbrev pub loop_of : Looping → Operand → Operation
loop_of kind (Offset o) = does.Loop kind o
loop_of kind _ = unlisted

abbrev pub count_jump_of : Operand → Operation
count_jump_of (Offset o) = does.JumpIfNoCount o
count_jump_of _ = unlisted

abbrev pub return_of : Operand → Operation
return_of (Number w n) = does.Return (cut w n)
return_of _ = unlisted

abbrev pub of_one : Mnemonic → Width → Operand → Operation
of_one names.Nop w a = does.Nothing
of_one names.Inc w a = with_number ops.Add rules.Increment 1 w a
of_one names.Dec w a = with_number ops.Sub rules.Decrement 1 w a
of_one names.Neg w a = with_number ops.Neg rules.Negation 0 w a
of_one names.Not w a = converted ops.Not w a
of_one names.Bswap w a = converted ops.Swap w a
of_one names.Mul w a = does.MultiplyLong ops.HighU rules.Product w a
of_one names.Imul w a = does.MultiplyLong ops.HighS rules.SignedProduct w a
of_one names.Div w a = does.Divide false w a
of_one names.Idiv w a = does.Divide true w a
of_one names.Push w a = does.Push a
of_one names.Pop w a = does.Pop a
of_one names.Call w a = does.Call a
of_one names.Jmp w a = does.Goto a
of_one (names.J c) w a = jump_of c a
of_one (names.Set c) w a = does.Set c a
of_one names.Loop w a = loop_of Counted a
of_one names.Loope w a = loop_of Equal a
of_one names.Loopne w a = loop_of NotEqual a
of_one names.Jecxz w a = count_jump_of a
of_one names.Ret w a = return_of a
of_one _ w a = unlisted

-- ---- two operands

-- the sign extension of an operand, by its width
abbrev pub sign_of : Operand → Op
sign_of (Register B8 r) = ops.Sign8
sign_of (Memory B8 a) = ops.Sign8
sign_of _ = ops.Sign16

abbrev pub lea_of : Operand → Operand → Operation
lea_of to (Memory w a) = does.Lea to a
lea_of to _ = unlisted

abbrev pub exchange_of : Operand → Operand → Operation
exchange_of place (Register w r) = does.Exchange place w r
exchange_of place _ = unlisted

abbrev pub compare_exchange_of : Operand → Operand → Operation
compare_exchange_of place (Register w r) = does.CompareExchange place w r
compare_exchange_of place _ = unlisted

abbrev pub exchange_add_of : Operand → Operand → Operation
exchange_add_of place (Register w r) = does.ExchangeAdd place w r
exchange_add_of place _ = unlisted

abbrev pub bit_test_of : BitChange → Operand → Operand → Operation
bit_test_of change (Register w r) index = does.TestBit change w r index
bit_test_of change _ index = unlisted

abbrev pub bit_scan_of : Op → Operand → Operand → Operation
bit_scan_of op (Register w r) from = does.FindBit op w r from
bit_scan_of op _ from = unlisted

abbrev pub product_of : Operand → Operand → Operand → Operation
product_of (Register w r) left right = does.Multiply w r left right
product_of to left right = unlisted

abbrev pub of_two : Mnemonic → Width → Operand → Operand → Operation
of_two names.Add w a b = does.Combine ops.Add rules.Sum w a b
of_two names.Sub w a b = does.Combine ops.Sub rules.Difference w a b
of_two names.And w a b = does.Combine ops.And rules.Logic w a b
of_two names.Or w a b = does.Combine ops.Or rules.Logic w a b
of_two names.Xor w a b = does.Combine ops.Xor rules.Logic w a b
of_two names.Adc w a b = does.Carry ops.Add rules.SumWithCarry w a b
of_two names.Sbb w a b = does.Carry ops.Sub rules.DifferenceWithBorrow w a b
of_two names.Cmp w a b = does.Compare ops.Sub rules.Difference w a b
of_two names.Test w a b = does.Compare ops.And rules.Logic w a b
of_two names.Mov w a b = does.Move a b
of_two names.Movzx w a b = does.Move a b
of_two names.Movsx w a b = does.Convert (sign_of b) w a b 0
of_two names.Lea w a b = lea_of a b
of_two names.Xchg w a b = exchange_of a b
of_two names.Shl w a b = does.Shift ops.Shl rules.ShiftLeft w a b
of_two names.Shr w a b = does.Shift ops.Shr rules.ShiftRight w a b
of_two names.Sar w a b = does.Shift ops.Sar rules.ShiftRightSigned w a b
of_two names.Rol w a b = does.Shift ops.Rol rules.RotateLeft w a b
of_two names.Ror w a b = does.Shift ops.Ror rules.RotateRight w a b
of_two names.Imul w a b = product_of a a b
of_two names.Bt w a b = bit_test_of KeepBit a b
of_two names.Bts w a b = bit_test_of SetBit a b
of_two names.Btr w a b = bit_test_of ClearBit a b
of_two names.Btc w a b = bit_test_of FlipBit a b
of_two names.Bsf w a b = bit_scan_of ops.LowBit a b
of_two names.Bsr w a b = bit_scan_of ops.HighBit a b
of_two names.Cmpxchg w a b = compare_exchange_of a b
of_two names.Xadd w a b = exchange_add_of a b
of_two (names.Cmov c) w a b = does.MoveIf c a b
of_two _ w a b = unlisted

-- ---- three operands

abbrev pub double_shift_of : Op → Op → FlagRule → Operand → Operand → Operand → Operation
double_shift_of op other rule to (Register w r) count = does.DoubleShift op other rule w to r count
double_shift_of op other rule to _ count = unlisted

abbrev pub of_three : Mnemonic → Width → Operand → Operand → Operand → Operation
of_three names.Imul w a b c = product_of a b c
of_three names.Shld w a b c = double_shift_of ops.Shl ops.Shr rules.ShiftLeft a b c
of_three names.Shrd w a b c = double_shift_of ops.Shr ops.Shl rules.ShiftRightDouble a b c
of_three _ w a b c = unlisted

-- by the operands
abbrev pub operation_with : Mnemonic → Instr → List Operand → Operation
operation_with name i [] = of_none name i
operation_with name i (a ∷ []) = of_one name i.w a
operation_with name i (a ∷ b ∷ []) = of_two name i.w a b
operation_with name i (a ∷ b ∷ c ∷ []) = of_three name i.w a b c
operation_with name i _ = unlisted

-- what no spelling names is the fault Undefined: an operation whose operands have other widths than its own is none that a spelling names
abbrev pub if_spelled : Operation → Operation
if_spelled op = if has_own_widths op then op else unlisted

unfoldable pub operation_of : Instr → Operation
operation_of i = if_spelled (operation_with i.name i i.ops.items)
