-- The lists of statements: for each operation, what stands behind the addresses of its operands, and the whole.
use Rattle.std.specs.Prelude.{ℕ, ◌+◌, ◌-◌, ◌%◌, ◌^◌, ◌==◌, if◌then◌else◌, Bool, true, false, List, [], ◌∷◌, ◌++◌, ℤ}
use Rattle.std.specs.Int.{cast_unsigned, w32}
use Rattle.bit_words.specs.declared.width.Width.{Width}
use Rattle.bit_words.specs.declared.width.Width.TheVariants.{B8, B32}
use Rattle.bit_words.specs.declared.op.Op.{Op}
use Rattle.bit_words.specs.declared.op.Op.TheVariants.{Add, Sub, And, Or, Xor, Not, Mul, Shl, Eq, Ult}
use Rattle.bit_words.specs.Width.{bits_of, bytes_of}
use Rattle.x86_syntax.specs.declared.instr.Address.{Address}
use Rattle.x86_syntax.specs.declared.instr.Cond.{Cond}
use Rattle.x86_syntax.specs.declared.instr.Seg.{Seg}
use Rattle.x86_syntax.specs.declared.instr.Seg.TheVariants.{Plain}
use Rattle.x86_syntax.specs.declared.instr.Repeat.{Repeat}
use Rattle.x86_syntax.specs.declared.instr.Repeat.TheVariants as repeats
use Rattle.x86_syntax.specs.declared.instr.Operand.{Operand}
use Rattle.x86_syntax.specs.declared.instr.Operand.TheVariants as operands
use Rattle.x86_semantics.specs.declared.flag_rule.FlagRule.{FlagRule}
use Rattle.x86_semantics.specs.declared.flag_rule.FlagRule.TheVariants.{Sum, Difference, SignedProduct, BitTest, BitScan, Status}
use Rattle.x86_semantics.specs.declared.operation.Looping.{Looping}
use Rattle.x86_semantics.specs.declared.operation.Looping.TheVariants.{Counted, Equal, NotEqual}
use Rattle.x86_semantics.specs.declared.operation.BitChange.{BitChange}
use Rattle.x86_semantics.specs.declared.operation.BitChange.TheVariants.{KeepBit, SetBit, ClearBit, FlipBit}
use Rattle.x86_semantics.specs.declared.operation.FlagChange.{FlagChange}
use Rattle.x86_semantics.specs.declared.operation.FlagChange.TheVariants as changes
use Rattle.x86_semantics.specs.declared.operation.StringKind.{StringKind}
use Rattle.x86_semantics.specs.declared.operation.StringKind.TheVariants as kinds
use Rattle.memory_map.specs.declared.registers.TheConstants.{EAX, ECX, ESP, EBP, ESI, EDI}
use Rattle.x86_semantics.specs.Registers.{upper_register}
use Rattle.x86_semantics.specs.Operands.{branch_target}
use Rattle.x86_semantics.specs.Exchanges.{is_register_numbered}
use Rattle.x86_semantics.specs.FlagRules.{free_of, carry_flag, overflow_flag, status_flags}
use Rattle.x86_semantics.specs.declared.parts.TheConstants.{AH}
use Rattle.statement_lang.specs.declared.stmt.Source.{Source}
use Rattle.statement_lang.specs.declared.stmt.Source.TheVariants.{Register, Temp, Number, Base}
use Rattle.statement_lang.specs.declared.stmt.Test.{Test}
use Rattle.statement_lang.specs.declared.stmt.Test.TheVariants.{Condition, Zero, Flag}
use Rattle.statement_lang.specs.declared.stmt.Stmt.{Stmt}
use Rattle.statement_lang.specs.declared.stmt.Stmt.TheVariants.{Put, Copy, SetFlags, SetFlag, Load, Store, Choose, FreeFlags, Divide, SkipUnless, Goto, Branch}
use Rattle.bit_words.specs.declared.flags.Flags.{Flags as FlagSet}
use Rattle.x86_lifter.specs.Pieces.{base_source, index_source, address_from, nothing, fetching, keeping, fetching_register, keeping_register, ending}

-- an operand that is not there
abbrev pub none : Operand
none = operands.Number B32 0

-- ---- sums, differences, logic

abbrev pub combining : Op → FlagRule → Width → Operand → Operand → ℕ → List Stmt
combining op rule w to from next =
    fetching to 0 2 ∷ fetching from 1 3 ∷ Put (Temp 4) op w (Temp 2) (Temp 3) ∷ keeping to 0 4 ∷ ending rule w 2 3 4 next

abbrev pub carrying : Op → FlagRule → Width → Operand → Operand → ℕ → List Stmt
carrying op rule w to from next =
    fetching to 0 2
    ∷ fetching from 1 3
    ∷ Copy (Temp 5) (Number 0)
    ∷ SkipUnless (Flag carry_flag true) 1
    ∷ Copy (Temp 5) (Number 1)
    ∷ Put (Temp 4) op w (Temp 2) (Temp 3)
    ∷ Put (Temp 4) op w (Temp 4) (Temp 5)
    ∷ keeping to 0 4
    ∷ ending rule w 2 3 4 next

abbrev pub comparing : Op → FlagRule → Width → Operand → Operand → ℕ → List Stmt
comparing op rule w left right next = fetching left 0 2 ∷ fetching right 1 3 ∷ Put (Temp 4) op w (Temp 2) (Temp 3) ∷ ending rule w 2 3 4 next

-- ---- moves

abbrev pub moving : Operand → Operand → ℕ → List Stmt
moving to from next = fetching from 1 3 ∷ keeping to 0 3 ∷ Goto (Number next) ∷ []

abbrev pub converting : Op → Width → Operand → Operand → ℕ → ℕ → List Stmt
converting op w to from by next = fetching from 1 3 ∷ Put (Temp 4) op w (Temp 3) (Number by) ∷ keeping to 0 4 ∷ Goto (Number next) ∷ []

-- the address without its segment, as that of an operand
abbrev pub plain : Address → Operand
plain a = operands.Memory B32 (record a { seg = Plain })

abbrev pub leaing : Operand → ℕ → List Stmt
leaing to next = keeping to 0 1 ∷ Goto (Number next) ∷ []

abbrev pub exchanging : Operand → Width → ℕ → ℕ → List Stmt
exchanging place w r next = fetching place 0 2 ∷ fetching_register w r 3 ∷ keeping place 0 3 ∷ keeping_register w r 2 ∷ Goto (Number next) ∷ []

abbrev pub setting : Cond → Operand → ℕ → List Stmt
setting c to next = Copy (Temp 2) (Number 0) ∷ SkipUnless (Condition c) 1 ∷ Copy (Temp 2) (Number 1) ∷ keeping to 0 2 ∷ Goto (Number next) ∷ []

abbrev pub moving_if : Cond → Operand → Operand → ℕ → List Stmt
moving_if c to from next = fetching from 1 3 ∷ SkipUnless (Condition c) 1 ∷ keeping to 0 3 ∷ Goto (Number next) ∷ []

-- ---- the stack

abbrev pub esp : Source
esp = Register ESP

-- a source pushed, and then EIP
abbrev pub pushing_of : Source → Source → List Stmt
pushing_of from to = Put (Temp 3) Sub B32 esp (Number 4) ∷ Store (Temp 3) B32 from ∷ Copy esp (Temp 3) ∷ Goto to ∷ []

abbrev pub pushing_list : Operand → ℕ → List Stmt
pushing_list from next = fetching from 0 2 ∷ pushing_of (Temp 2) (Number next)

-- the popped word and ESP past it
abbrev pub popping : List Stmt → List Stmt
popping rest = Load (Temp 2) B32 esp ∷ Put (Temp 3) Add B32 esp (Number 4) ∷ rest

-- a register, and the new ESP for ESP
abbrev pub with_new_esp : Source → Source
with_new_esp (Register r) = if r % 8 == ESP then Temp 3 else Register r
with_new_esp other = other

abbrev pub popping_into : Operand → ℕ → List Stmt
popping_into (operands.Memory w a) next =
    address_from 0 (with_new_esp (index_source a.index)) (with_new_esp (base_source a.base)) a
    ++ Store (Temp 0) w (Temp 2) ∷ Copy esp (Temp 3) ∷ Goto (Number next) ∷ []
popping_into to next = Copy esp (Temp 3) ∷ keeping to 0 2 ∷ Goto (Number next) ∷ []

abbrev pub leaving : ℕ → List Stmt
leaving next =
    Load (Temp 2) B32 (Register EBP) ∷ Put (Temp 3) Add B32 (Register EBP) (Number 4) ∷ Copy esp (Temp 3) ∷ Copy (Register EBP) (Temp 2) ∷ Goto (Number next) ∷ []

-- ---- jumps, calls, loops

-- a branch's operand: an offset as the number of its target
abbrev pub resolved : ℕ → ℕ → Operand → Operand
resolved here n (operands.Offset o) = operands.Number B32 (branch_target here n o)
resolved here n target = target

abbrev pub going : Operand → List Stmt
going target = fetching target 0 2 ∷ Goto (Temp 2) ∷ []

abbrev pub calling : Operand → ℕ → List Stmt
calling target next = fetching target 0 2 ∷ pushing_of (Number next) (Temp 2)

abbrev pub returning : ℕ → List Stmt
returning extra = popping (Put esp Add B32 (Temp 3) (Number extra) ∷ Goto (Temp 2) ∷ [])

abbrev pub zero_flag : FlagSet
zero_flag = record { 0 = 8 }

abbrev pub always : Test
always = Zero (Number 0)

abbrev pub never : Test
never = Zero (Number 1)

abbrev pub loop_test : Looping → Test
loop_test Counted = always
loop_test Equal = Flag zero_flag true
loop_test NotEqual = Flag zero_flag false

-- ECX one less, also in the temporary 6
abbrev pub counting : List Stmt → List Stmt
counting rest = Put (Temp 6) Sub B32 (Register ECX) (Number 1) ∷ Copy (Register ECX) (Temp 6) ∷ rest

abbrev pub looping : Looping → ℕ → ℕ → List Stmt
looping kind target next = counting (Goto (Number next) ∷ SkipUnless (loop_test kind) 1 ∷ Branch (Zero (Temp 6)) next target ∷ [])

-- ---- flags

abbrev pub direction_flag : FlagSet
direction_flag = record { 0 = 64 }

abbrev pub changing : FlagChange → Stmt
changing changes.FlipCarry = SetFlag carry_flag (Flag carry_flag false)
changing changes.ClearCarry = SetFlag carry_flag never
changing changes.SetCarry = SetFlag carry_flag always
changing changes.ClearDirection = SetFlag direction_flag never
changing changes.SetDirection = SetFlag direction_flag always

-- a bit added to the temporary 2 where a flag is set
abbrev pub adding_flag : FlagSet → ℕ → List Stmt → List Stmt
adding_flag flag n rest = SkipUnless (Flag flag true) 1 ∷ Put (Temp 2) Add B32 (Temp 2) (Number n) ∷ rest

abbrev pub parity_flag : FlagSet
parity_flag = record { 0 = 2 }

abbrev pub adjust_flag : FlagSet
adjust_flag = record { 0 = 4 }

abbrev pub sign_flag : FlagSet
sign_flag = record { 0 = 16 }

abbrev pub loading_status : ℕ → List Stmt
loading_status next =
    Copy (Temp 2) (Number 2)
    ∷ adding_flag carry_flag 1 (adding_flag parity_flag 4 (adding_flag adjust_flag 16 (adding_flag zero_flag 64 (adding_flag sign_flag 128
    (keeping_register B8 AH 2 ∷ Goto (Number next) ∷ [])))))

abbrev pub storing_status : ℕ → List Stmt
storing_status next = fetching_register B8 AH 2 ∷ SetFlags Status B8 (Temp 2) (Number 0) (Number 0) ∷ Goto (Number next) ∷ []

-- ---- shifts

-- the flags set free where the test of an operator at the count and a number gives 0
abbrev pub freeing : Op → ℕ → FlagSet → List Stmt → List Stmt
freeing op n which rest = Put (Temp 5) op B32 (Temp 3) (Number n) ∷ SkipUnless (Zero (Temp 5)) 1 ∷ FreeFlags which ∷ rest

-- the flags of a shift by the count in the temporary 3, those of a set free past the width, and the next instruction
abbrev pub shift_ending : FlagRule → Width → FlagSet → ℕ → List Stmt
shift_ending rule w past next =
    Put (Temp 5) Eq B32 (Temp 3) (Number 0)
    ∷ SkipUnless (Zero (Temp 5)) 8
    ∷ SetFlags rule w (Temp 2) (Temp 3) (Temp 4)
    ∷ FreeFlags (free_of rule)
    ∷ freeing Eq 1 overflow_flag (freeing Ult (bits_of w) past (Goto (Number next) ∷ []))

abbrev pub shifting : Op → FlagRule → Width → Operand → Operand → ℕ → List Stmt
shifting op rule w to count next =
    fetching to 0 2
    ∷ fetching count 1 3
    ∷ Put (Temp 3) And B32 (Temp 3) (Number 31)
    ∷ Put (Temp 4) op w (Temp 2) (Temp 3)
    ∷ keeping to 0 4
    ∷ shift_ending rule w carry_flag next

abbrev pub double_shifting : Op → Op → FlagRule → Width → Operand → ℕ → Operand → ℕ → List Stmt
double_shifting op other rule w to register count next =
    fetching to 0 2
    ∷ fetching count 1 3
    ∷ fetching_register w register 5
    ∷ Put (Temp 3) And B32 (Temp 3) (Number 31)
    ∷ Put (Temp 4) op w (Temp 2) (Temp 3)
    ∷ Put (Temp 6) Sub B32 (Number (bits_of w)) (Temp 3)
    ∷ Put (Temp 5) other w (Temp 5) (Temp 6)
    ∷ Put (Temp 4) Or w (Temp 4) (Temp 5)
    ∷ Put (Temp 5) Ult B32 (Temp 3) (Number (bits_of w))
    ∷ SkipUnless (Zero (Temp 5)) 1
    ∷ Choose (Temp 4) w
    ∷ keeping to 0 4
    ∷ shift_ending rule w status_flags next

-- ---- bits tested and found

-- the bit in the temporary 4 turned into all others, for BTR
abbrev pub turning_bit : BitChange → Width → Stmt
turning_bit ClearBit w = Put (Temp 4) Not w (Temp 4) (Number 0)
turning_bit _ w = nothing

-- the temporary 3 with it set, cleared or flipped
abbrev pub changing_bit : BitChange → Width → Stmt
changing_bit KeepBit w = nothing
changing_bit SetBit w = Put (Temp 4) Or w (Temp 3) (Temp 4)
changing_bit ClearBit w = Put (Temp 4) And w (Temp 3) (Temp 4)
changing_bit FlipBit w = Put (Temp 4) Xor w (Temp 3) (Temp 4)

-- BT writes none
abbrev pub keeping_bit : BitChange → Width → ℕ → Stmt
keeping_bit KeepBit w register = nothing
keeping_bit _ w register = keeping_register w register 4

abbrev pub testing_bit : BitChange → Width → ℕ → Operand → ℕ → List Stmt
testing_bit change w register index next =
    fetching index 0 2
    ∷ fetching_register w register 3
    ∷ Put (Temp 5) And B32 (Temp 2) (Number (bits_of w - 1))
    ∷ Put (Temp 4) Shl w (Number 1) (Temp 5)
    ∷ turning_bit change w
    ∷ changing_bit change w
    ∷ keeping_bit change w register
    ∷ SetFlags BitTest w (Temp 3) (Temp 2) (Number 0)
    ∷ FreeFlags (free_of BitTest)
    ∷ Goto (Number next)
    ∷ []

abbrev pub finding_bit : Op → Width → ℕ → Operand → ℕ → List Stmt
finding_bit op w register from next =
    fetching from 0 2
    ∷ Choose (Temp 4) w
    ∷ Put (Temp 5) Eq w (Temp 2) (Number 0)
    ∷ SkipUnless (Zero (Temp 5)) 1
    ∷ Put (Temp 4) op w (Temp 2) (Number 0)
    ∷ keeping_register w register 4
    ∷ SetFlags BitScan w (Temp 2) (Number 0) (Temp 4)
    ∷ FreeFlags (free_of BitScan)
    ∷ Goto (Number next)
    ∷ []

-- ---- exchanges with a comparison or a sum

abbrev pub comparing_exchange : Operand → Width → ℕ → ℕ → List Stmt
comparing_exchange place w register next =
    fetching place 0 2
    ∷ fetching_register w EAX 3
    ∷ fetching_register w register 4
    ∷ Put (Temp 5) Sub w (Temp 3) (Temp 2)
    ∷ Put (Temp 6) Eq w (Temp 3) (Temp 2)
    ∷ SkipUnless (Zero (Temp 6)) 1
    ∷ Copy (Temp 4) (Temp 2)
    ∷ keeping place 0 4
    ∷ SkipUnless (Zero (Temp 6)) 1
    ∷ keeping_register w EAX 2
    ∷ ending Difference w 3 2 5 next

-- the temporary that the register takes: the place's old value, or the sum
abbrev pub added_source : ℕ → Operand → ℕ
added_source register place = if is_register_numbered register place then 4 else 2

abbrev pub adding_exchange : Operand → Width → ℕ → ℕ → List Stmt
adding_exchange place w register next =
    fetching place 0 2
    ∷ fetching_register w register 3
    ∷ Put (Temp 4) Add w (Temp 2) (Temp 3)
    ∷ keeping place 0 4
    ∷ keeping_register w register (added_source register place)
    ∷ ending Sum w 2 3 4 next

-- ---- products and quotients

abbrev pub multiplying_long : Op → FlagRule → Width → Operand → ℕ → List Stmt
multiplying_long high rule w from next =
    fetching from 0 2
    ∷ fetching_register w EAX 3
    ∷ Put (Temp 4) Mul w (Temp 3) (Temp 2)
    ∷ Put (Temp 5) high w (Temp 3) (Temp 2)
    ∷ keeping_register w EAX 4
    ∷ keeping_register w (upper_register w) 5
    ∷ ending rule w 3 2 4 next

abbrev pub multiplying : Width → ℕ → Operand → Operand → ℕ → List Stmt
multiplying w r left right next =
    fetching left 0 2 ∷ fetching right 1 3 ∷ Put (Temp 4) Mul w (Temp 2) (Temp 3) ∷ keeping_register w r 4 ∷ ending SignedProduct w 2 3 4 next

abbrev pub dividing : Bool → Width → Operand → ℕ → List Stmt
dividing signed w by next = fetching by 0 2 ∷ Divide signed w (Temp 2) ∷ FreeFlags status_flags ∷ Goto (Number next) ∷ []

-- ---- strings

-- the step of ESI and EDI into the temporary 5
abbrev pub stepping : Width → List Stmt → List Stmt
stepping w rest =
    Copy (Temp 5) (Number (bytes_of w)) ∷ SkipUnless (Flag direction_flag true) 1 ∷ Copy (Temp 5) (Number (2 ^ 32 - bytes_of w)) ∷ rest

-- a register moved by the step
abbrev pub advancing : ℕ → Stmt
advancing r = Put (Register r) Add B32 (Register r) (Temp 5)

-- the element at ESI into the temporary 2
abbrev pub from_source : Width → Seg → List Stmt → List Stmt
from_source w seg rest = Put (Temp 0) Add B32 (Register ESI) (Base seg) ∷ Load (Temp 2) w (Temp 0) ∷ rest

-- the element at EDI into the temporary 3, and the flags of the temporary 2 less it
abbrev pub with_destination : Width → List Stmt → List Stmt
with_destination w rest =
    Load (Temp 3) w (Register EDI)
    ∷ Put (Temp 4) Sub w (Temp 2) (Temp 3)
    ∷ SetFlags Difference w (Temp 2) (Temp 3) (Temp 4)
    ∷ FreeFlags (free_of Difference)
    ∷ rest

abbrev pub element_list : StringKind → Width → Seg → List Stmt → List Stmt
element_list kinds.Move w seg rest = from_source w seg (Store (Register EDI) w (Temp 2) ∷ advancing ESI ∷ advancing EDI ∷ rest)
element_list kinds.Compare w seg rest = from_source w seg (with_destination w (advancing ESI ∷ advancing EDI ∷ rest))
element_list kinds.Store w seg rest = fetching_register w EAX 2 ∷ Store (Register EDI) w (Temp 2) ∷ advancing EDI ∷ rest
element_list kinds.Load w seg rest = from_source w seg (keeping_register w EAX 2 ∷ advancing ESI ∷ rest)
element_list kinds.Scan w seg rest = fetching_register w EAX 2 ∷ with_destination w (advancing EDI ∷ rest)

-- how many statements stand before the rest
abbrev pub element_size : StringKind → ℕ
element_size kinds.Move = 5
element_size kinds.Compare = 8
element_size kinds.Store = 3
element_size kinds.Load = 4
element_size kinds.Scan = 6

abbrev pub end_test : Repeat → Test
end_test repeats.Repe = Flag zero_flag false
end_test repeats.Repne = Flag zero_flag true
end_test _ = never

-- the end of a repetition: back to the instruction itself, unless it is over
abbrev pub ending_repetition : Repeat → ℕ → ℕ → List Stmt
ending_repetition repeat here next =
    counting (Goto (Number here) ∷ SkipUnless (Zero (Temp 6)) 1 ∷ Goto (Number next) ∷ SkipUnless (end_test repeat) 1 ∷ Goto (Number next) ∷ [])

abbrev pub repeating : Repeat → StringKind → Width → Seg → ℕ → ℕ → List Stmt
repeating repeat kind w seg here next =
    SkipUnless (Zero (Register ECX)) 2
    ∷ Goto (Number next)
    ∷ SkipUnless never (element_size kind + 10)
    ∷ stepping w (element_list kind w seg (ending_repetition repeat here next))

abbrev pub string_list : StringKind → Width → Seg → Repeat → ℕ → ℕ → List Stmt
string_list kind w seg repeats.Once here next = stepping w (element_list kind w seg (Goto (Number next) ∷ []))
string_list kind w seg repeat here next = repeating repeat kind w seg here next
