-- For what an operation faults, told by its accesses to memory (manual, volume 1, section 6.5; volume 2, "Protected Mode Exceptions" of each instruction). All of them are made on the state before it.
use Rattle.std.specs.Prelude.{ℕ, zero, suc, ◌/◌, ◌^◌, Bool, true, false, not, ◌&&◌, ◌==◌, if◌then◌else◌, List, [], ◌∷◌, ◌++◌, Option, None, Some, is_some, unwrap_or, nat_lt, int_div}
use Rattle.std.specs.Int.{cast_unsigned, w32}
use Rattle.std.specs.List.{list_all}
use Rattle.bit_words.specs.declared.width.Width.{Width}
use Rattle.bit_words.specs.declared.width.Width.TheVariants.{B32}
use Rattle.bit_words.specs.Width.{bits_of, bytes_of, cut, is_signed, signed_of}
use Rattle.memory_map.specs.declared.fault.FaultKind.{FaultKind}
use Rattle.memory_map.specs.declared.fault.FaultKind.TheVariants as kinds
use Rattle.memory_map.specs.Range.{byte_at, may_write}
use Rattle.memory_map.specs.State.{MachineState, memory}
use Rattle.memory_map.specs.declared.registers.TheConstants.{ECX, ESP, EBP, EDI}
use Rattle.x86_syntax.specs.declared.instr.Operand.{Operand}
use Rattle.x86_syntax.specs.declared.instr.Operand.TheVariants.{Register, Number, Memory, Offset}
use Rattle.x86_syntax.specs.declared.instr.Repeat.{Repeat}
use Rattle.x86_syntax.specs.declared.instr.Repeat.TheVariants.{Once}
use Rattle.x86_syntax.specs.declared.instr.Seg.{Seg}
use Rattle.x86_semantics.specs.declared.operation.Operation.{Operation}
use Rattle.x86_semantics.specs.declared.operation.Operation.TheVariants.{Combine, Carry, Compare, Move, Convert, Lea, Exchange, Shift, DoubleShift, TestBit, FindBit, CompareExchange, ExchangeAdd, MultiplyLong, Multiply, Divide, Goto, Call, Return, Push, Pop, Leave, Set, MoveIf, Element, Stop}
use Rattle.x86_semantics.specs.declared.operation.StringKind.{StringKind}
use Rattle.x86_semantics.specs.declared.operation.StringKind.TheVariants as strings
use Rattle.x86_semantics.specs.Condition.{is_met}
use Rattle.x86_semantics.specs.Memory.{next_byte, word_at}
use Rattle.x86_semantics.specs.Moves.{below, popped}
use Rattle.x86_semantics.specs.Operands.{address_of}
use Rattle.x86_semantics.specs.Products.{dividend, signed_dividend}
use Rattle.x86_semantics.specs.Registers.{part, register}
use Rattle.x86_semantics.specs.Strings.{source_address}

-- ---- accesses

-- the bytes of a word from an address on
pub record Access : Type 0 where
  pub at : ℕ
  pub width : Width

-- n addresses from one on
unfoldable pub addresses : ℕ → ℕ → List ℕ
addresses zero a = []
addresses (suc n) a = a ∷ addresses n (next_byte a)

abbrev pub is_mapped : MachineState → Access → Bool
is_mapped m x = list_all (λ a. is_some (byte_at (memory m) a)) (addresses (bytes_of x.width) x.at)

abbrev pub is_writable : MachineState → Access → Bool
is_writable m x = list_all (may_write (memory m)) (addresses (bytes_of x.width) x.at)

-- that to an operand: none to a register or a number
abbrev pub operand : MachineState → Operand → List Access
operand m (Memory w a) = record { at = address_of a m; width = w } ∷ []
operand m _ = []

abbrev pub word : ℕ → List Access
word a = record { at = a; width = B32 } ∷ []

-- the word at ESP, and that below it
abbrev pub top : MachineState → List Access
top m = word (register ESP m)

abbrev pub pushed : MachineState → List Access
pushed m = word (below (register ESP m) 4)

-- ---- string operations: the element at ESI and that at EDI

abbrev pub source : Width → Seg → MachineState → List Access
source w seg m = record { at = source_address seg m; width = w } ∷ []

abbrev pub destination : Width → MachineState → List Access
destination w m = record { at = register EDI m; width = w } ∷ []

abbrev pub element_reads : StringKind → Width → Seg → MachineState → List Access
element_reads strings.Move w seg m = source w seg m
element_reads strings.Compare w seg m = source w seg m ++ destination w m
element_reads strings.Store w seg m = []
element_reads strings.Load w seg m = source w seg m
element_reads strings.Scan w seg m = destination w m

abbrev pub element_writes : StringKind → Width → MachineState → List Access
element_writes strings.Move w m = destination w m
element_writes strings.Store w m = destination w m
element_writes _ w m = []

-- a repetition whose count has come to 0 makes no access
abbrev pub is_over : Repeat → MachineState → Bool
is_over Once m = false
is_over _ m = register ECX m == 0

-- ---- what an operation reads and writes of memory

abbrev pub reads : Operation → MachineState → List Access
reads (Combine op rule w to from) m = operand m to ++ operand m from
reads (Carry op rule w to from) m = operand m to ++ operand m from
reads (Compare op rule w left right) m = operand m left ++ operand m right
reads (Move to from) m = operand m from
reads (Convert op w to from by) m = operand m from
reads (Exchange place w r) m = operand m place
reads (Shift op rule w to count) m = operand m to ++ operand m count
reads (DoubleShift op other rule w to r count) m = operand m to ++ operand m count
reads (TestBit change w r index) m = operand m index
reads (FindBit op w r from) m = operand m from
reads (CompareExchange place w r) m = operand m place
reads (ExchangeAdd place w r) m = operand m place
reads (MultiplyLong high rule w from) m = operand m from
reads (Multiply w r left right) m = operand m left ++ operand m right
reads (Divide signed w by) m = operand m by
reads (Goto target) m = operand m target
reads (Call target) m = operand m target
reads (Return extra) m = top m
reads (Push from) m = operand m from
reads (Pop to) m = top m
reads Leave m = word (register EBP m)
reads (MoveIf c to from) m = operand m from
reads (Element kind w seg times) m = if is_over times m then [] else element_reads kind w seg m
reads _ m = []

-- POP reckons the address of its operand with the new ESP
abbrev pub writes : Operation → MachineState → List Access
writes (Combine op rule w to from) m = operand m to
writes (Carry op rule w to from) m = operand m to
writes (Move to from) m = operand m to
writes (Convert op w to from by) m = operand m to
writes (Lea to address) m = operand m to
writes (Exchange place w r) m = operand m place
writes (Shift op rule w to count) m = operand m to
writes (DoubleShift op other rule w to r count) m = operand m to
writes (CompareExchange place w r) m = operand m place
writes (ExchangeAdd place w r) m = operand m place
writes (Call target) m = pushed m
writes (Push from) m = pushed m
writes (Pop to) m = operand (popped m) to
writes (Set c to) m = operand m to
writes (MoveIf c to from) m = if is_met c m.flags then operand m to else []
writes (Element kind w seg times) m = if is_over times m then [] else element_writes kind w m
writes _ m = []

-- ---- division

-- an operand's value; of memory that is not mapped the read is the fault, and its value is not looked at
abbrev pub value_of : MachineState → Operand → ℕ
value_of m (Register w r) = part w r m
value_of m (Number w n) = cut w n
value_of m (Memory w a) = unwrap_or (word_at w (address_of a m) m) 0
value_of m (Offset o) = cast_unsigned w32 o

-- whether a quotient is a number of the width: of DIV one without a sign, of IDIV one with a sign
abbrev pub fits : Bool → Width → ℕ → MachineState → Bool
fits true w d m = is_signed w (int_div (signed_dividend w m) (signed_of w d))
fits false w d m = nat_lt (dividend w m / cut w d) (2 ^ bits_of w)

abbrev pub can_divide : Operation → MachineState → Bool
can_divide (Divide signed w by) m = not (cut w (value_of m by) == 0) && fits signed w (value_of m by) m
can_divide _ m = true

-- ---- faults, in their order

-- HLT, INT3, UD2 and what no spelling names
abbrev pub stop_of : Operation → Option FaultKind
stop_of (Stop kind) = Some kind
stop_of _ = None

-- the first fault of an operation: a byte that it reads is not mapped, it divides by 0 or the quotient does not fit, a byte that it writes may not be written
abbrev pub first_fault : Operation → MachineState → Option FaultKind
first_fault op m =
    if not (list_all (is_mapped m) (reads op m)) then Some kinds.Read
    else if not (can_divide op m) then Some kinds.Divide
    else if not (list_all (is_writable m) (writes op m)) then Some kinds.Write
    else stop_of op
