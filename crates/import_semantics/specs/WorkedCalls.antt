-- Single calls of imported functions on a small machine, each with what is due, worked out by hand.
use Rattle.std.specs.Prelude.{ℕ, ◌≡◌, ◌-◌, ◌/◌, ◌%◌, Bool, true, false, List, [], ◌∷◌, ◌++◌, map, flat_map, replicate, take}
use Rattle.memory_map.specs.declared.choice.Choice.{Choice}
use Rattle.memory_map.specs.declared.fault.BadKind.{BadKind}
use Rattle.memory_map.specs.declared.fault.BadKind.TheVariants as bad
use Rattle.memory_map.specs.declared.fault.FaultKind.{FaultKind}
use Rattle.memory_map.specs.declared.fault.FaultKind.TheVariants.{NoBlock, NoStack, Write}
use Rattle.memory_map.specs.Range.{Range}
use Rattle.memory_map.specs.State.{Flags, MachineState}
use Rattle.stub_file.specs.declared.stub.Amount.{Amount}
use Rattle.stub_file.specs.declared.stub.Amount.TheVariants.{Argument, Fixed}
use Rattle.stub_file.specs.declared.stub.Reply.{Reply}
use Rattle.stub_file.specs.declared.stub.Reply.TheVariants.{Anything, Block, Enter, Number}
use Rattle.stub_file.specs.declared.stub.Stub.{Stub}
use Rattle.stub_file.specs.declared.stub.StubWrite.{StubWrite}
use Rattle.import_semantics.specs.StubDoes.{Bad, Faulted, Returned, StubEnd, stub_does}

pub record Call : Type 0 where
  pub stub : Stub
  pub before : MachineState
  pub choice : Choice
  pub due : StubEnd

abbrev pub what_comes : Call → StubEnd
what_comes c = stub_does c.stub c.choice c.before

abbrev pub what_is_due : Call → StubEnd
what_is_due c = c.due

abbrev pub call : Stub → MachineState → Choice → (MachineState → StubEnd) → Call
call s m choice due = record { stub = s; before = m; choice = choice; due = due m }

-- ---- stubs: the bytes of the arguments, those that it takes off, the reply and the writes

abbrev pub stub : ℕ → ℕ → Reply → List StubWrite → Stub
stub args cleans reply writes = record { args = args; cleans = cleans; reply = reply; writes = record { items = writes } }

abbrev pub plain : Reply → Stub
plain reply = stub 0 0 reply []

-- the argument with the pointer, and the length
abbrev pub write : ℕ → Amount → StubWrite
write arg length = record { arg = arg; length = length }

-- blocks of which the bytes are any, or zeros; and a call that may fail
abbrev pub block : Amount → Reply
block size = Block size false false

abbrev pub zeroed_block : Amount → Reply
zeroed_block size = Block size true false

abbrev pub failing_block : Amount → Reply
failing_block size = Block size false true

-- ---- the machine

-- words of memory, the lowest byte first
abbrev pub word_bytes : ℕ → List ℕ
word_bytes n = n % 256 ∷ n / 256 % 256 ∷ n / 65536 % 256 ∷ n / 16777216 ∷ []

abbrev pub words : List ℕ → List ℕ
words ns = flat_map word_bytes ns

-- where the calls return to
abbrev pub BACK : ℕ
BACK = 0x40002

-- the stack window, from 0x10000 up to 0x10020, of AA but for words from an address on
abbrev pub window_from : ℕ → List ℕ → Range
window_from at ns = record { low = 0x10000; bytes = take 32 (replicate (at - 0x10000) 0xAA ++ (words ns ++ replicate 32 0xAA)); write = true; execute = false }

-- from 0x20000 up to 0x20010, where it may be written
abbrev pub variables : List ℕ → Range
variables ns = record { low = 0x20000; bytes = words ns; write = true; execute = false }

-- from 0x30000 up to 0x30008, where it may be read alone
abbrev pub CONSTANTS : Range
CONSTANTS = record { low = 0x30000; bytes = replicate 8 0xCC; write = false; execute = false }

-- from 0x40000 up to 0x40008, where it may be executed
abbrev pub CODE : Range
CODE = record { low = 0x40000; bytes = replicate 8 0x90; write = false; execute = true }

-- memory that was handed out before
abbrev pub block_at : ℕ → List ℕ → Range
block_at base bytes = record { low = base; bytes = bytes; write = true; execute = false }

abbrev pub DD : ℕ
DD = 0xDDDDDDDD

abbrev pub AA : ℕ
AA = 0xAAAAAAAA

abbrev pub SET : Flags
SET = record { carry = true; parity = true; adjust = true; zero = true; sign = true; overflow = true; direction = true }

-- the machine with ESP at an address, and words there: the return address and the arguments
abbrev pub at : ℕ → List ℕ → MachineState
at esp ns = record {
  registers = record { eax = 1; ecx = 2; edx = 3; ebx = 4; esp = esp; ebp = 5; esi = 6; edi = 7 };
  eip = 0xF0000010;
  flags = SET;
  fs = 0x60000;
  gs = 0x70000;
  stack = window_from esp ns;
  ranges = variables (DD ∷ DD ∷ DD ∷ DD ∷ []) ∷ CONSTANTS ∷ CODE ∷ [];
}

-- with the return address and arguments in the upper half of the window
abbrev pub called : List ℕ → MachineState
called arguments = at 0x10010 (BACK ∷ arguments)

-- with ESP elsewhere
abbrev pub moved : ℕ → MachineState → MachineState
moved esp m = record m { registers = record m.registers { esp = esp } }

-- with a further range
abbrev pub beside : Range → MachineState → MachineState
beside r m = record m { ranges = m.ranges ++ r ∷ [] }

-- ---- choices

abbrev pub PLAIN : Choice
PLAIN = record { flags = 0; eax = 0xA; ecx = 0xC; edx = 0xD; base = 0; fails = false; fill = [] }

abbrev pub based : ℕ → Choice
based base = record PLAIN { base = base }

abbrev pub FAILS : Choice
FAILS = record PLAIN { base = 0x50000; fails = true }

-- a choice with bytes filled in from an address on, after those before
abbrev pub filled : ℕ → List ℕ → Choice → Choice
filled at bytes choice = record choice { fill = choice.fill ++ record { at = at; bytes = bytes } ∷ [] }

abbrev pub put : ℕ → ℕ → Choice → Choice
put at byte choice = filled at (byte ∷ []) choice

-- ---- what is due

abbrev pub faults : FaultKind → MachineState → StubEnd
faults kind m = Faulted kind

abbrev pub is_bad : BadKind → MachineState → StubEnd
is_bad kind m = Bad kind

-- CF PF AF ZF SF OF; DF is clear
abbrev pub flags : Bool → Bool → Bool → Bool → Bool → Bool → Flags
flags c p a z s o = record { carry = c; parity = p; adjust = a; zero = z; sign = s; overflow = o; direction = false }

-- EAX ECX EDX ESP EIP, the flags and what changes in memory; all else is as it was
abbrev pub goes_on : ℕ → ℕ → ℕ → ℕ → ℕ → Flags → (MachineState → MachineState) → MachineState → StubEnd
goes_on eax ecx edx esp eip flags change m =
    Returned (record (change m) { registers = record m.registers { eax = eax; ecx = ecx; edx = edx; esp = esp }; eip = eip; flags = flags })

abbrev pub CLEAR : Flags
CLEAR = flags false false false false false false

-- by a choice that is plain but for base, failure and fills: back with EAX and ESP, or into a function with ESP
abbrev pub returns : ℕ → ℕ → (MachineState → MachineState) → MachineState → StubEnd
returns eax esp change m = goes_on eax 0xC 0xD esp BACK CLEAR change m

abbrev pub enters : ℕ → ℕ → (MachineState → MachineState) → MachineState → StubEnd
enters eip esp change m = goes_on 0xA 0xC 0xD esp eip CLEAR change m

abbrev pub same : MachineState → MachineState
same m = m

-- the eight words of the window
abbrev pub window : ℕ → ℕ → ℕ → ℕ → ℕ → ℕ → ℕ → ℕ → MachineState → MachineState
window a b c d e f g h m = record m { stack = window_from 0x10000 (a ∷ b ∷ c ∷ d ∷ e ∷ f ∷ g ∷ h ∷ []) }

-- the four words that may be written elsewhere
abbrev pub written : ℕ → ℕ → ℕ → ℕ → MachineState → MachineState
written a b c d m = record m { ranges = variables (a ∷ b ∷ c ∷ d ∷ []) ∷ CONSTANTS ∷ CODE ∷ [] }

-- the ranges beside those of the program
abbrev pub blocks : List Range → MachineState → MachineState
blocks rs m = record m { ranges = variables (DD ∷ DD ∷ DD ∷ DD ∷ []) ∷ CONSTANTS ∷ CODE ∷ rs }

-- ---- the tables

-- the return address and the arguments lie in the window, whose ends are met exactly, and then passed
abbrev pub STACK : List Call
STACK =
    call (plain Anything) (called []) PLAIN (returns 0xA 0x10014 same)
    ∷ call (stub 0 4 Anything []) (called []) PLAIN (returns 0xA 0x10018 same)
    ∷ call (stub 4 0 Anything []) (called (5 ∷ [])) PLAIN (returns 0xA 0x10014 same)
    ∷ call (stub 8 4 Anything []) (called (5 ∷ 6 ∷ [])) PLAIN (returns 0xA 0x10018 same)
    ∷ call (stub 8 8 Anything []) (called (5 ∷ 6 ∷ [])) PLAIN (returns 0xA 0x1001C same)
    ∷ call (plain Anything) (at 0x10000 (BACK ∷ [])) PLAIN (returns 0xA 0x10004 same)
    ∷ call (plain Anything) (at 0x1001C (BACK ∷ [])) PLAIN (returns 0xA 0x10020 same)
    ∷ call (stub 12 64 Anything []) (called (5 ∷ 6 ∷ 7 ∷ [])) PLAIN (returns 0xA 0x10054 same)
    ∷ call (stub 4 4 Anything []) (at 0x1000D (BACK ∷ 5 ∷ [])) PLAIN (returns 0xA 0x10015 same)
    ∷ call (stub 4 0 Anything []) (at 0x1001C (BACK ∷ [])) PLAIN (faults NoStack)
    ∷ call (plain Anything) (at 0x1001D (BACK ∷ [])) PLAIN (faults NoStack)
    ∷ call (plain Anything) (at 0x10020 []) PLAIN (faults NoStack)
    ∷ call (stub 16 0 Anything []) (called (5 ∷ 6 ∷ 7 ∷ [])) PLAIN (faults NoStack)
    ∷ call (plain Anything) (moved 0xFFFF (at 0x10000 (BACK ∷ []))) PLAIN (faults NoStack)
    ∷ call (plain Anything) (moved 0x20000 (at 0x10000 (BACK ∷ []))) PLAIN (faults NoStack)
    ∷ call (plain Anything) (moved 0 (at 0x10000 (BACK ∷ []))) PLAIN (faults NoStack)
    ∷ []

-- EAX is any or a number, ECX and EDX are any, the flags are the choice's bits and DF is clear
abbrev pub REGISTERS : List Call
REGISTERS =
    call (plain Anything) (called []) (record PLAIN { flags = 1 }) (goes_on 0xA 0xC 0xD 0x10014 BACK (flags true false false false false false) same)
    ∷ call (plain Anything) (called []) (record PLAIN { flags = 2 }) (goes_on 0xA 0xC 0xD 0x10014 BACK (flags false true false false false false) same)
    ∷ call (plain Anything) (called []) (record PLAIN { flags = 4 }) (goes_on 0xA 0xC 0xD 0x10014 BACK (flags false false true false false false) same)
    ∷ call (plain Anything) (called []) (record PLAIN { flags = 8 }) (goes_on 0xA 0xC 0xD 0x10014 BACK (flags false false false true false false) same)
    ∷ call (plain Anything) (called []) (record PLAIN { flags = 16 }) (goes_on 0xA 0xC 0xD 0x10014 BACK (flags false false false false true false) same)
    ∷ call (plain Anything) (called []) (record PLAIN { flags = 32 }) (goes_on 0xA 0xC 0xD 0x10014 BACK (flags false false false false false true) same)
    ∷ call (plain Anything) (called []) (record PLAIN { flags = 0x3F }) (goes_on 0xA 0xC 0xD 0x10014 BACK (flags true true true true true true) same)
    ∷ call (plain Anything) (called []) (record PLAIN { flags = 0xC0 }) (goes_on 0xA 0xC 0xD 0x10014 BACK (flags false false false false false false) same)
    ∷ call (plain Anything) (called []) (record PLAIN { eax = 0xFFFFFFFF; ecx = 0x80000000; edx = 0x12345678 }) (goes_on 0xFFFFFFFF 0x80000000 0x12345678 0x10014 BACK CLEAR same)
    ∷ call (plain (Number 0)) (called []) PLAIN (returns 0 0x10014 same)
    ∷ call (stub 12 12 (Number 0xFFFFFFFF) []) (called (5 ∷ 6 ∷ 7 ∷ [])) (based 0x10000) (returns 0xFFFFFFFF 0x10020 same)
    ∷ call (plain (Number 7)) (called []) (record PLAIN { flags = 0x15 }) (goes_on 7 0xC 0xD 0x10014 BACK (flags true false true false true false) same)
    ∷ call (plain (block (Fixed 1))) (called []) (record PLAIN { flags = 0x2A; eax = 9; ecx = 8; edx = 7; base = 0x50000 }) (goes_on 0x50000 8 7 0x10014 BACK (flags false true false true false true) (blocks (block_at 0x50000 (0 ∷ []) ∷ [])))
    ∷ call (plain Anything) (called []) FAILS (is_bad bad.Fails)
    ∷ call (plain (Number 7)) (called []) FAILS (is_bad bad.Fails)
    ∷ []

-- a write with pointer and length not 0 must be writable whole; its bytes become any bytes, and no others do
abbrev pub WRITES : List Call
WRITES =
    call (stub 4 0 Anything (write 0 (Fixed 4) ∷ [])) (called (0 ∷ [])) PLAIN (returns 0xA 0x10014 same)
    ∷ call (stub 4 0 Anything (write 0 (Fixed 0) ∷ [])) (called (0x12345 ∷ [])) PLAIN (returns 0xA 0x10014 same)
    ∷ call (stub 8 0 Anything (write 0 (Argument 1) ∷ [])) (called (0x12345 ∷ 0 ∷ [])) PLAIN (returns 0xA 0x10014 same)
    ∷ call (stub 4 0 Anything (write 0 (Fixed 4) ∷ [])) (called (0x20004 ∷ [])) PLAIN (returns 0xA 0x10014 same)
    ∷ call (stub 4 0 Anything (write 0 (Fixed 4) ∷ [])) (called (0x20004 ∷ [])) (put 0x20004 0x5A PLAIN) (returns 0xA 0x10014 (written DD 0xDDDDDD5A DD DD))
    ∷ call (stub 4 0 Anything (write 0 (Fixed 4) ∷ [])) (called (0x20004 ∷ [])) (put 0x20007 0x5A PLAIN) (returns 0xA 0x10014 (written DD 0x5ADDDDDD DD DD))
    ∷ call (stub 4 0 Anything (write 0 (Fixed 4) ∷ [])) (called (0x20004 ∷ [])) (put 0x20003 0x5A PLAIN) (is_bad bad.Fill)
    ∷ call (stub 4 0 Anything (write 0 (Fixed 4) ∷ [])) (called (0x20004 ∷ [])) (put 0x20008 0x5A PLAIN) (is_bad bad.Fill)
    ∷ call (stub 4 0 Anything (write 0 (Fixed 0) ∷ [])) (called (0x20004 ∷ [])) (put 0x20004 0x5A PLAIN) (is_bad bad.Fill)
    ∷ call (stub 4 0 Anything (write 0 (Fixed 4) ∷ [])) (called (0 ∷ [])) (put 0 0x5A PLAIN) (is_bad bad.Fill)
    ∷ call (stub 8 0 Anything (write 0 (Argument 1) ∷ [])) (called (0x20004 ∷ 5 ∷ [])) (put 0x20008 1 PLAIN) (returns 0xA 0x10014 (written DD DD 0xDDDDDD01 DD))
    ∷ call (stub 8 0 Anything (write 0 (Argument 1) ∷ [])) (called (0x20004 ∷ 5 ∷ [])) (filled 0x20008 (1 ∷ 2 ∷ []) PLAIN) (is_bad bad.Fill)
    ∷ call (stub 4 0 Anything (write 0 (Fixed 16) ∷ [])) (called (0x20000 ∷ [])) (filled 0x2000E (6 ∷ 7 ∷ []) PLAIN) (returns 0xA 0x10014 (written DD DD DD 0x0706DDDD))
    ∷ call (stub 4 0 Anything (write 0 (Fixed 17) ∷ [])) (called (0x20000 ∷ [])) PLAIN (faults Write)
    ∷ call (stub 4 0 Anything (write 0 (Fixed 4) ∷ [])) (called (0x2000D ∷ [])) PLAIN (faults Write)
    ∷ call (stub 4 0 Anything (write 0 (Fixed 4) ∷ [])) (called (0x1FFFF ∷ [])) PLAIN (faults Write)
    ∷ call (stub 4 0 Anything (write 0 (Fixed 1) ∷ [])) (called (0x30000 ∷ [])) PLAIN (faults Write)
    ∷ call (stub 4 0 Anything (write 0 (Fixed 1) ∷ [])) (called (0x40000 ∷ [])) PLAIN (faults Write)
    ∷ call (stub 4 0 Anything (write 0 (Fixed 1) ∷ [])) (called (0x50000 ∷ [])) PLAIN (faults Write)
    ∷ call (stub 4 0 Anything (write 0 (Fixed 1) ∷ [])) (called (1 ∷ [])) PLAIN (faults Write)
    ∷ call (stub 4 0 Anything (write 0 (Fixed 2) ∷ [])) (called (0xFFFFFFFF ∷ [])) PLAIN (faults Write)
    ∷ call (stub 4 0 Anything (write 0 (Fixed 4) ∷ [])) (called (0x1001D ∷ [])) PLAIN (faults Write)
    ∷ call (stub 8 0 Anything (write 0 (Fixed 4) ∷ write 1 (Fixed 4) ∷ [])) (called (0x20000 ∷ 0x2000C ∷ [])) (put 0x20000 1 (put 0x2000C 2 PLAIN)) (returns 0xA 0x10014 (written 0xDDDDDD01 DD DD 0xDDDDDD02))
    ∷ call (stub 8 0 Anything (write 0 (Fixed 4) ∷ write 1 (Fixed 4) ∷ [])) (called (0x20000 ∷ 0x30000 ∷ [])) PLAIN (faults Write)
    ∷ call (stub 8 0 Anything (write 0 (Fixed 4) ∷ write 1 (Fixed 4) ∷ [])) (called (0x30000 ∷ 0x20000 ∷ [])) PLAIN (faults Write)
    ∷ call (stub 8 0 Anything (write 0 (Fixed 4) ∷ write 1 (Fixed 4) ∷ [])) (called (0 ∷ 0x20000 ∷ [])) (put 0x20003 3 PLAIN) (returns 0xA 0x10014 (written 0x03DDDDDD DD DD DD))
    -- two ranges that touch
    ∷ call (stub 4 0 Anything (write 0 (Fixed 4) ∷ [])) (beside (block_at 0x20010 (8 ∷ 8 ∷ 8 ∷ 8 ∷ [])) (called (0x2000E ∷ []))) (filled 0x2000E (1 ∷ 2 ∷ 3 ∷ 4 ∷ []) PLAIN) (returns 0xA 0x10014 (λ m. beside (block_at 0x20010 (3 ∷ 4 ∷ 8 ∷ 8 ∷ [])) (written DD DD DD 0x0201DDDD m)))
    -- the return address itself is written, and was read before
    ∷ call (stub 4 0 Anything (write 0 (Fixed 4) ∷ [])) (called (0x10010 ∷ [])) (filled 0x10010 (1 ∷ 2 ∷ 3 ∷ 4 ∷ []) PLAIN) (returns 0xA 0x10014 (window AA AA AA AA 0x04030201 0x10010 AA AA))
    -- so was the pointer
    ∷ call (stub 8 0 Anything (write 0 (Argument 1) ∷ [])) (called (0x10014 ∷ 4 ∷ [])) (filled 0x10014 (0 ∷ 0 ∷ 0 ∷ 0 ∷ []) PLAIN) (returns 0xA 0x10014 (window AA AA AA AA BACK 0 4 AA))
    -- the window above the arguments' end
    ∷ call (stub 4 0 Anything (write 0 (Fixed 4) ∷ [])) (called (0x1001C ∷ [])) (put 0x1001C 5 PLAIN) (returns 0xA 0x10014 (window AA AA AA AA BACK 0x1001C AA 0xAAAAAA05))
    ∷ []

-- the window's bytes below the arguments' end become any bytes, and no others do
abbrev pub WINDOW : List Call
WINDOW =
    call (plain Anything) (called []) (put 0x10000 1 PLAIN) (returns 0xA 0x10014 (window 0xAAAAAA01 AA AA AA BACK AA AA AA))
    ∷ call (plain Anything) (called []) (put 0xFFFF 1 PLAIN) (is_bad bad.Fill)
    ∷ call (plain Anything) (called []) (put 0x10013 0x5A PLAIN) (returns 0xA 0x10014 (window AA AA AA AA 0x5A040002 AA AA AA))
    ∷ call (plain Anything) (called []) (put 0x10014 0x5A PLAIN) (is_bad bad.Fill)
    ∷ call (stub 4 0 Anything []) (called (5 ∷ [])) (put 0x10017 0x5A PLAIN) (returns 0xA 0x10014 (window AA AA AA AA BACK 0x5A000005 AA AA))
    ∷ call (stub 4 0 Anything []) (called (5 ∷ [])) (put 0x10018 0x5A PLAIN) (is_bad bad.Fill)
    -- what it takes off the stack is not freed
    ∷ call (stub 4 16 Anything []) (called (5 ∷ [])) (put 0x10018 0x5A PLAIN) (is_bad bad.Fill)
    ∷ call (stub 12 0 Anything []) (called (5 ∷ 6 ∷ 7 ∷ [])) (put 0x1001F 0x5A PLAIN) (returns 0xA 0x10014 (window AA AA AA AA BACK 5 6 0x5A000007))
    ∷ call (stub 12 0 Anything []) (called (5 ∷ 6 ∷ 7 ∷ [])) (put 0x10020 0x5A PLAIN) (is_bad bad.Fill)
    ∷ call (plain Anything) (called []) (filled 0x1000E (1 ∷ 2 ∷ 3 ∷ 4 ∷ []) PLAIN) (returns 0xA 0x10014 (window AA AA AA 0x0201AAAA 0x00040403 AA AA AA))
    -- the later of two fills counts
    ∷ call (plain Anything) (called []) (put 0x10000 9 (filled 0x10000 (1 ∷ 2 ∷ []) PLAIN)) (returns 0xA 0x10014 (window 0xAAAA0209 AA AA AA BACK AA AA AA))
    ∷ call (plain Anything) (called []) (filled 0x10000 (1 ∷ 2 ∷ []) (put 0x10000 9 PLAIN)) (returns 0xA 0x10014 (window 0xAAAA0201 AA AA AA BACK AA AA AA))
    ∷ call (plain Anything) (called []) (put 0x10014 1 (put 0x10000 9 PLAIN)) (is_bad bad.Fill)
    ∷ call (plain Anything) (called []) (put 0x20000 1 PLAIN) (is_bad bad.Fill)
    ∷ call (plain Anything) (called []) (filled 0xFFFFFFFF (1 ∷ 2 ∷ []) PLAIN) (is_bad bad.Fill)
    -- addresses do not go round at 2^32
    ∷ call (plain Anything) (called []) (put 0x100010000 1 PLAIN) (is_bad bad.Fill)
    ∷ []

-- a block of one byte at least is mapped at the base, which EAX is, where a program's memory may lie and nothing is mapped
abbrev pub BLOCKS : List Call
BLOCKS =
    call (plain (block (Fixed 4))) (called []) (based 0x50000) (returns 0x50000 0x10014 (blocks (block_at 0x50000 (0 ∷ 0 ∷ 0 ∷ 0 ∷ []) ∷ [])))
    ∷ call (plain (block (Fixed 4))) (called []) (filled 0x50001 (7 ∷ 8 ∷ []) (based 0x50000)) (returns 0x50000 0x10014 (blocks (block_at 0x50000 (0 ∷ 7 ∷ 8 ∷ 0 ∷ []) ∷ [])))
    ∷ call (plain (block (Fixed 4))) (called []) (filled 0x50003 (7 ∷ 8 ∷ []) (based 0x50000)) (is_bad bad.Fill)
    ∷ call (plain (block (Fixed 4))) (called []) (put 0x4FFFF 7 (based 0x50000)) (is_bad bad.Fill)
    ∷ call (stub 4 4 (block (Argument 0)) []) (called (2 ∷ [])) (based 0x50000) (returns 0x50000 0x10018 (blocks (block_at 0x50000 (0 ∷ 0 ∷ []) ∷ [])))
    ∷ call (stub 4 0 (block (Argument 0)) []) (called (0 ∷ [])) (based 0x50000) (returns 0x50000 0x10014 (blocks (block_at 0x50000 (0 ∷ []) ∷ [])))
    ∷ call (stub 4 0 (block (Argument 0)) []) (called (0 ∷ [])) (put 0x50000 9 (based 0x50000)) (returns 0x50000 0x10014 (blocks (block_at 0x50000 (9 ∷ []) ∷ [])))
    ∷ call (stub 4 0 (block (Argument 0)) []) (called (0 ∷ [])) (put 0x50001 9 (based 0x50000)) (is_bad bad.Fill)
    ∷ call (stub 4 0 (block (Argument 0)) []) (called (0 ∷ [])) (based 0xEFFFFFFF) (returns 0xEFFFFFFF 0x10014 (blocks (block_at 0xEFFFFFFF (0 ∷ []) ∷ [])))
    ∷ call (stub 4 0 (block (Argument 0)) []) (called (0 ∷ [])) (based 0xF0000000) (is_bad bad.Base)
    ∷ call (stub 4 0 (block (Argument 0)) []) (called (0 ∷ [])) (based 0x10000) (is_bad bad.Base)
    ∷ call (plain (block (Fixed 4))) (called []) (based 0x1000) (returns 0x1000 0x10014 (blocks (block_at 0x1000 (0 ∷ 0 ∷ 0 ∷ 0 ∷ []) ∷ [])))
    ∷ call (plain (block (Fixed 4))) (called []) (based 0xFFF) (is_bad bad.Base)
    ∷ call (plain (block (Fixed 4))) (called []) PLAIN (is_bad bad.Base)
    ∷ call (plain (block (Fixed 4))) (called []) (based 0xEFFFFFFC) (returns 0xEFFFFFFC 0x10014 (blocks (block_at 0xEFFFFFFC (0 ∷ 0 ∷ 0 ∷ 0 ∷ []) ∷ [])))
    ∷ call (plain (block (Fixed 4))) (called []) (based 0xEFFFFFFD) (is_bad bad.Base)
    ∷ call (plain (block (Fixed 4))) (called []) (based 0xF0000000) (is_bad bad.Base)
    ∷ call (plain (block (Fixed 4))) (called []) (based 0xFFFC) (returns 0xFFFC 0x10014 (blocks (block_at 0xFFFC (0 ∷ 0 ∷ 0 ∷ 0 ∷ []) ∷ [])))
    ∷ call (plain (block (Fixed 4))) (called []) (based 0xFFFD) (is_bad bad.Base)
    ∷ call (plain (block (Fixed 4))) (called []) (based 0x1001F) (is_bad bad.Base)
    ∷ call (plain (block (Fixed 4))) (called []) (based 0x10020) (returns 0x10020 0x10014 (blocks (block_at 0x10020 (0 ∷ 0 ∷ 0 ∷ 0 ∷ []) ∷ [])))
    ∷ call (plain (block (Fixed 4))) (called []) (based 0x2000F) (is_bad bad.Base)
    ∷ call (plain (block (Fixed 4))) (called []) (based 0x30004) (is_bad bad.Base)
    ∷ call (plain (block (Fixed 4))) (called []) (based 0x40000) (is_bad bad.Base)
    ∷ call (plain (block (Fixed 32))) (called []) (based 0x2FFF0) (is_bad bad.Base)
    ∷ call (plain (zeroed_block (Fixed 4))) (called []) (based 0x50000) (returns 0x50000 0x10014 (blocks (block_at 0x50000 (0 ∷ 0 ∷ 0 ∷ 0 ∷ []) ∷ [])))
    ∷ call (plain (zeroed_block (Fixed 4))) (called []) (put 0x50001 0 (based 0x50000)) (returns 0x50000 0x10014 (blocks (block_at 0x50000 (0 ∷ 0 ∷ 0 ∷ 0 ∷ []) ∷ [])))
    ∷ call (plain (zeroed_block (Fixed 4))) (called []) (put 0x50001 1 (based 0x50000)) (is_bad bad.Fill)
    -- also where a later fill puts 0 over it
    ∷ call (plain (zeroed_block (Fixed 4))) (called []) (put 0x50001 0 (put 0x50001 1 (based 0x50000))) (is_bad bad.Fill)
    ∷ call (plain (zeroed_block (Fixed 4))) (called []) (put 0x10000 1 (based 0x50000)) (returns 0x50000 0x10014 (λ m. window 0xAAAAAA01 AA AA AA BACK AA AA AA (blocks (block_at 0x50000 (0 ∷ 0 ∷ 0 ∷ 0 ∷ []) ∷ []) m)))
    ∷ call (plain (failing_block (Fixed 4))) (called []) (based 0x50000) (returns 0x50000 0x10014 (blocks (block_at 0x50000 (0 ∷ 0 ∷ 0 ∷ 0 ∷ []) ∷ [])))
    ∷ call (plain (failing_block (Fixed 4))) (called []) FAILS (returns 0 0x10014 same)
    -- a call that fails asks for no base
    ∷ call (plain (failing_block (Fixed 4))) (called []) (record FAILS { base = 0x10000 }) (returns 0 0x10014 same)
    -- and has no block
    ∷ call (plain (failing_block (Fixed 4))) (called []) (put 0x50000 0 FAILS) (is_bad bad.Fill)
    ∷ call (plain (failing_block (Fixed 4))) (called []) PLAIN (is_bad bad.Base)
    ∷ call (plain (block (Fixed 4))) (called []) FAILS (is_bad bad.Fails)
    -- a second block
    ∷ call (plain (block (Fixed 4))) (beside (block_at 0x50000 (1 ∷ 2 ∷ 3 ∷ 4 ∷ [])) (called [])) (based 0x50004) (returns 0x50004 0x10014 (blocks (block_at 0x50000 (1 ∷ 2 ∷ 3 ∷ 4 ∷ []) ∷ block_at 0x50004 (0 ∷ 0 ∷ 0 ∷ 0 ∷ []) ∷ [])))
    ∷ call (plain (block (Fixed 4))) (beside (block_at 0x50000 (1 ∷ 2 ∷ 3 ∷ 4 ∷ [])) (called [])) (based 0x4FFFC) (returns 0x4FFFC 0x10014 (blocks (block_at 0x50000 (1 ∷ 2 ∷ 3 ∷ 4 ∷ []) ∷ block_at 0x4FFFC (0 ∷ 0 ∷ 0 ∷ 0 ∷ []) ∷ [])))
    ∷ call (plain (block (Fixed 4))) (beside (block_at 0x50000 (1 ∷ 2 ∷ 3 ∷ 4 ∷ [])) (called [])) (based 0x50003) (is_bad bad.Base)
    ∷ call (plain (block (Fixed 4))) (beside (block_at 0x50000 (1 ∷ 2 ∷ 3 ∷ 4 ∷ [])) (called [])) (based 0x50000) (is_bad bad.Base)
    ∷ call (plain (block (Fixed 4))) (beside (block_at 0x50000 (1 ∷ 2 ∷ 3 ∷ 4 ∷ [])) (called [])) (put 0x50000 9 (based 0x50004)) (is_bad bad.Fill)
    ∷ call (plain (block (Fixed 4))) (beside (block_at 0x50000 (1 ∷ 2 ∷ 3 ∷ 4 ∷ [])) (called [])) (put 0x50007 9 (based 0x50004)) (returns 0x50004 0x10014 (blocks (block_at 0x50000 (1 ∷ 2 ∷ 3 ∷ 4 ∷ []) ∷ block_at 0x50004 (0 ∷ 0 ∷ 0 ∷ 9 ∷ []) ∷ [])))
    -- the first one is written
    ∷ call (stub 4 0 (block (Fixed 4)) (write 0 (Fixed 2) ∷ [])) (beside (block_at 0x50000 (1 ∷ 2 ∷ 3 ∷ 4 ∷ [])) (called (0x50000 ∷ []))) (put 0x50001 9 (based 0x50010)) (returns 0x50010 0x10014 (blocks (block_at 0x50000 (1 ∷ 9 ∷ 3 ∷ 4 ∷ []) ∷ block_at 0x50010 (0 ∷ 0 ∷ 0 ∷ 0 ∷ []) ∷ [])))
    -- a block cannot be written before it is there
    ∷ call (stub 4 0 (block (Fixed 4)) (write 0 (Fixed 2) ∷ [])) (called (0x50000 ∷ [])) (based 0x50000) (faults Write)
    ∷ []

-- a size above 67,108,864 allows no block
abbrev pub LIMIT : List Call
LIMIT =
    call (stub 4 0 (block (Argument 0)) []) (called (67108865 ∷ [])) (based 0x100000) (faults NoBlock)
    ∷ call (stub 4 0 (block (Argument 0)) []) (called (0xFFFFFFFF ∷ [])) (based 0x100000) (faults NoBlock)
    ∷ call (stub 4 0 (zeroed_block (Argument 0)) []) (called (67108865 ∷ [])) (based 0x100000) (faults NoBlock)
    ∷ call (stub 4 0 (block (Argument 0)) []) (called (67108864 ∷ [])) FAILS (is_bad bad.Fails)
    ∷ call (plain (block (Fixed 67108864))) (called []) FAILS (is_bad bad.Fails)
    ∷ call (stub 4 0 (failing_block (Argument 0)) []) (called (67108865 ∷ [])) FAILS (returns 0 0x10014 same)
    ∷ []

-- a function is entered with the exit place as its return address
abbrev pub ENTERS : List Call
ENTERS =
    call (stub 4 0 (Enter 0) []) (called (0x40004 ∷ [])) PLAIN (enters 0x40004 0x1000C (window AA AA AA 0xF0000000 BACK 0x40004 AA AA))
    ∷ call (stub 4 4 (Enter 0) []) (called (0x40004 ∷ [])) PLAIN (enters 0x40004 0x1000C (window AA AA AA 0xF0000000 BACK 0x40004 AA AA))
    ∷ call (stub 8 0 (Enter 1) []) (called (5 ∷ 0x12345678 ∷ [])) PLAIN (enters 0x12345678 0x1000C (window AA AA AA 0xF0000000 BACK 5 0x12345678 AA))
    ∷ call (stub 4 0 (Enter 0) []) (called (0x40004 ∷ [])) (record PLAIN { flags = 0x2A; eax = 9; ecx = 8; edx = 7 }) (goes_on 9 8 7 0x1000C 0x40004 (flags false true false true false true) (window AA AA AA 0xF0000000 BACK 0x40004 AA AA))
    ∷ call (stub 4 0 (Enter 0) []) (called (0x40004 ∷ [])) FAILS (is_bad bad.Fails)
    ∷ call (stub 4 0 (Enter 0) []) (called (0x40004 ∷ [])) (put 0x1000B 0x5A PLAIN) (enters 0x40004 0x1000C (window AA AA 0x5AAAAAAA 0xF0000000 BACK 0x40004 AA AA))
    ∷ call (stub 4 0 (Enter 0) []) (called (0x40004 ∷ [])) (put 0x1000C 0x5A PLAIN) (is_bad bad.Fill)
    ∷ call (stub 4 0 (Enter 0) []) (called (0x40004 ∷ [])) (put 0x1000F 0xF0 PLAIN) (is_bad bad.Fill)
    ∷ call (stub 4 0 (Enter 0) []) (called (0x40004 ∷ [])) (put 0x10010 0x5A PLAIN) (enters 0x40004 0x1000C (window AA AA AA 0xF0000000 0x0004005A 0x40004 AA AA))
    ∷ call (stub 4 0 (Enter 0) []) (called (0x40004 ∷ [])) (put 0x10018 0x5A PLAIN) (is_bad bad.Fill)
    -- a write there comes before the exit place
    ∷ call (stub 8 0 (Enter 0) (write 1 (Fixed 4) ∷ [])) (called (0x40004 ∷ 0x1000C ∷ [])) PLAIN (enters 0x40004 0x1000C (window AA AA AA 0xF0000000 BACK 0x40004 0x1000C AA))
    ∷ call (stub 8 0 (Enter 0) (write 1 (Fixed 4) ∷ [])) (called (0x40004 ∷ 0x1000C ∷ [])) (put 0x1000C 1 PLAIN) (is_bad bad.Fill)
    ∷ call (stub 8 0 (Enter 0) (write 1 (Fixed 8) ∷ [])) (called (0x40004 ∷ 0x1000A ∷ [])) (put 0x1000A 1 PLAIN) (enters 0x40004 0x1000C (window AA AA 0xAA01AAAA 0xF0000000 BACK 0x40004 0x1000A AA))
    ∷ call (stub 8 0 (Enter 0) (write 1 (Fixed 8) ∷ [])) (called (0x40004 ∷ 0x1000A ∷ [])) (filled 0x1000A (1 ∷ 2 ∷ 3 ∷ []) PLAIN) (is_bad bad.Fill)
    -- the argument is written, and was read before
    ∷ call (stub 8 0 (Enter 0) (write 1 (Fixed 4) ∷ [])) (called (0x40004 ∷ 0x10014 ∷ [])) (filled 0x10014 (1 ∷ 0 ∷ 0 ∷ 0 ∷ []) PLAIN) (enters 0x40004 0x1000C (window AA AA AA 0xF0000000 BACK 1 0x10014 AA))
    ∷ call (stub 4 0 (Enter 0) []) (at 0x10004 (BACK ∷ 0x40004 ∷ [])) PLAIN (enters 0x40004 0x10000 (window 0xF0000000 BACK 0x40004 AA AA AA AA AA))
    ∷ call (stub 4 0 (Enter 0) []) (at 0x10003 (BACK ∷ 0x40004 ∷ [])) PLAIN (faults Write)
    ∷ call (stub 4 0 (Enter 0) []) (at 0x10000 (BACK ∷ 0x40004 ∷ [])) PLAIN (faults Write)
    -- another range that may be written lies there
    ∷ call (stub 4 0 (Enter 0) []) (beside (block_at 0xFFFC (1 ∷ 2 ∷ 3 ∷ 4 ∷ [])) (at 0x10000 (BACK ∷ 0x40004 ∷ []))) PLAIN (enters 0x40004 0xFFFC (blocks (block_at 0xFFFC (0 ∷ 0 ∷ 0 ∷ 0xF0 ∷ []) ∷ [])))
    -- or lies right below
    ∷ call (stub 4 0 (Enter 0) []) (beside (block_at 0xFFFC (1 ∷ 2 ∷ 3 ∷ 4 ∷ [])) (at 0x10002 (BACK ∷ 0x40004 ∷ []))) PLAIN (enters 0x40004 0xFFFE (λ m. window 0x0002F000 0x00040004 0xAAAA0004 AA AA AA AA AA (blocks (block_at 0xFFFC (1 ∷ 2 ∷ 0 ∷ 0 ∷ []) ∷ []) m)))
    ∷ call (stub 4 0 (Enter 0) []) (beside (record CONSTANTS { low = 0xFFF8 }) (at 0x10000 (BACK ∷ 0x40004 ∷ []))) PLAIN (faults Write)
    ∷ call (stub 4 0 (Enter 0) []) (at 0x1001C (BACK ∷ [])) PLAIN (faults NoStack)
    ∷ call (stub 4 0 (Enter 0) []) (at 0x10018 (BACK ∷ 0x40004 ∷ [])) PLAIN (enters 0x40004 0x10014 (window AA AA AA AA AA 0xF0000000 BACK 0x40004))
    ∷ []

-- of several faults the first counts of NoStack, Write and NoBlock, and before what the choice may not name: Fails, Base, Fill
abbrev pub ORDER : List Call
ORDER =
    call (stub 8 0 Anything (write 0 (Fixed 4) ∷ [])) (at 0x10018 (BACK ∷ 0x30000 ∷ [])) PLAIN (faults NoStack)
    ∷ call (stub 8 0 (block (Argument 0)) []) (at 0x10018 (BACK ∷ 0xFFFFFFFF ∷ [])) PLAIN (faults NoStack)
    ∷ call (stub 8 0 (block (Argument 1)) (write 0 (Fixed 4) ∷ [])) (called (0x30000 ∷ 0xFFFFFFFF ∷ [])) PLAIN (faults Write)
    ∷ call (stub 4 0 Anything []) (at 0x1001C (BACK ∷ [])) FAILS (faults NoStack)
    ∷ call (stub 4 0 Anything (write 0 (Fixed 4) ∷ [])) (called (0x30000 ∷ [])) (put 0x20000 1 FAILS) (faults Write)
    ∷ call (stub 4 0 (block (Argument 0)) []) (called (67108865 ∷ [])) FAILS (faults NoBlock)
    ∷ call (stub 4 0 (block (Fixed 4)) (write 0 (Fixed 4) ∷ [])) (called (0x30000 ∷ [])) PLAIN (faults Write)
    ∷ call (plain (block (Fixed 4))) (called []) (put 0x20000 1 FAILS) (is_bad bad.Fails)
    ∷ call (plain (block (Fixed 4))) (called []) (record FAILS { base = 0 }) (is_bad bad.Fails)
    ∷ call (plain (block (Fixed 4))) (called []) (put 0x20000 1 PLAIN) (is_bad bad.Base)
    ∷ []

abbrev pub CALLS : List Call
CALLS = STACK ++ (REGISTERS ++ (WRITES ++ (WINDOW ++ (BLOCKS ++ (LIMIT ++ (ENTERS ++ ORDER))))))

-- and with blocks that are too large to be written out: above the limit none is allowed, at the limit one that ends where memory may, which a byte that is bad in another way shows
abbrev pub LARGE_BLOCKS : List Call
LARGE_BLOCKS =
    call (stub 4 0 (failing_block (Argument 0)) []) (called (67108865 ∷ [])) (based 0x100000) (is_bad bad.Base)
    ∷ call (stub 4 0 (failing_block (Argument 0)) []) (called (0xFFFFFFFF ∷ [])) (based 0x100000) (is_bad bad.Base)
    ∷ call (stub 4 0 (block (Argument 0)) []) (called (67108864 ∷ [])) (based 0xEC000001) (is_bad bad.Base)
    ∷ call (plain (block (Fixed 67108864))) (called []) (based 0x20010) (is_bad bad.Base)
    ∷ call (stub 4 0 (block (Argument 0)) []) (called (67108864 ∷ [])) (put 0x20000 1 (based 0xEC000000)) (is_bad bad.Fill)
    ∷ call (plain (block (Fixed 67108864))) (called []) (put 0x20000 1 (based 0x50000)) (is_bad bad.Fill)
    ∷ []

-- each call comes to what is due
abbrev pub AreDue : List Call → Type 0
AreDue calls = map what_comes calls ≡ map what_is_due calls
