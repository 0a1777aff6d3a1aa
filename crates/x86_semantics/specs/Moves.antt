-- Moves, exchanges, sign extensions and the stack (manual, volume 2: BSWAP, CBW, CWD, CMOVcc, LEA, LEAVE, MOV, MOVSX, MOVZX, NOT, POP, PUSH, SETcc, XCHG).
use Rattle.std.specs.Prelude.{ℕ, if◌then◌else◌}
use Rattle.bit_words.specs.declared.width.Width.{Width}
use Rattle.bit_words.specs.declared.width.Width.TheVariants.{B32}
use Rattle.bit_words.specs.declared.op.Op.{Op}
use Rattle.bit_words.specs.declared.op.Op.TheVariants.{Add, Sub}
use Rattle.bit_words.specs.Operators.{apply_op, one_if}
use Rattle.memory_map.specs.State.{MachineState}
use Rattle.memory_map.specs.declared.registers.TheConstants.{ESP, EBP}
use Rattle.x86_syntax.specs.declared.instr.Address.{Address}
use Rattle.x86_syntax.specs.declared.instr.Cond.{Cond}
use Rattle.x86_syntax.specs.declared.instr.Operand.{Operand}
use Rattle.x86_syntax.specs.declared.instr.Operand.TheVariants.{Memory}
use Rattle.x86_semantics.specs.Condition.{is_met}
use Rattle.x86_semantics.specs.Registers.{register, with_register, part, with_part}
use Rattle.x86_semantics.specs.Operands.{Ended, Next, at_address, offset_in_segment, address_of, loading, storing, reading, writing}

abbrev pub move : Operand → Operand → ℕ → MachineState → Ended
move to from next m = reading m from (λ v. writing m to v (λ n. Next (at_address next n)))

abbrev pub convert : Op → Width → Operand → Operand → ℕ → ℕ → MachineState → Ended
convert op w to from by next m = reading m from (λ v. writing m to (apply_op op w v by) (λ n. Next (at_address next n)))

abbrev pub lea : Operand → Address → ℕ → MachineState → Ended
lea to address next m = writing m to (offset_in_segment address m) (λ n. Next (at_address next n))

abbrev pub exchange : Operand → Width → ℕ → ℕ → MachineState → Ended
exchange place w r next m = reading m place (λ a. writing m place (part w r m) (λ n. Next (at_address next (with_part w r a n))))

abbrev pub set : Cond → Operand → ℕ → MachineState → Ended
set c to next m = writing m to (one_if (is_met c m.flags)) (λ n. Next (at_address next n))

-- the source is read whether it moves or not
abbrev pub move_if : Cond → Operand → Operand → ℕ → MachineState → Ended
move_if c to from next m =
    reading m from (λ v. if is_met c m.flags then writing m to v (λ n. Next (at_address next n)) else Next (at_address next m))

-- ---- the stack

-- an address some bytes above another, or below it
abbrev pub above : ℕ → ℕ → ℕ
above a size = apply_op Add B32 a size

abbrev pub below : ℕ → ℕ → ℕ
below a size = apply_op Sub B32 a size

-- a word stored below ESP, and then ESP moved there
abbrev pub pushing : MachineState → ℕ → (MachineState → Ended) → Ended
pushing m v k = storing m B32 (below (register ESP m) 4) v (λ n. k (with_register ESP (below (register ESP m) 4) n))

-- the source is read first: PUSH ESP stores the old one
abbrev pub push : Operand → ℕ → MachineState → Ended
push from next m = reading m from (λ v. pushing m v (λ n. Next (at_address next n)))

-- the state with ESP past a popped word
abbrev pub popped : MachineState → MachineState
popped m = with_register ESP (above (register ESP m) 4) m

-- a popped word put where it goes: the address of memory uses the new ESP, and POP ESP keeps the word
abbrev pub pop_into : Operand → ℕ → ℕ → MachineState → Ended
pop_into (Memory w a) v next m = storing m w (address_of a (popped m)) v (λ n. Next (at_address next (with_register ESP (above (register ESP m) 4) n)))
pop_into to v next m = writing (popped m) to v (λ n. Next (at_address next n))

abbrev pub pop : Operand → ℕ → MachineState → Ended
pop to next m = loading m B32 (register ESP m) (λ v. pop_into to v next m)

-- ESP is EBP, and then EBP is popped
abbrev pub leave : ℕ → MachineState → Ended
leave next m =
    loading m B32 (register EBP m) (λ v. Next (at_address next (with_register EBP v (with_register ESP (above (register EBP m) 4) m))))
