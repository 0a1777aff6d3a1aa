-- The general registers by their numbers, and their parts: AL to BH and AX to DI (manual, volume 1, section 3.4.1).
use Rattle.std.specs.Prelude.{ℕ, ◌%◌, nat_lt, if◌then◌else◌}
use Rattle.bit_words.specs.declared.width.Width.{Width}
use Rattle.bit_words.specs.declared.width.Width.TheVariants.{B8, B16, B32}
use Rattle.bit_words.specs.declared.op.Op.{Op}
use Rattle.bit_words.specs.declared.op.Op.TheVariants.{Low8, High8, Low16, PutLow8, PutHigh8, PutLow16}
use Rattle.bit_words.specs.Operators.{apply_op}
use Rattle.memory_map.specs.declared.registers.TheConstants.{EDX}
use Rattle.memory_map.specs.Registers as regs
use Rattle.memory_map.specs.State.{MachineState}
use Rattle.x86_semantics.specs.declared.parts.TheConstants.{AH}

-- a register by its number modulo 8: EAX ECX EDX EBX ESP EBP ESI EDI
unfoldable pub register : ℕ → MachineState → ℕ
register r m = regs.register m.registers (r % 8)

-- the state with another value in a register
unfoldable pub with_register : ℕ → ℕ → MachineState → MachineState
with_register r v m = record m { registers = regs.with_register m.registers (r % 8) v }

-- AL CL DL BL are the low bytes of the first four registers, AH CH DH BH the bytes above them
abbrev pub byte_part : ℕ → Op
byte_part r = if nat_lt r 4 then Low8 else High8

abbrev pub put_byte_part : ℕ → Op
put_byte_part r = if nat_lt r 4 then PutLow8 else PutHigh8

-- a register of a width, by its number
abbrev pub part : Width → ℕ → MachineState → ℕ
part B8 r m = apply_op (byte_part r) B32 (register (r % 4) m) 0
part B16 r m = apply_op Low16 B32 (register r m) 0
part B32 r m = register r m

-- the state with another value there; the other bits of the register stay
abbrev pub with_part : Width → ℕ → ℕ → MachineState → MachineState
with_part B8 r v m = with_register (r % 4) (apply_op (put_byte_part r) B32 (register (r % 4) m) v) m
with_part B16 r v m = with_register r (apply_op PutLow16 B32 (register r m) v) m
with_part B32 r v m = with_register r v m

-- where products and dividends have their upper half: AH, DX or EDX
abbrev pub upper_register : Width → ℕ
upper_register B8 = AH
upper_register B16 = EDX
upper_register B32 = EDX
