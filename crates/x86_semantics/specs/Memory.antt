-- Words in the machine's memory: the lowest byte first (manual, volume 1, section 1.3.1). A read needs mapped bytes, a write writable ones.
use Rattle.std.specs.Prelude.{ℕ, zero, suc, ◌+◌, ◌-◌, ◌*◌, ◌/◌, ◌%◌, ◌^◌, Bool, true, ◌&&◌, if◌then◌else◌, List, map, Option, None, Some, slice_set}
use Rattle.bit_words.specs.declared.width.Width.{Width}
use Rattle.bit_words.specs.Width.{bytes_of}
use Rattle.memory_map.specs.Range.{Range, has, byte_at, may_write}
use Rattle.memory_map.specs.State.{MachineState, memory}

-- addresses go on from 2^32 - 1 to 0
abbrev pub next_byte : ℕ → ℕ
next_byte a = (a + 1) % 2 ^ 32

-- a byte below a number
abbrev pub with_low_byte : Option ℕ → Option ℕ → Option ℕ
with_low_byte (Some b) (Some n) = Some (b + 256 * n)
with_low_byte _ _ = None

-- the number of `count` bytes from an address on, where all are mapped
unfoldable pub number_at : List Range → ℕ → ℕ → Option ℕ
number_at ranges zero a = Some 0
number_at ranges (suc count) a = with_low_byte (byte_at ranges a) (number_at ranges count (next_byte a))

-- the word of a width at an address, where it is mapped
unfoldable pub word_at : Width → ℕ → MachineState → Option ℕ
word_at w a m = number_at (memory m) (bytes_of w) a

-- whether `count` bytes from an address on may be written
unfoldable pub may_write_all : List Range → ℕ → ℕ → Bool
may_write_all ranges zero a = true
may_write_all ranges (suc count) a = may_write ranges a && may_write_all ranges count (next_byte a)

-- a range with another byte at an address, where it has it and may be written
abbrev pub put_byte : ℕ → ℕ → Range → Range
put_byte a b r = if has a r && r.write then record r { bytes = slice_set r.bytes (a - r.low) b } else r

-- the state with another byte in memory
abbrev pub with_byte : ℕ → ℕ → MachineState → MachineState
with_byte a b m = record m { stack = put_byte a b m.stack; ranges = map (put_byte a b) m.ranges }

-- the state with the low `count` bytes of a number in memory
unfoldable pub with_number : ℕ → ℕ → ℕ → MachineState → MachineState
with_number zero a v m = m
with_number (suc count) a v m = with_number count (next_byte a) (v / 256) (with_byte a (v % 256) m)

-- the state with the low bits of v as the word of a width at an address, where it may be written
unfoldable pub stored : Width → ℕ → ℕ → MachineState → Option MachineState
stored w a v m = if may_write_all (memory m) (bytes_of w) a then Some (with_number (bytes_of w) a v m) else None
