-- Memory that is filled in, and flags that are given as a byte.
use Rattle.std.specs.Prelude.{ℕ, ◌-◌, false, if◌then◌else◌, List, map, flat_map, slice_set}
use Rattle.std.specs.List.{enumerate_from}
use Rattle.bit_words.specs.declared.flags.Flags.{Flags as FlagSet}
use Rattle.memory_map.specs.declared.choice.Fill.{Fill}
use Rattle.memory_map.specs.Range.{Range, has}
use Rattle.memory_map.specs.State.{Flags, MachineState}
use Rattle.statement_lang.specs.Cells.{flags_of}

-- the bytes of fills, each with its address, in order
abbrev pub bytes_of_fills : List Fill → List (ℕ × ℕ)
bytes_of_fills fills = flat_map (λ f. enumerate_from f.at f.bytes) fills

-- a range with another byte at an address, where it has it: also one that may not be written
abbrev pub fill_byte : ℕ → ℕ → Range → Range
fill_byte a b r = if has a r then record r { bytes = slice_set r.bytes (a - r.low) b } else r

-- the state with another byte in memory, also where it may not be written
abbrev pub with_filled : ℕ → ℕ → MachineState → MachineState
with_filled a b m = record m { stack = fill_byte a b m.stack; ranges = map (fill_byte a b) m.ranges }

-- the six status flags of a set, CF PF AF ZF SF OF from bit 0 on; DF is clear
abbrev pub status_of : FlagSet → Flags
status_of f = record (flags_of f) { direction = false }
