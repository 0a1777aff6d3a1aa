-- How contracts see the code's flags and answers: `Cells` is the machine's state.
use Rattle.std.specs.Prelude.{ℕ, Bool, true, false, Option, None, Some, bit_and, ◌==◌, slice_get, unwrap_or}
use Rattle.x86_semantics.specs.Condition.{tests}
use Rattle.bit_words.specs.declared.flags.Flags.{Flags as FlagSet}
use Rattle.bit_words.specs.Flags.{carry_of, parity_of, adjust_of, zero_of, sign_of, overflow_of, direction_of}
use Rattle.memory_map.specs.State.{MachineState, Flags}

-- a set of flags: those in it are set
abbrev pub flags_of : FlagSet → Flags
flags_of f = record {
  carry = carry_of f;
  parity = parity_of f;
  adjust = adjust_of f;
  zero = zero_of f;
  sign = sign_of f;
  overflow = overflow_of f;
  direction = direction_of f;
}

-- the state where a call could do its work, or none where it could not
abbrev pub where_done : Bool → MachineState → Option MachineState
where_done true m = Some m
where_done false m = None

-- whether a set has all flags of another
abbrev pub has_all : FlagSet → FlagSet → Bool
has_all f g = bit_and f.0 g.0 == g.0

-- the test of the even condition of this half
abbrev pub even_met : ℕ → Flags → Bool
even_met half f = unwrap_or (slice_get (tests f) half) false
