-- What is known of the flags, and of the conditions of Jcc, SETcc and CMOVcc (manual, volume 1, appendix B).
use Rattle.std.specs.Prelude.{ℕ, ◌/◌, ◌%◌, ◌==◌, ◌&&◌, Bool, List, [], ◌∷◌, slice_get, unwrap_or}
use Rattle.x86_syntax.specs.declared.instr.Cond.{Cond}
use Rattle.memory_map.specs.State.{Flags}
use Rattle.abstract_state.specs.declared.truth.Truth.{Truth}
use Rattle.abstract_state.specs.declared.truth.Truth.TheVariants.{No, Unknown}
use Rattle.abstract_state.specs.declared.flags.Truths.{Truths}
use Rattle.abstract_state.specs.Truth.{StandsFor, covers_truth, differ, either, negated_if}

-- each flag is as what is known of it says
pub record FlagsStand (t : Truths) (f : Flags) : Type 0 where
  pub carry : StandsFor t.carry f.carry
  pub parity : StandsFor t.parity f.parity
  pub adjust : StandsFor t.adjust f.adjust
  pub zero : StandsFor t.zero f.zero
  pub sign : StandsFor t.sign f.sign
  pub overflow : StandsFor t.overflow f.overflow
  pub direction : StandsFor t.direction f.direction

-- nothing is known of six flags
abbrev pub unknown_flags : Truth → Truths
unknown_flags direction = record { carry = Unknown; parity = Unknown; adjust = Unknown; zero = Unknown; sign = Unknown; overflow = Unknown; direction = direction }

-- each flag of the first is unknown, or that of the second
abbrev pub covers_flags : Truths → Truths → Bool
covers_flags t s =
    covers_truth t.carry s.carry && covers_truth t.parity s.parity && covers_truth t.adjust s.adjust && covers_truth t.zero s.zero && covers_truth t.sign s.sign && covers_truth t.overflow s.overflow && covers_truth t.direction s.direction

-- what is known of the even conditions: O, B, E, BE, S, P, L, LE
abbrev pub truths_of : Truths → List Truth
truths_of t = t.overflow ∷ t.carry ∷ t.zero ∷ either t.carry t.zero ∷ t.sign ∷ t.parity ∷ differ t.sign t.overflow ∷ either t.zero (differ t.sign t.overflow) ∷ []

abbrev pub truth_tests : Truths → ℕ → Truth
truth_tests t half = unwrap_or (slice_get (truths_of t) half) No

-- what is known of a condition: each odd one negates the even one before it
unfoldable pub truth_met : Cond → Truths → Truth
truth_met c t = negated_if (c.0 % 2 == 1) (truth_tests t (c.0 / 2))
