-- Three-valued logic: what is known of tests.
use Rattle.std.specs.Prelude.{ℕ, ◌≡◌, ◌==◌, Bool, true, false, not, Option, Some, None, if◌then◌else◌, ⊤}
use Rattle.abstract_state.specs.declared.truth.Truth.{Truth}
use Rattle.abstract_state.specs.declared.truth.Truth.TheVariants.{Yes, No, Unknown}

-- what is known stands for a test that holds or does not
abbrev pub StandsFor : Truth → Bool → Type 0
StandsFor Yes b = b ≡ true
StandsFor No b = b ≡ false
StandsFor Unknown b = ⊤

abbrev pub truth_of : Bool → Truth
truth_of true = Yes
truth_of false = No

-- whether a number is not 0
abbrev pub truth_of_number : Option ℕ → Truth
truth_of_number (Some n) = truth_of (not (n == 0))
truth_of_number None = Unknown

abbrev pub opposite : Truth → Truth
opposite Yes = No
opposite No = Yes
opposite Unknown = Unknown

abbrev pub negated_if : Bool → Truth → Truth
negated_if flip t = if flip then opposite t else t

-- one or the other
abbrev pub either : Truth → Truth → Truth
either Yes u = Yes
either No u = u
either Unknown Yes = Yes
either Unknown No = Unknown
either Unknown Unknown = Unknown

-- one without the other
abbrev pub differ : Truth → Truth → Truth
differ Yes u = opposite u
differ No u = u
differ Unknown u = Unknown

-- the first stands for all for which the second does: it is Unknown, or they are equal
abbrev pub covers_truth : Truth → Truth → Bool
covers_truth Unknown s = true
covers_truth Yes Yes = true
covers_truth Yes No = false
covers_truth Yes Unknown = false
covers_truth No No = true
covers_truth No Yes = false
covers_truth No Unknown = false
