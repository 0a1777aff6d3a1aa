-- The functions of the plainest domain, whose values are one number or any.
use Rattle.std.specs.Prelude.{ℕ, ◌≡◌, Bool, true, false, ◌==◌, Option, Some, None, ⊤}
use Rattle.bit_words.specs.declared.op.Op.{Op}
use Rattle.bit_words.specs.declared.width.Width.{Width}
use Rattle.address_regions.specs.Places.{Places}
use Rattle.domain_laws.specs.declared.reach.Reach.{Reach}
use Rattle.domain_laws.specs.declared.reach.Reach.TheVariants as reaches
use Rattle.domain_laws.specs.declared.flat.FlatNumbers.{FlatNumbers}
use Rattle.domain_laws.specs.declared.flat.FlatNumbers.TheVariants.{Number, Any}
use Rattle.domain_laws.specs.Rules.{or_settled, settled}

-- a number stands for itself, and Any for every number
abbrev pub flat_stands : FlatNumbers → Places → ℕ → Type 0
flat_stands (Number n) p x = x ≡ n
flat_stands Any p x = ⊤

abbrev pub flat_number_of : FlatNumbers → Option ℕ
flat_number_of (Number n) = Some n
flat_number_of Any = None

abbrev pub flat_reach : FlatNumbers → Reach
flat_reach (Number n) = reaches.Number n n
flat_reach Any = reaches.Anywhere

-- the shared rules, and else Any
abbrev pub flat_eval : Op → Width → FlatNumbers → FlatNumbers → ℕ → FlatNumbers
flat_eval op w a b align = or_settled Number a b (settled op w (flat_number_of a) (flat_number_of b)) Any

-- equal, or below Any
abbrev pub flat_leq : FlatNumbers → FlatNumbers → Bool
flat_leq a Any = true
flat_leq (Number m) (Number n) = m == n
flat_leq Any (Number n) = false

abbrev pub flat_rank : FlatNumbers → ℕ
flat_rank (Number n) = 1
flat_rank Any = 0

abbrev pub flat_raise : FlatNumbers → FlatNumbers
flat_raise v = Any
