-- Three-valued logic is right about tests.
use Rattle.std.proofs.Common.{◌≡◌, ℕ, Bool, true, false, not, ◌||◌, ◌==◌, ◌/◌, ◌%◌, List, [], ◌∷◌, refl, sym, ap, subst}
use Rattle.std.specs.Prelude.{⊤, slice_get, unwrap_or, zero, suc}
use Rattle.std.proofs.Math.Bool.{xor}
use Rattle.x86_syntax.specs.declared.instr.Cond.{Cond}
use Rattle.memory_map.specs.State.{Flags}
use Rattle.x86_semantics.specs.Condition.{is_met, tests}
use Rattle.abstract_state.specs.declared.truth.Truth.{Truth}
use Rattle.abstract_state.specs.declared.truth.Truth.TheVariants.{Yes, No, Unknown}
use Rattle.abstract_state.specs.declared.flags.Truths.{Truths}
use Rattle.abstract_state.specs.Truth.{StandsFor, truth_of, opposite, negated_if, either, differ, covers_truth}
use Rattle.abstract_state.specs.Flags.{FlagsStand, truths_of, truth_met}

pub truth_of_stands : (b : Bool) → StandsFor (truth_of b) b
truth_of_stands true = refl
truth_of_stands false = refl

pub opposite_stands : (t : Truth) (b : Bool) → StandsFor t b → StandsFor (opposite t) (not b)
opposite_stands Yes b h = ap not h
opposite_stands No b h = ap not h
opposite_stands Unknown b h = tt

pub negated_stands : (flip : Bool) (t : Truth) (b : Bool) → StandsFor t b → StandsFor (negated_if flip t) (xor flip b)
unfolding xor
negated_stands true t true h = opposite_stands t true h
negated_stands true t false h = opposite_stands t false h
negated_stands false t true h = h
negated_stands false t false h = h

pub either_stands : (t u : Truth) (b c : Bool) → StandsFor t b → StandsFor u c → StandsFor (either t u) (b || c)
either_stands Yes u b c h k = ap (λ x. x || c) h
either_stands No u b c h k = (let P : Bool → Type 0 = λ x. StandsFor u (x || c) in subst P (sym h) k)
either_stands Unknown Yes true c h k = refl
either_stands Unknown Yes false c h k = k
either_stands Unknown No b c h k = tt
either_stands Unknown Unknown b c h k = tt

pub differ_stands : (t u : Truth) (b c : Bool) → StandsFor t b → StandsFor u c → StandsFor (differ t u) (xor b c)
differ_stands Yes u b c h k = (let P : Bool → Type 0 = λ x. StandsFor (opposite u) (xor x c) in subst P (sym h) (negated_stands true u c k))
differ_stands No u b c h k = (let P : Bool → Type 0 = λ x. StandsFor u (xor x c) in subst P (sym h) (negated_stands false u c k))
differ_stands Unknown u b c h k = tt

pub covers_stands : (t s : Truth) (b : Bool) → covers_truth t s ≡ true → StandsFor s b → StandsFor t b
covers_stands Unknown s b e h = tt
covers_stands Yes Yes b e h = h
covers_stands Yes No b e h = cc
covers_stands Yes Unknown b e h = cc
covers_stands No No b e h = h
covers_stands No Yes b e h = cc
covers_stands No Unknown b e h = cc

pub covers_refl : (t : Truth) → covers_truth t t ≡ true
covers_refl Yes = refl
covers_refl No = refl
covers_refl Unknown = refl

-- a member of a list of truths stands for the member of the list of tests at the same place
abbrev AllStand : List Truth → List Bool → Type 0
AllStand [] [] = ⊤
AllStand (t ∷ ts) (b ∷ bs) = StandsFor t b × AllStand ts bs
AllStand [] (b ∷ bs) = ⊥
AllStand (t ∷ ts) [] = ⊥

member_stands : (ts : List Truth) (bs : List Bool) (n : ℕ) → AllStand ts bs → StandsFor (unwrap_or (slice_get ts n) No) (unwrap_or (slice_get bs n) false)
member_stands [] [] n h = refl
member_stands [] (b ∷ bs) n h = absurd h
member_stands (t ∷ ts) [] n h = absurd h
member_stands (t ∷ ts) (b ∷ bs) zero h = h.0
member_stands (t ∷ ts) (b ∷ bs) (suc n) h = member_stands ts bs n h.1

tests_stand : (t : Truths) (f : Flags) → FlagsStand t f → AllStand (truths_of t) (tests f)
tests_stand t f h =
    let l = differ_stands t.sign t.overflow f.sign f.overflow h.sign h.overflow in
    (h.overflow, (h.carry, (h.zero, (either_stands t.carry t.zero f.carry f.zero h.carry h.zero, (h.sign, (h.parity, (l, (either_stands t.zero _ f.zero _ h.zero l, tt))))))))

-- what is known of a condition is right
pub met_stands : (c : Cond) (t : Truths) (f : Flags) → FlagsStand t f → StandsFor (truth_met c t) (is_met c f)
unfolding truth_met is_met
met_stands c t f h = negated_stands (c.0 % 2 == 1) _ _ (member_stands (truths_of t) (tests f) (c.0 / 2) (tests_stand t f h))
