use Rattle.std.proofs.Common.{◌≡◌, false, rules, subst, sym}
use Rattle.address_regions.specs.Extents.{has_one_base}
use Rattle.abstract_state.proofs.Keeping.{block-state, same-kept}
use Rattle.abstract_state.proofs.state.State.add_block.Goals as goal

pub invariant_of-self : goal.invariant_of-self
invariant_of-self g c = same-kept _ _ _ _ _ _ (search rules) c.self.invariant

pub invariant_of-self-2 : goal.invariant_of-self-2
invariant_of-self-2 g c = block-state _ _ _ _ _ _ c.sized-region.result (subst (λ r. has_one_base r ≡ false) (sym c.sized-region.ensures.same) c.requires) c.sized-region.ensures.small (search rules) c.self.invariant
