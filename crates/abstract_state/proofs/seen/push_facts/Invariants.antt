use Rattle.std.proofs.Common.{◌≡◌, ◌++◌, drop, map}
use Rattle.abstract_state.specs.Widening.{holder_of}
use Rattle.abstract_state.proofs.seen.push_facts.Given as goal

abbrev pub invariant-loop-f : goal.invariant-loop-f
invariant-loop-f g l =
    l.pairs.items ++ map (λ f. (holder_of f, f.value)) (drop l.f-index l.facts) ≡ l.initial.pairs.items ++ map (λ f. (holder_of f, f.value)) l.facts
