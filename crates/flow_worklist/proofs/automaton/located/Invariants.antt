use Rattle.std.proofs.Common.{◌≡◌, take, map}
use Rattle.flow_worklist.specs.Analysis.{location_of}
use Rattle.flow_worklist.proofs.automaton.located.Given as goal

abbrev pub invariant-loop-at : goal.invariant-loop-at
invariant-loop-at l = l.found.items ≡ map (location_of l.image) (take l.at-index l.sorted)
