use Rattle.std.proofs.Common.{◌≡◌, ◌++◌, take}
use Rattle.std.specs.Prelude.{flat_map}
use Rattle.automaton_text.specs.Text.{loc_line}
use Rattle.automaton_text.proofs.print.push_locations.Given as goal

abbrev pub invariant-loop-l : goal.invariant-loop-l
invariant-loop-l l = l.out.items ≡ l.initial.out.items ++ flat_map loc_line (take l.l-index l.locations)
