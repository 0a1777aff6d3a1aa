-- The derived order of marks is the defined one.
use Rattle.std.proofs.Common.{◌∙◌}
use Rattle.automaton_text.proofs.Orders.{derived_exact, mark_sets}
use Rattle.automaton_text.proofs.automaton.sorted_marks.Goals as goal

pub sorted_set-requires : goal.sorted_set-requires
sorted_set-requires c = derived_exact

pub returns : goal.returns
returns c = c.sorted_set.ensures ∙ mark_sets c.args.marks.items
