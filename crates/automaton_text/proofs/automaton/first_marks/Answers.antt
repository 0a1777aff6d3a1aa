use Rattle.std.proofs.Common.{rules, ◌∙◌, ap}
use Rattle.std.specs.List.{dedup}
use Rattle.std.proofs.lemmas.Fn.{dedup_same}
use Rattle.automaton_text.specs.Orders.{first_marks, is_same_opening}
use Rattle.automaton_text.proofs.automaton.first_marks.Goals as goal

pub returns : goal.returns
unfolding first_marks
returns c = dedup_same _ is_same_opening _ (λ x y b f' x' y' k. search rules) _ _ c.dedup_by.ensures.filtered ∙ ap (dedup is_same_opening) c.sorted_marks-first.ensures
