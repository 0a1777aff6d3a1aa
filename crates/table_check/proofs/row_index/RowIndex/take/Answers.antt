use Rattle.std.proofs.Common.{[], ap, ◌∙◌}
use Rattle.std.specs.Prelude.{option_map, unwrap_or}
use Rattle.table_check.proofs.row_index.RowIndex.take.Goals as goal

pub returns-in-Some-clause-taken : goal.returns-in-Some-clause-taken
returns-in-Some-clause-taken c = ap (λ o. unwrap_or (option_map (λ v. v.items) o) []) c.in-Some.ensures.value

pub returns-in-Some-clause-others : goal.returns-in-Some-clause-others
returns-in-Some-clause-others c = λ q apart. ap (λ o. unwrap_or (option_map (λ v. v.items) o) []) (c.in-Some.ensures.updates.2 q apart)

pub returns-in-None-clause-taken : goal.returns-in-None-clause-taken
returns-in-None-clause-taken c = c.new.ensures.items ∙ ap (λ o. unwrap_or (option_map (λ v. v.items) o) []) c.in-None.ensures.value

pub returns-in-None-clause-others : goal.returns-in-None-clause-others
returns-in-None-clause-others c = λ q apart. ap (λ o. unwrap_or (option_map (λ v. v.items) o) []) (c.in-None.ensures.updates.2 q apart)
