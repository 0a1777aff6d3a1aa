use Rattle.std.proofs.Common.{◌+◌, [], ◌∷◌, ◌++◌, ap, ◌∙◌}
use Rattle.std.specs.Prelude.{option_map, unwrap_or}
use Rattle.table_check.proofs.row_index.RowIndex.add.Goals as goal

pub returns : goal.returns
returns c = record {
  here = ap (λ o. unwrap_or (option_map (λ v. v.items) o) []) c.in_ok-insert.ensures.updates.1 ∙ c.in_ok-push.ensures.items ∙ ap (λ l. l ++ c.args.number ∷ []) c.take-numbers.ensures.taken;
  elsewhere = λ q apart. ap (λ o. unwrap_or (option_map (λ v. v.items) o) []) (c.in_ok-insert.ensures.updates.2 q apart) ∙ c.take-numbers.ensures.others q apart;
}
