use Rattle.std.proofs.Common.{◌≡◌, ◌++◌, take}
use Rattle.std.specs.Prelude.{flat_map}
use Rattle.text_fields.specs.Line.{space}
use Rattle.table_check.specs.Text.{value_text}
use Rattle.table_check.proofs.print.push_values.Given as goal

abbrev pub invariant-loop-v : goal.invariant-loop-v
invariant-loop-v l = l.out.items ≡ l.initial.out.items ++ flat_map (λ v. space ++ value_text v) (take l.v-index l.values)
