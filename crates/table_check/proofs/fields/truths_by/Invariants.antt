use Rattle.std.proofs.Common.{◌≡◌, ◌++◌, drop}
use Rattle.std.specs.Prelude.{option_map}
use Rattle.table_check.specs.Fields.{truths_by}
use Rattle.table_check.proofs.fields.truths_by.Given as goal

abbrev pub invariant-loop-c : goal.invariant-loop-c
invariant-loop-c l = truths_by l.field ≡ option_map (λ more. l.truths.items ++ more) (truths_by (drop l.c-index l.field))
