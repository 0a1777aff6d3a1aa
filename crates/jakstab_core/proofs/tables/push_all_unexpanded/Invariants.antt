use Rattle.std.proofs.Common.{◌≡◌, ◌++◌, take}
use Rattle.std.specs.Prelude.{flat_map}
use Rattle.jakstab_core.specs.Tables.{left_at}
use Rattle.jakstab_core.proofs.tables.push_all_unexpanded.Given as goal

abbrev pub invariant-loop-row : goal.invariant-loop-row
invariant-loop-row l = l.found.items ≡ l.initial.found.items ++ flat_map left_at (take l.row-index l.rows)
