use Rattle.std.proofs.Common.{◌≡◌, map, take}
use Rattle.flow_log.specs.Log.{pair_of}
use Rattle.jakstab_core.proofs.tables.rows_of.Given as goal

abbrev pub invariant-loop-row : goal.invariant-loop-row
invariant-loop-row l = l.copies.items ≡ map pair_of (take l.row-index l.rows)
