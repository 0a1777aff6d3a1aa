use Rattle.std.proofs.Common.{◌≡◌, ◌++◌, take, map}
use Rattle.std.specs.Prelude.{filter_map}
use Rattle.flow_log.specs.Log.{expansion_mark}
use Rattle.jakstab_core.proofs.Tabling.{at}
use Rattle.jakstab_core.proofs.tables.push_all_caused.Given as goal

abbrev pub invariant-loop-noted : goal.invariant-loop-noted
invariant-loop-noted l = l.found.items ≡ l.initial.found.items ++ map at (filter_map (expansion_mark l.rows) (take l.noted-index l.causes))
