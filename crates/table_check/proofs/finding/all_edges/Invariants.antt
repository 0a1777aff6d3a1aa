use Rattle.std.proofs.Common.{◌≡◌, ◌++◌, length}
use Rattle.std.specs.Prelude.{flat_map}
use Rattle.std.specs.Vec.Iter.{into_iter_items, into_iter_len}
use Rattle.table_check.specs.Checking.{edges_in}
use Rattle.table_check.proofs.finding.all_edges.Given as goal

abbrev pub invariant-loop-finding : goal.invariant-loop-finding
invariant-loop-finding l = record {
  count : into_iter_len l.finding-iterator ≡ length (into_iter_items l.finding-iterator);
  edges : l.edges.items ++ flat_map edges_in (into_iter_items l.finding-iterator) ≡ flat_map edges_in l.fn.found.items;
}
