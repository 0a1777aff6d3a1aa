use Rattle.std.proofs.Common.{◌≡◌, [], take}
use Rattle.std.specs.Prelude.{filter_map}
use Rattle.std.specs.List.{enumerate_from}
use Rattle.table_check.specs.Checking.{broken_in}
use Rattle.table_check.proofs.finding.first_broken.Given as goal

abbrev pub invariant-loop-number : goal.invariant-loop-number
invariant-loop-number l = filter_map broken_in (enumerate_from 0 (take l.number l.found)) ≡ []
