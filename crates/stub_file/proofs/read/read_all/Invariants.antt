use Rattle.stub_file.proofs.Gathered.{Gathered}
use Rattle.stub_file.proofs.read.read_all.Given as goal

abbrev pub invariant-loop-name : goal.invariant-loop-name
invariant-loop-name l = Gathered l.table.entries l.stubs.entries l.name-iterator
