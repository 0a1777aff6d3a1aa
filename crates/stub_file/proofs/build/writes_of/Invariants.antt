use Rattle.std.proofs.Common.{take}
use Rattle.std.specs.List.{AllZip}
use Rattle.stub_file.specs.Stated.{IsWrite}
use Rattle.toml.specs.View.{view}
use Rattle.stub_file.proofs.build.writes_of.Given as goal

abbrev pub invariant-loop-item : goal.invariant-loop-item
invariant-loop-item l = AllZip (λ item w. IsWrite (view item) w) (take l.item-index l.items) l.writes.items
