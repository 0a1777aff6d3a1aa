use Rattle.std.proofs.Common.{◌≡◌, ◌++◌, take}
use Rattle.std.specs.Prelude.{flat_map}
use Rattle.run_replayer.specs.Texts.{fill_line}
use Rattle.run_replayer.proofs.print.push_fills.Given as goal

abbrev pub invariant-loop-f : goal.invariant-loop-f
invariant-loop-f l = l.out.items ≡ l.initial.out.items ++ flat_map fill_line (take l.f-index l.fill)
