use Rattle.std.proofs.Common.{◌≡◌, take}
use Rattle.run_replayer.proofs.run.copy_fills.Given as goal

abbrev pub invariant-loop-f : goal.invariant-loop-f
invariant-loop-f l = l.copies.items ≡ take l.f-index l.fill
