use Rattle.std.proofs.Common.{◌≡◌, ◌++◌, take, map}
use Rattle.flow_worklist.proofs.exploring.push_causes.Given as goal

abbrev pub invariant-loop-cause : goal.invariant-loop-cause
invariant-loop-cause l = l.out.items ≡ l.initial.out.items ++ map (λ c. (l.number, c)) (take l.cause-index l.causes)
