use Rattle.std.proofs.Common.{arith}
use Rattle.memory_map.proofs.Writing.{writes_none}
use Rattle.memory_map.proofs.runs.unwritable_from.Goals as goal

pub returns-clause-each : goal.returns-clause-each
returns-clause-each c = writes_none c.args.list.now c.loop-s.low c.args.a c.requires.none (record { each = λ k d in'. c.loop-s.invariant.2 k d (omega arith) })
