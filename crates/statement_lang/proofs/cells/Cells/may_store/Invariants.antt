use Rattle.std.proofs.Common.{◌≡◌, ◌-◌}
use Rattle.memory_map.specs.State.{memory}
use Rattle.x86_semantics.specs.Memory.{may_write_all}
use Rattle.statement_lang.proofs.cells.Cells.may_store.Given as goal

abbrev pub invariant-loop-i : goal.invariant-loop-i
invariant-loop-i l = may_write_all (memory l.self) (l._i-end - l._i) l.at ≡ may_write_all (memory l.self) l._i-end l.a
