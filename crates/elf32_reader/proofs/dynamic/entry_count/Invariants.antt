use Rattle.std.proofs.Common.{◌≡◌, ◌+◌, ◌-◌, ◌*◌}
use Rattle.elf32_reader.specs.Dynamic.{entry_count}
use Rattle.elf32_reader.proofs.dynamic.entry_count.Given as goal

abbrev pub invariant-loop-i : goal.invariant-loop-i
invariant-loop-i l = entry_count l.file l.at l.most ≡ l.i + entry_count l.file (l.at + 8 * l.i) (l.most - l.i)
