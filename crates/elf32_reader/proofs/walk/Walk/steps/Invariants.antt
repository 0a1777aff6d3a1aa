use Rattle.std.proofs.Common.{◌≡◌, ◌/◌, ◌-◌, length, map}
use Rattle.std.specs.Prelude.{Ok}
use Rattle.std.specs.List.{range_with_len}
use Rattle.elf32_reader.specs.Fields.{entry_at}
use Rattle.elf32_reader.specs.KnownNames.{AreKnown}
use Rattle.elf32_reader.specs.Walk.{entries, steps}
use Rattle.elf32_reader.proofs.walk.Walk.steps.Given as goal

abbrev pub invariant-loop-i : goal.invariant-loop-i
invariant-loop-i l =
    (steps l.lookup (Ok l.initial.self) (entries l.table) ≡ steps l.lookup (Ok l.self) (map (entry_at l.table) (range_with_len l.i (length l.table / 8 - l.i)))) × AreKnown l.lookup l.self.names l.known
