use Rattle.std.proofs.Common.{◌≡◌}
use Rattle.elf32_reader.specs.Dynamic.{value_of}
use Rattle.elf32_reader.proofs.dynamic.value_of.Given as goal

abbrev pub invariant-loop-i : goal.invariant-loop-i
invariant-loop-i l = l.found ≡ value_of l.file l.at l.tag l.i
