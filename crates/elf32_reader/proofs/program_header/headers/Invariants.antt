use Rattle.std.proofs.Common.{◌≡◌, map}
use Rattle.std.specs.List.{range_with_len}
use Rattle.elf32_reader.specs.Headers.{header_at}
use Rattle.elf32_reader.proofs.program_header.headers.Given as goal

abbrev pub invariant-loop-i : goal.invariant-loop-i
invariant-loop-i l = l.list.items ≡ map (header_at l.file) (range_with_len 0 l.i)
