use Rattle.std.proofs.Common.{◌≤◌}
use Rattle.x86_decoder.specs.Reading.{IsLeastBelow}
use Rattle.x86_decoder.proofs.decoder.least_number.Given as goal

abbrev pub invariant-loop-reg : goal.invariant-loop-reg
invariant-loop-reg l = record { least : IsLeastBelow l.reg l.prefixes l.map l.code l.least; bound : l.least ≤ 12 }
