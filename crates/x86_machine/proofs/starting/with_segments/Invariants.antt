use Rattle.std.proofs.Common.{◌≡◌, ◌++◌, map, take, true}
use Rattle.memory_map.specs.Map.{all_apart, range_of}
use Rattle.memory_map.specs.State.{memory}
use Rattle.x86_machine.proofs.starting.with_segments.Given as goal

abbrev pub invariant-loop-segment : goal.invariant-loop-segment
invariant-loop-segment l = record {
  mapped : l.mapped ≡ record l.fn.cells { ranges = l.fn.cells.ranges ++ map range_of (take l.segment-index l.segments) };
  apart : all_apart (memory l.mapped) ≡ true;
}
