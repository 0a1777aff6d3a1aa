use Rattle.std.proofs.Common.{◌∙◌, ap, List, map}
use Rattle.memory_map.specs.Map.{range_of}
use Rattle.memory_map.specs.Range.{may_write, may_write_each}
use Rattle.memory_map.specs.declared.segment.Segment.{Segment}
use Rattle.memory_map.proofs.Reaching.{allowed_is, write-mapped}
use Rattle.memory_map.proofs.segments.Segments.may_write_each.Goals as goal

pub returns : goal.returns
returns c =
    let ranges = map range_of c.deref.result.now in
    allowed_is c.are_allowed.result (may_write ranges) ranges _ c.args.a c.args.n (write-mapped ranges) c.are_allowed.ensures
    ∙ ap (λ (l : List Segment). may_write_each (map range_of l) c.args.a c.args.n) (c.deref.ensures.value ∙ c.self.view_is)
