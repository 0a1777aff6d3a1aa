use Rattle.std.proofs.Common.{◌∙◌, ap, ℕ, List, map}
use Rattle.std.specs.Prelude.{is_some}
use Rattle.memory_map.specs.Map.{range_of}
use Rattle.memory_map.specs.Range.{byte_at, maps_all}
use Rattle.memory_map.specs.declared.segment.Segment.{Segment}
use Rattle.memory_map.proofs.Reaching.{allowed_is, read-mapped}
use Rattle.memory_map.proofs.segments.Segments.maps_all.Goals as goal

pub returns : goal.returns
returns c =
    let ranges = map range_of c.deref.result.now in
    allowed_is c.are_allowed.result (λ (b : ℕ). is_some (byte_at ranges b)) ranges _ c.args.a c.args.n (read-mapped ranges) c.are_allowed.ensures
    ∙ ap (λ (l : List Segment). maps_all (map range_of l) c.args.a c.args.n) (c.deref.ensures.value ∙ c.self.view_is)
