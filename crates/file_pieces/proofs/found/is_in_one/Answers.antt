use Rattle.std.proofs.Common.{List, ◌∙◌, ap, sym, map, is_some}
use Rattle.std.specs.Prelude.{find}
use Rattle.memory_map.specs.Map.{range_of}
use Rattle.memory_map.specs.declared.segment.Segment.{Segment}
use Rattle.memory_map.specs.Range.{holds}
use Rattle.file_pieces.proofs.Lookups.{is_in_one-find, is_some-copied}
use Rattle.file_pieces.proofs.found.is_in_one.Goals as goal

pub returns-else-n-eq0 : goal.returns-else-n-eq0
returns-else-n-eq0 c =
    c.is_some.ensures
    ∙ is_some-copied range_of c.segment_with.result
    ∙ ap is_some (c.segment_with.ensures ∙ ap (λ (l : List Segment). find (holds c.args.a c.args.n) (map range_of l)) c.as_slice.ensures.segments)
    ∙ sym (is_in_one-find (map range_of c.args.segments.now) c.args.a c.args.n c.if-n-eq0.false)
