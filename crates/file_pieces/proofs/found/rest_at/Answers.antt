use Rattle.std.proofs.Common.{List, ◌∙◌, ap, sym, map}
use Rattle.std.specs.Prelude.{find}
use Rattle.memory_map.specs.Map.{range_of}
use Rattle.memory_map.specs.declared.segment.Segment.{Segment}
use Rattle.memory_map.specs.Range.{holds}
use Rattle.file_pieces.proofs.Lookups.{rest_at-found, rest_at-none, held}
use Rattle.file_pieces.proofs.found.rest_at.Goals as goal

pub rest_of-requires : goal.rest_of-requires
rest_of-requires c = held (map range_of c.as_slice.result.now) _ _ _ (sym c.in-Some.ensures)

pub returns-in-Some : goal.returns-in-Some
returns-in-Some c =
    let found = ap (λ (l : List Segment). find (holds c.args.a 1) (map range_of l)) (sym c.as_slice.ensures.segments) ∙ sym c.in-Some.ensures in
    c.rest_of.ensures ∙ sym (rest_at-found (map range_of c.args.segments.now) c.args.a (range_of c.in-Some.segment.now) found)

pub returns-in-None : goal.returns-in-None
returns-in-None c =
    let found = ap (λ (l : List Segment). find (holds c.args.a 1) (map range_of l)) (sym c.as_slice.ensures.segments) ∙ sym c.in-None.ensures in
    sym (rest_at-none (map range_of c.args.segments.now) c.args.a found)
