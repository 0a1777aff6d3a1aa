use Rattle.std.proofs.Common.{List, ◌∙◌, ap, sym, map, Some}
use Rattle.std.specs.Prelude.{find}
use Rattle.memory_map.specs.Map.{range_of}
use Rattle.memory_map.specs.declared.segment.Segment.{Segment}
use Rattle.memory_map.specs.Range.{holds}
use Rattle.file_pieces.proofs.Lookups.{bytes_at-none_asked, bytes_at-found, bytes_at-none, held}
use Rattle.file_pieces.proofs.found.bytes_at.Goals as goal

pub returns-then-n-eq0 : goal.returns-then-n-eq0
returns-then-n-eq0 c = sym (bytes_at-none_asked _ _ _ c.if-n-eq0.true)

pub part_of-requires : goal.part_of-requires
part_of-requires c = held (map range_of c.as_slice.result.now) _ _ _ (sym c.in-Some.ensures)

pub returns-in-Some : goal.returns-in-Some
returns-in-Some c =
    let found = ap (λ (l : List Segment). find (holds c.args.a c.args.n) (map range_of l)) (sym c.as_slice.ensures.segments) ∙ sym c.in-Some.ensures in
    ap Some c.part_of.ensures ∙ sym (bytes_at-found (map range_of c.args.segments.now) c.args.a c.args.n (range_of c.in-Some.segment.now) c.if-n-eq0.false found)

pub returns-in-None : goal.returns-in-None
returns-in-None c =
    let found = ap (λ (l : List Segment). find (holds c.args.a c.args.n) (map range_of l)) (sym c.as_slice.ensures.segments) ∙ sym c.in-None.ensures in
    sym (bytes_at-none (map range_of c.args.segments.now) c.args.a c.args.n c.if-n-eq0.false found)
