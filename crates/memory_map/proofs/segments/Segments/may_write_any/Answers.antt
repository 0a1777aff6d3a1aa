use Rattle.std.proofs.Common.{◌∙◌, ◌+◌, ap, sym, List, map}
use Rattle.memory_map.specs.Map.{may_write_between, range_of}
use Rattle.memory_map.specs.Range.{may_write_any}
use Rattle.memory_map.specs.declared.segment.Segment.{Segment}
use Rattle.memory_map.proofs.Writing.{any_written, list_any-map}
use Rattle.memory_map.proofs.segments.Segments.may_write_any.Goals as goal

pub returns : goal.returns
returns c =
    let list = c.deref.result.now in
    c.may_write_in.ensures
    ∙ sym (list_any-map (may_write_between c.args.a (c.args.a + c.args.n)) range_of list)
    ∙ any_written (map range_of list) c.args.a c.args.n
    ∙ ap (λ (l : List Segment). may_write_any (map range_of l) c.args.a c.args.n) (c.deref.ensures.value ∙ c.self.view_is)
