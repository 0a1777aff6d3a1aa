use Rattle.std.proofs.Common.{◌∙◌, ap, List, map}
use Rattle.std.proofs.lemmas.List.{with_items_is}
use Rattle.memory_map.specs.Map.{range_of}
use Rattle.memory_map.specs.Patch.{put_word}
use Rattle.memory_map.specs.declared.segment.Segment.{Segment}
use Rattle.memory_map.proofs.Patching.{put_word-map}
use Rattle.memory_map.proofs.segments.Segments.put_word.Goals as goal

pub invariant_of-self : goal.invariant_of-self
invariant_of-self c =
    let held = c.self.inside.held in
    put_word-map c.args.a c.args.word (map range_of held.items) _
    (ap (map range_of) (with_items_is held c.put_in_each.new.list (c.put_in_each.auto.list ∙ c.deref_mut.ensures.len))
    ∙ c.put_in_each.ensures
    ∙ ap (λ (l : List Segment). put_word c.args.a c.args.word (map range_of l)) c.deref_mut.ensures.value)
    c.self.invariant
