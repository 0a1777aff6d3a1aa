use Rattle.std.proofs.Common.{List, map, ap, sym, ◌∙◌}
use Rattle.std.proofs.lemmas.List.{nil_from_length}
use Rattle.memory_map.specs.Range.{code_at}
use Rattle.memory_map.specs.Map.{range_of}
use Rattle.memory_map.specs.declared.segment.Segment.{Segment}
use Rattle.memory_map.proofs.Lists.{code_at-here, code_at-not_here, code_at-not_code, code_at-none}
use Rattle.memory_map.proofs.segments.code_in.Goals as goal
use Rattle.memory_map.proofs.segments.code_in.Goals.{else-permits-via-then-permits+else-has, else-permits-via-else-permits}

pub returns-then-has : goal.returns-then-has
returns-then-has c =
    c.byte.ensures
    ∙ sym (code_at-here (range_of c.in-Some.first.now) (map range_of c.in-Some.rest.now) c.args.a (sym c.permits.ensures ∙ c.if-permits.true) (sym c.has.ensures ∙ c.if-has.true))
    ∙ ap (λ (l : List Segment). code_at (map range_of l) c.args.a) (sym c.in-Some.ensures.cases.0)
    ∙ c.loop-first.invariant

pub loop-first-preserved : goal.loop-first-preserved
loop-first-preserved c =
    elim c.else-permits.branch [
      | else-permits-via-then-permits+else-has w ↦
          sym (code_at-not_here (range_of c.in-Some.first.now) (map range_of c.in-Some.rest.now) c.args.a (sym w.has.ensures ∙ w.if-has.false))
          ∙ ap (λ (l : List Segment). code_at (map range_of l) c.args.a) (sym c.in-Some.ensures.cases.0)
          ∙ c.loop-first.invariant
      | else-permits-via-else-permits w ↦
          sym (code_at-not_code (range_of c.in-Some.first.now) (map range_of c.in-Some.rest.now) c.args.a (sym c.permits.ensures ∙ w.if-permits.false))
          ∙ ap (λ (l : List Segment). code_at (map range_of l) c.args.a) (sym c.in-Some.ensures.cases.0)
          ∙ c.loop-first.invariant
    ]

pub returns : goal.returns
returns c =
    sym (code_at-none c.args.a)
    ∙ ap (λ (l : List Segment). code_at (map range_of l) c.args.a) (sym (nil_from_length c.loop-first.left.now c.in_default.ensures.cases))
    ∙ c.loop-first.invariant
