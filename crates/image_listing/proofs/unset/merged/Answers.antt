use Rattle.std.proofs.Common.{ℕ, ◌≡◌, get_or, arith}
use Rattle.memory_map.specs.declared.span.Span.{Span}
use Rattle.image_listing.proofs.Merges.{begin-more, runs-more}
use Rattle.image_listing.proofs.unset.merged.Goals as goal

pub loop-s-preserved : goal.loop-s-preserved
loop-s-preserved c =
    let sorted = c.args.sorted.now in
    let i = c.loop-s.s-index in
    let d : Span = record { low = 0; size = 0 } in
    let now = c.put_next.new.runs.items in (
      runs-more sorted c.loop-s.runs.items now i d c.loop-s-test.true c.loop-s.invariant.0 c.in_ok-put_next.ensures,
      begin-more sorted now i d c.loop-s-test.true c.requires.order c.in_ok-put_next.ensures.by,
    )
