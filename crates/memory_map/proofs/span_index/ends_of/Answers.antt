use Rattle.std.proofs.Common.{◌+◌, ◌≡◌, ◌∙◌, ℕ, ap, length, max, subst, sym, arith}
use Rattle.std.proofs.lemmas.List.{length_push}
use Rattle.memory_map.specs.Indexing.{EndBy}
use Rattle.memory_map.specs.declared.span.Span.{Span}
use Rattle.memory_map.proofs.Indexing.{end_more, ends_more}
use Rattle.memory_map.proofs.span_index.ends_of.Goals as goal

pub loop-s-preserved : goal.loop-s-preserved
loop-s-preserved c =
    let sorted = c.args.sorted.now in
    let i = c.loop-s.s-index in
    let d : Span = record { low = 0; size = 0 } in
    let end = c.max-end.result in
    let inv = c.loop-s.invariant in
    let By : ℕ → Type 0 = λ n. EndBy sorted (i + 1) n in
    let more : EndBy sorted (i + 1) end =
    subst By (sym (c.max-end.ensures ∙ ap (max c.loop-s.end) c.end.ensures)) (end_more sorted i c.loop-s.end d c.loop-s-test.true inv.1) in
    let size : length c.push.new.self.items ≡ i + 1 = ap length c.in_ok-push.ensures.items ∙ length_push c.loop-s.ends.items end ∙ ap (λ n. n + 1) inv.0 in
    (size, more, ends_more sorted c.loop-s.ends.items c.push.new.self.items i end inv.0 c.in_ok-push.ensures.items more inv.2)
