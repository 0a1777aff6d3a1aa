use Rattle.std.proofs.Common.{◌+◌, ◌-◌, ◌≡◌, ◌≤◌, ◌∙◌, ap, get_or, sym, arith}
use Rattle.std.specs.Prelude.{nat_eq, slice_index}
use Rattle.std.specs.List.{list_all}
use Rattle.std.proofs.lemmas.List.{get_or_read}
use Rattle.statement_lang.specs.Indexed.{is_clear, nowhere, range_at}
use Rattle.statement_lang.proofs.Indexing.{clear_by_last, clear_by_none, rank_same}
use Rattle.statement_lang.proofs.mapped.Mapped.is_clear.Goals as goal

pub returns-then-count-eq0 : goal.returns-then-count-eq0
returns-then-count-eq0 c =
    let held = c.self.inside.held.items in
    let order = c.self.inside.order.items in
    let rank = rank_same c.deref.result.now held c.deref-2.result.now order (c.args.end - 1) c.rank-count.result c.deref.ensures.value c.deref-2.ensures.value c.rank-count.ensures in
    ap (λ n. nat_eq n 0) c.if-count-eq0.true
    ∙ clear_by_none held order c.self.invariant c.args.low c.args.end c.rank-count.result c.requires rank c.if-count-eq0.true
    ∙ ap (list_all (is_clear c.args.low c.args.end)) c.self.view_is

pub returns-else-count-eq0 : goal.returns-else-count-eq0
returns-else-count-eq0 c =
    let held = c.self.inside.held.items in
    let order = c.self.inside.order.items in
    let count = c.rank-count.result in
    let rank = rank_same c.deref.result.now held c.deref-2.result.now order (c.args.end - 1) count c.deref.ensures.value c.deref-2.ensures.value c.rank-count.ensures in
    let some : count ≡ (count - 1) + 1 = omega arith in
    let most = rank.within in
    let place : c.index.result.now ≡ slice_index order (count - 1) = get_or_read order (count - 1) c.index.result.now (omega (arith, most, some)) c.index.ensures 0 in
    let within = c.self.invariant.index.within (count - 1) (omega (arith, most, some)) in
    let block = c.index-else-count-eq0.result.now in
    let read : block ≡ range_at held (slice_index order (count - 1)) =
    get_or_read held (slice_index order (count - 1)) block within (c.index-else-count-eq0.ensures ∙ ap (λ i. get_or held i block) place) nowhere in
    c.is_clear.ensures
    ∙ ap (is_clear c.args.low c.args.end) read
    ∙ clear_by_last held order c.self.invariant c.args.low c.args.end count c.requires rank (count - 1) some
    ∙ ap (list_all (is_clear c.args.low c.args.end)) c.self.view_is
