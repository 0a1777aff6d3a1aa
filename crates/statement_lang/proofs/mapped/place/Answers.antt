use Rattle.std.proofs.Common.{◌+◌, ◌-◌, ◌≡◌, ◌∙◌, ℕ, ap, false, sym, subst, arith}
use Rattle.std.specs.Prelude.{slice_index}
use Rattle.memory_map.specs.Range.{has}
use Rattle.statement_lang.specs.Indexed.{nowhere, range_at}
use Rattle.std.proofs.lemmas.List.{get_or_read}
use Rattle.statement_lang.proofs.Indexing.{none_has}
use Rattle.statement_lang.proofs.mapped.place.Goals as goal

pub returns-then-count-eq0-clause-none : goal.returns-then-count-eq0-clause-none
returns-then-count-eq0-clause-none c =
    none_has c.args.list.now c.args.order.now c.requires c.args.a c.rank-count.result c.rank-count.ensures (λ k last. absurd (omega (arith, last)))

pub returns-else-has-clause-none : goal.returns-else-has-clause-none
returns-else-has-clause-none c =
    let count = c.rank-count.result in
    let list = c.args.list.now in
    let order = c.args.order.now in
    let some : count ≡ (count - 1) + 1 = omega arith in
    let most = c.rank-count.ensures.within in
    let within = c.requires.index.within (count - 1) (omega (arith, most, some)) in
    let read = get_or_read list (slice_index order (count - 1)) c.index-list-p.result within c.index-list-p.is nowhere in
    let lacks : has c.args.a (range_at list (slice_index order (count - 1))) ≡ false = ap (has c.args.a) (sym read) ∙ sym c.has.ensures ∙ c.if-has.false in
    none_has list order c.requires c.args.a count c.rank-count.ensures (λ k last.
    let same : k ≡ count - 1 = omega (arith, last) in
    ap (λ i. has c.args.a (range_at list (slice_index order i))) same ∙ lacks)
