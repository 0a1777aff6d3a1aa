-- Each row is found by its own call, whichever thread makes it.
use Rattle.std.proofs.Common.{◌≡◌, ℕ, ◌<◌, ◌-◌, ◌∙◌, List, length, map, ap, subst, sym, arith, Ok}
use Rattle.std.specs.Prelude.{IfOk, Result}
use Rattle.std.specs.List.{AllZip, range_with_len}
use Rattle.bit_words.specs.declared.memory.NoMemory.{NoMemory}
use Rattle.rayon.specs.Numbers.{nat_range}
use Rattle.rayon.proofs.ToStd.{nat_range-All}
use denote.Param.Send.{sendable}
use Rattle.domain_laws.specs.Made.{values_of}
use Rattle.table_check.specs.declared.finding.Finding.{Finding}
use Rattle.table_check.specs.Checking.{IsFindingAt}
use Rattle.table_check.proofs.Answering.{found-all, match-ok, moved}
use Rattle.table_check.proofs.checking.findings.Goals as goal

pub collect-requires-clause-ready : goal.collect-requires-clause-ready
collect-requires-clause-ready g c κs within =
    let ends = c.into_par_iter.ensures in
    let rows = c.args.check.now.table.now.rows in
    let inside = nat_range-All (λ i. i < length rows) 0 c.len.result (λ i low high. omega (arith, c.len.ensures)) in
    let send = c.type_bounds.send-D in
    let sync = c.type_bounds.sync-D in
    rw (c.map.ensures.base, c.map.ensures.f, ends.0, ends.1) (λ k d lt. ((inside k d lt, (search sendable depth 20, search sendable depth 20)), λ y p. tt))

pub returns : goal.returns
returns g c =
    let d = values_of g.D.Domain g.D.PartialEq.eq in
    let check = c.args.check.now in
    let h = c.in_ok-collect.ensures in
    let ends = c.into_par_iter.ensures in
    let rows = check.table.now.rows in
    let whole : c.len.result - 0 ≡ length rows = omega (arith, c.len.ensures) in
    let based : nat_range c.map.result.base.start c.map.result.base.end ≡ nat_range c.into_par_iter.result.start c.into_par_iter.result.end =
    λ i. nat_range (c.map.ensures.base i).start (c.map.ensures.base i).end in
    let numbers : h.1.0 ≡ range_with_len 0 (length rows) = h.1.1 ∙ based ∙ (λ i. nat_range (ends.0 i) (ends.1 i)) ∙ ap (range_with_len 0) whole in
    let Is : ℕ → Finding → Type 0 = IsFindingAt d check.image.now check.stubs.now check.table.now in
    let zipped : AllZip (λ n r. IfOk r (Is n)) h.1.0 h.0 =
    moved c.map.result.f _ (λ f. AllZip (λ n r. IfOk r (IsFindingAt d f.0.now.image.now f.0.now.stubs.now f.0.now.table.now n)) h.1.0 h.0) c.map.ensures.f h.1.2 in
    match-ok c.in_ok-collect.field-0 _ _ _ h.2
    (λ v q.
    let Called : List (Result Finding NoMemory) → Type 0 = λ l. AllZip (λ n r. IfOk r (Is n)) h.1.0 l in
    let each : Called (map Ok q.0) = subst Called q.1 zipped in
    let found = found-all NoMemory Is h.1.0 q.0 each in
    let Numbered : List ℕ → Type 0 = λ ns. AllZip Is ns q.0 in
    let Found : List Finding → Type 0 = λ fs. AllZip Is (range_with_len 0 (length rows)) fs in
    subst Found (sym q.2) (subst Numbered numbers found))
