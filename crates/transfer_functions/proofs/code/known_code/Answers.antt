use Rattle.std.proofs.Common.{ℕ, ◌<◌, ◌≤◌, List, length, sym, ◌∙◌, ap, subst, arith}
use Rattle.memory_map.specs.Range.{Range, code_run}
use Rattle.domain_laws.specs.Made.{values_of}
use Rattle.transfer_functions.proofs.Fetching.{IsRun, run-cut, run-ends, run-inside, run-more, run-starts}
use Rattle.transfer_functions.proofs.code.known_code.Goals as goal

pub loop-i-init : goal.loop-i-init
loop-i-init g c =
    let d = values_of g.D.Domain g.D.PartialEq.eq in
    subst (λ (bytes : List ℕ). IsRun d c.args.image.now c.args.s.now c.args.at 0 bytes) (sym c.new-bytes.ensures) (run-starts d c.args.image.now c.args.s.now c.args.at)

pub overflow_add-at : goal.overflow_add-at
overflow_add-at g c =
    let d = values_of g.D.Domain g.D.PartialEq.eq in
    let total = c.len-count.ensures.value ∙ ap length (c.fetch.ensures ∙ ap (λ (rs : List Range). code_run rs c.args.at) c.segments-segments.ensures.segments) in
    let less : c.loop-i.i < length (code_run c.args.image.now.segments c.args.at) = omega (arith, c.loop-i-test.true, total) in
    let inside = run-inside d c.args.image.now c.args.s.now c.args.at c.loop-i.i c.loop-i.bytes.items c.loop-i.invariant less c.segments-segments.ensures.loaded.map.inside in
    omega (arith, inside)

pub returns-in-None-clause-bytes : goal.returns-in-None-clause-bytes
returns-in-None-clause-bytes g c =
    let d = values_of g.D.Domain g.D.PartialEq.eq in
    let total = c.len-count.ensures.value ∙ ap length (c.fetch.ensures ∙ ap (λ (rs : List Range). code_run rs c.args.at) c.segments-segments.ensures.segments) in
    let less : c.loop-i.i < length (code_run c.args.image.now.segments c.args.at) = omega (arith, c.loop-i-test.true, total) in
    (run-cut d c.args.image.now c.args.s.now c.args.at c.loop-i.i c.loop-i.bytes.items c.loop-i.invariant less (sym c.in-None.ensures)).0

pub returns-in-None-clause-cut : goal.returns-in-None-clause-cut
returns-in-None-clause-cut g c =
    let d = values_of g.D.Domain g.D.PartialEq.eq in
    let total = c.len-count.ensures.value ∙ ap length (c.fetch.ensures ∙ ap (λ (rs : List Range). code_run rs c.args.at) c.segments-segments.ensures.segments) in
    let less : c.loop-i.i < length (code_run c.args.image.now.segments c.args.at) = omega (arith, c.loop-i-test.true, total) in
    (run-cut d c.args.image.now c.args.s.now c.args.at c.loop-i.i c.loop-i.bytes.items c.loop-i.invariant less (sym c.in-None.ensures)).1

pub loop-i-preserved : goal.loop-i-preserved
loop-i-preserved g c =
    let d = values_of g.D.Domain g.D.PartialEq.eq in
    let total = c.len-count.ensures.value ∙ ap length (c.fetch.ensures ∙ ap (λ (rs : List Range). code_run rs c.args.at) c.segments-segments.ensures.segments) in
    let less : c.loop-i.i < length (code_run c.args.image.now.segments c.args.at) = omega (arith, c.loop-i-test.true, total) in
    run-more d c.args.image.now c.args.s.now c.args.at c.loop-i.i c.in-Some.b c.loop-i.bytes.items c.push.new.self.items c.loop-i.invariant less (sym c.in-Some.ensures) c.push.ensures.items

pub returns-clause-bytes : goal.returns-clause-bytes
returns-clause-bytes g c =
    let d = values_of g.D.Domain g.D.PartialEq.eq in
    let total = c.len-count.ensures.value ∙ ap length (c.fetch.ensures ∙ ap (λ (rs : List Range). code_run rs c.args.at) c.segments-segments.ensures.segments) in
    let last : length (code_run c.args.image.now.segments c.args.at) ≤ c.loop-i.i = omega (arith, c.loop-i-test.false, total) in
    (run-ends d c.args.image.now c.args.s.now c.args.at c.loop-i.i c.loop-i.bytes.items c.loop-i.invariant last).0

pub returns-clause-cut : goal.returns-clause-cut
returns-clause-cut g c =
    let d = values_of g.D.Domain g.D.PartialEq.eq in
    let total = c.len-count.ensures.value ∙ ap length (c.fetch.ensures ∙ ap (λ (rs : List Range). code_run rs c.args.at) c.segments-segments.ensures.segments) in
    let last : length (code_run c.args.image.now.segments c.args.at) ≤ c.loop-i.i = omega (arith, c.loop-i-test.false, total) in
    (run-ends d c.args.image.now c.args.s.now c.args.at c.loop-i.i c.loop-i.bytes.items c.loop-i.invariant last).1
