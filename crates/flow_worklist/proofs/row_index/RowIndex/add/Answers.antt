-- A state is put in a group that tells its numbers, or with those that no other group has.
use Rattle.std.proofs.Common.{ℕ, [], sym, ◌∙◌, ap, subst, append-nil, Contains}
use Rattle.std.specs.Prelude.{OnOk}
use Rattle.std.proofs.lemmas.Result.{on_ok_weaker}
use Rattle.domain_laws.specs.Made.{values_of}
use Rattle.flow_worklist.specs.Grouping.{places_at}
use Rattle.flow_worklist.proofs.Grouping.{place-kept, place-put, place-rest}
use Rattle.flow_worklist.proofs.row_index.RowIndex.add.Goals as goal

pub returns-in-Some-clause-has : goal.returns-in-Some-clause-has
returns-in-Some-clause-has g c =
    let d = values_of g.D.Domain g.D.PartialEq.eq in
    on_ok_weaker c.put.result (place-put d c.args.self.now c.put.new.self c.args.place c.args.s.now c.in-Some.group c.in-Some.digest c.put.ensures.groups c.in-Some.ensures) (subst (λ (k : ℕ). OnOk c.put.result (Contains (places_at c.put.new.self k) c.args.place)) c.digest_with.ensures c.put.ensures.has)

pub returns-in-Some-clause-kept : goal.returns-in-Some-clause-kept
returns-in-Some-clause-kept g c =
    let d = values_of g.D.Domain g.D.PartialEq.eq in
    let groups = ap (λ v. v.items) c.put.ensures.groups ∙ sym (append-nil c.args.self.now.groups.items) in
    on_ok_weaker c.put.result (λ kept p t. place-kept d c.args.self.now c.put.new.self [] p t groups kept) c.put.ensures.kept

pub returns-in_ok-push_rest-in-None-clause-has : goal.returns-in_ok-push_rest-in-None-clause-has
returns-in_ok-push_rest-in-None-clause-has g c =
    let d = values_of g.D.Domain g.D.PartialEq.eq in
    place-rest d c.push_rest.new.self c.args.place c.args.s.now c.in_ok-push_rest-in-None.ensures.has

pub returns-in_ok-push_rest-in-None-clause-kept : goal.returns-in_ok-push_rest-in-None-clause-kept
returns-in_ok-push_rest-in-None-clause-kept g c =
    let d = values_of g.D.Domain g.D.PartialEq.eq in
    let more = c.in_ok-push_rest-in-None.ensures.groups in
    λ p t. place-kept d c.args.self.now c.push_rest.new.self more.0 p t more.1 c.in_ok-push_rest-in-None.ensures.kept
