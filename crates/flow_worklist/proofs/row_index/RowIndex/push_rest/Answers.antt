-- The group that is pushed has the place.
use Rattle.std.proofs.Common.{ℕ, [], ◌∷◌, ◌++◌, ◌∙◌, ap, subst, Contains}
use Rattle.flow_worklist.specs.declared.row_index.Group.{Group}
use Rattle.flow_worklist.specs.Grouping.{places_at}
use Rattle.flow_worklist.proofs.Grouping.{rest-pushed}
use Rattle.flow_worklist.proofs.row_index.RowIndex.push_rest.Goals as goal

pub returns-clause-has : goal.returns-clause-has
returns-clause-has c =
    let group : Group = record { number = c.len-number.result; holders = c.new-holders.result } in
    rest-pushed (record (c.put.new.self) { groups = c.push.new.self }) c.put.new.self.groups.items group c.args.place c.in_ok-push.ensures.items c.new-holders.ensures.items
    (subst (λ (k : ℕ). Contains (places_at c.put.new.self k) c.args.place) c.digest_with.ensures c.in_ok-put.ensures.has)

pub returns-clause-groups : goal.returns-clause-groups
returns-clause-groups c =
    let group : Group = record { number = c.len-number.result; holders = c.new-holders.result } in
    (group ∷ [], c.in_ok-push.ensures.items ∙ ap (λ v. v.items ++ group ∷ []) c.put.ensures.groups)
