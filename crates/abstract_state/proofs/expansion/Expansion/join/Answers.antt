use Rattle.std.proofs.Common.{◌++◌, ◌∙◌, ap}
use Rattle.flow_log.specs.Ordered.{ordered_set}
use Rattle.abstract_state.specs.Expanding.{Expanded, cause_cmp, with_writes}
use Rattle.abstract_state.proofs.Storing.{joined-by}
use Rattle.abstract_state.proofs.expansion.Expansion.join.Goals as goal

pub returns : goal.returns
returns g c =
    let x = c.args.self in
    let y = c.args.other in
    let next = c.in_ok-append.ensures.items ∙ ap (λ xs. xs ++ c.other.inside.next.items) (ap (λ (e : Expanded g.row.D.Denot). e.next) c.self.view_is) ∙ ap (λ ys. x.next ++ ys) (ap (λ (e : Expanded g.row.D.Denot). e.next) c.other.view_is) in
    let causes = c.in_ok-append-2.ensures.items ∙ ap (λ xs. xs ++ c.other.inside.causes.items) (ap (λ (e : Expanded g.row.D.Denot). e.causes) c.self.view_is) ∙ ap (λ ys. x.causes ++ ys) (ap (λ (e : Expanded g.row.D.Denot). e.causes) c.other.view_is) in
    let writes = c.in_ok-record_writes.ensures ∙ ap (λ more. with_writes more c.self.inside.writes.items) (c.deref.ensures.value ∙ ap (λ (e : Expanded g.row.D.Denot). e.writes) c.other.view_is) ∙ ap (with_writes y.writes) (ap (λ (e : Expanded g.row.D.Denot). e.writes) c.self.view_is) in
    c.new.ensures ∙ joined-by x y _ _ _ next (c.sorted_causes.ensures ∙ ap (ordered_set cause_cmp) causes) writes
