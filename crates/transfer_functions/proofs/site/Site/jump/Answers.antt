use Rattle.std.proofs.Common.{◌∙◌, ap}
use Rattle.std.proofs.Math.Facts.{to_z-of_z}
use Rattle.std.proofs.lemmas.Result.{IfOk-weaker}
use Rattle.domain_laws.specs.Made.{values_of}
use Rattle.abstract_state.specs.Expanding.{joined, starts}
use Rattle.x86_syntax.specs.Text.{next_address}
use Rattle.x86_semantics.specs.Operands.{branch_target}
use Rattle.transfer_functions.specs.Flow.{lands_each, states_where}
use Rattle.transfer_functions.proofs.site.Site.jump.Goals as goal

pub returns : goal.returns
returns g c =
    let d = values_of g.D.Domain g.D.PartialEq.eq in
    let s = c.args.s.now in
    let image = c.args.self.now.image.now in
    let goes = lands_each (branch_target c.args.self.now.at c.args.self.now.len c.args.offset) (states_where d image c.args.k c.args.condition s) (starts s) in
    let taken = c.in_ok-first.ensures ∙ ap (λ a. lands_each a (states_where d image c.args.k c.args.condition s) (starts s)) (c.target.ensures ∙ ap (λ o. branch_target c.args.self.now.at c.args.self.now.len o) (to_z-of_z c.ranges.offset)) in
    let past = c.in_ok-second.ensures ∙ ap (λ a. lands_each a (states_where d image c.args.k c.negated.result s) (starts s)) c.next.ensures
    ∙ ap (λ n. lands_each (next_address c.args.self.now.at c.args.self.now.len) (states_where d image c.args.k n s) (starts s)) c.negated.ensures in
    IfOk-weaker c.join.result _ _ (λ x e. e ∙ ap (λ a. joined a c.in_ok-second.second) taken ∙ ap (λ b. joined goes b) past) c.join.ensures
