-- Fewer than k rows raise nothing; of more, what they hold is kept.
use Rattle.std.proofs.Common.{◌≡◌, ◌<◌, length, List, sym, ◌∙◌, ap, arith, rules}
use Rattle.std.proofs.lemmas.Result.{IfOk-weaker}
use Rattle.domain_laws.specs.Made.{values_of}
use Rattle.flow_log.specs.Log.{states_at}
use Rattle.abstract_state.specs.declared.seen.Holder.{Holder}
use Rattle.abstract_state.specs.State.{IsWellState}
use Rattle.abstract_state.specs.Widening.{widened_state}
use Rattle.abstract_state.proofs.Few.{few-widened}
use Rattle.flow_worklist.specs.Exploring.{IsOf}
use Rattle.flow_worklist.proofs.Indexing.{states_counted}
use Rattle.flow_worklist.proofs.visits.Visits.widened.Goals as goal

pub returns-then-len-k-clause-widened : goal.returns-then-len-k-clause-widened
returns-then-len-k-clause-widened g c =
    let d = values_of g.D.Domain g.D.PartialEq.eq in
    let states = states_at c.args.at c.args.rows.now in
    let count : c.len.result ≡ length c.args.self.now.numbers.items = search rules in
    let few : length states < c.args.k = omega (arith, states_counted d c.args.self.now c.args.at c.args.rows.now c.requires) in
    IfOk-weaker c.widen-then-len-k.result _ _ (λ s e. e ∙ ap (λ (seen : List (Holder × g.row.D.Denot)). widened_state d c.args.k seen c.args.s) c.new.ensures
    ∙ sym (few-widened d c.args.k states c.args.s few c.requires.well)) c.widen-then-len-k.ensures.widened

pub returns-then-len-k-clause-kept : goal.returns-then-len-k-clause-kept
returns-then-len-k-clause-kept g c =
    let d = values_of g.D.Domain g.D.PartialEq.eq in
    IfOk-weaker c.widen-then-len-k.result (IsWellState d) (λ s. IsOf d c.args.self.now c.args.at c.args.rows.now) (λ s e. c.requires) c.widen-then-len-k.ensures.well
