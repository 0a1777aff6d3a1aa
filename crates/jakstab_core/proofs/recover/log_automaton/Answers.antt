-- The log has a row, and fewer than 2^32, and it is that of the image.
use Rattle.std.proofs.Common.{◌≡◌, ◌<◌, IfOk, length, sym, subst}
use Rattle.domain_laws.specs.Made.{values_of}
use Rattle.flow_worklist.specs.Analysis.{ImageLog, automaton_of}
use Rattle.flow_worklist.proofs.Spelling.{log_has_row}
use Rattle.jakstab_core.specs.Headline.{log_automaton}
use Rattle.jakstab_core.proofs.recover.log_automaton.Goals as goal

pub automaton_of-requires-clause-some : goal.automaton_of-requires-clause-some
automaton_of-requires-clause-some g c = λ lifetimes lives.
    let P : ImageLog g.row.D.Denot → Type 0 = λ log. 0 < length log.rows in
    subst P (sym c.in_ok-log.ensures.log) (log_has_row (values_of g.D.Domain g.D.PartialEq.eq) c.args.image.now c.args.stubs.now c.args.limits.k c.args.limits.budget)

pub automaton_of-requires-clause-few : goal.automaton_of-requires-clause-few
automaton_of-requires-clause-few g c = λ lifetimes lives. c.in_ok-log.ensures.few

pub returns : goal.returns
unfolding log_automaton
returns g c =
    let P : ImageLog g.row.D.Denot → Type 0 = λ log. IfOk c.automaton_of.result (λ a. a ≡ automaton_of c.args.image.now log) in
    subst P c.in_ok-log.ensures.log c.automaton_of.ensures
