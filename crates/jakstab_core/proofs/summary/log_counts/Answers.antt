-- The log has a row, and fewer than 2^32, and it is that of the image.
use Rattle.std.proofs.Common.{◌<◌, ◌∙◌, ℕ, ap, length, sym, subst}
use Rattle.domain_laws.specs.Made.{values_of}
use Rattle.flow_worklist.specs.Analysis.{ImageLog, automaton_of}
use Rattle.flow_worklist.proofs.Spelling.{log_has_row}
use Rattle.jakstab_core.specs.declared.summary.Counts.{Counts}
use Rattle.jakstab_core.specs.Summary.{counted, log_counts}
use Rattle.jakstab_core.proofs.summary.log_counts.Goals as goal

pub automaton_of-requires-clause-some : goal.automaton_of-requires-clause-some
automaton_of-requires-clause-some g c = λ lifetimes lives.
    let P : ImageLog g.row.D.Denot → Type 0 = λ log. 0 < length log.rows in
    subst P (sym c.in_ok-log.ensures.log) (log_has_row (values_of g.D.Domain g.D.PartialEq.eq) c.args.image.now c.args.stubs.now c.args.limits.k c.args.limits.budget)

pub automaton_of-requires-clause-few : goal.automaton_of-requires-clause-few
automaton_of-requires-clause-few g c = λ lifetimes lives. c.in_ok-log.ensures.few

pub returns : goal.returns
unfolding log_counts
returns g c =
    let image = c.args.image.now in
    let log = c.in_ok-log.log in
    let a = c.in_ok-automaton.automaton in
    let counts : ℕ → ℕ → ℕ → ℕ → Counts = λ rows locations edges opens. record { rows = rows; locations = locations; edges = edges; opens = opens } in
    ap (λ n. counts n (length c.as_slice.result.now) (length c.as_slice-2.result.now) (length c.as_slice-3.result.now)) (ap length c.rows.ensures)
    ∙ ap (λ n. counts (length log.rows) n (length c.as_slice-2.result.now) (length c.as_slice-3.result.now)) (ap length c.as_slice.ensures)
    ∙ ap (λ n. counts (length log.rows) (length a.locations) n (length c.as_slice-3.result.now)) (ap length c.as_slice-2.ensures)
    ∙ ap (counts (length log.rows) (length a.locations) (length a.edges)) (ap length c.as_slice-3.ensures)
    ∙ ap (counted log) c.in_ok-automaton.ensures
    ∙ ap (λ (log : ImageLog g.row.D.Denot). counted log (automaton_of image log)) c.in_ok-log.ensures.log
