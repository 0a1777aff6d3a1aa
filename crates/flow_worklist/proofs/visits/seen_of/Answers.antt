-- One row more, where there is one.
use Rattle.std.proofs.Common.{◌≡◌, ℕ, ◌+◌, List, Option, Some, None, drop, fold, get_or, refl, sym, ◌∙◌, ap, arith}
use Rattle.std.proofs.lemmas.List.{at_drop_all, at_drop_more}
use Rattle.std.specs.Prelude.{option_map, slice_get}
use Rattle.std.specs.List.{cons_option}
use Rattle.std.specs.Option.{option_map_or}
use Rattle.domain_laws.specs.Laws.{Values}
use Rattle.domain_laws.specs.Made.{values_of}
use Rattle.flow_log.specs.Log.{Row}
use Rattle.abstract_state.specs.declared.seen.Holder.{Holder}
use Rattle.abstract_state.specs.State.{Known}
use Rattle.abstract_state.specs.Widening.{seen_of, seen_with}
use Rattle.flow_worklist.specs.Covering.{states_of}
use Rattle.flow_worklist.proofs.visits.seen_of.Goals as goal

one-more : {D : Type 0} (d : Values D) (o : Option (Row (Known D))) (seen : List (Holder × D)) (rest : List (Known D))
    → fold (λ seen s. seen_with d s seen) seen (cons_option (option_map (λ (row : Row (Known D)). row.state) o) rest)
    ≡ fold (λ seen s. seen_with d s seen) (option_map_or (λ (row : Row (Known D)). seen_with d row.state seen) o seen) rest
one-more d None seen rest = refl
one-more d (Some row) seen rest = refl

pub loop-number-init : goal.loop-number-init
unfolding seen_of
loop-number-init g c =
    let d = values_of g.D.Domain g.D.PartialEq.eq in
    ap (λ seen. fold (λ seen s. seen_with d s seen) seen (states_of c.args.rows.now c.args.numbers.now)) c.new-seen.ensures

pub loop-number-preserved : goal.loop-number-preserved
loop-number-preserved g c =
    let d = values_of g.D.Domain g.D.PartialEq.eq in
    let rows = c.args.rows.now in
    let numbers = c.args.numbers.now in
    let i = c.loop-number.number-index in
    let n = get_or numbers i 0 in
    let seen = c.loop-number.seen in
    let rest = states_of rows (drop (i + 1) numbers) in
    ap (λ (l : List (Holder × g.row.D.Denot)). fold (λ seen s. seen_with d s seen) l rest) c.in_ok-see_row.ensures
    ∙ sym (one-more d (slice_get rows n) seen rest)
    ∙ sym (at_drop_more (λ (l : List ℕ). fold (λ seen s. seen_with d s seen) seen (states_of rows l)) numbers i 0 (omega arith))
    ∙ c.loop-number.invariant

pub returns : goal.returns
returns g c =
    let d = values_of g.D.Domain g.D.PartialEq.eq in
    let rows = c.args.rows.now in
    let numbers = c.args.numbers.now in
    let i = c.loop-number.number-index in
    sym (at_drop_all (λ (l : List ℕ). fold (λ seen s. seen_with d s seen) c.loop-number.seen (states_of rows l)) numbers i (omega arith)) ∙ c.loop-number.invariant
