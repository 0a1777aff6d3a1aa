-- One more pair.
use Rattle.std.proofs.Common.{◌≡◌, ℕ, List, [], ◌∷◌, length, refl, sym, ◌∙◌, ap, arith, vec_len}
use Rattle.std.specs.Vec.Iter.{into_iter_items}
use Rattle.domain_laws.specs.Made.{values_of}
use Rattle.flow_log.specs.declared.edge.Label.{Label}
use Rattle.flow_log.specs.Log.{with_next_pair, with_next_pairs}
use Rattle.abstract_state.specs.State.{Known, covers_state}
use Rattle.flow_worklist.specs.Analysis.{ImageLog, edge_by, widened_by}
use Rattle.flow_worklist.specs.Exploring.{log_in}
use Rattle.flow_worklist.proofs.exploring.Exploration.follow.Goals as goal

no_length : {X : Type 0} (xs : List X) → length xs ≡ 0 → xs ≡ []
no_length [] e = refl
no_length (x ∷ xs) e = absurd (omega arith)

pub loop-pair-init : goal.loop-pair-init
loop-pair-init g c =
    let d = values_of g.D.Domain g.D.PartialEq.eq in
    let post = c.args.post in
    let limits = c.args.limits in
    let pairs = c.into_next-pair-items.result in
    let gives = c.into_iter-pair-iterator.ensures.into_iter_gives in
    let count : vec_len pairs ≡ length pairs.items = pairs.ok.0 in
    record {
      indexed = c.requires;
      count = gives.1 ∙ count ∙ sym (ap (λ (l : List (ℕ × Known g.row.D.Denot)). length l) gives.0);
      label = refl;
      log = ap (λ (l : List (ℕ × Known g.row.D.Denot)). with_next_pairs (covers_state d) (widened_by d limits.k) limits.budget c.args.number (edge_by post.at post.label) l (log_in c.args.self.now))
          (gives.0 ∙ c.into_next-pair-items.ensures);
    }

pub loop-pair-preserved : goal.loop-pair-preserved
loop-pair-preserved g c =
    let d = values_of g.D.Domain g.D.PartialEq.eq in
    let post = c.args.post in
    let limits = c.args.limits in
    let pair = c.in-Some.pair in
    let now = log_in c.loop-pair.self in
    let rest = into_iter_items c.next.new.self in
    let steps = c.in-Some.ensures.steps in
    let all : List (ℕ × Known g.row.D.Denot) → ImageLog g.row.D.Denot → ImageLog g.row.D.Denot =
    λ l log. with_next_pairs (covers_state d) (widened_by d limits.k) limits.budget c.args.number (edge_by post.at post.label) l log in
    let left : length (into_iter_items c.loop-pair.pair-iterator) ≡ length (pair ∷ rest) = ap (λ (l : List (ℕ × Known g.row.D.Denot)). length l) steps.0 in
    record {
      indexed = c.in_ok-add.ensures.indexed;
      count = omega (arith, steps.1, c.loop-pair.invariant.count, left);
      label = c.loop-pair.invariant.label;
      log = ap (all rest) (c.in_ok-add.ensures.log
          ∙ ap (λ (label : Label). with_next_pair (covers_state d) (widened_by d limits.k) limits.budget c.args.number (edge_by post.at label pair.0) pair now) (c.in_ok-copy.ensures ∙ c.loop-pair.invariant.label))
          ∙ sym (ap (λ (l : List (ℕ × Known g.row.D.Denot)). all l now) steps.0)
          ∙ c.loop-pair.invariant.log;
    }

pub returns-clause-log : goal.returns-clause-log
returns-clause-log g c =
    let d = values_of g.D.Domain g.D.PartialEq.eq in
    let post = c.args.post in
    let limits = c.args.limits in
    let now = log_in c.loop-pair.self in
    let none : into_iter_items c.loop-pair.pair-iterator ≡ [] = no_length (into_iter_items c.loop-pair.pair-iterator) (sym c.loop-pair.invariant.count ∙ c.in-None.ensures.steps.0) in
    sym (ap (λ (l : List (ℕ × Known g.row.D.Denot)). with_next_pairs (covers_state d) (widened_by d limits.k) limits.budget c.args.number (edge_by post.at post.label) l now) none)
    ∙ c.loop-pair.invariant.log
