-- The addresses are sorted, and then each is located.
use Rattle.std.proofs.Common.{◌≡◌, ℕ, List, map, ◌∙◌, ap}
use Rattle.std.proofs.lemmas.Result.{IfOk-weaker}
use Rattle.std.specs.Ordering.{nat_cmp}
use Rattle.flow_log.specs.Ordered.{ordered_set}
use Rattle.flow_worklist.specs.Analysis.{location_of}
use Rattle.flow_worklist.proofs.automaton.locations.Goals as goal

pub returns : goal.returns
returns g c =
    let image = c.args.image.now in
    let sorted : c.deref.result.now ≡ ordered_set nat_cmp (map (λ row. row.location) c.args.rows.now) =
    c.deref.ensures.value ∙ c.sorted_set-sorted.ensures ∙ ap (λ (l : List ℕ). ordered_set nat_cmp l) c.in_ok-addresses.ensures in
    IfOk-weaker c.located.result (λ l. l.items ≡ map (location_of image) c.deref.result.now) (λ l. l.items ≡ map (location_of image) (ordered_set nat_cmp (map (λ row. row.location) c.args.rows.now)))
    (λ l e. e ∙ ap (λ (a : List ℕ). map (location_of image) a) sorted) c.located.ensures
