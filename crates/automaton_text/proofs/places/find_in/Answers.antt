use Rattle.std.proofs.Common.{◌≡◌, ◌≢◌, Some, ap, sym, ◌∙◌, get_or}
use Rattle.automaton_text.specs.declared.automaton.Location.{Location}
use Rattle.automaton_text.proofs.Ascending.{found_index, other_index, past}
use Rattle.automaton_text.proofs.places.find_in.Goals as goal

pub returns-then-i-locations : goal.returns-then-i-locations
returns-then-i-locations c = past c.args.locations.now c.args.at c.count_below-i.result c.requires c.count_below-i.ensures c.if-i-locations.true

pub returns-then-l-at : goal.returns-then-l-at
returns-then-l-at c =
    let l = c.index-locations-i.result in
    let here : l.at ≡ (get_or c.args.locations.now c.count_below-i.result l).at = ap (λ (x : Location). x.at) c.index-locations-i.is in
    ap Some c.index-locations-i.is
    ∙ found_index c.args.locations.now c.args.at c.count_below-i.result l c.requires c.count_below-i.ensures c.if-i-locations.false (sym here ∙ c.if-l-at.true)

pub returns-else-l-at : goal.returns-else-l-at
returns-else-l-at c =
    let l = c.index-locations-i.result in
    let here : l.at ≡ (get_or c.args.locations.now c.count_below-i.result l).at = ap (λ (x : Location). x.at) c.index-locations-i.is in
    other_index c.args.locations.now c.args.at c.count_below-i.result l c.requires c.count_below-i.ensures c.if-i-locations.false (λ e. c.if-l-at.false (here ∙ e))
