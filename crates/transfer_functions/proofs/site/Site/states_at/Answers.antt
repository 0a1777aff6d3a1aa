use Rattle.std.proofs.Common.{◌∙◌, map, ap}
use Rattle.transfer_functions.proofs.Parts.{expansion-of}
use Rattle.transfer_functions.proofs.site.Site.states_at.Goals as goal

pub returns : goal.returns
returns g c =
    c.new-3.ensures ∙ expansion-of _ _ _ _ _ _ (c.in_ok-next.ensures ∙ ap (λ states. map (λ s. (c.args.target, s)) states) c.in_ok-states.ensures) c.new.ensures.items c.new-2.ensures.items
