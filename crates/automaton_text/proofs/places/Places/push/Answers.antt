use Rattle.std.proofs.Common.{◌≡◌, true}
use Rattle.automaton_text.specs.Reading.{AreAscending, is_above}
use Rattle.automaton_text.proofs.Ascending.{ascending_more}
use Rattle.automaton_text.proofs.places.Places.push.Goals as goal

pub invariant_of-self-2 : goal.invariant_of-self-2
invariant_of-self-2 c =
    let above : is_above c.self.inside.held.items c.args.l.at ≡ true = rw c.self.view_is c.requires in
    let more : AreAscending c.push.new.self.items = rw c.in_ok-push.ensures.items (ascending_more c.self.inside.held.items c.args.l c.self.invariant above) in
    more
