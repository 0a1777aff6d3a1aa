use Rattle.automaton_text.proofs.Dashes.{dashes}
use Rattle.automaton_text.proofs.laws.dashes_are_refused.Goals as goal

pub returns : goal.returns
returns c = dashes
