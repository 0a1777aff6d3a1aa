use Rattle.automaton_text.proofs.Told.{texts_tell}
use Rattle.automaton_text.proofs.laws.texts_tell_orderly_automata.Goals as goal

pub returns : goal.returns
returns c = texts_tell
