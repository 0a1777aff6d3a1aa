use Rattle.automaton_text.proofs.ReadBack.{read_back}
use Rattle.automaton_text.proofs.laws.orderly_automata_are_read_back.Goals as goal

pub returns : goal.returns
returns c = read_back
