use Rattle.jakstab_core.proofs.Covering.{replays_find, replays_of_texts_find}
use Rattle.jakstab_core.proofs.laws.replays_find_edges.Goals as goal

pub returns-clause-automata : goal.returns-clause-automata
returns-clause-automata c = replays_find

pub returns-clause-texts : goal.returns-clause-texts
returns-clause-texts c = replays_of_texts_find
