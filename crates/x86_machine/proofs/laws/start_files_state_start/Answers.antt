use Rattle.x86_machine.proofs.StatesMeet.{states_meet_start}
use Rattle.x86_machine.proofs.StatesStated.{states_are_stated}
use Rattle.x86_machine.proofs.laws.start_files_state_start.Goals as goal

pub returns-clause-meets : goal.returns-clause-meets
returns-clause-meets c = states_meet_start

pub returns-clause-stated : goal.returns-clause-stated
returns-clause-stated c = states_are_stated
