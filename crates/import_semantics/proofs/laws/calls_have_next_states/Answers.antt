use Rattle.import_semantics.proofs.Returning.{calls_fail, calls_fault, calls_return}
use Rattle.import_semantics.proofs.laws.calls_have_next_states.Goals as goal

pub returns-clause-returns : goal.returns-clause-returns
returns-clause-returns c = calls_return

pub returns-clause-fails : goal.returns-clause-fails
returns-clause-fails c = calls_fail

pub returns-clause-faults : goal.returns-clause-faults
returns-clause-faults c = calls_fault
