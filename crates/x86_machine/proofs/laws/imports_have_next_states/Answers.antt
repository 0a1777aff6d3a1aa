use Rattle.x86_machine.proofs.Next.{imports_exit, imports_fault, imports_step}
use Rattle.x86_machine.proofs.laws.imports_have_next_states.Goals as goal

pub returns-clause-next : goal.returns-clause-next
returns-clause-next c = imports_step

pub returns-clause-faults : goal.returns-clause-faults
returns-clause-faults c = imports_fault

pub returns-clause-exits : goal.returns-clause-exits
returns-clause-exits c = imports_exit
