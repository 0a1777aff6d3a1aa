use Rattle.x86_machine.proofs.Next.{instructions_fault, instructions_step}
use Rattle.x86_machine.proofs.laws.instructions_have_next_states.Goals as goal

pub returns-clause-next : goal.returns-clause-next
returns-clause-next c = instructions_step

pub returns-clause-faults : goal.returns-clause-faults
returns-clause-faults c = instructions_fault
