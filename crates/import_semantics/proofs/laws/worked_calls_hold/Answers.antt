use Rattle.import_semantics.proofs.WorkedCalls.{calls_are_due, large_are_due}
use Rattle.import_semantics.proofs.laws.worked_calls_hold.Goals as goal

pub returns-clause-small : goal.returns-clause-small
returns-clause-small c = calls_are_due

pub returns-clause-large : goal.returns-clause-large
returns-clause-large c = large_are_due
