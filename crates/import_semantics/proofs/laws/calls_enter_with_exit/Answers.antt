use Rattle.import_semantics.proofs.Entering.{enters_with_exit}
use Rattle.import_semantics.proofs.laws.calls_enter_with_exit.Goals as goal

pub returns : goal.returns
returns c = enters_with_exit
