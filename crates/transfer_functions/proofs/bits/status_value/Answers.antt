use Rattle.bit_words.specs.declared.width.Width.TheVariants.{B32}
use Rattle.transfer_functions.proofs.bits.status_value.Goals as goal

pub returns-else-has_status-clause-holds : goal.returns-else-has_status-clause-holds
returns-else-has_status-clause-holds g c = λ blocks. c.anything.ensures.holds blocks B32
