use Rattle.import_semantics.proofs.Freedom.{bytes_are_free, registers_are_free}
use Rattle.import_semantics.proofs.laws.calls_leave_free.Goals as goal

pub returns-clause-bytes : goal.returns-clause-bytes
returns-clause-bytes c = bytes_are_free

pub returns-clause-registers : goal.returns-clause-registers
returns-clause-registers c = registers_are_free
