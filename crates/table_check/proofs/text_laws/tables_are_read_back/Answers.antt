use Rattle.table_check.proofs.ReadBack.{read_back}
use Rattle.table_check.proofs.text_laws.tables_are_read_back.Goals as goal

pub returns : goal.returns
returns c = read_back
