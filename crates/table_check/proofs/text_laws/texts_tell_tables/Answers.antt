use Rattle.table_check.proofs.Told.{texts_tell}
use Rattle.table_check.proofs.text_laws.texts_tell_tables.Goals as goal

pub returns : goal.returns
returns c = texts_tell
