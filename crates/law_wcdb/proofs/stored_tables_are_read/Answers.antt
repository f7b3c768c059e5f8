use Rattle.law_wcdb.proofs.Tables.{stored_all_read}
use Rattle.law_wcdb.proofs.stored_tables_are_read.Goals as goal

pub returns : goal.returns
returns c = stored_all_read
