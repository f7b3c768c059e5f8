use Rattle.law_wcdb.proofs.Tables.{stored_read}
use Rattle.law_wcdb.proofs.stored_rows_are_read.Goals as goal

pub returns : goal.returns
returns c = stored_read
