use Rattle.svn_wcdb.proofs.NodeLemmas.{local_row}
use Rattle.svn_wcdb.proofs.laws.local_rows_change_nothing.Goals as goal

pub returns : goal.returns
returns c = local_row
