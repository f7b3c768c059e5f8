use Rattle.svn_wcrows.proofs.NodeRows.{rows_read}
use Rattle.svn_wcrows.proofs.laws.rows_are_read_back.Goals as goal

pub returns : goal.returns
returns c = rows_read
