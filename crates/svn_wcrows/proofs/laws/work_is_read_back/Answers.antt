use Rattle.svn_wcrows.proofs.WorkRows.{work_read}
use Rattle.svn_wcrows.proofs.laws.work_is_read_back.Goals as goal

pub returns : goal.returns
returns c = work_read
