use Rattle.svn_history.proofs.WrittenDumps.{written_dumps_load}
use Rattle.svn_history.proofs.laws.written_dumps_load.Goals as goal

pub returns : goal.returns
returns c = written_dumps_load c.dumps_are_read_back.ensures
