use Rattle.svn_wire.proofs.UrlReads.{paths_read}
use Rattle.svn_wire.proofs.laws.paths_are_read_back.Goals as goal

pub returns : goal.returns
returns c = paths_read
