use Rattle.svn_wcrows.proofs.Skels.{props_read}
use Rattle.svn_wcrows.proofs.laws.properties_are_read_back.Goals as goal

pub returns : goal.returns
returns c = props_read
