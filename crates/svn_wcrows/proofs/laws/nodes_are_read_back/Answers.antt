use Rattle.svn_wcrows.proofs.NodeRows.{node_read}
use Rattle.svn_wcrows.proofs.laws.nodes_are_read_back.Goals as goal

pub returns : goal.returns
returns c = node_read
