use Rattle.law_dump.proofs.NodeReads.{node_read}
use Rattle.law_dump.proofs.nodes_are_read_back.Goals as goal

pub returns : goal.returns
returns c = node_read
