use Rattle.std.proofs.Common.{arith}
use Rattle.svn_dump.specs.declared.sections.Texts.TheVariants.{Whole}
use Rattle.law_dump.proofs.NodeReads.{node_read}
use Rattle.law_dump.proofs.whole_nodes_are_read_back.Goals as goal

pub returns : goal.returns
returns c = λ limits node rest h. node_read limits Whole node 0 rest h (omega arith)
