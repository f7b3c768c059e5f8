use Rattle.svn_expand.specs.Records.{revision, node}
use Rattle.svn_expand.proofs.expander.Expander.expand.Goals as goal

pub returns-in_ok-expand_revision-in-Revision-clause-bytes : goal.returns-in_ok-expand_revision-in-Revision-clause-bytes
returns-in_ok-expand_revision-in-Revision-clause-bytes g c =
    revision c.in-Revision.rev c.in-Revision.is c.in_ok-expand_revision-in-Revision.ensures.bytes

pub returns-in_ok-expand_node-in-Node-clause-bytes : goal.returns-in_ok-expand_node-in-Node-clause-bytes
returns-in_ok-expand_node-in-Node-clause-bytes g c = node c.in-Node.node c.in-Node.is c.in_ok-expand_node-in-Node.ensures.bytes
