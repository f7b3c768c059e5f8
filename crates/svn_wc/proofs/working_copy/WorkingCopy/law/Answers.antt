use Rattle.std.proofs.Common.{List, subst}
use Rattle.svn_types.specs.Names.{Path}
use Rattle.svn_model.specs.declared.base_node.BaseNode.{BaseNode}
use Rattle.svn_model.specs.Nodes.{InPathOrder, IsWorkingCopy, get_in}
use Rattle.svn_wc.proofs.working_copy.WorkingCopy.law.Goals as goal

pub returns : goal.returns
returns c = record {
  order = subst InPathOrder c.self.view_is c.iter-nodes.ensures.ordered;
  shape = subst (λ (nodes : List (Path × BaseNode)). IsWorkingCopy (get_in nodes)) c.self.view_is c.self.invariant.0;
}
