use Rattle.std.proofs.Common.{List, subst}
use Rattle.svn_types.specs.Names.{Path}
use Rattle.svn_model.specs.declared.base_node.BaseNode.{BaseNode}
use Rattle.svn_model.specs.Nodes.{get_in}
use Rattle.svn_wc.specs.Unswitched.{IsLevel}
use Rattle.svn_wc.proofs.LevelCrawl.{all_level}
use Rattle.svn_wc.proofs.working_copy.WorkingCopy.is_all_level.Goals as goal

pub returns-then-self : goal.returns-then-self
returns-then-self c = record {
  level = λ yes.
      all_level c.args.self.now c.law.ensures.order c.law.ensures.shape
      (subst (λ (l : List (Path × BaseNode)). IsLevel (get_in l)) c.self.view_is (c.self.invariant.2 c.if-self.true)) c.args.rev
      c.requires.root;
}
