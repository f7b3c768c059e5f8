use Rattle.std.proofs.Common.{◌≡◌, List, ap, subst, sym, ◌∙◌}
use Rattle.std.specs.Prelude.{None}
use Rattle.svn_types.specs.Names.{Path}
use Rattle.svn_model.specs.declared.base_node.BaseNode.{BaseNode}
use Rattle.svn_model.specs.Nodes.{get_in}
use Rattle.svn_model.specs.Refusals.{nodes_fault}
use Rattle.svn_disk.proofs.contents.copy_of.Goals as goal

pub returns : goal.returns
returns c = record {
  once = subst (λ (xs : List (Path × BaseNode)). nodes_fault xs ≡ None) c.in_ok-list.ensures c.in_ok-copy.ensures.made;
  same = λ p. ap (λ (xs : List (Path × BaseNode)). get_in xs p) (sym c.in_ok-list.ensures) ∙ sym (c.in_ok-copy.ensures.nodes p);
}
