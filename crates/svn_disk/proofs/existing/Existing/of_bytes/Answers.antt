use Rattle.std.proofs.Common.{List, ap, subst, sym, ◌∙◌}
use Rattle.svn_types.specs.Names.{Path}
use Rattle.svn_model.specs.declared.base_node.BaseNode.{BaseNode}
use Rattle.svn_wcdb.specs.Bases.{seen_base, base_tree_of}
use Rattle.svn_disk.specs.Crashes.{AreNodesOf}
use Rattle.svn_disk.proofs.existing.Existing.of_bytes.Goals as goal

pub returns-clause-nodes : goal.returns-clause-nodes
returns-clause-nodes c =
    subst (λ (xs : List (Path × BaseNode)). AreNodesOf c.in_ok-existing.existing.copy xs) (c.deref.ensures.value ∙ sym c.in_ok-existing.ensures.nodes)
    (subst (λ (copy : List (Path × BaseNode)). AreNodesOf copy c.deref.result.now) (sym c.in_ok-existing.ensures.copy) c.in_ok-copy.ensures)

pub returns-clause-stands : goal.returns-clause-stands
returns-clause-stands c = record {
  base = seen_base c.in_ok-tree.tree;
  read = ap base_tree_of (sym c.as_slice.ensures) ∙ c.in_ok-tree.ensures;
  nodes_are = sym c.in_ok-existing.ensures.nodes;
}
