use Rattle.std.proofs.Common.{List, subst, sym, ◌∙◌}
use Rattle.svn_types.specs.Names.{Path}
use Rattle.svn_model.specs.declared.base_node.BaseNode.{BaseNode}
use Rattle.svn_disk.specs.Crashes.{AreNodesOf}
use Rattle.svn_disk.proofs.NodeEquality.{same_nodes}
use Rattle.svn_disk.proofs.bringing.Bringing.refuse_others.Goals as goal

pub returns-then-eq : goal.returns-then-eq
returns-then-eq c =
    subst (λ (xs : List (Path × BaseNode)). AreNodesOf xs c.args.nodes.now)
    (sym c.nodes.ensures ∙ same_nodes c.nodes.result.now.entries c.nodes-2.result.now.entries (sym c.if-eq.ensures) ∙ c.nodes-2.ensures) c.in_ok-copy.ensures
