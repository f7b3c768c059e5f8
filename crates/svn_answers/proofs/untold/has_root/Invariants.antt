use Rattle.std.proofs.Common.{◌≡◌, ℕ, List}
use Rattle.std.specs.List.{list_any}
use Rattle.svn_types.specs.Names.{Path}
use Rattle.svn_model.specs.declared.base_node.BaseNode.{BaseNode}
use Rattle.svn_model.specs.Nodes.{present_path}
use Rattle.svn_answers.specs.Untold.{is_root_path}
use Rattle.svn_answers.proofs.untold.has_root.Given as goal

-- the nodes that are left decide it
abbrev pub invariant-loop-node : goal.invariant-loop-node
invariant-loop-node l =
    list_any (λ (e : Path × BaseNode). is_root_path (present_path e.1)) l.node-iterator
    ≡ list_any (λ (e : Path × BaseNode). is_root_path (present_path e.1)) l.copy
