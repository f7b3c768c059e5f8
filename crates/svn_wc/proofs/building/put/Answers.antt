use Rattle.std.proofs.Common.{◌≡◌, rules, List, subst}
use Rattle.std.specs.Prelude.{OnOk, IsFalse}
use Rattle.svn_types.specs.Names.{Path}
use Rattle.svn_model.specs.declared.base_node.BaseNode.{BaseNode}
use Rattle.svn_model.specs.Nodes.{get_in}
use Rattle.svn_model.specs.Builders.{placed}
use Rattle.svn_wc.proofs.building.put.Goals as goal

-- a file that could not be put alone left the nodes as they were
pub returns-clause-nodes : goal.returns-clause-nodes
returns-clause-nodes c =
    let not_done : IsFalse c.in_ok-put_file.field-0 = search rules in
    subst
    (λ (l : List (Path × BaseNode)). OnOk c.put_tree-2.result ((p : Path) → get_in c.put_tree-2.new.nodes.entries p
    ≡ placed c.args.from.now.repo.now (get_in l) c.args.path.now c.args.repos_path.now c.args.from.now.rev p))
    (c.in_ok-put_file.ensures.left not_done) c.put_tree-2.ensures.nodes
