use Rattle.std.proofs.Common.{[], List, ap, ◌∙◌}
use Rattle.svn_lists.proofs.Results.{IfOk_same}
use Rattle.svn_types.specs.Names.{Path}
use Rattle.svn_model.specs.declared.base_node.BaseNode.{BaseNode}
use Rattle.svn_model.specs.Nodes.{get_in, node_path}
use Rattle.svn_wc.proofs.Ancestors.{path_is}
use Rattle.svn_wc.proofs.working_copy.WorkingCopy.root_path.Goals as goal

pub returns-in-Some-repos_path : goal.returns-in-Some-repos_path
returns-in-Some-repos_path c =
    IfOk_same c.clone.result _ _ (node_path (get_in c.args.self.now []))
    (path_is c.in-Some.node.now c.in-Some-repos_path.repos_path.now c.in-Some-repos_path.ensures ∙ ap node_path c.in-Some.ensures.value
    ∙ ap (λ (q : Path). node_path (get_in c.self.inside.nodes.entries q)) c.root-root.ensures
    ∙ ap (λ (l : List (Path × BaseNode)). node_path (get_in l [])) c.self.view_is)
    c.clone.ensures.cases
