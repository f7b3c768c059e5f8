use Rattle.std.proofs.Common.{◌≡◌, List, None, subst, ◌∙◌}
use Rattle.svn_lists.proofs.Results.{IfOk_then}
use Rattle.svn_types.specs.Names.{Path}
use Rattle.svn_model.specs.declared.base_node.BaseNode.{BaseNode}
use Rattle.svn_model.specs.Nodes.{get_in}
use Rattle.svn_wc.specs.Building.{tree_at}
use Rattle.svn_nodes.specs.Gathered.{gathered}
use Rattle.svn_nodes.specs.Standing.{Puts, standing}
use Rattle.svn_wc.proofs.Placing.{tree_gathered}
use Rattle.svn_wc.proofs.building.tree_nodes.Goals as goal

pub returns : goal.returns
returns c =
    let h = c.args.from.now.repo.now in
    let rev = c.args.from.now.rev in
    let puts : Puts (standing h rev c.args.repos_path.now c.args.id) c.args.at.now (λ p. None) (gathered c.gather.new.pairs.items) =
    subst
    (λ (l : List (Path × BaseNode)). Puts (standing h rev c.args.repos_path.now c.args.id) c.args.at.now (gathered l)
    (gathered c.gather.new.pairs.items))
    c.new-pairs.ensures.items c.in_ok-gather.ensures in
    IfOk_then _ (λ m. (p : Path) → get_in m.entries p ≡ tree_at h c.args.at.now c.args.repos_path.now rev p) c.map_of.result
    c.map_of.ensures
    (λ m gives p. gives.0 p
    ∙ tree_gathered h c.args.at.now c.args.repos_path.now rev c.args.id (gathered c.gather.new.pairs.items) puts c.requires p)
