use Rattle.svn_lists.proofs.Results.{OnOk_then}
use Rattle.svn_model.specs.Nodes.{get_in}
use Rattle.svn_wc.proofs.Placing.{tree_placed}
use Rattle.svn_wc.proofs.building.put_tree.Goals as goal

pub returns-clause-nodes : goal.returns-clause-nodes
returns-clause-nodes c = OnOk_then c.replace_within.result c.replace_within.ensures.replaced (λ put p.
    tree_placed c.args.from.now.repo.now (get_in c.args.nodes.now.entries) _ (get_in c.in_ok-part.part.entries) c.args.path.now
    c.args.repos_path.now c.args.from.now.rev c.in_ok-part.ensures put p)
