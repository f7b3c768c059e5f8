use Rattle.std.proofs.Common.{◌≡◌, cond, Some, ap, ◌∙◌}
use Rattle.svn_types.specs.Names.{Path}
use Rattle.svn_types.specs.Paths.{path_eq}
use Rattle.svn_model.specs.Nodes.{base_node}
use Rattle.svn_nodes.specs.Gathered.{gathered}
use Rattle.svn_nodes.proofs.Gathering.{gathered-pushed}
use Rattle.svn_nodes.proofs.gather.push_node.Goals as goal

pub returns : goal.returns
returns c =
    let key : c.in_ok-clone.field-0 ≡ c.args.at.now = c.in_ok-clone.ensures.cases in
    let value : c.in_ok-node.node ≡ base_node c.args.from.now.repo.now c.args.from.now.rev c.args.repos_path.now c.args.id =
    c.in_ok-node.ensures
    ∙ ap (λ (q : Path). base_node c.args.from.now.repo.now c.args.from.now.rev q c.args.id) c.in_ok-own.ensures.cases in
    λ p. gathered-pushed c.args.pairs.now.items c.push.new.self.items c.in_ok-clone.field-0 c.in_ok-node.node c.in_ok-push.ensures.items p
    ∙ (λ i. cond (path_eq (key i) p) (Some (value i)) (gathered c.args.pairs.now.items p))
