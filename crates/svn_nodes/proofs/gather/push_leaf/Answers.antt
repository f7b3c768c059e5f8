use Rattle.std.proofs.Common.{cond, Some, ap, ◌∙◌}
use Rattle.svn_types.specs.Paths.{path_eq}
use Rattle.svn_nodes.specs.Gathered.{gathered}
use Rattle.svn_nodes.proofs.Gathering.{gathered-pushed, fill_leaf}
use Rattle.svn_nodes.proofs.gather.push_leaf.Goals as goal

pub returns : goal.returns
returns c =
    let from = c.args.from.now in
    let old = gathered c.args.pairs.now.items in
    fill_leaf from.repo.now from.rev c.args.at c.args.repos_path c.args.id old (gathered c.push.new.self.items)
    (λ p. gathered-pushed c.args.pairs.now.items c.push.new.self.items c.args.at c.in_ok-node.node c.in_ok-push.ensures.items p
    ∙ ap (λ n. cond (path_eq c.args.at p) (Some n) (old p)) c.in_ok-node.ensures)
    c.requires.free c.requires.leaf
