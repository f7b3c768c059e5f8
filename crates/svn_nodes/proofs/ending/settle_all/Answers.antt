use Rattle.std.proofs.Common.{rules}
use Rattle.svn_nodes.proofs.Settling.{settled_there}
use Rattle.svn_nodes.proofs.ending.settle_all.Goals as goal

pub returns : goal.returns
returns c = settled_there _ c.args.target _ (λ k v b w f' t. search rules) c.args.nodes.now.entries c.retain.new.self.entries
    c.retain.ensures.was_ordered c.retain.ensures.filtered
