use Rattle.std.proofs.Common.{sym, ◌∙◌}
use Rattle.svn_pool.proofs.Bare.{length-bare}
use Rattle.svn_pool.proofs.Views.{live_is}
use Rattle.svn_pool.proofs.tree.PoolTree.live.Goals as goal

pub returns : goal.returns
returns g c = c.len.ensures.len ∙ sym (length-bare c.self.inside.pools) ∙ sym (live_is c.self.invariant c.self.view_is)
