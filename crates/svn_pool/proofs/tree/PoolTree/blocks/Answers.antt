use Rattle.std.proofs.Common.{sym, ◌∙◌}
use Rattle.svn_pool.proofs.Views.{blocks_are}
use Rattle.svn_pool.proofs.tree.PoolTree.blocks.Goals as goal

pub returns : goal.returns
returns g c = c.used.ensures ∙ c.self.invariant.counted ∙ sym (blocks_are c.self.invariant c.self.view_is)
