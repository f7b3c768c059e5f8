use Rattle.std.proofs.Common.{sym, ap, ◌∙◌}
use Rattle.svn_pool.proofs.Bare.{live-bare, pool_in}
use Rattle.svn_pool.proofs.links.live_pool.Goals as goal

pub returns-in_default : goal.returns-in_default
returns-in_default g c = ap pool_in c.in_default.ensures.value ∙ sym (live-bare c.args.pools.now c.args.serial)

pub returns : goal.returns
returns g c = ap pool_in c.in-Some.ensures.value ∙ sym (live-bare c.args.pools.now c.args.serial)
