use Rattle.std.proofs.Common.{is_some, sym, ap, ◌∙◌}
use Rattle.svn_lists.proofs.Options.{is_some-copied}
use Rattle.svn_pool.proofs.Bare.{is_some-bare}
use Rattle.svn_pool.proofs.links.is_live.Goals as goal

pub returns : goal.returns
returns g c =
    c.is_some.ensures ∙ is_some-copied c.get.result ∙ ap is_some c.get.ensures.value ∙ sym (is_some-bare c.args.pools.now c.args.serial)
