use Rattle.std.proofs.Common.{◌≡◌, IsSome, sym, ap, subst, ◌∙◌}
use Rattle.svn_pool.specs.Pools.{Pools, pool_at}
use Rattle.svn_pool.proofs.Outcomes.{live_root}
use Rattle.svn_pool.proofs.Views.{pool_is}
use Rattle.svn_pool.proofs.tree.PoolTree.root.Goals as goal

pub returns-clause-live : goal.returns-clause-live
returns-clause-live g c =
    let s = c.self.inside in
    let root : c.args.self.now.root ≡ s.root = sym (ap (λ (t : Pools). t.root) c.self.view_is) in
    let at = ap (pool_at c.args.self.now) root ∙ pool_is c.self.invariant c.self.view_is s.root in
    subst IsSome (sym at) (live_root _ c.self.invariant.rooted)
