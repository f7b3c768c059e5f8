use Rattle.std.proofs.Common.{◌≡◌, refl, sym, ap, ◌∙◌, Some}
use Rattle.svn_pool.specs.Pools.{Pools, pool_at, parent_of, pushed}
use Rattle.svn_types.specs.PathKeys.{path_key}
use Rattle.svn_edit.proofs.PoolStrings.{begun}
use Rattle.svn_edit.proofs.LeftPools.{undone}
use Rattle.svn_edit.proofs.baton.Baton.open.Goals as goal

pub returns-clause-begun : goal.returns-clause-begun
returns-clause-begun c =
    let bytes : c.as_bytes.result.now ≡ path_key c.args.path =
    c.as_bytes.ensures.value ∙ c.key.ensures.key ∙ ap path_key c.as_rel_path.ensures in
    begun _ c.args.pools.now c.push.new.self c.args.beneath.0 c.args.path (path_key c.args.path) refl
    c.new.ensures.items refl c.in-Ok.ensures.serial c.in-Ok.ensures.fresh c.in-Ok.ensures.apart
    (λ q e. c.in-Ok.ensures.childless q (ap (λ (v : Pools). parent_of (pool_at v q)) c.in-Ok.ensures.made ∙ e))
    (c.in_default.ensures.pushed ∙ (λ i. pushed (c.in-Ok.ensures.made i) (c.in-Ok.ensures.serial i) (bytes i)))
    refl

-- the string was refused, and the new pool goes
pub returns-in-Err-push-clause-kept : goal.returns-in-Err-push-clause-kept
returns-in-Err-push-clause-kept c =
    let same = c.in-Err-push.ensures.refused in
    let serial = c.in-Ok.ensures.serial in
    undone c.args.pools.now c.push.new.self c.drop_pool.new.pools c.in-Ok.pool.0 c.args.beneath.0 (same ∙ c.in-Ok.ensures.made) serial
    c.in-Ok.ensures.fresh c.drop_pool.ensures
    (λ q e. c.in-Ok.ensures.childless q (ap (λ (v : Pools). parent_of (pool_at v q)) (sym same) ∙ e ∙ ap Some serial))
    c.in-Ok.ensures.apart
