use Rattle.std.proofs.Common.{◌≡◌, None, sym, ap, ◌∙◌, subst}
use Rattle.std.proofs.lemmas.Option.{same_Some}
use Rattle.svn_serials.specs.Serials.{get}
use Rattle.svn_serials.proofs.Pairs.{Updates, updates_removed}
use Rattle.svn_pool.specs.Pools.{pool_at}
use Rattle.svn_edit.specs.declared.baton.Baton.{Baton}
use Rattle.svn_edit.specs.Applying.{IsLeaf, PoolGone}
use Rattle.svn_edit.proofs.Bases.{removed_others}
use Rattle.svn_edit.proofs.pending.Pending.close_baton.Goals as goal

pub returns-in-Some-clause-gone : goal.returns-in-Some-clause-gone
returns-in-Some-clause-gone c = λ b e there live leaf apart.
    let key : c.token.inside.0 ≡ c.args.token = c.token.view_is in
    let updates = subst (λ k. Updates c.args.self.now.batons c.remove.new.self k None) key
    (updates_removed c.args.self.now.batons c.remove.new.self c.token.inside.0 c.remove.ensures.was_rising c.remove.ensures.removed) in
    let same : c.in-Some.baton ≡ b = same_Some c.in-Some.baton b (c.in-Some.ensures.value ∙ ap (get c.args.self.now.batons) key
    ∙ there) in
    let pools = c.args.self.now.pools in
    record {
      pool = subst (λ (x : Baton). PoolGone x.pool.0 pools c.drop_pool.new.pools) same
          (c.drop_pool.ensures e (ap (λ (x : Baton). pool_at pools x.pool.0) same ∙ live)
          (subst (λ (x : Baton). IsLeaf pools x.pool.0) (sym same) leaf) (λ z. apart (ap (λ (x : Baton). x.pool.0) (sym same) ∙ z)));
      token = updates.here;
      tokens = updates.away;
    }

pub returns-in-Some-clause-others : goal.returns-in-Some-clause-others
returns-in-Some-clause-others c =
    removed_others c.args.self.now.batons c.remove.new.self c.token.inside.0 c.remove.ensures.was_rising c.remove.ensures.removed

pub returns-in_default-clause-others : goal.returns-in_default-clause-others
returns-in_default-clause-others c =
    removed_others c.args.self.now.batons c.remove.new.self c.token.inside.0 c.remove.ensures.was_rising c.remove.ensures.removed
