use Rattle.std.proofs.Common.{ℕ, List, Some, refl, sym, ap, subst, ◌∙◌}
use Rattle.std.proofs.lemmas.Option.{same_Some}
use Rattle.svn_serials.proofs.Pairs.{Updates, updates_put}
use Rattle.svn_serials.specs.Serials.{get}
use Rattle.svn_edit.specs.declared.baton.Baton.{Baton}
use Rattle.svn_edit.proofs.LeftPools.{taken_back}
use Rattle.svn_edit.proofs.pending.Pending.open_baton.Goals as goal

pub returns-clause-opened : goal.returns-clause-opened
returns-clause-opened c =
    let baton = record c.in-Ok.baton { base = c.args.base } in
    let updates = subst (λ k. Updates c.args.self.now.batons c.insert.new.self k (Some baton)) c.token.view_is
    (updates_put c.args.self.now.batons c.insert.new.self c.token.inside.0 baton c.in-Ok-insert.ensures.put) in
    let b = c.in-Ok.ensures.begun in
    record {
      baton = baton;
      begun = record {
        path = b.path;
        notes = b.notes;
        text = b.text;
        fresh = b.fresh;
        made = b.made;
        others = b.others;
        root = b.root;
        count = b.count;
        apart = b.apart;
        leaf = b.leaf;
      };
      token = updates.here;
      tokens = updates.away;
    }

pub returns-clause-base : goal.returns-clause-base
returns-clause-base c = λ b there.
    let baton = record c.in-Ok.baton { base = c.args.base } in
    let updates = subst (λ k. Updates c.args.self.now.batons c.insert.new.self k (Some baton)) c.token.view_is
    (updates_put c.args.self.now.batons c.insert.new.self c.token.inside.0 baton c.in-Ok-insert.ensures.put) in
    sym (ap (λ (x : Baton). x.base) (same_Some baton b (sym updates.here ∙ there)))

pub returns-in_default-clause-unchanged : goal.returns-in_default-clause-unchanged
returns-in_default-clause-unchanged c = record { pools = c.in_default.ensures.kept; batons = λ t. refl }

-- the baton was refused, and its pool goes
pub returns-in_default-insert-clause-unchanged : goal.returns-in_default-insert-clause-unchanged
returns-in_default-insert-clause-unchanged c =
    let begun = c.in-Ok.ensures.begun in
    record {
      pools = taken_back c.args.self.now.pools c.open.new.pools c.drop_pool.new.pools c.in-Ok.baton.pool.0 begun.fresh begun.others
          begun.root begun.count (c.drop_pool.ensures _ begun.made begun.leaf (λ e. begun.apart (e ∙ begun.root)));
      batons = λ t. ap (λ (l : List (ℕ × Baton)). get l t) c.in_default-insert.ensures.refused;
    }
