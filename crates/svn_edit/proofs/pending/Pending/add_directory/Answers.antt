use Rattle.std.proofs.Common.{◌≡◌, subst, rules}
use Rattle.std.specs.Prelude.{OnOk}
use Rattle.md5.specs.Md5.{md5}
use Rattle.svn_types.specs.declared.kind.Kind.TheVariants.{Directory}
use Rattle.svn_edit.specs.Applying.{batons_of, pool_or, MakesBaton}
use Rattle.svn_edit.proofs.Holding.{applied_add}
use Rattle.svn_edit.proofs.LeftPools.{made_opened}
use Rattle.svn_edit.proofs.pending.Pending.add_directory.Goals as goal

pub returns-clause-gives : goal.returns-clause-gives
returns-clause-gives c = λ mode.
    let old = c.args.self.now in
    let above : c.pool_of-beneath.result.0 ≡ pool_or old.pools.root (batons_of old c.args.parent) = search rules in
    record {
      opened = subst (λ n. OnOk c.add.result (MakesBaton n c.args.path.now c.args.token old c.add.new.self)) above
          (c.add.ensures.opened (made_opened _ _ _ _ c.new_directory-new.ensures));
      keeps = c.add.ensures.keeps;
      applied = applied_add md5 mode old.target Directory c.args.path.now c.args.copy.now.entries _ c.add.result
          (c.add.ensures.applied _ _ c.new_directory-new.ensures);
    }
