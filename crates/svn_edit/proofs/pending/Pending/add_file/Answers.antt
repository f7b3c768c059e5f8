use Rattle.std.proofs.Common.{subst}
use Rattle.std.specs.Prelude.{OnOk}
use Rattle.md5.specs.Md5.{md5}
use Rattle.svn_types.specs.declared.kind.Kind.TheVariants.{File}
use Rattle.svn_edit.specs.Applying.{MakesBaton}
use Rattle.svn_edit.proofs.Holding.{applied_add}
use Rattle.svn_edit.proofs.LeftPools.{made_opened}
use Rattle.svn_edit.proofs.pending.Pending.add_file.Goals as goal

pub returns-clause-gives : goal.returns-clause-gives
returns-clause-gives c = λ mode.
    let old = c.args.self.now in
    record {
      opened = subst (λ n. OnOk c.add.result (MakesBaton n c.args.path.now c.args.token old c.add.new.self)) c.root-root.ensures.root
          (c.add.ensures.opened (made_opened _ _ _ _ c.new_file-new.ensures));
      keeps = c.add.ensures.keeps;
      applied = applied_add md5 mode old.target File c.args.path.now c.args.copy.now.entries _ c.add.result
          (c.add.ensures.applied _ _ c.new_file-new.ensures);
    }
