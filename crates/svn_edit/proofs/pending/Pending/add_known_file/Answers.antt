use Rattle.std.proofs.Common.{None, subst}
use Rattle.std.specs.Prelude.{OnOk}
use Rattle.svn_model.specs.declared.base_node.BaseNode.TheVariants.{NotPresent}
use Rattle.svn_edit.specs.Applying.{MakesBaton}
use Rattle.svn_edit.proofs.LeftPools.{made_opened}
use Rattle.svn_edit.proofs.pending.Pending.add_known_file.Goals as goal

pub returns-clause-opened : goal.returns-clause-opened
returns-clause-opened c =
    subst (λ n. OnOk c.add.result (MakesBaton n c.args.path.now c.args.token c.args.self.now c.add.new.self)) c.root-root.ensures.root
    (c.add.ensures.opened (made_opened _ _ _ _ c.known_file-new.ensures))

pub returns-clause-applied : goal.returns-clause-applied
returns-clause-applied c = c.add.ensures.applied None NotPresent c.known_file-new.ensures
