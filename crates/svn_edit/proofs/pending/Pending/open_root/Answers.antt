use Rattle.std.proofs.Common.{subst}
use Rattle.svn_types.specs.Names.{Path}
use Rattle.svn_types.specs.declared.kind.Kind.TheVariants.{Directory}
use Rattle.svn_editor.specs.Steps.{Open}
use Rattle.svn_edit.specs.Opening.{GivesToken}
use Rattle.svn_edit.proofs.pending.Pending.open_root.Goals as goal

pub returns-clause-gives : goal.returns-clause-gives
returns-clause-gives c =
    subst (λ (p : Path). GivesToken c.args.mode.now c.args.self.now.pools.root p c.args.token (Open Directory c.args.base) c.args.self.now
    c.args.copy.now.entries c.open_directory.result c.open_directory.new.self c.open_directory.new.copy.entries) c.root-root.ensures
    c.open_directory.ensures.gives
