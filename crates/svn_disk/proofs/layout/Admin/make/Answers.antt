use Rattle.std.specs.Prelude.{Some, None}
use Rattle.svn_folder.specs.declared.step.Step.TheVariants.{Make}
use Rattle.svn_disk.specs.Ends.{IsPut}
use Rattle.svn_disk.proofs.Ends.{one_turns, makes_put}
use Rattle.svn_disk.proofs.layout.Admin.make.Goals as goal

pub returns-clause-ends : goal.returns-clause-ends
returns-clause-ends g c =
    one_turns (IsPut c.args.path (Some c.args.entry)) (Make c.args.path c.args.entry None) (g.F.Folder.past c.args.folder.now) (g.F.Folder.past c.make.new.folder)
    c.make.result (makes_put c.args.path c.args.entry None) c.make.ensures.one
