use Rattle.std.proofs.Common.{rules}
use Rattle.svn_disk.proofs.Going.{taken, refused, took, missed}
use Rattle.svn_disk.proofs.steps.take.Goals as goal

pub returns-in_err-take-clause-does : goal.returns-in_err-take-clause-does
returns-in_err-take-clause-does g c =
    let stops = refused c.args.step (g.F.Folder.past c.args.folder.now) (g.F.Folder.past c.take.new.self) c.in_err-take.field-0.0 c.in_err-take.ensures in
    search rules

pub returns-in_err-take-clause-one : goal.returns-in_err-take-clause-one
returns-in_err-take-clause-one g c =
    let stops = missed c.args.step (g.F.Folder.past c.args.folder.now) (g.F.Folder.past c.take.new.self) c.in_err-take.field-0.0 c.in_err-take.ensures in
    search rules

pub returns-clause-does : goal.returns-clause-does
returns-clause-does g c =
    (taken c.args.step (g.F.Folder.past c.args.folder.now) (g.F.Folder.past c.take.new.self) c.in_ok-take.field-0 c.in_ok-take.ensures, tt)

pub returns-clause-one : goal.returns-clause-one
returns-clause-one g c =
    (took c.args.step (g.F.Folder.past c.args.folder.now) (g.F.Folder.past c.take.new.self) c.in_ok-take.field-0 c.in_ok-take.ensures, tt)
