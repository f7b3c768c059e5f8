use Rattle.std.proofs.Common.{subst, sym}
use Rattle.std.specs.Prelude.{OnOk}
use Rattle.svn_wcrows.specs.declared.work.Work.{Work}
use Rattle.svn_disk.specs.Ends.{Turns, IsOnePlaced}
use Rattle.svn_disk.proofs.Ends.{placed_turns}
use Rattle.svn_disk.proofs.carry.place_one.Goals as goal

pub returns-in_ok-new_file-in-InstallFile-clause-ends : goal.returns-in_ok-new_file-in-InstallFile-clause-ends
returns-in_ok-new_file-in-InstallFile-clause-ends g c =
    let old = g.F.Folder.past c.args.folder.now in
    let new = g.F.Folder.past c.rename.new.folder in
    subst (λ (x : Work). OnOk c.rename.result (Turns (IsOnePlaced c.args.admin.now.name c.args.number x) old new)) (sym c.in-InstallFile.is)
    (placed_turns c.args.admin.now.name c.args.number _ _ old new c.rename.result c.in_ok-new_file-in-InstallFile.ensures.place c.rename.ensures.one)
