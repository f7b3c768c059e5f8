use Rattle.std.proofs.Common.{◌≡◌, true, ap, subst, sym, ◌∙◌}
use Rattle.std.specs.Prelude.{OnOk}
use Rattle.svn_wcrows.specs.declared.work.Work.{Work}
use Rattle.svn_disk.specs.Plans.{path_of}
use Rattle.svn_disk.specs.Ends.{Turns, IsOnePlaced}
use Rattle.svn_disk.proofs.doing.Doing.place_one.Goals as goal

pub returns-in-InstallFile-clause-steps : goal.returns-in-InstallFile-clause-steps
returns-in-InstallFile-clause-steps g c = λ free h.
    let here : free c.in-InstallFile.path ≡ true = sym (ap (λ (w : Work). free (path_of w)) c.in-InstallFile.is) ∙ h in
    c.place.ensures.steps free here

pub returns-in-InstallFile-clause-ends : goal.returns-in-InstallFile-clause-ends
returns-in-InstallFile-clause-ends g c =
    subst (λ (x : Work). OnOk c.place.result (Turns (IsOnePlaced c.args.self.now.admin.now.name c.args.number x) (g.F.Folder.past c.args.folder.now)
    (g.F.Folder.past c.place.new.folder)))
    (sym c.in-InstallFile.is) c.place.ensures.ends
