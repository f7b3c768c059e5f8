use Rattle.std.proofs.Common.{◌≡◌, true, ap, subst, sym, ◌∙◌}
use Rattle.std.specs.Prelude.{OnOk}
use Rattle.svn_wcrows.specs.declared.work.Work.{Work}
use Rattle.svn_disk.specs.Plans.{path_of}
use Rattle.svn_disk.specs.Ends.{Turns, IsOneGone}
use Rattle.svn_disk.proofs.Ends.{turns_none}
use Rattle.svn_disk.proofs.doing.Doing.remove_one.Goals as goal

pub returns-in-RemoveFile-clause-steps : goal.returns-in-RemoveFile-clause-steps
returns-in-RemoveFile-clause-steps g c = λ free h.
    let here : free c.in-RemoveFile.path ≡ true = sym (ap (λ (w : Work). free (path_of w)) c.in-RemoveFile.is) ∙ h in
    c.remove_file.ensures.steps free here

pub returns-in-RemoveDirectory-clause-steps : goal.returns-in-RemoveDirectory-clause-steps
returns-in-RemoveDirectory-clause-steps g c = λ free h.
    let here : free c.in-RemoveDirectory.path ≡ true = sym (ap (λ (w : Work). free (path_of w)) c.in-RemoveDirectory.is) ∙ h in
    c.remove_directory.ensures.steps free here

pub returns-in-RemoveFile-clause-ends : goal.returns-in-RemoveFile-clause-ends
returns-in-RemoveFile-clause-ends g c =
    subst (λ (x : Work). OnOk c.remove_file.result (Turns (IsOneGone x) (g.F.Folder.past c.args.folder.now) (g.F.Folder.past c.remove_file.new.folder)))
    (sym c.in-RemoveFile.is) c.remove_file.ensures.ends

pub returns-in-RemoveDirectory-clause-ends : goal.returns-in-RemoveDirectory-clause-ends
returns-in-RemoveDirectory-clause-ends g c =
    subst (λ (x : Work). OnOk c.remove_directory.result (Turns (IsOneGone x) (g.F.Folder.past c.args.folder.now) (g.F.Folder.past c.remove_directory.new.folder)))
    (sym c.in-RemoveDirectory.is) c.remove_directory.ensures.ends
