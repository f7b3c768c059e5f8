use Rattle.std.proofs.Common.{◌≡◌, subst, sym}
use Rattle.std.specs.Prelude.{OnOk, ⊤}
use Rattle.svn_wcrows.specs.declared.work.Work.{Work}
use Rattle.svn_disk.specs.Tasks.{work_node}
use Rattle.svn_disk.specs.Ends.{Turns, CopiesNode, files_at, files_of}
use Rattle.svn_disk.proofs.completion.Again.prepare_one.Goals as goal

pub returns-in-InstallFile-clause-file : goal.returns-in-InstallFile-clause-file
returns-in-InstallFile-clause-file g c =
    subst (λ (x : Work). OnOk c.prepare_file.result (files_at (work_node c.args.self.now.existing.now.copy x) ≡ files_of x)) (sym c.in-InstallFile.is)
    c.prepare_file.ensures.file

pub returns-in-InstallFile-clause-ends : goal.returns-in-InstallFile-clause-ends
returns-in-InstallFile-clause-ends g c =
    subst (λ (x : Work). OnOk c.prepare_file.result (Turns (CopiesNode c.args.self.now.admin.now.name c.args.number (λ name. ⊤)
    (work_node c.args.self.now.existing.now.copy x)) (g.F.Folder.past c.args.folder.now) (g.F.Folder.past c.prepare_file.new.folder)))
    (sym c.in-InstallFile.is) c.prepare_file.ensures.ends
