use Rattle.std.proofs.Common.{subst, sym}
use Rattle.std.specs.Prelude.{OnOk}
use Rattle.svn_wcrows.specs.declared.work.Work.{Work}
use Rattle.svn_folder.specs.States.{seen}
use Rattle.svn_disk.specs.Goes.{IsAlways}
use Rattle.svn_disk.specs.Crashes.{OfText, IsTextIn}
use Rattle.svn_disk.specs.Tasks.{work_node}
use Rattle.svn_disk.proofs.completion.Looking.refuse_untold.Goals as goal

pub returns-in-InstallFile : goal.returns-in-InstallFile
returns-in-InstallFile g c =
    subst (λ (x : Work). OnOk c.refuse_no_text.result (IsAlways (λ s. OfText (IsTextIn c.args.admin.now.name (seen s)) (work_node c.args.self.now.existing.now.copy x))
    (g.F.Folder.past c.args.folder.now)))
    (sym c.in-InstallFile.is) c.refuse_no_text.ensures
