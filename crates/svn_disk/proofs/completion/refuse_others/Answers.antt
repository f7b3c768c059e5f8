use Rattle.std.proofs.Common.{List, subst}
use Rattle.std.specs.Prelude.{OnOk}
use Rattle.svn_wcrows.specs.declared.work.Work.{Work}
use Rattle.svn_folder.specs.States.{seen}
use Rattle.svn_disk.specs.Goes.{IsAlways}
use Rattle.svn_disk.specs.Crashes.{EachText, IsTextIn}
use Rattle.svn_disk.specs.Tasks.{work_nodes}
use Rattle.svn_disk.proofs.completion.refuse_others.Goals as goal

pub returns : goal.returns
returns g c =
    subst (λ (xs : List Work). OnOk c.refuse_all.result (IsAlways (λ s. EachText (IsTextIn c.args.again.now.admin.now.name (seen s))
    (work_nodes c.args.again.now.existing.now.copy xs)) (g.F.Folder.past c.args.folder.now)))
    c.deref.ensures.value c.refuse_all.ensures
