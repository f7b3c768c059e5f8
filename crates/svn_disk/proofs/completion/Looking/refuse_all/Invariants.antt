use Rattle.std.proofs.Common.{take}
use Rattle.svn_folder.specs.States.{seen}
use Rattle.svn_disk.specs.Goes.{IsAlways}
use Rattle.svn_disk.specs.Crashes.{EachText, IsTextIn}
use Rattle.svn_disk.specs.Tasks.{work_nodes}
use Rattle.svn_disk.proofs.completion.Looking.refuse_all.Given as goal

abbrev pub invariant-loop-item : goal.invariant-loop-item
invariant-loop-item g l =
    IsAlways (λ s. EachText (IsTextIn l.admin.name (seen s)) (work_nodes l.self.existing.now.copy (take l.item-index l.work))) (g.F.Folder.past l.folder)
