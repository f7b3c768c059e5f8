use Rattle.std.proofs.Common.{take, drop}
use Rattle.std.specs.Prelude.{⊤}
use Rattle.svn_disk.specs.Goes.{Keeps}
use Rattle.svn_disk.specs.Places.{is_temporary}
use Rattle.svn_disk.specs.Tasks.{work_nodes}
use Rattle.svn_disk.specs.Ends.{AreFiles}
use Rattle.svn_disk.proofs.EndsTexts.{AreComing}
use Rattle.svn_disk.proofs.completion.Again.prepare_files.Given as goal

abbrev pub invariant-loop-item : goal.invariant-loop-item
invariant-loop-item g l = record {
  steps : Keeps (is_temporary l.self.admin.now.name) (g.F.Folder.past l.fn.folder) (g.F.Folder.past l.folder);
  files : AreFiles l.self.existing.now.copy (take l.item-index l.work);
  ends : AreComing l.self.admin.now.name (λ name. ⊤) l.number (work_nodes l.self.existing.now.copy (drop l.item-index l.work))
      (work_nodes l.self.existing.now.copy l.work) (g.F.Folder.past l.fn.folder) (g.F.Folder.past l.folder);
}
