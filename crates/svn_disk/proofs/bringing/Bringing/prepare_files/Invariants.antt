use Rattle.std.proofs.Common.{take, drop}
use Rattle.svn_disk.specs.Crashes.{Adds}
use Rattle.svn_disk.specs.Tasks.{work_nodes}
use Rattle.svn_disk.specs.Ends.{AreFiles, AreNoted, IsHeld}
use Rattle.svn_disk.proofs.EndsTexts.{AreComing}
use Rattle.svn_disk.proofs.bringing.Bringing.prepare_files.Given as goal

abbrev pub invariant-loop-item : goal.invariant-loop-item
invariant-loop-item g l = record {
  adds : Adds l.self.admin.now.name (g.F.Folder.past l.fn.folder) (g.F.Folder.past l.folder);
  files : AreFiles l.self.wanted.now.copy (take l.item-index l.work);
  noted : AreNoted l.keeping.sizes.entries (take l.item-index l.work);
  ends : AreComing l.self.admin.now.name (IsHeld l.keeping.texts.sizes.entries) l.number (work_nodes l.self.wanted.now.copy (drop l.item-index l.work))
      (work_nodes l.self.wanted.now.copy l.work) (g.F.Folder.past l.fn.folder) (g.F.Folder.past l.folder);
}
