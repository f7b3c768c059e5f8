use Rattle.svn_disk.specs.Goes.{Keeps}
use Rattle.svn_disk.specs.Places.{is_inside}
use Rattle.svn_disk.specs.Ends.{IsHeld}
use Rattle.svn_disk.proofs.EndsTexts.{AreComing}
use Rattle.svn_disk.proofs.checkout.prepare_all.Given as goal

abbrev pub invariant-loop-path : goal.invariant-loop-path
invariant-loop-path g l = record {
  steps : Keeps (is_inside l.fn.making.admin.now.name) (g.F.Folder.past l.fn.folder) (g.F.Folder.past l.folder);
  ends : AreComing l.fn.making.admin.now.name (IsHeld l.progress.texts.sizes.entries) l.progress.files l.path-iterator l.what.copy.now (g.F.Folder.past l.fn.folder)
      (g.F.Folder.past l.folder);
}
