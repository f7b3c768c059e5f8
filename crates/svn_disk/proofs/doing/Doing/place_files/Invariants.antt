use Rattle.std.proofs.Common.{◌≡◌, Bool, true, take, drop}
use Rattle.std.specs.Prelude.{codes}
use Rattle.std.specs.List.{list_all}
use Rattle.svn_types.specs.Names.{Path}
use Rattle.svn_disk.specs.Goes.{Keeps}
use Rattle.svn_disk.specs.Places.{is_changing, is_outside}
use Rattle.svn_disk.specs.Plans.{path_of}
use Rattle.svn_disk.specs.Spared.{KeepsIn, Spares}
use Rattle.svn_disk.specs.Finding.{has_word}
use Rattle.svn_disk.specs.Ends.{Turns, AreDistinct, AreDirectories}
use Rattle.svn_disk.proofs.EndsWork.{count_files, HasPlaced}
use Rattle.svn_disk.proofs.doing.Doing.place_files.Given as goal

abbrev pub invariant-loop-item : goal.invariant-loop-item
invariant-loop-item g l = record {
  steps : (free : Path → Bool) → list_all (λ item. free (path_of item)) l.work ≡ true
      → Keeps (is_changing l.self.admin.now.name free) (g.F.Folder.past l.fn.folder) (g.F.Folder.past l.folder);
  spares : KeepsIn (Spares (has_word l.self.known.now) l.self.admin.now.name) (g.F.Folder.past l.fn.folder) (g.F.Folder.past l.folder);
  counted : l.number ≡ count_files (take l.item-index l.work);
  ends : l.self.admin.now.name ≡ codes ".svn" → list_all (λ item. is_outside (path_of item)) l.work ≡ true → AreDistinct l.work
      → Turns (λ a b. AreDirectories l.work a → HasPlaced (take l.item-index l.work) (drop l.item-index l.work) a b) (g.F.Folder.past l.fn.folder) (g.F.Folder.past l.folder);
}
