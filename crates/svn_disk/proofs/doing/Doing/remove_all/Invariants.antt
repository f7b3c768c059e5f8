use Rattle.std.proofs.Common.{◌≡◌, Bool, true, take}
use Rattle.std.specs.List.{list_all}
use Rattle.svn_types.specs.Names.{Path}
use Rattle.svn_disk.specs.Goes.{Keeps}
use Rattle.svn_disk.specs.Places.{is_changing}
use Rattle.svn_disk.specs.Plans.{path_of}
use Rattle.svn_disk.specs.Spared.{KeepsIn, Spares}
use Rattle.svn_disk.specs.Finding.{has_word}
use Rattle.svn_disk.specs.Ends.{Turns, AreRemoved}
use Rattle.svn_disk.proofs.doing.Doing.remove_all.Given as goal

abbrev pub invariant-loop-item : goal.invariant-loop-item
invariant-loop-item g l = record {
  steps : (free : Path → Bool) → list_all (λ item. free (path_of item)) l.self.task.now.work.items ≡ true
      → Keeps (is_changing l.self.admin.now.name free) (g.F.Folder.past l.fn.folder) (g.F.Folder.past l.folder);
  spares : KeepsIn (Spares (has_word l.self.known.now) l.self.admin.now.name) (g.F.Folder.past l.fn.folder) (g.F.Folder.past l.folder);
  ends : Turns (AreRemoved (take l.item-index l.removals)) (g.F.Folder.past l.fn.folder) (g.F.Folder.past l.folder);
}
