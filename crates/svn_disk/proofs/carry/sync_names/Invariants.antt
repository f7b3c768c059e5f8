use Rattle.svn_folder.specs.Files.{is_sync}
use Rattle.svn_disk.specs.Goes.{Keeps}
use Rattle.svn_disk.proofs.carry.sync_names.Given as goal

abbrev pub invariant-loop-path : goal.invariant-loop-path
invariant-loop-path g l = Keeps is_sync (g.F.Folder.past l.fn.folder) (g.F.Folder.past l.folder)
