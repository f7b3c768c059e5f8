use Rattle.svn_folder.specs.Files.{is_sync}
use Rattle.svn_disk.specs.Goes.{Keeps}
use Rattle.svn_disk.proofs.doing.Doing.sync_all.Given as goal

abbrev pub invariant-loop-directory : goal.invariant-loop-directory
invariant-loop-directory g l = Keeps is_sync (g.F.Folder.past l.fn.folder) (g.F.Folder.past l.folder)
