use Rattle.svn_disk.specs.Goes.{Keeps}
use Rattle.svn_disk.specs.Places.{is_temporary}
use Rattle.svn_disk.proofs.temporary.clear_temporary.Given as goal

abbrev pub invariant-loop-name : goal.invariant-loop-name
invariant-loop-name g l = Keeps (is_temporary l.admin.name) (g.F.Folder.past l.fn.folder) (g.F.Folder.past l.folder)
