use Rattle.std.proofs.Common.{◌≡◌, ◌++◌}
use Rattle.svn_disk.specs.Plans.{work_of}
use Rattle.svn_disk.proofs.contents.works_of.Given as goal

abbrev pub invariant-loop-path : goal.invariant-loop-path
invariant-loop-path l = l.work.items ++ work_of l.path-iterator ≡ work_of l.copy
