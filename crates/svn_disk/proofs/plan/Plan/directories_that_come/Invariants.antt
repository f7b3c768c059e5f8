use Rattle.std.proofs.Common.{◌≡◌, ◌++◌}
use Rattle.std.specs.List.{flat_map}
use Rattle.svn_disk.specs.Changes.{making_directory}
use Rattle.svn_disk.proofs.plan.Plan.directories_that_come.Given as goal

abbrev pub invariant-loop-path : goal.invariant-loop-path
invariant-loop-path l = l.work.items ++ flat_map (making_directory l.self.wanted.now) l.path-iterator ≡ flat_map (making_directory l.self.wanted.now) l.self.changes.entries
