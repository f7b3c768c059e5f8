use Rattle.std.proofs.Common.{◌≡◌, ◌++◌}
use Rattle.std.specs.List.{flat_map}
use Rattle.svn_disk.specs.Changes.{removing_file}
use Rattle.svn_disk.proofs.plan.Plan.files_that_go.Given as goal

abbrev pub invariant-loop-path : goal.invariant-loop-path
invariant-loop-path l = l.work.items ++ flat_map (removing_file l.self.was.now) l.path-iterator ≡ flat_map (removing_file l.self.was.now) l.self.changes.entries
