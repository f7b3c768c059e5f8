use Rattle.std.proofs.Common.{length}
use Rattle.svn_folder.specs.Syncing.{AreWithin}
use Rattle.svn_folder.specs.Marking.{marks_of, without_files}
use Rattle.svn_folder.proofs.unsynced.Unsynced.finish_files.Given as goal

abbrev pub decreases-paths : goal.decreases-paths
decreases-paths l = length l.rest

-- without those that are left these are the marks
abbrev pub invariant-paths : goal.invariant-paths
invariant-paths l = AreWithin (without_files l.paths (marks_of l.initial.self)) (without_files l.rest (marks_of l.self))
