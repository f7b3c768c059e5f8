use Rattle.std.proofs.Common.{length}
use Rattle.svn_folder.specs.Files.{file_syncs}
use Rattle.svn_folder.proofs.Several.{Leads}
use Rattle.svn_folder.proofs.folder.Folder.sync_files.Given as goal

abbrev pub decreases-paths : goal.decreases-paths
decreases-paths g l = length l.rest

-- the files so far are synced
abbrev pub invariant-paths : goal.invariant-paths
invariant-paths g l = Leads (file_syncs l.rest) (g.Self.Folder.past l.self) (file_syncs l.paths) (g.Self.Folder.past l.fn.self)
