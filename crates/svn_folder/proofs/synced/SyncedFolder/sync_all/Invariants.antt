use Rattle.std.proofs.Common.{length}
use Rattle.std.specs.Prelude.{Ok}
use Rattle.svn_folder.specs.Files.{TakesSyncs}
use Rattle.svn_folder.proofs.synced.SyncedFolder.sync_all.Given as goal

abbrev pub decreases-directories : goal.decreases-directories
decreases-directories g l = length l.rest

-- only syncs were taken, and none was refused
abbrev pub invariant-directories : goal.invariant-directories
invariant-directories g l = TakesSyncs (g.F.Folder.past l.fn.self.folder) (Ok tt) (g.F.Folder.past l.self.folder)
