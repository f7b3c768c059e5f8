use Rattle.std.proofs.Common.{arith}
use Rattle.svn_folder.proofs.Showing.{sync_file-shown, sync_directory-shown}
use Rattle.svn_folder.proofs.memory.origin_of.Goals as goal

pub returns-in_ok-clone-in-SyncFile : goal.returns-in_ok-clone-in-SyncFile
returns-in_ok-clone-in-SyncFile c =
    λ s. grind (arith, sync_file-shown, sync_directory-shown, c.in-SyncFile.is, c.in_ok-clone-in-SyncFile.ensures.cases)
