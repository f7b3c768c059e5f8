use Rattle.std.proofs.Common.{rules}
use Rattle.svn_folder.proofs.Taking.{nothing_taken}
use Rattle.svn_folder.proofs.memory.MemoryFolder.new.Goals as goal

pub returns-clause-synced : goal.returns-clause-synced
returns-clause-synced c = nothing_taken _ (search rules)
