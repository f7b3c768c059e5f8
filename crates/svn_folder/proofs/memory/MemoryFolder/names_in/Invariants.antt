use Rattle.std.proofs.Common.{length}
use Rattle.svn_folder.specs.Memory.{state_of}
use Rattle.svn_folder.proofs.Listed.{AreNamesSoFar}
use Rattle.svn_folder.proofs.memory.MemoryFolder.names_in.Given as goal

abbrev pub decreases-names : goal.decreases-names
decreases-names l = length l.rest

-- with the names that the rest makes these are all
abbrev pub invariant-names : goal.invariant-names
invariant-names l = AreNamesSoFar (state_of l.self) l.path l.self.steps.items l.rest l.names
