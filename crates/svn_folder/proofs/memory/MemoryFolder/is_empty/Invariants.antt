use Rattle.std.proofs.Common.{◌↔◌, length}
use Rattle.svn_folder.specs.Memory.{IsClear, state_of}
use Rattle.svn_folder.proofs.memory.MemoryFolder.is_empty.Given as goal

abbrev pub decreases-names : goal.decreases-names
decreases-names l = length l.rest

-- the names of the steps so far are free
abbrev pub invariant-names : goal.invariant-names
invariant-names l = IsClear (state_of l.self) l.path l.self.steps.items ↔ IsClear (state_of l.self) l.path l.rest
