use Rattle.std.proofs.Common.{◌≡◌, length}
use Rattle.svn_folder.specs.States.{seen, empty}
use Rattle.svn_folder.specs.Steps.{run}
use Rattle.svn_folder.proofs.memory.entry_at.Given as goal

abbrev pub decreases-back : goal.decreases-back
decreases-back l = length l.rest

-- what is asked for is what was at this place before the steps that were gone back through
abbrev pub invariant-back : goal.invariant-back
invariant-back l = seen (run empty l.steps) l.path ≡ seen (run empty l.rest) l.place
