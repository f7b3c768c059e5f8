use Rattle.std.specs.List.Sorted.{IsStrictlySortedBy}
use Rattle.svn_drive.proofs.lists_left.EntriesLeft.of.Goals as goal

pub returns-in-None-clause-ordered : goal.returns-in-None-clause-ordered
unfolding IsStrictlySortedBy
returns-in-None-clause-ordered c = tt
