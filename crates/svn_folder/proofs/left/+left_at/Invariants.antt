use Rattle.std.proofs.Common.{length}
use Rattle.svn_folder.proofs.left.+left_at.Given as goal

abbrev pub decreases-left_at : goal.decreases-left_at
decreases-left_at l = length l.steps.now
