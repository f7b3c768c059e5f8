use Rattle.std.proofs.Common.{length}
use Rattle.svn_image.proofs.table_tree.push_parents.Given as goal

abbrev pub decreases-parents : goal.decreases-parents
decreases-parents l = length l.rest
