use Rattle.std.proofs.Common.{◌≡◌, length}
use Rattle.svn_image.specs.Items.{rows_ascend}
use Rattle.svn_image.proofs.order.rows_ascend.Given as goal

abbrev pub decreases-rows : goal.decreases-rows
decreases-rows l = length l.rest

-- the rows so far ascend
abbrev pub invariant-rows : goal.invariant-rows
invariant-rows l = rows_ascend l.rest ≡ rows_ascend l.rows
