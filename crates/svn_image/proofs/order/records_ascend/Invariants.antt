use Rattle.std.proofs.Common.{◌≡◌, length}
use Rattle.svn_image.specs.Items.{records_ascend}
use Rattle.svn_image.proofs.order.records_ascend.Given as goal

abbrev pub decreases-records : goal.decreases-records
decreases-records l = length l.rest

-- the records so far ascend
abbrev pub invariant-records : goal.invariant-records
invariant-records l = records_ascend l.rest ≡ records_ascend l.records
