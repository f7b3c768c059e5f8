use Rattle.std.proofs.Common.{◌≡◌, [], length}
use Rattle.svn_wcdb.specs.Pristines.{pristine_after}
use Rattle.svn_wcdb.specs.Reading.{each}
use Rattle.svn_wcdb.proofs.pristines.read_pristines.Given as goal

abbrev pub decreases-rows : goal.decreases-rows
decreases-rows l = length l.rest

-- the rows so far gave these texts
abbrev pub invariant-rows : goal.invariant-rows
invariant-rows l = each pristine_after l.rest l.pristines ≡ each pristine_after l.rows []
