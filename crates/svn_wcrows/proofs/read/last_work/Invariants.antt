use Rattle.std.proofs.Common.{◌≡◌, length}
use Rattle.svn_wcrows.specs.Tables.{last_work}
use Rattle.svn_wcrows.proofs.read.last_work.Given as goal

abbrev pub decreases-rows : goal.decreases-rows
decreases-rows l = length l.rest

-- no row so far is that of the work queue
abbrev pub invariant-rows : goal.invariant-rows
invariant-rows l = last_work l.rest ≡ last_work l.rows
