use Rattle.std.proofs.Common.{◌≡◌, length}
use Rattle.svn_wcrows.specs.Tables.{has_foreign}
use Rattle.svn_wcrows.proofs.read.has_foreign.Given as goal

abbrev pub decreases-rows : goal.decreases-rows
decreases-rows l = length l.rest

-- no row so far is about a table that isn't known
abbrev pub invariant-rows : goal.invariant-rows
invariant-rows l = has_foreign l.rest ≡ has_foreign l.schema
