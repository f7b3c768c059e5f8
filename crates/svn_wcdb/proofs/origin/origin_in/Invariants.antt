use Rattle.std.proofs.Common.{◌≡◌, length}
use Rattle.svn_wcdb.specs.Bases.{origin_in}
use Rattle.svn_wcdb.proofs.origin.origin_in.Given as goal

abbrev pub decreases-rows : goal.decreases-rows
decreases-rows l = length l.rest

-- no row so far has that number
abbrev pub invariant-rows : goal.invariant-rows
invariant-rows l = origin_in l.id l.rest ≡ origin_in l.id l.rows
