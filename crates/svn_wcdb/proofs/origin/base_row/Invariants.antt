use Rattle.std.proofs.Common.{◌≡◌, length}
use Rattle.svn_wcdb.specs.Bases.{base_row}
use Rattle.svn_wcdb.proofs.origin.base_row.Given as goal

abbrev pub decreases-rows : goal.decreases-rows
decreases-rows l = length l.rest

-- no row so far is the one of the base tree at that path
abbrev pub invariant-rows : goal.invariant-rows
invariant-rows l = base_row l.path l.rest ≡ base_row l.path l.rows
