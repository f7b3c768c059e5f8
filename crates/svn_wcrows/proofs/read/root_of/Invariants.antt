use Rattle.std.proofs.Common.{◌≡◌, length}
use Rattle.svn_wcdb.specs.Schema.{root_of}
use Rattle.svn_wcrows.proofs.read.root_of.Given as goal

abbrev pub decreases-rows : goal.decreases-rows
decreases-rows l = length l.rest

-- no row so far is the table's
abbrev pub invariant-rows : goal.invariant-rows
invariant-rows l = root_of l.name l.rest ≡ root_of l.name l.schema
