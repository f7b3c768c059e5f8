use Rattle.std.proofs.Common.{length, true}
use Rattle.svn_dump.specs.Properties.{changes_at}
use Rattle.svn_dump.proofs.PropertyLemmas.{GoesOn}
use Rattle.svn_dump.proofs.properties.read_changes.Given as goal

abbrev pub decreases-entries : goal.decreases-entries
decreases-entries l = length l.rest

-- the rest gives the changes after those so far
abbrev pub invariant-entries : goal.invariant-entries
invariant-entries l = GoesOn true l.changes.items l.rest (changes_at true (length l.section) l.section)
