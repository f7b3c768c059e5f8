use Rattle.std.proofs.Common.{◌≡◌, List, [], length}
use Rattle.svn_types.specs.Props.{PropChange, with_changes}
use Rattle.svn_wcdb.specs.Properties.{pairs_at}
use Rattle.svn_wcdb.proofs.PropertyLemmas.{GoesOn}
use Rattle.svn_wcdb.proofs.properties.read_pairs.Given as goal

abbrev pub decreases-pairs : goal.decreases-pairs
decreases-pairs l = length l.rest

-- the properties are what the pairs so far make, and the rest gives the others
abbrev pub invariant-pairs : goal.invariant-pairs
invariant-pairs l = (front : List PropChange) × (l.props ≡ with_changes [] front) × GoesOn front l.rest (pairs_at (length l.list) l.list)
