use Rattle.std.proofs.Common.{◌≡◌, List, [], length, false}
use Rattle.svn_types.specs.Props.{PropChange, with_changes}
use Rattle.svn_dump.specs.Properties.{changes_at}
use Rattle.svn_dump.proofs.PropertyLemmas.{GoesOn}
use Rattle.svn_dump.proofs.properties.read_props.Given as goal

abbrev pub decreases-entries : goal.decreases-entries
decreases-entries l = length l.rest

-- the properties are what changes so far make, and the rest gives the others
abbrev pub invariant-entries : goal.invariant-entries
invariant-entries l = (front : List PropChange) × (l.props ≡ with_changes [] front)
    × GoesOn false front l.rest (changes_at false (length l.section) l.section)
