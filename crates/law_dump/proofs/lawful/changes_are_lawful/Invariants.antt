use Rattle.std.proofs.Common.{ℕ, ◌<◌, get_or}
use Rattle.svn_types.specs.Names.{IsPropName}
use Rattle.svn_types.specs.Props.{PropChange}
use Rattle.law_dump.proofs.lawful.changes_are_lawful.Given as goal

abbrev pub invariant-loop-name : goal.invariant-loop-name
invariant-loop-name l = (k : ℕ) (d : PropChange) → k < l.name-index → IsPropName (get_or l.changes k d).0
