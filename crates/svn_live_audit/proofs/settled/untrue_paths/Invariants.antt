use Rattle.std.proofs.Common.{◌≡◌, ◌++◌}
use Rattle.std.specs.Vec.Iter.{into_iter_items}
use Rattle.svn_live_audit.specs.Rounds.{settled}
use Rattle.svn_live_audit.proofs.settled.untrue_paths.Given as goal

-- those so far and what the findings that are left come to are all
abbrev pub invariant-loop-finding : goal.invariant-loop-finding
invariant-loop-finding l =
    l.untrue_paths.items ++ settled (into_iter_items l.finding-iterator) (into_iter_items l.reasons)
    ≡ settled l.fn.findings.items l.fn.reasons.items
