use Rattle.std.proofs.Common.{◌≡◌, ◌++◌, map}
use Rattle.svn_disk.proofs.plan.Plan.into_changes.Given as goal

abbrev pub invariant-loop-path : goal.invariant-loop-path
invariant-loop-path l = map (λ change. (change.path, change.change)) l.list.items ++ l.path-iterator ≡ l.fn.self.changes.entries
