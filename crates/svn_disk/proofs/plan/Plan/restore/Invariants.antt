use Rattle.std.proofs.Common.{◌≡◌}
use Rattle.svn_disk.specs.Changes.{StayPlanned}
use Rattle.svn_disk.proofs.plan.Plan.restore.Given as goal

abbrev pub invariant-loop-path : goal.invariant-loop-path
invariant-loop-path g l = record {
  copies : (l.self.was ≡ l.fn.self.was) × (l.self.wanted ≡ l.fn.self.wanted);
  stay : StayPlanned l.fn.self.was.now l.fn.self.wanted.now l.fn.self.changes.entries l.self.changes.entries;
}
