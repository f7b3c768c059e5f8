use Rattle.std.proofs.Common.{◌≡◌}
use Rattle.svn_disk.specs.Changes.{StayPlanned}
use Rattle.svn_disk.proofs.EachChange.{Covers}
use Rattle.svn_disk.proofs.plan.Plan.note_all.Given as goal

abbrev pub invariant-loop-path : goal.invariant-loop-path
invariant-loop-path l = record {
  copies : (l.self.was ≡ l.fn.self.was) × (l.self.wanted ≡ l.fn.self.wanted);
  covers : Covers l.fn.self.was.now l.fn.self.wanted.now l.copy l.self.changes.entries l.path-iterator;
  stay : StayPlanned l.fn.self.was.now l.fn.self.wanted.now l.fn.self.changes.entries l.self.changes.entries;
}
