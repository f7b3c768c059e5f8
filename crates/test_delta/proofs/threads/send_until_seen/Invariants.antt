use Rattle.std.proofs.Common.{◌≡◌}
use Rattle.test_delta.proofs.threads.send_until_seen.Given as goal

abbrev pub invariant-loop-revision : goal.invariant-loop-revision
invariant-loop-revision g l = (l.outbox.link ≡ l.initial.outbox.link) × (l.watcher.notice ≡ l.initial.watcher.notice)
