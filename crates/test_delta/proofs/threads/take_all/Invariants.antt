use Rattle.std.proofs.Common.{◌≡◌}
use Rattle.test_delta.proofs.threads.take_all.Given as goal

abbrev pub invariant-loop : goal.invariant-loop
invariant-loop g l = (l.inbox.link ≡ l.initial.inbox.link) × (l.teller.notice ≡ l.initial.teller.notice)
