use Rattle.std.proofs.Common.{◌≡◌, ◌≤◌, length}
use Rattle.svn_history.specs.Steps.{draft_of, begun}
use Rattle.svn_history.specs.Loading.{EmptyCommits}
use Rattle.svn_history.proofs.loader.fill_gap.Given as goal

abbrev pub invariant-gap : goal.invariant-gap
invariant-gap l = record {
  commits : EmptyCommits l.fn.transaction.history l.transaction.history;
  begun : draft_of l.transaction ≡ begun l.transaction.history;
  size : length l.fn.transaction.history.roots ≤ l.fn.rev → length l.transaction.history.roots ≡ l.counter;
  first : l.fn.rev ≡ 0 → l.transaction.history ≡ l.fn.transaction.history;
}
