use Rattle.std.proofs.Common.{◌≡◌, ◌+◌, ◌≤◌, length}
use Rattle.svn_ask.specs.Tuples.{after_list}
use Rattle.svn_ask.proofs.tuples.after_list.Given as goal

abbrev pub decreases-tokens : goal.decreases-tokens
decreases-tokens l = length l.rest

-- the end of the list is further on
abbrev pub invariant-tokens : goal.invariant-tokens
invariant-tokens l = record {
  goes_on : after_list l.deep l.rest ≡ after_list 0 l.list;
  counted : l.deep + length l.rest ≤ length l.list;
}
