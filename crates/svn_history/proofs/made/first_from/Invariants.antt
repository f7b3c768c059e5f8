use Rattle.std.proofs.Common.{◌≡◌, ◌-◌, ◌<◌, ◌≤◌, true, false}
use Rattle.svn_history.specs.Made.{is_root_below}
use Rattle.svn_history.proofs.made.first_from.Given as goal

abbrev pub decreases-search : goal.decreases-search
decreases-search l = l.high - l.low

-- what is before is below the node, and what is after isn't
abbrev pub invariant-search : goal.invariant-search
invariant-search l = record {
  ordered : l.low ≤ l.high;
  below : 0 < l.low → is_root_below l.repo l.node (l.low - 1) ≡ true;
  from : is_root_below l.repo l.node l.high ≡ false;
}
