use Rattle.std.proofs.Common.{◌≡◌, ◌≤◌, ◌+◌, ◌-◌, ◌++◌, suc, true, false, length}
use Rattle.std.specs.List.{filter}
use Rattle.svn_commands.specs.Asking.{log_as}
use Rattle.svn_commands.specs.Log.{is_logged, is_full, limited, logged, revs_from}
use Rattle.svn_commands.proofs.log.logged.Given as goal

abbrev pub decreases-revs : goal.decreases-revs
decreases-revs l = (l.asked.end - l.rev) + (l.rev - l.asked.end)

-- those that were found, and those of the revisions from here on, are all, and there is room for one more
abbrev pub invariant-revs : goal.invariant-revs
invariant-revs l = record {
  up : l.younger ≡ true → l.rev ≤ l.asked.end;
  down : l.younger ≡ false → l.asked.end ≤ l.rev;
  room : is_full l.asked.wanted.limit (length l.found.items) ≡ false;
  same : logged l.view.served.now (log_as l.asked) l.segments
      ≡ limited l.asked.wanted.limit (l.found.items
      ++ filter (is_logged l.view.served.now l.segments) (revs_from l.younger l.rev (suc ((l.asked.end - l.rev) + (l.rev - l.asked.end)))));
}
