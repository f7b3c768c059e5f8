use Rattle.std.proofs.Common.{◌≡◌, ◌++◌, List, ℕ, length}
use Rattle.svn_commands.specs.Asking.{asked_as}
use Rattle.svn_commands.specs.Locations.{revs_of}
use Rattle.svn_commands.proofs.Located.{AreBegun}
use Rattle.svn_commands.proofs.locations.push_locations_in.Given as goal

abbrev pub decreases-revs : goal.decreases-revs
decreases-revs l = length l.left

-- the locations in the revisions before those that are left are written
abbrev pub invariant-revs : goal.invariant-revs
invariant-revs l =
    (done : List ℕ)
    × AreBegun l.view.served.now (asked_as l.asked) l.segments (revs_of l.left) (revs_of l.asked.revs.now) done
    × (l.out.items ≡ l.initial.out.items ++ done)
