use Rattle.std.proofs.Common.{◌≡◌, ◌++◌, drop}
use Rattle.std.specs.List.{flat_map}
use Rattle.svn_commands.specs.Locations.{place_in}
use Rattle.svn_commands.proofs.locations.push_places.Given as goal

-- what is written and the segments that are left make all
abbrev pub invariant-loop-segment : goal.invariant-loop-segment
invariant-loop-segment l =
    l.out.items ++ flat_map (place_in l.rev) (drop l.segment-index l.segments) ≡ l.initial.out.items ++ flat_map (place_in l.rev) l.segments
