use Rattle.std.proofs.Common.{◌≡◌, ◌++◌, map}
use Rattle.std.specs.Prelude.{filter}
use Rattle.svn_live_audit.specs.Verdicts.{is_asked}
use Rattle.svn_live_audit.specs.Places.{place_value}
use Rattle.svn_live_audit.proofs.places.places_of.Given as goal

-- those so far and those among the nodes that are left are all
abbrev pub invariant-loop-path : goal.invariant-loop-path
invariant-loop-path l = map place_value l.places.items ++ filter is_asked l.path-iterator ≡ filter is_asked l.copy
