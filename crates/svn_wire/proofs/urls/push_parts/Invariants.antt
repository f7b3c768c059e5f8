use Rattle.std.proofs.Common.{◌≡◌, ◌++◌, drop}
use Rattle.std.specs.List.{flat_map}
use Rattle.svn_wire.specs.Urls.{url_part}
use Rattle.svn_wire.proofs.urls.push_parts.Given as goal

abbrev pub invariant-loop-name : goal.invariant-loop-name
invariant-loop-name l = l.out.items ++ flat_map url_part (drop l.name-index l.names) ≡ l.fn.out.items ++ flat_map url_part l.names
