use Rattle.std.proofs.Common.{◌≡◌, ◌++◌}
use Rattle.std.specs.Vec.Iter.{into_iter_items}
use Rattle.svn_audit.specs.Below.{nodes_below}
use Rattle.svn_audit.proofs.below.nodes_below.Given as goal

abbrev pub invariant-loop-path : goal.invariant-loop-path
invariant-loop-path l =
    l.below.items ++ nodes_below l.above (into_iter_items l.path-iterator) ≡ nodes_below l.above l.fn.nodes.items
