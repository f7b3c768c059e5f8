-- The nodes of a list of pairs, which may have a path more than once: the last one counts.
use Rattle.std.specs.Prelude.{List, None}
use Rattle.std.specs.Map.{update_all}
use Rattle.std.specs.Ordering.{eq_by_cmp}
use Rattle.svn_types.specs.Names.{Path, path_cmp}
use Rattle.svn_model.specs.declared.base_node.BaseNode.{BaseNode}
use Rattle.svn_model.specs.Nodes.{WorkingCopy}

abbrev pub gathered : List (Path × BaseNode) → WorkingCopy
gathered pairs p = update_all (eq_by_cmp path_cmp) (λ q. None) pairs p
