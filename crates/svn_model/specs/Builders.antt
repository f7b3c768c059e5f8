-- The copies that a client makes without a drive.
--     checkout h q r      the whole tree at q in revision r
--     placed h w p q r      the copy with the tree at q of revision r in the place of what is at p and below
--     forgotten w p      the copy with p as not present
use Rattle.std.specs.Prelude.{ℕ, ◌++◌, length, drop, Some, None, option_map, if◌then◌else◌}
use Rattle.svn_types.specs.Names.{Path}
use Rattle.svn_types.specs.Paths.{path_eq, is_within}
use Rattle.svn_repo.specs.History.{History, look}
use Rattle.svn_model.specs.declared.base_node.BaseNode.TheVariants.{NotPresent}
use Rattle.svn_model.specs.Nodes.{WorkingCopy, base_node}

abbrev pub checkout : History → Path → ℕ → WorkingCopy
checkout h q r p = option_map (base_node h r (q ++ p)) (look h r (q ++ p))

abbrev pub placed : History → WorkingCopy → Path → Path → ℕ → WorkingCopy
placed h w at q r p = if is_within at p then checkout h q r (drop (length at) p) else w p

abbrev pub forgotten : WorkingCopy → Path → WorkingCopy
forgotten w at p =
    if path_eq at p then Some NotPresent
    else if is_within at p then None
    else w p
