use Rattle.std.proofs.Common.{◌≡◌, cond, take, Some}
use Rattle.svn_types.specs.Names.{Path}
use Rattle.svn_model.specs.declared.base_node.BaseNode.TheVariants.{NotPresent}
use Rattle.svn_model.specs.Nodes.{get_in}
use Rattle.svn_nodes.proofs.Replacing.{is_one}
use Rattle.svn_nodes.proofs.replace.make_places.Given as goal

abbrev pub invariant-loop-path : goal.invariant-loop-path
invariant-loop-path l =
    (p : Path) → get_in l.nodes.entries p ≡ cond (is_one (take l.path-index l.paths) p) (Some NotPresent) (get_in l.initial.nodes.entries p)
