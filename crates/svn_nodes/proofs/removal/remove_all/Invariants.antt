use Rattle.std.proofs.Common.{◌≡◌, cond, take, None}
use Rattle.std.specs.List.{list_any}
use Rattle.svn_types.specs.Names.{Path}
use Rattle.svn_types.specs.Paths.{path_eq}
use Rattle.svn_model.specs.Nodes.{get_in}
use Rattle.svn_nodes.proofs.removal.remove_all.Given as goal

abbrev pub invariant-loop-path : goal.invariant-loop-path
invariant-loop-path l = (p : Path) → get_in l.nodes.entries p ≡ cond (list_any (λ q. path_eq q p) (take l.path-index l.paths)) None
    (get_in l.initial.nodes.entries p)
