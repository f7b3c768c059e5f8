use Rattle.std.proofs.Common.{◌≡◌, cond, take, None}
use Rattle.svn_types.specs.Names.{Path}
use Rattle.svn_model.specs.Nodes.{get_in}
use Rattle.svn_nodes.specs.Handfuls.{is_noted}
use Rattle.svn_nodes.proofs.removal.remove_noted.Given as goal

abbrev pub invariant-loop-place : goal.invariant-loop-place
invariant-loop-place l = (p : Path) → get_in l.nodes.entries p ≡ cond (is_noted (take l.place-index l.places) p) None
    (get_in l.initial.nodes.entries p)
