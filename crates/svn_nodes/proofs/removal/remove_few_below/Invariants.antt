use Rattle.std.proofs.Common.{◌≡◌, false}
use Rattle.svn_types.specs.Names.{Path}
use Rattle.svn_types.specs.Paths.{is_below}
use Rattle.svn_model.specs.Nodes.{get_in}
use Rattle.svn_nodes.proofs.removal.remove_few_below.Given as goal

abbrev pub invariant-loop-round : goal.invariant-loop-round
invariant-loop-round l = (p : Path) → is_below l.path p ≡ false → get_in l.nodes.entries p ≡ get_in l.initial.nodes.entries p
