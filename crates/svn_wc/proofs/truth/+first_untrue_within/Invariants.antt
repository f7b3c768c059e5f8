use Rattle.std.proofs.Common.{◌≡◌, ◌∷◌, ◌++◌, List, length}
use Rattle.std.specs.Option.{option_copied}
use Rattle.svn_types.specs.Names.{Path}
use Rattle.svn_model.specs.declared.base_node.BaseNode.{BaseNode}
use Rattle.svn_model.specs.Nodes.{InPathOrder, IsWorkingCopy, get_in}
use Rattle.svn_model.specs.Tree.{names_at}
use Rattle.svn_wc.specs.Truths.{looked, entries_at, IsRest}
use Rattle.svn_wc.proofs.Merging.{EntriesBeside}
use Rattle.svn_wc.proofs.Truly.{SoFar}
use Rattle.svn_wc.proofs.truth.+first_untrue_within.Given as goal

abbrev pub decreases-first_untrue_within : goal.decreases-first_untrue_within
decreases-first_untrue_within l = length l.left.now

abbrev pub invariant-below : goal.invariant-below
invariant-below l =
    IsRest l.initial.left l.left
    × ((nodes before : List (Path × BaseNode)) → InPathOrder nodes → IsWorkingCopy (get_in nodes)
    → nodes ≡ before ++ (l.path, l.node) ∷ l.initial.left
    → l.id ≡ looked l.repo l.node
    → SoFar l.repo nodes l.path l.initial.left (names_at l.repo l.id) l.left (option_copied l.first) l.missing
    × EntriesBeside l.path (entries_at l.repo l.id) l.entries l.left)

abbrev pub decreases-below : goal.decreases-below
decreases-below l = length l.left
