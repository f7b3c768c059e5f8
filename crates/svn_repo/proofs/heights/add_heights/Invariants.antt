use Rattle.std.proofs.Common.{◌≡◌, ℕ, ◌<◌, ◌≤◌, length}
use Rattle.std.specs.List.{slice_get}
use Rattle.svn_repo.specs.Stored.{rows}
use Rattle.svn_repo.proofs.Tallest.{AreDone}
use Rattle.svn_repo.proofs.heights.add_heights.Given as goal

abbrev pub decreases-nodes : goal.decreases-nodes
decreases-nodes l = l.n

-- the heights of the nodes from here on are known, and those of the old nodes stay
abbrev pub invariant-nodes : goal.invariant-nodes
invariant-nodes l = record {
  size : length l.heights.items ≡ length l.nodes;
  base_is : l.base ≡ length l.fn.heights.items;
  low : l.base ≤ l.n;
  high : l.n ≤ length l.nodes;
  same : (m : ℕ) → m < length l.fn.heights.items → slice_get l.heights.items m ≡ slice_get l.fn.heights.items m;
  done : AreDone l.base l.n l.heights.items (rows l.nodes);
}
