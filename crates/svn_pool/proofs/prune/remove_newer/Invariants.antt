use Rattle.std.proofs.Common.{◌≡◌, ℕ, ◌+◌, ◌≤◌, length}
use Rattle.svn_serials.specs.Serials.{get}
use Rattle.svn_pool.specs.Linked.{bare, blocks_held, fixed_held}
use Rattle.svn_pool.proofs.prune.remove_newer.Given as goal

abbrev pub invariant-newest : goal.invariant-newest
invariant-newest g l = record {
  older : (q : ℕ) → q ≤ l.last → get l.pools q ≡ get l.initial.pools q;
  counted : l.stock.used ≡ blocks_held (bare l.pools);
  fixed : l.stock.spare + fixed_held (bare l.pools) ≡ l.initial.stock.spare + fixed_held (bare l.initial.pools);
}

abbrev pub decreases-newest : goal.decreases-newest
decreases-newest g l = length l.pools
