use Rattle.std.proofs.Common.{ℕ, ◌<◌, refl, sym, subst, ◌∙◌, arith}
use Rattle.svn_pool.specs.Linked.{IsLeaf, bare, live_at}
use Rattle.svn_pool.proofs.Kinship.{live_child}
use Rattle.svn_pool.proofs.Pruning.{IsOnWay, child_of, leaf_from_none, way_down, way_ends, way_has_parent, way_on, way_starts}
use Rattle.svn_pool.proofs.prune.prune.Goals as goal

pub walk-init : goal.walk-init
walk-init g c =
    record {
      way = way_starts (bare c.args.pools.now) c.args.top c.requires.live;
      first = c.requires.first;
      linked = c.requires.linked;
      counted = c.requires.counted;
      fixed = refl;
    }

pub walk-preserved-in-Some : goal.walk-preserved-in-Some
walk-preserved-in-Some g c =
    let inv = c.walk.invariant in
    record {
      way =
          way_down (bare c.args.pools.now) c.args.top (bare c.walk.pools) c.walk.at inv.way c.in-Some.child
          (child_of c.walk.pools inv.linked c.walk.at c.in-Some.child (sym inv.first ∙ c.in-Some.is));
      first = c.first_child-first.ensures;
      linked = inv.linked;
      counted = inv.counted;
      fixed = inv.fixed;
    }

pub walk-smaller-in-Some : goal.walk-smaller-in-Some
walk-smaller-in-Some g c =
    let inv = c.walk.invariant in
    let parent = child_of c.walk.pools inv.linked c.walk.at c.in-Some.child (sym inv.first ∙ c.in-Some.is) in
    let younger : c.walk.at < c.in-Some.child = (inv.linked.older c.walk.at c.in-Some.child parent).1 in
    let small : c.in-Some.child < 18446744073709551616 =
    inv.linked.small c.in-Some.child (live_child (live_at (bare c.walk.pools) c.in-Some.child) c.walk.at parent) in
    omega (arith, younger, small)

pub returns-then-at-top-clause-pruned : goal.returns-then-at-top-clause-pruned
returns-then-at-top-clause-pruned g c =
    let inv = c.walk.invariant in
    let leaf = leaf_from_none c.walk.pools inv.linked c.walk.at (sym inv.first ∙ c.in_default.is) in
    way_ends (bare c.args.pools.now) c.args.top c.walk.pools inv.linked
    (subst (λ (k : ℕ). IsOnWay (bare c.args.pools.now) (bare c.walk.pools) c.args.top k) c.if-at-top.true inv.way)
    (subst (IsLeaf (bare c.walk.pools)) c.if-at-top.true leaf)

pub remove_leaf-requires-clause-leaf : goal.remove_leaf-requires-clause-leaf
remove_leaf-requires-clause-leaf g c =
    leaf_from_none c.walk.pools c.walk.invariant.linked c.walk.at (sym c.walk.invariant.first ∙ c.in_default.is)

pub returns-in_default-remove_leaf-clause-pruned : goal.returns-in_default-remove_leaf-clause-pruned
returns-in_default-remove_leaf-clause-pruned g c =
    absurd (way_has_parent (bare c.args.pools.now) c.args.top (bare c.walk.pools) c.walk.at c.walk.invariant.way c.if-at-top.false
    c.in_default-remove_leaf.ensures.root)

pub walk-preserved : goal.walk-preserved
walk-preserved g c =
    let inv = c.walk.invariant in
    let after = c.remove_leaf.ensures in
    record {
      way =
          way_on (bare c.args.pools.now) c.args.top (bare c.walk.pools) c.walk.at inv.way (bare c.remove_leaf.new.pools)
          c.in-Some-remove_leaf.beside.serial (λ p is. inv.linked.older p c.walk.at is) c.if-at-top.false after.gone
          c.in-Some-remove_leaf.ensures.beside;
      first = c.in-Some-remove_leaf.ensures.first;
      linked = after.linked;
      counted = after.counted;
      fixed = after.fixed ∙ inv.fixed;
    }
