use Rattle.std.proofs.Common.{length, is_some, sym, ap, ◌∙◌, arith}
use Rattle.svn_serials.proofs.Pairs.{length_removed, updates_removed}
use Rattle.svn_pool.proofs.Counts.{blocks_left, blocks_within, fixed_left}
use Rattle.svn_pool.proofs.prune.remove_newer.Goals as goal

pub clear-requires : goal.clear-requires
clear-requires g c =
    blocks_within c.newest.pools c.remove.new.self c.in-Some.serial c.in-Some-remove.linked (sym c.in-Some-remove.ensures.value)
    c.remove.ensures.removed c.newest.stock c.newest.invariant.counted

pub newest-smaller : goal.newest-smaller
newest-smaller g c =
    let fewer = length_removed c.newest.pools c.in-Some.serial (ap is_some (sym c.in-Some-remove.ensures.value)) in
    let left = ap length c.remove.ensures.removed in
    omega (arith, fewer, left)

pub newest-preserved : goal.newest-preserved
newest-preserved g c =
    let kept = c.newest.invariant in
    let found = sym c.in-Some-remove.ensures.value in
    let removed = c.remove.ensures.removed in
    let updates = updates_removed c.newest.pools c.remove.new.self c.in-Some.serial c.remove.ensures.was_rising removed in
    record {
      older = λ q le. updates.away q (λ is. let above = c.if-serial-last.false in omega arith) ∙ kept.older q le;
      counted =
          blocks_left c.newest.pools c.remove.new.self c.in-Some.serial c.in-Some-remove.linked found removed c.newest.stock kept.counted
          c.clear.new.stock c.clear.ensures.counts;
      fixed =
          fixed_left c.newest.pools c.remove.new.self c.in-Some.serial c.in-Some-remove.linked found removed c.newest.stock kept.counted
          c.clear.new.stock c.clear.ensures.counts
          ∙ kept.fixed;
    }
