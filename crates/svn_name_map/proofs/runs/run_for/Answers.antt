use Rattle.std.proofs.Common.{◌≡◌, ◌<◌, ◌-◌, suc, take, drop, length, subst, sym, arith, rules}
use Rattle.svn_name_map.specs.Runs.{joined, IsAbove, IsBelow}
use Rattle.svn_name_map.proofs.Joined.{above_none, run_not_behind}
use Rattle.svn_name_map.proofs.runs.run_for.Goals.{then-last-eq0-via-then-last-eq0, then-last-eq0-via-else-last-eq0+then-not-begins_after}
use Rattle.svn_name_map.proofs.runs.run_for.Goals as goal

pub returns-then-last-eq0 : goal.returns-then-last-eq0
returns-then-last-eq0 g c =
    let runs = c.args.runs.now in
    let name = c.args.name.now in
    let some : 0 < length runs = first_of (search rules, grind arith) in
    let within : length runs - 1 < length runs = omega (arith, some) in
    let next : length runs ≡ suc (length runs - 1) = omega (arith, some) in
    let below : IsBelow name (joined (take (length runs - 1) runs)) = elim c.then-last-eq0.branch [
      | then-last-eq0-via-then-last-eq0 w ↦ subst (λ n. IsBelow name (joined (take n runs))) (sym w.if-last-eq0.true) tt
      | then-last-eq0-via-else-last-eq0+then-not-begins_after w ↦
          run_not_behind runs name (length runs - 1) w.index-runs-last.result w.index-runs-last.is c.requires within
          w.begins_after.ensures.some w.if-not-begins_after.ensures.value
    ] in
    (within, below, subst (λ n. IsAbove name (joined (drop n runs))) next (above_none name runs))
