use Rattle.std.proofs.Common.{◌≡◌, ◌<◌, ◌+◌, ◌-◌, ◌/◌, suc, drop, length, sym, subst, ◌∙◌, arith}
use Rattle.svn_name_map.specs.Runs.{joined, IsAbove}
use Rattle.svn_name_map.proofs.Joined.{above_none, run_behind, run_not_behind}
use Rattle.svn_name_map.proofs.runs.run_before.Goals as goal

pub halves-init : goal.halves-init
halves-init g c = (c.requires.some, omega arith, tt, (above_none c.args.name.now c.args.runs.now))

pub overflow_add-low : goal.overflow_add-low
overflow_add-low g c = let inv = c.halves.invariant in let fits = c.halves.auto.high-fits in omega (arith, inv.0, fits)

pub bounds-runs-middle : goal.bounds-runs-middle
bounds-runs-middle g c = let inv = c.halves.invariant in let test = c.halves-test.true in omega (arith, inv.0, inv.1, test)

pub halves-preserved-then-begins_after : goal.halves-preserved-then-begins_after
halves-preserved-then-begins_after g c =
    let inv = c.halves.invariant in
    let m = c.halves.low + (c.halves.high - c.halves.low) / 2 in
    let test = c.halves-test.true in
    let within : m < length c.args.runs.now = omega (arith, inv.0, inv.1, test) in (
      omega (arith, inv.0, test),
      omega (arith, within),
      inv.2,
      run_behind c.args.runs.now c.args.name.now m c.index-runs-middle.result c.index-runs-middle.is c.requires.order within c.begins_after.ensures.some
          (λ q first. sym c.if-begins_after.true ∙ c.begins_after.ensures.value q first),
    )

pub halves-preserved : goal.halves-preserved
halves-preserved g c =
    let inv = c.halves.invariant in
    let m = c.halves.low + (c.halves.high - c.halves.low) / 2 in
    let test = c.halves-test.true in
    let within : m < length c.args.runs.now = omega (arith, inv.0, inv.1, test) in (
      omega (arith, inv.0, test),
      inv.1,
      run_not_behind c.args.runs.now c.args.name.now m c.index-runs-middle.result c.index-runs-middle.is c.requires.order within c.begins_after.ensures.some
          (λ q first. sym c.if-begins_after.false ∙ c.begins_after.ensures.value q first),
      inv.3,
    )

pub returns : goal.returns
returns g c =
    let inv = c.halves.invariant in
    let test = c.halves-test.false in
    let next : c.halves.high ≡ suc c.halves.low = omega (arith, inv.0, test) in
    (omega (arith, inv.0, inv.1), inv.2, subst (λ n. IsAbove c.args.name.now (joined (drop n c.args.runs.now))) next inv.3)
