use Rattle.std.proofs.Common.{◌≡◌, ◌<◌, ◌-◌, true, length, refl, arith}
use Rattle.std.proofs.lemmas.Bool.Decides.{nat_tests}
use Rattle.std.proofs.lemmas.Option.{slice_get_read}
use Rattle.svn_order.specs.Directories.{with_change}
use Rattle.svn_order.proofs.Changes.{ChangesAt-set, ChangesAt-same, changed_now, not_changed}
use Rattle.svn_order.proofs.directories.change_prop.Goals as goal

pub returns-then-index : goal.returns-then-index
returns-then-index c =
    let ds = c.args.directories.now.items in
    let some : c.len-last.result - 1 < length ds = grind (arith, nat_tests) in
    let last : c.len-last.result - 1 ≡ length ds - 1 = omega arith in
    let same = slice_get_read ds (length ds) (c.len-last.result - 1) c.index.result.now refl some c.index.ensures in
    let read = slice_get_read ds (length ds) (c.len-last.result - 1) c.index_mut.result.now refl some c.index_mut.ensures.value in
    ChangesAt-set (λ b d. d ≡ with_change b) ds _ (c.len-last.result - 1) c.index_mut.result.now
    (record c.index_mut.result.now { is_changed_late = true }) last some c.index_mut.ensures.value refl
    (changed_now ds (c.len-last.result - 1) c.index.result.now c.index_mut.result.now same read c.if-index.true)

pub returns-else-index : goal.returns-else-index
returns-else-index c =
    let ds = c.args.directories.now.items in
    let some : c.len-last.result - 1 < length ds = grind (arith, nat_tests) in
    let last : c.len-last.result - 1 ≡ length ds - 1 = omega arith in
    ChangesAt-same (λ b d. d ≡ with_change b) ds _ (c.len-last.result - 1) c.index.result.now last some c.index.ensures
    (not_changed c.index.result.now c.if-index.false)
