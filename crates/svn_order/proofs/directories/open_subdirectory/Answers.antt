use Rattle.std.proofs.Common.{◌≡◌, ◌<◌, ◌-◌, length, refl, arith}
use Rattle.std.proofs.lemmas.Bool.Decides.{nat_tests}
use Rattle.svn_order.specs.Directories.{with_subdirectory}
use Rattle.svn_order.proofs.Changes.{ChangesAt-set}
use Rattle.svn_order.proofs.directories.open_subdirectory.Goals as goal

pub returns-then-not-is_empty : goal.returns-then-not-is_empty
returns-then-not-is_empty c =
    let ds = c.args.directories.now.items in
    let some : c.len-last.result - 1 < length ds = grind (arith, nat_tests) in
    let last : c.len-last.result - 1 ≡ length ds - 1 = omega arith in
    ChangesAt-set (λ b d. d ≡ with_subdirectory b) ds _ (c.len-last.result - 1) c.index_mut.result.now
    (with_subdirectory c.index_mut.result.now) last some c.index_mut.ensures.value refl refl
