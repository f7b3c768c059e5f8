use Rattle.std.proofs.Common.{◌≡◌, true, false, nat_eq, sym, ap, ◌∙◌, arith}
use Rattle.std.proofs.lemmas.Bool.Decides.{nat_tests}
use Rattle.svn_script.specs.Reading.{without_return}
use Rattle.svn_script.proofs.Splits.{without_return_end, without_return_other}
use Rattle.svn_script.proofs.lines.without_return.Goals as goal

pub returns-then-last-eq13 : goal.returns-then-last-eq13
returns-then-last-eq13 c =
    let cut = ap without_return c.in-Some.ensures.cases.0 in
    let end : nat_eq c.in-Some.last.now 13 ≡ true = grind (arith, nat_tests) in
    sym (cut ∙ without_return_end c.in-Some.front.now c.in-Some.last.now end)

pub returns-else-last-eq13 : goal.returns-else-last-eq13
returns-else-last-eq13 c =
    let cut = ap without_return c.in-Some.ensures.cases.0 in
    let other : nat_eq c.in-Some.last.now 13 ≡ false = grind (arith, nat_tests) in
    sym (cut ∙ without_return_other c.in-Some.front.now c.in-Some.last.now other ∙ sym c.in-Some.ensures.cases.0)
