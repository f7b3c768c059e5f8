use Rattle.std.proofs.Common.{refl, sym}
use Rattle.svn_run.specs.UpdateTheorem.{asked}
use Rattle.svn_run.proofs.Theorems.{refused_in_threads}
use Rattle.svn_run.proofs.in_threads.run.Goals as goal

pub returns-in-Some : goal.returns-in-Some
returns-in-Some g c =
    let w = c.args.request.now in
    refused_in_threads c.laws.ensures (asked c.args.repo.now c.args.copy.now w) c.true_copy.ensures c.args.capacity c.in-Some.fault
    (sym (c.in-Some.ensures w refl c.switched_to-to.ensures))

pub run_tested-requires-clause-begins : goal.run_tested-requires-clause-begins
run_tested-requires-clause-begins g c κs within = sym (c.in_default.ensures c.args.request.now refl c.switched_to-to.ensures)
