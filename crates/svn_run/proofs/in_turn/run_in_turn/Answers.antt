use Rattle.std.proofs.Common.{refl, sym}
use Rattle.svn_run.specs.UpdateTheorem.{asked}
use Rattle.svn_run.proofs.Theorems.{refused_in_turn}
use Rattle.svn_run.proofs.in_turn.run_in_turn.Goals as goal

pub returns-in-Some : goal.returns-in-Some
returns-in-Some g c =
    let w = c.args.request.now in
    refused_in_turn c.laws.ensures (asked c.args.repo.now c.args.copy.now w) c.true_copy.ensures c.in-Some.fault
    (sym (c.in-Some.ensures w refl c.switched_to-to.ensures))

pub run_tested-requires-clause-target : goal.run_tested-requires-clause-target
run_tested-requires-clause-target g c = sym (c.in_default.ensures c.args.request.now refl c.switched_to-to.ensures)
