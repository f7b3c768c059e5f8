use Rattle.std.proofs.Common.{◌∙◌}
use Rattle.std.specs.Option.{option_copied}
use Rattle.svn_run.specs.UpdateTheorem.{asked}
use Rattle.svn_run.proofs.Beginning.{found}
use Rattle.svn_run.proofs.whole.target_fault.Goals as goal

pub returns : goal.returns
returns c = λ w target to.
    c.fault_at_root.ensures
    ∙ found c.laws.ensures (asked c.args.repo.now c.args.copy.now w) c.true_copy.ensures c.args.target (option_copied c.args.to) target to
