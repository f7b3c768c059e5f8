use Rattle.std.proofs.Common.{refl, sym, ap, subst}
use Rattle.svn_editor.specs.declared.mode.Mode.{Mode}
use Rattle.svn_editor.specs.declared.mode.Mode.TheVariants.{SwitchTo}
use Rattle.svn_drive.specs.Requests.{requested}
use Rattle.svn_run.specs.Beginning.{switched_to}
use Rattle.svn_run.specs.UpdateTheorem.{asked, TurnTheorem}
use Rattle.svn_run.proofs.Theorems.{refused_in_turn, without_memory}
use Rattle.svn_run.proofs.in_turn.switch_to_in_turn.Goals as goal

pub returns-in-Some : goal.returns-in-Some
returns-in-Some c =
    let w = requested c.args.target (SwitchTo c.args.to.now) c.args.late_texts c.args.cancel_after in
    refused_in_turn c.laws.ensures (asked c.args.repo.now c.args.copy.now w) c.true_copy.ensures c.in-Some.fault
    (sym (c.in-Some.ensures w refl refl))

pub returns-in_default-switch_mode : goal.returns-in_default-switch_mode
returns-in_default-switch_mode c =
    let w = requested c.args.target (SwitchTo c.args.to.now) c.args.late_texts c.args.cancel_after in
    without_memory c.laws.ensures (asked c.args.repo.now c.args.copy.now w) c.true_copy.ensures
    (sym (c.in_default.ensures w refl refl)) c.args.copy.now _ refl refl

pub run_tested-requires-clause-target : goal.run_tested-requires-clause-target
run_tested-requires-clause-target c =
    let w = requested c.args.target c.in-Ok.mode c.args.late_texts c.args.cancel_after in
    sym (c.in_default.ensures w refl (ap switched_to c.in-Ok.ensures.mode))

pub returns : goal.returns
returns c =
    subst
    (λ (m : Mode). TurnTheorem
    (asked c.args.repo.now c.args.copy.now (requested c.args.target m c.args.late_texts c.args.cancel_after)) c.run_tested.new.copy
    c.run_tested.result)
    c.in-Ok.ensures.mode c.run_tested.ensures
