use Rattle.std.proofs.Common.{refl, sym, subst}
use Rattle.svn_model.specs.Nodes.{get_in}
use Rattle.svn_run.specs.Coming.{CameInTurn}
use Rattle.svn_run.specs.UpdateTheorem.{Nodes, asked}
use Rattle.svn_run.proofs.Beginning.{has_target}
use Rattle.svn_run.proofs.Composing.{drive_for}
use Rattle.svn_run.proofs.Knowing.{ends_with}
use Rattle.svn_run.proofs.Reported.{target, is_drive, came}
use Rattle.svn_run.proofs.Theorems.{without_memory, came_in_turn}
use Rattle.svn_run.proofs.in_turn.run_tested.Goals as goal

pub returns-in_default : goal.returns-in_default
returns-in_default g c =
    let a = asked c.args.repo.now c.args.copy.now c.args.request.now in
    without_memory c.laws.ensures a c.true_copy.ensures c.requires.target c.begin.new.copy _ c.in_default.ensures.unchanged refl

pub drive_counted-ended-requires-clause-target : goal.drive_counted-ended-requires-clause-target
drive_counted-ended-requires-clause-target g c =
    let a = asked c.args.repo.now c.args.copy.now c.args.request.now in
    target c.laws.ensures a c.true_copy.ensures c.requires.target c.in-Ok.begun c.in-Ok.ensures.begun

pub drive_counted-ended-requires-clause-drive : goal.drive_counted-ended-requires-clause-drive
drive_counted-ended-requires-clause-drive g c =
    let a = asked c.args.repo.now c.args.copy.now c.args.request.now in
    is_drive c.laws.ensures a c.true_copy.ensures c.requires.target c.in-Ok.begun c.in-Ok.ensures.begun

pub end-requires : goal.end-requires
end-requires g c =
    let a = asked c.args.repo.now c.args.copy.now c.args.request.now in
    let left = c.drive_counted-ended.new.counted.carrier.copy.nodes.entries in
    let h = came c.laws.ensures a c.true_copy.ensures c.requires.target c.in-Ok.begun c.in-Ok.ensures.begun left c.outcome_of-outcome.result _
    c.outcome_of-outcome.ensures.outcome c.drive_counted-ended.ensures in
    ends_with c.laws.ensures a c.true_copy.ensures (has_target a c.requires.target) left c.outcome_of-outcome.result h.came
    c.in-Ok.begun.known c.in-Ok.ensures.begun.unswitched

pub returns : goal.returns
returns g c =
    let a = asked c.args.repo.now c.args.copy.now c.args.request.now in
    let left = c.drive_counted-ended.new.counted.carrier.copy.nodes.entries in
    let outcome = c.outcome_of-outcome.result in
    let h = came c.laws.ensures a c.true_copy.ensures c.requires.target c.in-Ok.begun c.in-Ok.ensures.begun left outcome _
    c.outcome_of-outcome.ensures.outcome c.drive_counted-ended.ensures in
    came_in_turn c.laws.ensures a c.true_copy.ensures c.requires.target c.end.result outcome c.end.ensures.order
    (subst (λ (w : Nodes). CameInTurn (drive_for a) a.request.mode a.request.options.cancel_after (get_in a.copy) w outcome)
    (sym c.end.ensures.nodes) h)
    c.outcome_of-outcome.ensures.never_late
