use Rattle.std.proofs.Common.{sym, subst}
use Rattle.std.specs.Prelude.{Result}
use Rattle.svn_types.specs.Names.{Path}
use Rattle.svn_editor.specs.declared.mode.Mode.TheVariants.{SwitchTo}
use Rattle.svn_model.specs.declared.drive_end.DriveEnd.{DriveEnd}
use Rattle.svn_model.specs.declared.drive_fault.DriveFault.{DriveFault}
use Rattle.svn_model.specs.Checks.{target_fault}
use Rattle.svn_model.specs.Ends.{Drives}
use Rattle.svn_drive.specs.Requests.{requested, input_of, drive_for}
use Rattle.svn_drive.proofs.WholeRuns.{never_begun}
use Rattle.svn_drive.proofs.driving.drive_switch.Goals as goal

pub returns-in_default-clone-clause-calls : goal.returns-in_default-clone-clause-calls
returns-in_default-clone-clause-calls g c =
    let o = c.args.options in
    let w = requested c.args.target (SwitchTo c.args.to.now) o.late_texts o.cancel_after in
    let d = input_of c.args.repo.now c.args.report.now w in
    subst
    (λ (r : Result DriveEnd DriveFault). Drives g.E.Editor.answers o.cancel_after (target_fault d) (drive_for c.args.repo.now c.args.report.now w) r
    c.args.editor.now c.give_up.new.editor)
    (sym c.give_up.ensures.end)
    (never_begun g.E.Editor.answers o.cancel_after d o.late_texts c.args.editor.now c.give_up.new.editor (sym c.in_default.ensures)
    c.give_up.ensures.aborted)

pub returns-clause-calls : goal.returns-clause-calls
returns-clause-calls g c =
    let o = c.args.options in
    subst
    (λ (p : Path). let w = requested c.args.target (SwitchTo p) o.late_texts o.cancel_after in
    Drives g.E.Editor.answers o.cancel_after (target_fault (input_of c.args.repo.now c.args.report.now w))
    (drive_for c.args.repo.now c.args.report.now w) c.drive_tested.result c.args.editor.now c.drive_tested.new.editor)
    c.in-Ok.ensures.cases c.drive_tested.ensures
