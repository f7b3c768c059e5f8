use Rattle.std.proofs.Common.{None, ap, subst}
use Rattle.svn_editor.specs.declared.mode.Mode.TheVariants.{Update}
use Rattle.svn_drive.specs.Requests.{requested, input_of}
use Rattle.svn_update.specs.ScriptStates.{ScriptState}
use Rattle.svn_update.proofs.DriveLemmas.{AnswersRecorded, drive_recorded}
use Rattle.svn_update.proofs.state.State.drive_report.Goals as goal

pub returns-in-Ok : goal.returns-in-Ok
returns-in-Ok c =
    subst (AnswersRecorded (input_of c.args.self.now.repo c.args.report.now (requested c.args.rev Update c.args.late None)) c.args.late c.drive.new.editor) c.in-Ok.is
    (drive_recorded c.self.inside.repo c.args.self.now.repo c.args.report.now c.args.rev c.args.late c.new-kept.result
    c.drive.new.editor c.drive.result
    (ap (λ (s : ScriptState). s.repo) c.self.view_is) c.new-kept.ensures c.requires.drive c.drive.ensures.calls)

pub returns-in-Err : goal.returns-in-Err
returns-in-Err c =
    subst (AnswersRecorded (input_of c.args.self.now.repo c.args.report.now (requested c.args.rev Update c.args.late None)) c.args.late c.drive.new.editor) c.in-Err.is
    (drive_recorded c.self.inside.repo c.args.self.now.repo c.args.report.now c.args.rev c.args.late c.new-kept.result
    c.drive.new.editor c.drive.result
    (ap (λ (s : ScriptState). s.repo) c.self.view_is) c.new-kept.ensures c.requires.drive c.drive.ensures.calls)
