use Rattle.std.proofs.Common.{[], Some, ap, ◌∙◌}
use Rattle.std.proofs.KnownBytes.{Appends-nil}
use Rattle.svn_lists.proofs.Results.{OnOk_then}
use Rattle.svn_update.proofs.ScriptLemmas.{keeps_change, has_no_memory}
use Rattle.svn_update.proofs.script.run_line.Goals as goal

pub returns-in-Ok-push_change-clause-ok : goal.returns-in-Ok-push_change-clause-ok
returns-in-Ok-push_change-clause-ok g c = (
  [],
  keeps_change c.args.host.now.settings c.args.line.now c.in-Ok-Change.change c.args.state.now c.push_change.new.self
      (c.in-Ok-Change.ensures ∙ ap Some c.in-Ok-Change.field-0-is) c.in-Ok-push_change.ensures.pushed,
  Appends-nil _,
)

pub returns-in-Err-clause-ok : goal.returns-in-Err-clause-ok
returns-in-Err-clause-ok g c =
    OnOk_then c.say.result c.say.ensures.said
    (λ said. (
      _,
      has_no_memory c.args.host.now.settings c.args.line.now c.in-Ok-Change.change c.args.state.now c.push_change.new.self
          (c.in-Ok-Change.ensures ∙ ap Some c.in-Ok-Change.field-0-is) c.in-Err.ensures.refused,
      said,
    ))
