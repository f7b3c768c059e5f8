use Rattle.std.proofs.Common.{ap, ◌∙◌, List}
use Rattle.svn_audit.specs.declared.reason.Untrue.{Untrue}
use Rattle.svn_answers.specs.Untold.{is_untold}
use Rattle.svn_answers.proofs.untold.has_untold.Goals as goal

pub returns : goal.returns
returns c = c.is_untold.ensures ∙ ap (λ (l : List Untrue). is_untold c.args.first l) c.deref.ensures.value
