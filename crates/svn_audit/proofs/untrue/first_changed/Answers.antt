use Rattle.std.proofs.Common.{sym, ap, ◌∙◌}
use Rattle.svn_audit.specs.Untrue.{first_changed}
use Rattle.svn_audit.proofs.Reasons.{unchanged}
use Rattle.svn_audit.proofs.untrue.first_changed.Goals as goal

pub returns-then-is_same : goal.returns-then-is_same
returns-then-is_same c =
    sym (ap (first_changed c.args.props.now) (sym (c.is_same.ensures.0 c.if-is_same.true)) ∙ unchanged c.args.props.now)
