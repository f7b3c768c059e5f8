use Rattle.std.proofs.Common.{sym, ap, ◌∙◌}
use Rattle.std.specs.Option.{option_copied}
use Rattle.svn_audit.proofs.Reasons.{no_props}
use Rattle.svn_audit.proofs.untrue.is_ordered.Goals as goal

pub returns-in_default : goal.returns-in_default
returns-in_default c = no_props c.args.node.now (sym c.props.ensures ∙ ap option_copied c.in_default.is)
