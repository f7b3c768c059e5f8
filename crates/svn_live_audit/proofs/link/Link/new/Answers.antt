use Rattle.std.proofs.Common.{◌≡◌, true, sym, ap, ◌∙◌}
use Rattle.svn_live_audit.specs.Conversations.{is_ready}
use Rattle.svn_live_audit.proofs.Lookings.{ready_at_first}
use Rattle.svn_live_audit.proofs.link.Link.new.Goals as goal

pub invariant_of-result : goal.invariant_of-result
invariant_of-result g c = record { ready = ap is_ready c.new-2.ensures ∙ ready_at_first c.args.speaker }
