use Rattle.std.proofs.Common.{◌∙◌}
use Rattle.svn_edit.proofs.Switching.{live_is}
use Rattle.svn_edit.proofs.edit.Edit.live_pools.Goals as goal

pub returns-clause-count : goal.returns-clause-count
returns-clause-count c = λ mode w0 nodes calls s. c.live.ensures ∙ live_is mode w0 c.args.self.now nodes calls s

pub returns-clause-left : goal.returns-clause-left
returns-clause-left c = λ calls d left. c.live.ensures ∙ left.1.count
