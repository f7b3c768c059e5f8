use Rattle.std.proofs.Common.{length}
use Rattle.std.specs.Option.{option_copied}
use Rattle.svn_wc.proofs.Truly.{Checked}
use Rattle.svn_wc.proofs.working_copy.WorkingCopy.check_true.Given as goal

abbrev pub invariant-nodes : goal.invariant-nodes
invariant-nodes l = Checked l.repo l.self l.left (option_copied l.first)

abbrev pub decreases-nodes : goal.decreases-nodes
decreases-nodes l = length l.left
