use Rattle.std.proofs.Common.{length}
use Rattle.svn_wc.proofs.Merging.{Passing}
use Rattle.svn_wc.proofs.truth.pass_to.Given as goal

abbrev pub invariant-entries : goal.invariant-entries
invariant-entries l = Passing l.name l.initial.entries l.entries

abbrev pub decreases-entries : goal.decreases-entries
decreases-entries l = length l.entries
