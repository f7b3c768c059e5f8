use Rattle.std.proofs.Common.{length}
use Rattle.svn_nodes.proofs.Comparing.{HasPassed}
use Rattle.svn_nodes.proofs.replace.pass_to.Given as goal

abbrev pub invariant-beside : goal.invariant-beside
invariant-beside l = HasPassed l.path l.initial.beside l.beside

abbrev pub decreases-beside : goal.decreases-beside
decreases-beside l = length l.beside
