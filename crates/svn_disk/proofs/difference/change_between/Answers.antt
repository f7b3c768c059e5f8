use Rattle.std.proofs.Common.{sym}
use Rattle.svn_disk.proofs.NodeEquality.{node_same}
use Rattle.svn_disk.proofs.difference.change_between.Goals as goal

pub returns-then-eq-clause-none : goal.returns-then-eq-clause-none
returns-then-eq-clause-none c = λ none. node_same c.args.old.now c.args.new.now (sym c.if-eq.ensures)
