-- Rows of NODES.
use Rattle.std.proofs.Common.{refl}
use Rattle.svn_wcdb.specs.Bases.{node_after, record_after, LocalRowsChangeNothing}

pub local_row : LocalRowsChangeNothing
unfolding record_after node_after
local_row to row columns found reads ours local = rw (reads, ours, local) refl
