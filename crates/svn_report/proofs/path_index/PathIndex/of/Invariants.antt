use Rattle.std.proofs.Common.{◌≡◌, take}
use Rattle.std.specs.BTreeSet.{contains}
use Rattle.svn_types.specs.Names.{Path, path_cmp}
use Rattle.svn_report.specs.ReportOrder.{has_entry}
use Rattle.svn_report.proofs.path_index.PathIndex.of.Given as goal

-- the paths of the first entries are put in
abbrev pub invariant-loop-i : goal.invariant-loop-i
invariant-loop-i l = (q : Path) → contains path_cmp l.index q ≡ has_entry (take l.i l.entries.entries) q
