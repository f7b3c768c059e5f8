use Rattle.std.proofs.Common.{◌≡◌, false, length}
use Rattle.std.specs.BTreeSet.{contains}
use Rattle.svn_types.specs.Names.{path_cmp}
use Rattle.svn_disk.specs.Ends.{AreDistinct}
use Rattle.svn_disk.proofs.EndsWork.{EachPath}
use Rattle.svn_disk.proofs.repeated.refuse_repeated.Given as goal

abbrev pub decreases-work : goal.decreases-work
decreases-work l = length l.rest

abbrev pub invariant-work : goal.invariant-work
invariant-work l = EachPath (λ q. contains path_cmp l.paths q ≡ false) l.rest → AreDistinct l.rest → AreDistinct l.work
