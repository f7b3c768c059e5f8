use Rattle.std.proofs.Common.{◌≡◌, length}
use Rattle.svn_model.specs.Nodes.{get_in}
use Rattle.svn_audit.specs.Sparse.{first_missing}
use Rattle.svn_audit.proofs.sparse.SparseAudit.first_missing.Given as goal

abbrev pub invariant-entries : goal.invariant-entries
invariant-entries g l =
    let may = g.L.MayLack.lackable l.self.lackable.now l.path in
    let h = l.self.audit.repo.now in
    let w = get_in l.self.audit.copy.now in
    first_missing may h w l.path l.entries ≡ first_missing may h w l.path l.left

abbrev pub decreases-entries : goal.decreases-entries
decreases-entries g l = length l.left
