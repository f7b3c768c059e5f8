use Rattle.std.proofs.Common.{Vec, Global}
use Rattle.svn_disk.specs.declared.plan.PathChange.{PathChange}
use Rattle.svn_disk.specs.Changes.{HasEachChange, IsToMend}
use Rattle.svn_disk.proofs.EndsChange.{on_value}
use Rattle.svn_disk.proofs.mending.mend_changes.Goals as goal

pub returns : goal.returns
returns g c =
    let old = c.in_ok-existing.existing.copy in
    let new = c.in_ok-existing.wanted.copy in
    let now = g.F.Folder.past c.args.folder.now in
    on_value (λ (list : Vec PathChange Global). HasEachChange old new list.items)
    (λ (list : Vec PathChange Global). IsToMend c.args.what.now.repo.now now list.items) c.changes.result
    (λ list each. record { copy = old; other = new; was = c.in_ok-existing.ensures.was; is_true = c.in_ok-existing.ensures.is_true; each = each })
    c.changes.ensures
