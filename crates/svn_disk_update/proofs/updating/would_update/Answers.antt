use Rattle.std.proofs.Common.{Vec, Global, subst, sym}
use Rattle.svn_disk.specs.declared.plan.PathChange.{PathChange}
use Rattle.svn_disk.specs.Changes.{HasEachChange}
use Rattle.svn_disk_update.proofs.updating.would_update.Goals as goal

pub returns : goal.returns
returns g c =
    let copy = c.in_ok-leading.leading.wanted.copy in
    record {
      copy = copy;
      is_true = c.in_ok-leading.ensures.truth;
      each = subst (λ (list : Vec PathChange Global). HasEachChange c.args.what.now.existing.now.copy copy list.items) (sym c.updated.ensures.changes)
          c.in_ok-changes.ensures;
    }
