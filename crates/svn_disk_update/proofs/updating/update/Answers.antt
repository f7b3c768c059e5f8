use Rattle.std.proofs.Common.{Vec, Global, subst, sym}
use Rattle.svn_disk.specs.declared.plan.PathChange.{PathChange}
use Rattle.svn_disk.specs.Changes.{AreChanged, HasEachChange}
use Rattle.svn_disk.specs.Ends.{Turns}
use Rattle.svn_disk.specs.Crashes.{IsKept}
use Rattle.svn_disk.proofs.Running.{breaks_leaves}
use Rattle.svn_disk.proofs.Copies.{mend_none}
use Rattle.svn_disk_update.proofs.Bringing.{leaves_along, after_along, true_there, old_or_true, arrived}
use Rattle.svn_disk_update.proofs.updating.update.Goals as goal

pub returns-in_err-leading-clause-crash : goal.returns-in_err-leading-clause-crash
returns-in_err-leading-clause-crash g c = λ sync.
    breaks_leaves (mend_none c.args.what.now.repo.now c.args.what.now.existing.now.copy (g.F.Folder.past c.args.folder.now.folder))

pub returns-in_err-changes-clause-crash : goal.returns-in_err-changes-clause-crash
returns-in_err-changes-clause-crash g c = λ sync.
    leaves_along (IsKept c.args.what.now.existing.now.copy) _ _ _ (g.F.Folder.past c.bring.new.folder.folder)
    (old_or_true c.args.what.now.repo.now c.args.what.now.existing.now.copy c.in_ok-leading.leading.wanted.copy c.in_ok-leading.ensures.truth)
    (c.bring.ensures.crash sync)

pub returns-clause-crash : goal.returns-clause-crash
returns-clause-crash g c = λ sync.
    leaves_along (IsKept c.args.what.now.existing.now.copy) _ _ _ (g.F.Folder.past c.bring.new.folder.folder)
    (old_or_true c.args.what.now.repo.now c.args.what.now.existing.now.copy c.in_ok-leading.leading.wanted.copy c.in_ok-leading.ensures.truth)
    (c.bring.ensures.crash sync)

pub returns-clause-after : goal.returns-clause-after
returns-clause-after g c = λ sync.
    after_along (IsKept c.args.what.now.existing.now.copy) _ _ _ (g.F.Folder.past c.bring.new.folder.folder)
    (true_there c.args.what.now.repo.now c.in_ok-leading.leading.wanted.copy c.in_ok-leading.ensures.truth)
    (c.in_ok-changes.ensures.after sync)

pub returns-clause-whole : goal.returns-clause-whole
returns-clause-whole g c = λ sync root.
    after_along (IsKept c.args.what.now.existing.now.copy) _ _ _ (g.F.Folder.past c.bring.new.folder.folder)
    (arrived c.args.what.now.repo.now c.args.what.now.existing.now.copy c.args.what.now c.in_ok-leading.leading.rev c.updated.result.rev c.in_ok-leading.leading.stopped
    c.updated.result.stopped c.in_ok-leading.leading.wanted.copy c.updated.ensures.rev c.updated.ensures.stopped (c.in_ok-leading.ensures.whole root))
    (c.in_ok-changes.ensures.after sync)

pub returns-clause-ends : goal.returns-clause-ends
returns-clause-ends g c =
    let copy = c.in_ok-leading.leading.wanted.copy in
    record {
      copy = copy;
      is_true = c.in_ok-leading.ensures.truth;
      each = subst (λ (list : Vec PathChange Global). HasEachChange c.args.what.now.existing.now.copy copy list.items) (sym c.updated.ensures.changes)
          c.in_ok-changes.ensures.each;
      ends = subst (λ (list : Vec PathChange Global). Turns (λ a b. AreChanged c.args.what.now.existing.now.copy copy list.items b)
          (g.F.Folder.past c.args.folder.now.folder) (g.F.Folder.past c.bring.new.folder.folder)) (sym c.updated.ensures.changes) c.in_ok-changes.ensures.ends;
    }
