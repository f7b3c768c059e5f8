use Rattle.std.proofs.Common.{Vec, Global, inl, inr, rules}
use Rattle.svn_wcrows.specs.Tables.{seen_tables}
use Rattle.svn_disk.specs.Goes.{Stops, no_step}
use Rattle.svn_disk.proofs.Going.{stops_none}
use Rattle.svn_disk.proofs.Running.{breaks_leaves}
use Rattle.svn_disk.proofs.Copies.{mend_none, leaves_read, after_read_ok}
use Rattle.svn_disk.proofs.Queue.{either_read}
use Rattle.svn_disk.specs.declared.plan.PathChange.{PathChange}
use Rattle.svn_disk.specs.Changes.{AreChanged, HasEachChange, IsMended}
use Rattle.svn_disk.specs.Ends.{Turns}
use Rattle.svn_disk.proofs.EndsChange.{on_value, on_both}
use Rattle.svn_disk.proofs.mending.mend.Goals as goal

pub returns-in_err-existing-clause-steps : goal.returns-in_err-existing-clause-steps
returns-in_err-existing-clause-steps g c =
    let none : Stops no_step (g.F.Folder.past c.args.folder.now.folder) (g.F.Folder.past c.args.folder.now.folder) =
    stops_none no_step (g.F.Folder.past c.args.folder.now.folder) in inl (search rules)

pub returns-in_err-existing-clause-crash : goal.returns-in_err-existing-clause-crash
returns-in_err-existing-clause-crash g c = λ sync copy. breaks_leaves (mend_none c.args.what.now.repo.now copy (g.F.Folder.past c.args.folder.now.folder))

pub returns-clause-steps : goal.returns-clause-steps
returns-clause-steps g c = inr (record {
  copy = c.in_ok-existing.existing.copy;
  other = c.in_ok-existing.wanted.copy;
  was = c.in_ok-existing.ensures.was;
  is_true = c.in_ok-existing.ensures.is_true;
  steps = c.bring.ensures.steps;
})

pub returns-clause-crash : goal.returns-clause-crash
returns-clause-crash g c = λ sync copy.
    leaves_read copy c.in_ok-existing.existing.copy (g.F.Folder.past c.args.folder.now.folder) c.in_ok-existing.ensures.was c.args.what.now.repo.now
    c.in_ok-existing.wanted.copy (g.F.Folder.past c.bring.new.folder.folder) c.in_ok-existing.ensures.is_true (c.bring.ensures.crash sync)

pub returns-clause-after : goal.returns-clause-after
returns-clause-after g c = λ sync copy.
    after_read_ok copy c.in_ok-existing.existing.copy (g.F.Folder.past c.args.folder.now.folder) c.in_ok-existing.ensures.was c.args.what.now.repo.now
    c.in_ok-existing.wanted.copy (g.F.Folder.past c.bring.new.folder.folder) c.bring.result c.in_ok-existing.ensures.is_true (c.bring.ensures.after sync)

pub returns-in_err-existing-clause-spares : goal.returns-in_err-existing-clause-spares
returns-in_err-existing-clause-spares g c = λ rows has.
    let none : Stops no_step (g.F.Folder.past c.args.folder.now.folder) (g.F.Folder.past c.args.folder.now.folder) =
    stops_none no_step (g.F.Folder.past c.args.folder.now.folder) in inl (search rules)

pub returns-clause-spares : goal.returns-clause-spares
returns-clause-spares g c = λ rows has. inr (record {
  copy = c.in_ok-existing.wanted.copy;
  is_true = c.in_ok-existing.ensures.is_true;
  spares = either_read (seen_tables c.in_ok-existing.existing.tables) rows (g.F.Folder.past c.args.folder.now.folder) (g.F.Folder.past c.bring.new.folder.folder)
      c.bring.result c.in_ok-existing.ensures.rows has c.in_ok-existing.wanted.copy c.bring.ensures.spares;
})

pub returns-clause-ends : goal.returns-clause-ends
returns-clause-ends g c =
    let old = c.in_ok-existing.existing.copy in
    let new = c.in_ok-existing.wanted.copy in
    let was = g.F.Folder.past c.args.folder.now.folder in
    let now = g.F.Folder.past c.bring.new.folder.folder in
    on_value (λ (list : Vec PathChange Global). HasEachChange old new list.items × Turns (λ a b. AreChanged old new list.items b) was now)
    (λ (list : Vec PathChange Global). IsMended c.args.what.now.repo.now was list.items now) c.bring.result
    (λ list is. record {
      copy = old;
      other = new;
      was = c.in_ok-existing.ensures.was;
      is_true = c.in_ok-existing.ensures.is_true;
      each = is.0;
      ends = is.1;
    })
    (on_both (λ (list : Vec PathChange Global). HasEachChange old new list.items)
    (λ (list : Vec PathChange Global). Turns (λ a b. AreChanged old new list.items b) was now) c.bring.result c.bring.ensures.each c.bring.ensures.ends)
