use Rattle.std.proofs.Common.{inl, inr}
use Rattle.std.specs.Prelude.{codes}
use Rattle.svn_disk.specs.Places.{is_inside}
use Rattle.svn_wcrows.specs.Tables.{seen_tables}
use Rattle.svn_disk.specs.Crashes.{IsKept, IsThere}
use Rattle.svn_disk.proofs.Going.{stops_none}
use Rattle.svn_disk.proofs.Running.{breaks_leaves, leads_leaves, leads_after, runs_leaves, runs_after}
use Rattle.svn_disk.proofs.Copies.{runs_read, aside_leads, aside_breaks, there_none, kept_left}
use Rattle.svn_disk.proofs.Queue.{queue_read, spares_read}
use Rattle.svn_disk.proofs.EndsAgain.{completed_read}
use Rattle.svn_disk.proofs.completion.resume.Goals as goal

pub returns-in-Ok-clause-steps : goal.returns-in-Ok-clause-steps
returns-in-Ok-clause-steps g c = inr c.complete_if_busy.ensures.steps

pub returns-in-Ok-clause-queue : goal.returns-in-Ok-clause-queue
returns-in-Ok-clause-queue g c = λ rows has.
    inr (queue_read (seen_tables c.in-Ok.existing.tables) rows (g.F.Folder.past c.args.folder.now) (g.F.Folder.past c.complete_if_busy.new.folder)
    c.complete_if_busy.result c.in-Ok.ensures.rows has c.complete_if_busy.ensures.queue)

pub returns-in-Ok-clause-spares : goal.returns-in-Ok-clause-spares
returns-in-Ok-clause-spares g c = λ rows has.
    inr (spares_read (seen_tables c.in-Ok.existing.tables) rows (g.F.Folder.past c.args.folder.now) (g.F.Folder.past c.complete_if_busy.new.folder)
    c.complete_if_busy.result c.in-Ok.ensures.rows has c.complete_if_busy.ensures.spares)

pub returns-in-Ok-clause-crash : goal.returns-in-Ok-clause-crash
returns-in-Ok-clause-crash g c = λ sync copy.
    runs_leaves (IsKept copy) (IsThere copy) (IsKept copy) (g.F.Folder.past c.args.folder.now) (g.F.Folder.past c.complete_if_busy.new.folder)
    c.complete_if_busy.result
    (runs_read copy c.in-Ok.existing.nodes.items (g.F.Folder.past c.args.folder.now) c.in-Ok.ensures.database (g.F.Folder.past c.complete_if_busy.new.folder)
    c.complete_if_busy.result (c.complete_if_busy.ensures.crash sync))

pub returns-in-Ok-clause-after : goal.returns-in-Ok-clause-after
returns-in-Ok-clause-after g c = λ sync copy.
    runs_after (IsKept copy) (IsThere copy) (IsThere copy) (IsKept copy) (g.F.Folder.past c.args.folder.now) (g.F.Folder.past c.complete_if_busy.new.folder)
    c.complete_if_busy.result (kept_left copy)
    (runs_read copy c.in-Ok.existing.nodes.items (g.F.Folder.past c.args.folder.now) c.in-Ok.ensures.database (g.F.Folder.past c.complete_if_busy.new.folder)
    c.complete_if_busy.result (c.complete_if_busy.ensures.crash sync))

pub returns-in_err-clear-in-Err-NoCopy-clause-crash : goal.returns-in_err-clear-in-Err-NoCopy-clause-crash
returns-in_err-clear-in-Err-NoCopy-clause-crash g c = λ sync copy.
    breaks_leaves (aside_breaks copy (g.F.Folder.past c.args.folder.now) (g.F.Folder.past c.clear.new.folder) c.in_err-clear-in-Err-NoCopy.ensures.1)

pub returns-in_ok-clear-in-Err-NoCopy-clause-crash : goal.returns-in_ok-clear-in-Err-NoCopy-clause-crash
returns-in_ok-clear-in-Err-NoCopy-clause-crash g c = λ sync copy.
    leads_leaves (aside_leads copy (g.F.Folder.past c.args.folder.now) (g.F.Folder.past c.clear.new.folder) c.in_ok-clear-in-Err-NoCopy.ensures.0)

pub returns-in_ok-clear-in-Err-NoCopy-clause-after : goal.returns-in_ok-clear-in-Err-NoCopy-clause-after
returns-in_ok-clear-in-Err-NoCopy-clause-after g c = λ sync copy.
    leads_after (kept_left copy)
    (aside_leads copy (g.F.Folder.past c.args.folder.now) (g.F.Folder.past c.clear.new.folder) c.in_ok-clear-in-Err-NoCopy.ensures.0)

pub returns-in-Err : goal.returns-in-Err
returns-in-Err g c = record {
  steps = inl (tt, stops_none (is_inside (codes ".svn-new")) (g.F.Folder.past c.args.folder.now));
  queue = λ rows has. inl (tt, stops_none (is_inside (codes ".svn-new")) (g.F.Folder.past c.args.folder.now));
  spares = λ rows has. inl (tt, stops_none (is_inside (codes ".svn-new")) (g.F.Folder.past c.args.folder.now));
  ends = λ rows copy has stands is. absurd cc;
  crash = λ sync copy. breaks_leaves (there_none copy (g.F.Folder.past c.args.folder.now));
  after = λ sync copy. tt;
}

pub returns-in-Ok-clause-ends : goal.returns-in-Ok-clause-ends
returns-in-Ok-clause-ends g c = λ rows copy has stands is.
    completed_read (seen_tables c.in-Ok.existing.tables) rows c.in-Ok.existing.copy copy c.in-Ok.existing.nodes.items (g.F.Folder.past c.args.folder.now)
    (g.F.Folder.past c.complete_if_busy.new.folder) c.in-Ok.ensures.rows has c.in-Ok.ensures.nodes c.in-Ok.ensures.database stands (c.complete_if_busy.ensures.ends is)
