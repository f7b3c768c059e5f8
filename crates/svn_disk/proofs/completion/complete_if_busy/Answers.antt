use Rattle.std.specs.Prelude.{codes}
use Rattle.svn_disk.specs.Crashes.{IsSafe, IsWhole}
use Rattle.svn_disk.proofs.Running.{leads_none}
use Rattle.svn_disk.proofs.Whole.{safe_left}
use Rattle.svn_disk.proofs.completion.complete_if_busy.Goals as goal

pub returns-then-not-is_busy-clause-crash : goal.returns-then-not-is_busy-clause-crash
returns-then-not-is_busy-clause-crash g c = λ sync. (
  leads_none (IsSafe (codes ".svn") c.args.existing.nodes.items) (IsWhole (codes ".svn") c.args.existing.nodes.items)
      (safe_left (codes ".svn") c.args.existing.nodes.items) (g.F.Folder.past c.args.folder.now),
  tt,
)

pub returns-clause-ends : goal.returns-clause-ends
returns-clause-ends g c = λ is. c.in_ok-complete.ensures.ends
