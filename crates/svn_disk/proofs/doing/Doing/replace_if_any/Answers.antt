use Rattle.std.specs.Prelude.{codes}
use Rattle.svn_disk.specs.Crashes.{IsSafe, IsWhole}
use Rattle.svn_disk.proofs.Running.{leads_none}
use Rattle.svn_disk.proofs.Whole.{safe_left}
use Rattle.svn_disk.specs.Ends.{IsExchanged}
use Rattle.svn_disk.proofs.Ends.{turns_none}
use Rattle.svn_disk.proofs.EndsDone.{exchanged_none}
use Rattle.svn_disk.proofs.doing.Doing.replace_if_any.Goals as goal

pub returns-in-None-clause-crash : goal.returns-in-None-clause-crash
returns-in-None-clause-crash g c = λ sync nodes are. (
  leads_none (IsSafe (codes ".svn") nodes) (IsWhole (codes ".svn") nodes) (safe_left (codes ".svn") nodes) (g.F.Folder.past c.args.folder.now),
  tt,
)

pub returns-in-None-clause-ends : goal.returns-in-None-clause-ends
returns-in-None-clause-ends g c = turns_none (IsExchanged (codes ".svn")) (g.F.Folder.past c.args.folder.now) (exchanged_none (codes ".svn"))
