use Rattle.std.proofs.Common.{subst}
use Rattle.svn_disk.specs.Ends.{AreDistinct}
use Rattle.svn_disk.proofs.EndsChange.{parted_of}
use Rattle.svn_disk.proofs.bringing.Bringing.task.Goals as goal

pub returns-clause-parted : goal.returns-clause-parted
returns-clause-parted c =
    parted_of c.in_ok-task.task c.args.self.now.plan.now.was.now c.args.self.now.plan.now.wanted.now c.args.self.now.plan.now.changes.entries
    c.in_ok-task.ensures.removals c.in_ok-task.ensures.makings

pub returns-clause-distinct : goal.returns-clause-distinct
returns-clause-distinct c = subst AreDistinct c.makings.ensures.same c.in_ok-refuse_repeated.ensures
