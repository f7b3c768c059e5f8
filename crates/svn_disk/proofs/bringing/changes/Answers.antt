use Rattle.svn_disk.proofs.EachChange.{list_of}
use Rattle.svn_disk.proofs.bringing.changes.Goals as goal

pub returns : goal.returns
returns g c =
    list_of c.args.existing.now.copy c.args.wanted.now.copy c.in_ok-plan.plan.changes.entries c.into_changes.result c.into_changes.ensures.list
    c.into_changes.ensures.order c.in_ok-plan.ensures.each
