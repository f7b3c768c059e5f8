use Rattle.svn_disk.specs.declared.plan.Change.TheVariants.{Restored}
use Rattle.svn_disk.proofs.EachChange.{stay_planned, planned_again}
use Rattle.svn_disk.proofs.plan.Plan.restore_at.Goals as goal

pub returns-clause-stay : goal.returns-clause-stay
returns-clause-stay c = λ none there.
    let old = c.args.self.now.was.now in
    let new = c.args.self.now.wanted.now in
    let entries = c.args.self.now.changes.entries in
    let more = c.insert.new.self.entries in
    stay_planned old new entries more c.args.path Restored c.in_ok-insert.ensures.updates.0
    (planned_again old new entries more c.args.path none there c.in_ok-insert.ensures.updates.1)
