use Rattle.std.proofs.Common.{◌∙◌}
use Rattle.svn_disk.proofs.EndsChange.{first_part, last_part}
use Rattle.svn_disk.proofs.task.Task.of_plan.Goals as goal

pub returns-clause-removals : goal.returns-clause-removals
returns-clause-removals c =
    first_part c.in_ok-work.work.items c.in_ok-makings.makings.items c.append.new.self.items c.len-removals.result c.in_ok-append.ensures.items
    (c.len-removals.ensures ∙ c.in_ok-work.work.ok.0) ∙ c.in_ok-work.ensures

pub returns-clause-makings : goal.returns-clause-makings
returns-clause-makings c =
    last_part c.in_ok-work.work.items c.in_ok-makings.makings.items c.append.new.self.items c.len-removals.result c.in_ok-append.ensures.items
    (c.len-removals.ensures ∙ c.in_ok-work.work.ok.0) ∙ c.in_ok-makings.ensures
