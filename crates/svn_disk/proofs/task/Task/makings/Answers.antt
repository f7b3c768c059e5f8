use Rattle.std.proofs.Common.{length, drop, ◌-◌, ap, ◌∙◌}
use Rattle.std.specs.List.{list_all}
use Rattle.svn_disk.proofs.Changing.{all_taken, all_dropped}
use Rattle.svn_disk.proofs.task.Task.makings.Goals as goal

pub returns-clause-all : goal.returns-clause-all
returns-clause-all c = λ P h.
    all_taken P (length c.deref.result.now - c.min-count.result) (drop c.min-count.result c.deref.result.now)
    (all_dropped P c.min-count.result c.deref.result.now (ap (list_all P) c.deref.ensures.value ∙ h))
