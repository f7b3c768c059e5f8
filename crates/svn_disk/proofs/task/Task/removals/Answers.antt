use Rattle.std.proofs.Common.{ap, ◌∙◌}
use Rattle.std.specs.List.{list_all}
use Rattle.svn_disk.proofs.Changing.{all_taken}
use Rattle.svn_disk.specs.Tasks.{removals_in}
use Rattle.svn_disk.proofs.task.Task.removals.Goals as goal

pub returns-clause-all : goal.returns-clause-all
returns-clause-all c = λ P h. all_taken P c.min-count.result c.deref.result.now (ap (list_all P) c.deref.ensures.value ∙ h)
