use Rattle.std.proofs.Common.{◌∙◌, ap}
use Rattle.std.specs.Option.{option_or}
use Rattle.svn_run.specs.UpdateTheorem.{capacity_fault}
use Rattle.svn_run.proofs.in_threads.refusal.Goals as goal

pub returns-in-Some : goal.returns-in-Some
returns-in-Some c = λ w target to. ap (λ f. option_or f (capacity_fault c.args.capacity)) (c.in-Some.ensures w target to)

pub returns-in-None : goal.returns-in-None
returns-in-None c = λ w target to.
    c.capacity_fault.ensures ∙ ap (λ f. option_or f (capacity_fault c.args.capacity)) (c.in-None.ensures w target to)
