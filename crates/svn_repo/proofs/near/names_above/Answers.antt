use Rattle.std.proofs.Common.{ap, sym, ◌∙◌}
use Rattle.svn_types.specs.Paths.{parent}
use Rattle.svn_types.proofs.PathLemmas.{parent-child}
use Rattle.svn_repo.proofs.near.names_above.Goals as goal

pub returns-in-Some : goal.returns-in-Some
returns-in-Some c = sym (ap parent c.in-Some.ensures.cases.0 ∙ parent-child c.in-Some.above.now c.in-Some.field-0-0.now)
