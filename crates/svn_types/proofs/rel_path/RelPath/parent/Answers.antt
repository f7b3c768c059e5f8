use Rattle.std.proofs.Common.{ap, sym, ◌∙◌}
use Rattle.std.specs.Prelude.{Some}
use Rattle.svn_types.specs.Paths.{parent_path}
use Rattle.svn_types.proofs.PathLemmas.{parent_path-child}
use Rattle.svn_types.proofs.rel_path.RelPath.parent.Goals as goal

pub returns : goal.returns
returns c =
    ap Some c.in_ok-from_names.ensures
    ∙ sym (ap parent_path (sym c.components.ensures.names ∙ c.in-Some.ensures.cases.0)
    ∙ parent_path-child c.in-Some.above.now c.in-Some.field-0-0.now)
