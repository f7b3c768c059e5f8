use Rattle.std.proofs.Common.{◌≡◌, sym, ap, ◌∙◌}
use Rattle.svn_types.specs.Names.{path_cmp}
use Rattle.svn_types.specs.Paths.{parent}
use Rattle.law_copy.proofs.PathParts.{front_is}
use Rattle.svn_wc.proofs.paths.compare_above.Goals as goal

pub returns-in-Some : goal.returns-in-Some
returns-in-Some c =
    let front : parent c.args.path.now ≡ c.in-Some.front.now =
    ap parent (sym c.components.ensures.names ∙ c.in-Some.ensures.cases.0) ∙ front_is c.in-Some.front.now c.in-Some.field-0-0.now in
    c.cmp.ensures ∙ (λ i. path_cmp (c.components-in-Some.ensures.names i) (sym front i))
