use Rattle.std.proofs.Common.{List, ◌++◌, sym, ◌∙◌, ap}
use Rattle.std.specs.List.{zip}
use Rattle.svn_lists.proofs.Zips.{zip_parts}
use Rattle.svn_types.proofs.NameLemmas.{Name}
use Rattle.svn_name_map.specs.Runs.{joined}
use Rattle.svn_name_map.proofs.iter.Iter.of.Goals as goal

pub returns : goal.returns
returns g c =
    (λ i. zip (c.names.ensures.names i) (c.values.ensures i) ++ joined c.in-Some.runs.now)
    ∙ ap (λ (es : List (Name × g.row.V.Denot)). es ++ joined c.in-Some.runs.now) (zip_parts c.in-Some.run'.now)
    ∙ ap joined (sym c.in-Some.ensures.cases.0)
