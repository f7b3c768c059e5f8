use Rattle.std.proofs.Common.{length, sym, ap, ◌∙◌}
use Rattle.std.specs.Prelude.{slice_get}
use Rattle.std.specs.Option.{option_to_list}
use Rattle.svn_types.specs.Names.{Path}
use Rattle.svn_report.proofs.NextNames.{next_named, named_at}
use Rattle.svn_report.proofs.listing.name_below.Goals as goal

pub returns-then-is_within-clause-name : goal.returns-then-is_within-clause-name
returns-then-is_within-clause-name c =
    let looked = c.get.ensures.lookup in
    let below = c.components.result.now in
    let depth = length c.components-then-is_within.result.now in
    ap option_to_list
    (named_at below depth c.get.result looked.1 looked.3
    ∙ ap (λ (q : Path). slice_get q depth) c.components.ensures.names
    ∙ ap (λ (p : Path). slice_get c.args.below.now (length p)) c.components-then-is_within.ensures.names)
    ∙ next_named c.args.above.now c.args.below.now (sym c.is_within.ensures ∙ c.if-is_within.true)
