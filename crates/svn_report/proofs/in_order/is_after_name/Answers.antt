use Rattle.std.proofs.Common.{length, sym, ap, ◌∙◌}
use Rattle.std.specs.Prelude.{slice_get}
use Rattle.std.specs.Option.{option_copied}
use Rattle.svn_types.specs.Names.{Path}
use Rattle.svn_report.proofs.NextNames.{named_at}
use Rattle.svn_report.proofs.InOrder.{named_behind, itself_behind}
use Rattle.svn_report.proofs.in_order.is_after_name.Goals as goal

pub returns-in-Some : goal.returns-in-Some
returns-in-Some c =
    let looked = c.get.ensures.lookup in
    let other = c.components.result.now in
    let depth = length c.components-then-is_within.result.now in
    let at = sym (named_at other depth c.get.result looked.1 looked.3
    ∙ ap (λ (q : Path). slice_get q depth) c.components.ensures.names
    ∙ ap (λ (p : Path). slice_get c.args.other.now (length p)) c.components-then-is_within.ensures.names) in
    c.lt.ensures
    ∙ named_behind c.args.path.now c.args.name.now c.in-Some.next.now c.args.other.now (sym c.is_within.ensures ∙ c.if-is_within.true) (at ∙ ap option_copied c.in-Some.is)

pub returns-in-None : goal.returns-in-None
returns-in-None c =
    let looked = c.get.ensures.lookup in
    let other = c.components.result.now in
    let depth = length c.components-then-is_within.result.now in
    let at = sym (named_at other depth c.get.result looked.1 looked.3
    ∙ ap (λ (q : Path). slice_get q depth) c.components.ensures.names
    ∙ ap (λ (p : Path). slice_get c.args.other.now (length p)) c.components-then-is_within.ensures.names) in
    itself_behind c.args.path.now c.args.name.now c.args.other.now (sym c.is_within.ensures ∙ c.if-is_within.true) (at ∙ ap option_copied c.in-None.is)
