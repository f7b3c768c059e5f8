use Rattle.std.proofs.Common.{◌≡◌, Ok, List, sym, ap, ◌∙◌}
use Rattle.svn_wcdb.specs.declared.table.TableRow.{TableRow}
use Rattle.svn_image.proofs.RowLemmas.{same_rows}
use Rattle.svn_image.proofs.check.check_table.Goals as goal

-- the rows that are read are the same
pub returns-then-eq : goal.returns-then-eq
returns-then-eq c =
    let same : c.as_slice.result.now ≡ c.args.rows.now = same_rows _ _ (sym c.eq.ensures ∙ c.if-eq.true) in
    c.in-Ok.ensures ∙ ap (λ (rows : List TableRow). Ok rows) (sym c.as_slice.ensures.value ∙ same)
