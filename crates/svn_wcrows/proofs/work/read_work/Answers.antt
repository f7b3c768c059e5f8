use Rattle.std.proofs.Common.{List, ℕ, map, Option, Some, sym, ap, subst, ◌∙◌}
use Rattle.std.proofs.lemmas.List.{take_all}
use Rattle.svn_wcdb.specs.declared.table.TableRow.{TableRow}
use Rattle.svn_wcrows.specs.declared.work.Work.{Work}
use Rattle.svn_wcrows.specs.Work.{list_in, work_bytes, IsItemOf}
use Rattle.svn_wcrows.proofs.WorkRows.{one_more}
use Rattle.svn_wcrows.proofs.work.read_work.Goals as goal

abbrev of_row : TableRow → Option (List ℕ)
of_row row = list_in row.bytes

abbrev of_work : Work → Option (List ℕ)
of_work work = Some (work_bytes work)

pub loop-row-preserved : goal.loop-row-preserved
loop-row-preserved c =
    let same = subst (IsItemOf (list_in c.row-item.result.bytes)) c.in-Some.is c.in_ok-work.ensures in
    ap (map of_work) c.in_ok-push.ensures.items
    ∙ one_more of_row of_work c.args.rows.now c.loop-row.row-index c.row-item.result c.loop-row.items.items c.in-Some.work c.loop-row-test.true
    c.row-item.is c.loop-row.invariant (sym same)

pub returns : goal.returns
returns c =
    sym (c.loop-row.invariant ∙ ap (map of_row) (take_all c.loop-row.row-index c.args.rows.now c.loop-row-test.false))
