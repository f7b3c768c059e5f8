use Rattle.std.proofs.Common.{◌≡◌, ◌+◌, List, ℕ, map, Option, Some, ap, ◌∙◌, arith}
use Rattle.sqlite_value.specs.Order.{Row}
use Rattle.svn_wcdb.specs.declared.table.TableRow.{TableRow}
use Rattle.svn_wcdb.specs.Columns.{column_in}
use Rattle.svn_wcrows.specs.declared.work.Work.{Work}
use Rattle.svn_wcrows.specs.Values.{bytes_given}
use Rattle.svn_wcrows.specs.Work.{list_in, work_bytes}
use Rattle.svn_wcrows.proofs.WorkRows.{one_more, number_more}
use Rattle.svn_wcrows.proofs.work.work_rows.Goals as goal

abbrev of_row : TableRow → Option (List ℕ)
of_row row = list_in row.bytes

abbrev of_work : Work → Option (List ℕ)
of_work work = Some (work_bytes work)

pub loop-work-preserved : goal.loop-work-preserved
loop-work-preserved c =
    let inv = c.loop-work.invariant in
    let row : TableRow = record { rowid = c.in-Some.next; bytes = c.in_ok-bytes.bytes } in
    let next : c.in-Some.next ≡ c.args.last + (c.loop-work.work-index + 1) = omega (arith, inv.number, c.in-Some.ensures) in
    let place : c.in-Some.next ≡ c.args.last + 1 + c.loop-work.work-index = omega (arith, next) in
    record {
      number = next;
      lists = ap (map of_row) c.in_ok-push.ensures.items
          ∙ one_more of_work of_row c.args.items.now c.loop-work.work-index c.work-item.result c.loop-work.rows.items row c.loop-work-test.true
          c.work-item.is inv.lists (ap (λ (r : Row). bytes_given (column_in r 1)) c.in_ok-bytes.ensures.record);
      numbers = ap (map (λ (r : TableRow). r.rowid)) c.in_ok-push.ensures.items
          ∙ number_more (λ (r : TableRow). r.rowid) c.loop-work.rows.items row (c.args.last + 1) c.loop-work.work-index inv.numbers place;
    }
