use Rattle.std.proofs.Common.{◌≡◌, ◌+◌, map, take, Some}
use Rattle.std.specs.List.{range_with_len}
use Rattle.svn_wcdb.specs.declared.table.TableRow.{TableRow}
use Rattle.svn_wcrows.specs.Work.{list_in, work_bytes}
use Rattle.svn_wcrows.proofs.work.work_rows.Given as goal

-- the rows so far are of the items so far, and numbered
abbrev pub invariant-loop-work : goal.invariant-loop-work
invariant-loop-work l = record {
  number : l.number ≡ l.last + l.work-index;
  lists : map (λ (row : TableRow). list_in row.bytes) l.rows.items ≡ map (λ work. Some (work_bytes work)) (take l.work-index l.items);
  numbers : map (λ (row : TableRow). row.rowid) l.rows.items ≡ range_with_len (l.last + 1) l.work-index;
}
