use Rattle.std.proofs.Common.{◌≡◌, map, take, Some}
use Rattle.svn_wcdb.specs.declared.table.TableRow.{TableRow}
use Rattle.svn_wcrows.specs.Work.{list_in, work_bytes}
use Rattle.svn_wcrows.proofs.work.read_work.Given as goal

-- the rows so far are of these items
abbrev pub invariant-loop-row : goal.invariant-loop-row
invariant-loop-row l =
    map (λ work. Some (work_bytes work)) l.items.items ≡ map (λ (row : TableRow). list_in row.bytes) (take l.row-index l.rows)
