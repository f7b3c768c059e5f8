use Rattle.std.proofs.Common.{◌≡◌, ℕ, ◌+◌}
use Rattle.sqlite_record.specs.Fields.{fields_left}
use Rattle.svn_wcdb.specs.Columns.{column, column_in}
use Rattle.svn_wcrows.proofs.values.value_at.Given as goal

-- the values that are still to come are the columns from this one on
abbrev pub invariant-passed : goal.invariant-passed
invariant-passed l = (c : ℕ) → column_in (fields_left l.fields) c ≡ column l.row.bytes (l._passed + c)
