use Rattle.std.proofs.Common.{◌≡◌, ℕ, ◌+◌, length}
use Rattle.sqlite_record.specs.Fields.{fields_left}
use Rattle.svn_wcdb.specs.Columns.{column, column_in, AreColumns}
use Rattle.svn_wcdb.proofs.columns.Columns.read.Given as goal

-- the columns so far are read, and the others are the values that are still to come
abbrev pub invariant-loop-place : goal.invariant-loop-place
invariant-loop-place l = record {
  long : length l.values ≡ 22;
  read : AreColumns l.place l.values l.bytes;
  left : (c : ℕ) → column_in (fields_left l.fields) c ≡ column l.bytes (l.place + c);
}
