-- Where the tables of a database are, as its schema says, the table at page 1.
--     root_of name schema      the root page of a table
--     table_of file schema table      its rows
use Rattle.std.specs.Prelude.{ℕ, pos, ◌^◌, Bool, false, ◌&&◌, List, [], ◌∷◌, bytes_eq, codes, nat_lt, Option, Some, None, Result, if◌then◌else◌}
use Rattle.sqlite_value.specs.declared.value.Value.{Value}
use Rattle.sqlite_value.specs.declared.value.Value.TheVariants.{Int, Text}
use Rattle.svn_wcdb.specs.declared.fault.Reason.{Reason}
use Rattle.svn_wcdb.specs.declared.fault.Reason.TheVariants.{NoTable}
use Rattle.svn_wcdb.specs.declared.fault.TableName.{TableName}
use Rattle.svn_wcdb.specs.declared.fault.TableName.TheVariants as tables
use Rattle.svn_wcdb.specs.declared.table.TableRow.{TableRow}
use Rattle.svn_wcdb.specs.Columns.{column}
use Rattle.svn_wcdb.specs.Images.{File}
use Rattle.svn_wcdb.specs.Reading.{◌>>=◌, given}
use Rattle.svn_wcdb.specs.Tables.{table_rows}

abbrev pub name_of : TableName → List ℕ
name_of tables.Nodes = codes "NODES"
name_of tables.Repository = codes "REPOSITORY"
name_of tables.Wcroot = codes "WCROOT"
name_of tables.Pristine = codes "PRISTINE"
name_of tables.ActualNode = codes "ACTUAL_NODE"
name_of tables.WcLock = codes "WC_LOCK"
name_of tables.Lock = codes "LOCK"
name_of tables.WorkQueue = codes "WORK_QUEUE"

abbrev pub is_text : Value → List ℕ → Bool
is_text (Text found) text = bytes_eq found text
is_text _ text = false

abbrev pub page_number : Value → Option ℕ
page_number (Int (pos n)) = if nat_lt n (2 ^ 32) then Some n else None
page_number _ = None

-- the root page of a table, where that is the table that this row of the schema is about
unfoldable pub root_in : List ℕ → List ℕ → Option ℕ
root_in name row =
    if is_text (column row 0) (codes "table") && is_text (column row 1) name then page_number (column row 3) else None

abbrev pub or_else : Option ℕ → Option ℕ → Option ℕ
or_else (Some n) other = Some n
or_else None other = other

abbrev pub root_of : List ℕ → List TableRow → Option ℕ
root_of name [] = None
root_of name (row ∷ rows) = or_else (root_in name row.bytes) (root_of name rows)

unfoldable pub table_of : File → List TableRow → TableName → Result (List TableRow) Reason
table_of file schema table = given (NoTable table) (root_of (name_of table) schema) >>= table_rows file
