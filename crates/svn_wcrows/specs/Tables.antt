-- What is read of a database: all rows of its tables.
--     tables_of bytes      the rows of the database that the bytes are, or the first fault
use Rattle.std.specs.Prelude.{ℕ, Bool, false, not, ◌&&◌, ◌||◌, List, [], ◌∷◌, codes, Option, Some, None, Result, Ok, Err, if◌then◌else◌}
use Rattle.sqlite_value.specs.declared.value.Value.{Value}
use Rattle.svn_wcdb.specs.declared.fault.Reason.{Reason}
use Rattle.svn_wcdb.specs.declared.fault.TableName.TheVariants as tables
use Rattle.svn_wcdb.specs.declared.table.TableRow.{TableRow}
use Rattle.svn_wcdb.specs.Columns.{column}
use Rattle.svn_wcdb.specs.Images.{File, image_of}
use Rattle.svn_wcdb.specs.Reading.{◌>>=◌}
use Rattle.svn_wcdb.specs.Schema.{is_text, root_of, table_of}
use Rattle.svn_wcdb.specs.Tables.{table_rows}
use Rattle.svn_wcrows.specs.declared.fault.RowsFault.{RowsFault}
use Rattle.svn_wcrows.specs.declared.fault.RowsFault.TheVariants.{UnknownTable}
use Rattle.svn_wcrows.specs.declared.tables.Tables.{Tables}
use Rattle.svn_wcrows.specs.Reading.{by_reason}
use Rattle.svn_wcrows.specs.Values.{number_given}

-- the rows of each table in their order, and the largest number that work has had
pub record AllRows : Type 0 where
  pub repository : List TableRow
  pub wcroot : List TableRow
  pub pristine : List TableRow
  pub actual_node : List TableRow
  pub lock : List TableRow
  pub work_queue : List TableRow
  pub wc_lock : List TableRow
  pub nodes : List TableRow
  pub externals : List TableRow
  pub last_work : ℕ

-- as the code has them
abbrev pub seen_tables : Tables → AllRows
seen_tables tables =
    record {
      repository = tables.repository.items;
      wcroot = tables.wcroot.items;
      pristine = tables.pristine.items;
      actual_node = tables.actual_node.items;
      lock = tables.lock.items;
      work_queue = tables.work_queue.items;
      wc_lock = tables.wc_lock.items;
      nodes = tables.nodes.items;
      externals = tables.externals.items;
      last_work = tables.last_work;
    }

-- ---- tables that no working copy of this format has

-- what the copy is of, what is left to do, and what is locked
abbrev pub copy_tables : List (List ℕ)
copy_tables = codes "REPOSITORY" ∷ codes "WCROOT" ∷ codes "LOCK" ∷ codes "WORK_QUEUE" ∷ codes "WC_LOCK" ∷ []

abbrev pub node_tables : List (List ℕ)
node_tables = codes "PRISTINE" ∷ codes "ACTUAL_NODE" ∷ codes "NODES" ∷ codes "EXTERNALS" ∷ []

-- those that SQLite keeps for itself
abbrev pub own_tables : List (List ℕ)
own_tables = codes "sqlite_sequence" ∷ codes "sqlite_stat1" ∷ []

abbrev pub is_among : Value → List (List ℕ) → Bool
is_among value [] = false
is_among value (name ∷ names) = is_text value name || is_among value names

abbrev pub is_known : Value → Bool
is_known name = is_among name copy_tables || (is_among name node_tables || is_among name own_tables)

-- a row of the schema that is about another table
unfoldable pub is_foreign : List ℕ → Bool
is_foreign row = is_text (column row 0) (codes "table") && not (is_known (column row 1))

abbrev pub has_foreign : List TableRow → Bool
has_foreign [] = false
has_foreign (row ∷ rows) = is_foreign row.bytes || has_foreign rows

-- ---- tables that may be missing

abbrev pub rows_at : File → Option ℕ → Result (List TableRow) Reason
rows_at file None = Ok []
rows_at file (Some root) = table_rows file root

unfoldable pub rows_if_any : File → List TableRow → List ℕ → Result (List TableRow) Reason
rows_if_any file schema name = rows_at file (root_of name schema)

-- ---- the largest number of work, which SQLite keeps

abbrev pub or_zero : Option ℕ → ℕ
or_zero None = 0
or_zero (Some n) = n

abbrev pub last_work : List TableRow → ℕ
last_work [] = 0
last_work (row ∷ rows) = if is_text (column row.bytes 0) (codes "WORK_QUEUE") then or_zero (number_given (column row.bytes 1)) else last_work rows

-- the rows of EXTERNALS, and that number
unfoldable pub others_in : File → List TableRow → Result (List TableRow × ℕ) Reason
others_in file schema = do
  externals ← rows_if_any file schema (codes "EXTERNALS")
  sequence ← rows_if_any file schema (codes "sqlite_sequence")
  Ok (externals, last_work sequence)

-- ---- all tables

unfoldable pub tables_in : File → List TableRow → Result AllRows Reason
tables_in file schema = do
  repository ← table_of file schema tables.Repository
  wcroot ← table_of file schema tables.Wcroot
  pristine ← table_of file schema tables.Pristine
  actual_node ← table_of file schema tables.ActualNode
  lock ← table_of file schema tables.Lock
  work_queue ← table_of file schema tables.WorkQueue
  wc_lock ← table_of file schema tables.WcLock
  nodes ← table_of file schema tables.Nodes
  others ← others_in file schema
  Ok (record { repository = repository; wcroot = wcroot; pristine = pristine; actual_node = actual_node; lock = lock; work_queue = work_queue; wc_lock = wc_lock; nodes = nodes; externals = others.0; last_work = others.1 })

-- what is written afresh would lose a table that isn't known
abbrev pub known_in : File → List TableRow → Result AllRows RowsFault
known_in file schema = if has_foreign schema then Err UnknownTable else by_reason (tables_in file schema)

unfoldable pub tables_of : List ℕ → Result AllRows RowsFault
tables_of bytes = by_reason (image_of bytes) >>= λ file. by_reason (table_rows file 1) >>= λ schema. known_in file schema
