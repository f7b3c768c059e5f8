-- What a database has of the tables of a working copy.
--     HasTables tables items      the items have each table with its rows
--     AreWritten numbers tables bytes      the bytes are a database of these tables
use Rattle.std.specs.Prelude.{◌≡◌, ℕ, List, Some, slice_get, codes}
use Rattle.svn_wcdb.specs.declared.table.TableRow.{TableRow}
use Rattle.svn_image.specs.declared.item.Database.{Database}
use Rattle.svn_image.specs.declared.item.Item.{Item}
use Rattle.svn_image.specs.declared.item.Item.TheVariants as items
use Rattle.svn_image.specs.Written.{IsWritten}
use Rattle.svn_wcrows.specs.declared.tables.Table.{Table}
use Rattle.svn_wcrows.specs.declared.tables.Table.TheVariants.{Repository, Wcroot, Pristine, ActualNode, Lock, WorkQueue, WcLock, Nodes, Externals}
use Rattle.svn_wcrows.specs.declared.tables.Tables.{Tables}
use Rattle.svn_wcrows.specs.declared.database.Numbers.{Numbers}

abbrev pub name_of : Table → List ℕ
name_of Repository = codes "REPOSITORY"
name_of Wcroot = codes "WCROOT"
name_of Pristine = codes "PRISTINE"
name_of ActualNode = codes "ACTUAL_NODE"
name_of Lock = codes "LOCK"
name_of WorkQueue = codes "WORK_QUEUE"
name_of WcLock = codes "WC_LOCK"
name_of Nodes = codes "NODES"
name_of Externals = codes "EXTERNALS"

abbrev pub rows_of : Tables → Table → List TableRow
rows_of tables Repository = tables.repository.items
rows_of tables Wcroot = tables.wcroot.items
rows_of tables Pristine = tables.pristine.items
rows_of tables ActualNode = tables.actual_node.items
rows_of tables Lock = tables.lock.items
rows_of tables WorkQueue = tables.work_queue.items
rows_of tables WcLock = tables.wc_lock.items
rows_of tables Nodes = tables.nodes.items
rows_of tables Externals = tables.externals.items

-- a table of that name with these rows
abbrev pub IsTableItem : List ℕ → List TableRow → Item → Type 0
IsTableItem name rows (items.Table n sql found) = (n.now ≡ name) × (found.now ≡ rows)
IsTableItem name rows (items.Index n table sql records) = ⊥
IsTableItem name rows (items.View n sql) = ⊥
IsTableItem name rows (items.Trigger n table sql) = ⊥

-- one of the items is
pub record HasTable (name : List ℕ) (rows : List TableRow) (all : List Item) : Type 0 where
  pub place : ℕ
  pub item : Item
  pub found : slice_get all place ≡ Some item
  pub is_table : IsTableItem name rows item

abbrev pub HasTables : Tables → List Item → Type 0
HasTables tables all = (table : Table) → HasTable (name_of table) (rows_of tables table) all

-- the file is one of items that have these tables; what a table or an index of SQLite's own has is left open
pub record AreWritten (numbers : Numbers) (tables : Tables) (bytes : List ℕ) : Type 0 where
  pub database : Database
  pub counter : database.change_counter ≡ numbers.change_counter
  pub application : database.application_id ≡ numbers.application_id
  pub has : HasTables tables database.items.now
  pub written : IsWritten database bytes
