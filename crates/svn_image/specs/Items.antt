-- What is written of a database.
--     IsOrdered item      its rows or records ascend
--     schema_values item root      its row in the schema
--     AreSchemaRows n items roots rows      the schema's rows, numbered from n on
use Rattle.std.specs.Prelude.{◌≡◌, ℕ, ◌+◌, pos, Bool, true, false, ◌&&◌, List, [], ◌∷◌, codes, nat_lt, Option, Some, None}
use Rattle.std.specs.Option.{option_copied}
use Rattle.std.specs.declared.cmp.Ordering.{Ordering}
use Rattle.std.specs.declared.cmp.Ordering.TheVariants.{Less}
use Rattle.sqlite_format.specs.Cell.{flip_sign}
use Rattle.sqlite_record.specs.Record.{decode}
use Rattle.sqlite_value.specs.declared.value.Value.{Value}
use Rattle.sqlite_value.specs.declared.value.Value.TheVariants.{Null, Int, Text}
use Rattle.sqlite_value.specs.Keys.{entry_cmp}
use Rattle.sqlite_value.specs.Order.{Row}
use Rattle.svn_wcdb.specs.declared.table.TableRow.{TableRow}
use Rattle.svn_image.specs.declared.item.Item.{Item}
use Rattle.svn_image.specs.declared.item.Item.TheVariants as items

-- ---- order

-- rowids are signed
abbrev pub is_row_before : TableRow → List TableRow → Bool
is_row_before row [] = true
is_row_before row (next ∷ rows) = nat_lt (flip_sign row.rowid) (flip_sign next.rowid)

abbrev pub rows_ascend : List TableRow → Bool
rows_ascend [] = true
rows_ascend (row ∷ rows) = is_row_before row rows && rows_ascend rows

abbrev pub is_less : Ordering → Bool
is_less Less = true
is_less _ = false

-- SQLite's order of records: column by column, and texts by their bytes
abbrev pub is_record_before : List ℕ → List (List ℕ) → Bool
is_record_before entry [] = true
is_record_before entry (next ∷ entries) = is_less (entry_cmp (record { digits = 0 }) (decode entry) (decode next))

abbrev pub records_ascend : List (List ℕ) → Bool
records_ascend [] = true
records_ascend (entry ∷ entries) = is_record_before entry entries && records_ascend entries

abbrev pub IsOrdered : Item → Type 0
IsOrdered (items.Table name sql rows) = rows_ascend rows.now ≡ true
IsOrdered (items.Index name table sql records) = records_ascend records.now ≡ true
IsOrdered (items.View name sql) = Unit {0}
IsOrdered (items.Trigger name table sql) = Unit {0}

-- ---- the schema

abbrev pub sql_value : Option (List ℕ) → Value
sql_value None = Null
sql_value (Some sql) = Text sql

-- type, name, table, root page and SQL (fileformat2.html, section 2.6)
abbrev pub schema_values : Item → ℕ → Row
schema_values (items.Table name sql rows) root = Text (codes "table") ∷ Text name.now ∷ Text name.now ∷ Int (pos root) ∷ Text sql.now ∷ []
schema_values (items.Index name table sql records) root = Text (codes "index") ∷ Text name.now ∷ Text table.now ∷ Int (pos root) ∷ sql_value (option_copied sql) ∷ []
schema_values (items.View name sql) root = Text (codes "view") ∷ Text name.now ∷ Text name.now ∷ Int (pos 0) ∷ Text sql.now ∷ []
schema_values (items.Trigger name table sql) root = Text (codes "trigger") ∷ Text name.now ∷ Text table.now ∷ Int (pos 0) ∷ Text sql.now ∷ []

-- the root page of each item is the one that its row names
abbrev pub AreSchemaRows : ℕ → List Item → List ℕ → List TableRow → Type 0
AreSchemaRows n [] [] [] = Unit {0}
AreSchemaRows n (item ∷ items) (root ∷ roots) (row ∷ rows) =
    (row.rowid ≡ n) × (decode row.bytes ≡ schema_values item root) × AreSchemaRows (n + 1) items roots rows
AreSchemaRows n _ _ _ = ⊥
