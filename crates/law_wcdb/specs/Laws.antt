-- The laws of tables, as statements. Each is the contract of the function of its name.
--     rows_read file root      the rows of the table with that root page, each with its number, as a caller of `sqlite_btree` has them
--     IsTableRead pages usable root rows      the rows are those of the tree at the root page
use Rattle.std.specs.Prelude.{◌≡◌, ◌↔◌, ◌≤◌, ◌/◌, ℕ, ℤ, List, length, map, Result, Ok}
use Rattle.std.specs.Int.{w64, cast_signed}
use Rattle.sqlite_format.specs.declared.kind.Tree.TheVariants.{Table}
use Rattle.sqlite_pages.specs.PageMap.{PageMap}
use Rattle.sqlite_record.specs.Strict.{IsRecord}
use Rattle.sqlite_btree.specs.Cut.{Each}
use Rattle.sqlite_btree.specs.Part.{Part, all_pages}
use Rattle.sqlite_btree.specs.Items.{Item, rows_of}
use Rattle.sqlite_btree.specs.Chain.{Layout, entry_of}
use Rattle.sqlite_btree.specs.Stored.{IsTable, IsLaidIn, unordered, as_row}
use Rattle.svn_wcdb.specs.declared.fault.Reason.{Reason}
use Rattle.svn_wcdb.specs.Images.{File, image_of, page_in}
use Rattle.svn_wcdb.specs.Reading.{◌>>=◌}
use Rattle.svn_wcdb.specs.Tables.{Rows, table_rows}
use Rattle.law_wcdb.specs.Trees.{IsTreeWithin, items_within, pages_within, IsWholeItem}

abbrev pub Row : Type 0
Row = ℤ × List ℕ

abbrev pub of_each : {A B : Type 0} → List A → (A → B) → List B
of_each xs f = map f xs

-- SQLite's numbers have a sign
abbrev pub shown : Rows → List Row
shown read = of_each read.0 (λ row. (cast_signed w64 row.rowid, row.bytes))

abbrev pub rows_read : File → ℕ → Result (List Row) Reason
rows_read file root = table_rows file root >>= λ rows. Ok (shown (rows, 0))

-- the rows among a table's items
abbrev pub rows_among : Part → ℕ → List Item → List Row
rows_among pages usable items = map as_row (map (entry_of Table usable pages) (rows_of items))

-- SQLite reads 20 levels
abbrev pub table_items : Part → ℕ → ℕ → List Item
table_items pages usable root = items_within (unordered Table usable) pages 20 root

pub record IsTableRead (pages : Part) (usable root : ℕ) (rows : List Row) : Type 0 where
  pub tree : IsTreeWithin (unordered Table usable) pages 20 root
  pub whole : Each (IsWholeItem pages usable) (table_items pages usable root)
  pub holds : rows_among pages usable (table_items pages usable root) ≡ rows

-- the pages of the table, each as often as it is there, are as many as the file's or fewer
abbrev pub HasPages : File → ℕ → Type 0
HasPages file root = pages_within (unordered Table file.usable) (all_pages (page_in file)) 20 root ≤ length file.bytes / file.size

abbrev pub tables_are_trees : Type 0
tables_are_trees =
    (bytes : List ℕ) (file : File) (root : ℕ) (rows : List Row) → image_of bytes ≡ Ok file → rows_read file root ≡ Ok rows
    → IsTableRead (all_pages (page_in file)) file.usable root rows

-- exactly those rows, exactly if they take no more pages than the file has
abbrev pub trees_are_read : Type 0
trees_are_read =
    (bytes : List ℕ) (file : File) (root : ℕ) (rows : List Row) → image_of bytes ≡ Ok file
    → ((rows_read file root ≡ Ok rows) ↔ (IsTableRead (all_pages (page_in file)) file.usable root rows × HasPages file root))

-- whatever else the file has
abbrev pub stored_rows_are_read : Type 0
stored_rows_are_read =
    (bytes : List ℕ) (file : File) (root : ℕ) (rows stored : List Row) (layout : Layout) → image_of bytes ≡ Ok file
    → IsLaidIn layout (page_in file) → IsTable file.usable layout root stored → rows_read file root ≡ Ok rows → rows ≡ stored

-- such a table is one as it is read, if its payloads are records
abbrev pub stored_tables_are_trees : Type 0
stored_tables_are_trees =
    (pages : PageMap) (usable root : ℕ) (stored : List Row) (layout : Layout) → IsLaidIn layout pages → IsTable usable layout root stored
    → Each (λ (row : Row). IsRecord row.1) stored → IsTableRead (all_pages pages) usable root stored

-- and its pages are no two the same, so all of it is read
abbrev pub stored_tables_are_read : Type 0
stored_tables_are_read =
    (bytes : List ℕ) (file : File) (root : ℕ) (stored : List Row) (layout : Layout) → image_of bytes ≡ Ok file → IsLaidIn layout (page_in file)
    → IsTable file.usable layout root stored → Each (λ (row : Row). IsRecord row.1) stored → rows_read file root ≡ Ok stored
