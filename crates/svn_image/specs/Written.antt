-- What a database file has, as `svn_wcdb` reads it.
--     IsWritten database bytes      the bytes have exactly the database's rows
use Rattle.std.specs.Prelude.{◌≡◌, ℕ, List, [], ◌∷◌, All, Ok}
use Rattle.sqlite_format.specs.Bytes.{u32_at}
use Rattle.svn_wcdb.specs.declared.table.TableRow.{TableRow}
use Rattle.svn_wcdb.specs.Images.{File, image_of}
use Rattle.svn_wcdb.specs.Tables.{table_rows}
use Rattle.svn_image.specs.declared.item.Database.{Database}
use Rattle.svn_image.specs.declared.item.Item.{Item}
use Rattle.svn_image.specs.declared.item.Item.TheVariants as items
use Rattle.svn_image.specs.Items.{IsOrdered, AreSchemaRows}

-- the numbers of the header that the database has a say in
pub record HasNumbers (database : Database) (bytes : List ℕ) : Type 0 where
  pub counter : u32_at bytes 24 ≡ database.change_counter
  pub cookie : u32_at bytes 40 ≡ database.schema_cookie
  pub application : u32_at bytes 68 ≡ database.application_id

-- the bytes are a file with these numbers, and with pages of 4096 bytes, all of which are used
pub record IsFile (database : Database) (bytes : List ℕ) (file : File) : Type 0 where
  pub image : image_of bytes ≡ Ok file
  pub size : file.size ≡ 4096
  pub usable : file.usable ≡ 4096
  pub numbers : HasNumbers database bytes

-- a table's tree has its rows, in their order
abbrev pub HasRows : File → Item → ℕ → Type 0
HasRows file (items.Table name sql rows) root = table_rows file root ≡ Ok rows.now
HasRows file (items.Index name table sql records) root = Unit {0}
HasRows file (items.View name sql) root = Unit {0}
HasRows file (items.Trigger name table sql) root = Unit {0}

abbrev pub HaveRows : File → List Item → List ℕ → Type 0
HaveRows file [] roots = Unit {0}
HaveRows file (item ∷ items) [] = ⊥
HaveRows file (item ∷ items) (root ∷ roots) = HasRows file item root × HaveRows file items roots

-- the schema at page 1 and each table's rows are read; `roots` are the root pages of the items
pub record IsRead (database : Database) (roots : List ℕ) (schema : List TableRow) (bytes : List ℕ) : Type 0 where
  pub file : File
  pub header : IsFile database bytes file
  pub schema_read : table_rows file 1 ≡ Ok schema
  pub tables_read : HaveRows file database.items.now roots

-- the schema has a row for each item, which names the root page of its tree, and from there the table's rows are read
pub record IsWritten (database : Database) (bytes : List ℕ) : Type 0 where
  pub ordered : All IsOrdered database.items.now
  pub roots : List ℕ
  pub schema : List TableRow
  pub listed : AreSchemaRows 1 database.items.now roots schema
  pub read : IsRead database roots schema bytes
