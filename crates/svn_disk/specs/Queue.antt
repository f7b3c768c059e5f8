-- What a database on disk has in its tables, and the work that its queue names.
--     HasRows rows found      a database is found, whose tables have these rows
--     is_left rows work      some work is an item of the queue
--     is_queued rows p      some work of the queue is about a path outside of the administrative folder
use Rattle.std.specs.Prelude.{◌≡◌, ℕ, Bool, false, ◌&&◌, ◌||◌, bytes_eq, codes, List, Option, Some, None, Ok}
use Rattle.std.specs.List.{list_any}
use Rattle.svn_types.specs.Names.{Path}
use Rattle.svn_wcdb.specs.declared.table.TableRow.{TableRow}
use Rattle.svn_wcrows.specs.declared.work.Work.{Work}
use Rattle.svn_wcrows.specs.declared.work.Work.TheVariants.{MakeDirectory, InstallFile, RemoveFile, RemoveDirectory}
use Rattle.svn_wcrows.specs.Work.{work_bytes, list_in}
use Rattle.svn_wcrows.specs.Tables.{AllRows, tables_of}
use Rattle.svn_folder.specs.declared.entry.Mode.{Mode}
use Rattle.svn_folder.specs.declared.entry.Entry.{Entry}
use Rattle.svn_folder.specs.declared.entry.Entry.TheVariants.{File}
use Rattle.svn_folder.specs.States.{State, seen}
use Rattle.svn_disk.specs.Places.{is_outside, database_place}

pub record HasRows (rows : AllRows) (found : Option Entry) : Type 0 where
  pub bytes : List ℕ
  pub mode : Mode
  pub is_file : found ≡ Some (File bytes mode)
  pub read : tables_of bytes ≡ Ok rows

-- the database of the copy that a folder has
abbrev pub HasDatabaseRows : AllRows → State → Type 0
HasDatabaseRows rows s = HasRows rows (seen s (database_place (codes ".svn")))

-- a row has this list
abbrev pub is_list : List ℕ → Option (List ℕ) → Bool
is_list bytes None = false
is_list bytes (Some found) = bytes_eq bytes found

abbrev pub is_left : List TableRow → Work → Bool
is_left rows work = list_any (λ row. is_list (work_bytes work) (list_in row.bytes)) rows

abbrev pub is_queued : List TableRow → Path → Bool
is_queued rows p =
    is_outside p && (is_left rows (MakeDirectory p) || is_left rows (InstallFile p) || is_left rows (RemoveFile p) || is_left rows (RemoveDirectory p))
