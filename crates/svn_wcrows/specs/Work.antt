-- Items of the work queue in the clients' notation (workqueue.c).
--     work_bytes work      the list that an item is
--     AreItems rows items      the rows of WORK_QUEUE are those of these items, in their order
--     HasForeign rows      one of the rows is of no item that this crate writes
use Rattle.std.specs.Prelude.{◌≡◌, ℕ, List, [], ◌++◌, map, slice_get, codes, Option, Some, None}
use Rattle.svn_types.specs.Names.{Path}
use Rattle.svn_types.specs.PathTexts.{path_text}
use Rattle.law_dump.specs.Laws.{IsPath}
use Rattle.svn_wcdb.specs.declared.table.TableRow.{TableRow}
use Rattle.svn_wcdb.specs.Columns.{column}
use Rattle.svn_wcrows.specs.declared.work.Work.{Work}
use Rattle.svn_wcrows.specs.declared.work.Work.TheVariants.{MakeDirectory, InstallFile, RemoveFile, RemoveDirectory}
use Rattle.svn_wcrows.specs.Skels.{atom_bytes}
use Rattle.svn_wcrows.specs.Values.{bytes_given}

abbrev pub word_of : Work → List ℕ
word_of (MakeDirectory path) = codes "dir-install"
word_of (InstallFile path) = codes "file-install"
word_of (RemoveFile path) = codes "file-remove"
word_of (RemoveDirectory path) = codes "dir-remove"

abbrev pub place_of : Work → Path
place_of (MakeDirectory path) = path
place_of (InstallFile path) = path
place_of (RemoveFile path) = path
place_of (RemoveDirectory path) = path

-- of a file that is put there: commit times aren't used, and its size and time are recorded
abbrev pub flags_of : Work → List ℕ
flags_of (MakeDirectory path) = []
flags_of (InstallFile path) = codes " 1 0 1 1"
flags_of (RemoveFile path) = []
flags_of (RemoveDirectory path) = []

unfoldable pub work_bytes : Work → List ℕ
work_bytes work = codes "(" ++ atom_bytes (word_of work) ++ atom_bytes (path_text (place_of work)) ++ flags_of work ++ codes ")"

-- the list that a row has, by its record
abbrev pub list_in : List ℕ → Option (List ℕ)
list_in row = bytes_given (column row 1)

abbrev pub AreItems : List TableRow → List Work → Type 0
AreItems rows items = map (λ (row : TableRow). list_in row.bytes) rows ≡ map (λ work. Some (work_bytes work)) items

-- no item with a lawful path has the list
abbrev pub IsForeign : Option (List ℕ) → Type 0
IsForeign list = (work : Work) → IsPath (place_of work) → list ≡ Some (work_bytes work) → ⊥

-- the item of a row with that list, or none where it is of another's
abbrev pub IsItemOf : Option (List ℕ) → Option Work → Type 0
IsItemOf list None = IsForeign list
IsItemOf list (Some work) = list ≡ Some (work_bytes work)

-- one of the rows is another's
pub record HasForeign (rows : List TableRow) : Type 0 where
  pub place : ℕ
  pub row : TableRow
  pub found : slice_get rows place ≡ Some row
  pub foreign : IsForeign (list_in row.bytes)

-- the items of rows, or none where a row is of another's
abbrev pub AreRead : List TableRow → Option (List Work) → Type 0
AreRead rows None = HasForeign rows
AreRead rows (Some items) = AreItems rows items
