-- The base tree of a working copy.
--     base_tree_of bytes      the base tree that the bytes of a database stand for, or the first fault
--     base_tree_at folder bytes      the same of what is at a folder and below, as a tree of its own
--     base_tree_in takes folder bytes      the same where sparse copies are taken too
use Rattle.std.specs.Prelude.{◌≡◌, ℕ, ◌+◌, min, Bool, not, ◌&&◌, List, [], ◌∷◌, ◌++◌, length, filter, nat_eq, bytes_eq, Option, Some, None, true, false, Result, Ok, Err, if◌then◌else◌}
use Rattle.svn_model.specs.declared.base_node.BaseNode.{BaseNode}
use Rattle.svn_types.specs.Names.{Path}
use Rattle.svn_wcdb.specs.declared.base_tree.BaseTree.{BaseTree}
use Rattle.svn_wcdb.specs.declared.base_tree.Origin.{Origin}
use Rattle.svn_wcdb.specs.declared.depth.Takes.{Takes}
use Rattle.svn_wcdb.specs.declared.depth.Takes.TheVariants.{Whole, Sparse}
use Rattle.svn_wcdb.specs.declared.fault.Reason.{Reason}
use Rattle.svn_wcdb.specs.declared.fault.Reason.TheVariants.{NotOneRoot, NoRoot, NoRepository, OtherRepository, BadColumn, WrongParent}
use Rattle.svn_wcdb.specs.declared.fault.TableName.{TableName}
use Rattle.svn_wcdb.specs.declared.fault.TableName.TheVariants as tables
use Rattle.svn_wcdb.specs.declared.nodes.Found as nodes
use Rattle.svn_wcdb.specs.declared.nodes.References as refs
use Rattle.svn_wcdb.specs.declared.notes.Notes.{Notes}
use Rattle.svn_wcdb.specs.declared.table.TableRow.{TableRow}
use Rattle.svn_types.specs.PathTexts.{path_text}
use Rattle.svn_wcdb.specs.Columns.{column, text_in, number_in, number_at, path_at, is_number}
use Rattle.svn_wcdb.specs.Images.{File, image_of}
use Rattle.svn_wcdb.specs.Locks.{locks_of, locked_in}
use Rattle.svn_wcdb.specs.Nodes.{NodeRow, row_of, base_of}
use Rattle.svn_wcdb.specs.Paths.{path_of, text_from, place_in, is_parent, is_in}
use Rattle.svn_wcdb.specs.Pristines.{Sizes, pristines_of}
use Rattle.svn_wcdb.specs.Reading.{◌>>=◌, Place, at, given, each}
use Rattle.svn_wcdb.specs.Schema.{table_of}
use Rattle.svn_wcdb.specs.Sparse.{as_whole}
use Rattle.svn_wcdb.specs.Tables.{table_rows}

-- where it comes from, the texts that files may have, the nodes in the order of their rows, and what was passed over; paths are from the folder on
pub record Base : Type 0 where
  pub origin : Origin
  pub pristines : Sizes
  pub nodes : List (Path × BaseNode)
  pub notes : Notes

-- a tree as the code has it
abbrev pub seen_base : BaseTree → Base
seen_base tree = record { origin = tree.origin; pristines = tree.pristines; nodes = tree.nodes.items; notes = tree.notes }

abbrev pub is_text : Option (List ℕ) → List ℕ → Bool
is_text None text = false
is_text (Some bytes) text = bytes_eq bytes text

-- ---- the root

-- a row of the base tree at a path
abbrev pub is_base_at : List ℕ → List ℕ → Bool
is_base_at path row = is_text (path_at row) path && is_number (number_at 2 row) 0

abbrev pub base_row : List ℕ → List TableRow → Option (List ℕ)
base_row path [] = None
base_row path (row ∷ rows) = if is_base_at path row.bytes then Some row.bytes else base_row path rows

-- the number of the one row
abbrev pub one_root : List TableRow → Result ℕ Reason
one_root [] = Err NotOneRoot
one_root (row ∷ []) = Ok row.rowid
one_root (row ∷ other ∷ rows) = Err NotOneRoot

abbrev pub repos_of : List ℕ → Result ℕ Reason
repos_of row = number_in tables.Nodes 4 (column row 4) >>= given NoRepository

-- the repository of the copy's root, which a folder of it is of too
unfoldable pub repos_in : List ℕ → List TableRow → Result ℕ Place
repos_in folder rows = at None (given NoRoot (base_row [] rows)) >>= λ row. at (place_in folder (Some [])) (repos_of row)

-- ---- the repository

abbrev pub text_given : ℕ → List ℕ → Result (List ℕ) Reason
text_given c row = text_in tables.Repository c (column row c) >>= given (BadColumn tables.Repository c)

unfoldable pub origin_of : List ℕ → Result Origin Reason
origin_of row = text_given 2 row >>= λ uuid. text_given 1 row >>= λ url. Ok (record { uuid = uuid; url = url })

abbrev pub origin_in : ℕ → List TableRow → Result Origin Reason
origin_in id [] = Err NoRepository
origin_in id (row ∷ rows) = if nat_eq row.rowid id then origin_of row.bytes else origin_in id rows

-- ---- the nodes

-- what rows of NODES refer to: the root, its repository, and the texts; and the folder that is looked at
pub record References : Type 0 where
  pub wc_id : ℕ
  pub repos_id : ℕ
  pub folder : List ℕ
  pub pristines : Sizes

-- as the code has it
abbrev pub seen_references : refs.References → References
seen_references to = record { wc_id = to.wc_id; repos_id = to.repos_id; folder = to.folder.now; pristines = to.pristines.now }

-- the nodes so far, and what was passed over
abbrev pub Found : Type 0
Found = List (Path × BaseNode) × Notes

-- as the code has them
abbrev pub seen_found : nodes.Found → Found
seen_found found = (found.nodes.items, found.notes)

abbrev pub none_yet : Found
none_yet = ([], record { changes = 0; externals = 0; actual = 0; locks = 0; work = 0; locked = 0 })

-- one more, of at most 18446744073709551615
abbrev pub counted : ℕ → ℕ
counted n = min (n + 1) 18446744073709551615

abbrev pub one_change : Found → Found
one_change found = (found.0, record (found.1) { changes = counted found.1.changes })

abbrev pub one_external : Found → Found
one_external found = (found.0, record (found.1) { externals = counted found.1.externals })

-- the path in the folder of a row that names the path above as its parent, by which a client finds it
abbrev pub path_from : List ℕ → NodeRow → List ℕ → Result Path Reason
path_from folder row text =
    given (BadColumn tables.Nodes 1) (text_from folder text) >>= λ place. path_of place >>= λ path.
    if is_parent row.parent text then Ok path else Err WrongParent

abbrev pub one_node : References → NodeRow → Found → Result Found Reason
one_node to row found =
    given (BadColumn tables.Nodes 1) row.path >>= λ text. path_from to.folder row text >>= λ path.
    base_of to.pristines row >>= λ node. Ok (found.0 ++ (path, node) ∷ [], found.1)

-- a row of that working copy and repository
unfoldable pub node_after : References → NodeRow → Found → Result Found Reason
node_after to row found =
    if not (is_number row.wc_id to.wc_id) then Err NotOneRoot
    else if not (is_number row.op_depth 0) then Ok (one_change found)
    else if row.is_external then Ok (one_external found)
    else if not (is_number row.repos_id to.repos_id) then Err OtherRepository
    else one_node to row found

unfoldable pub record_after : References → TableRow → Found → Result Found Reason
record_after to row found = row_of row.bytes >>= λ columns. node_after to columns found

-- of a row outside of the folder only the path is looked at; a fault in another is at its path
unfoldable pub placed_after : References → TableRow → Found → Result Found Place
placed_after to row found =
    if is_in to.folder (path_at row.bytes) then at (place_in to.folder (path_at row.bytes)) (record_after to row found) else Ok found

-- the same of a row of a sparse copy, taken as one of a whole copy
unfoldable pub sparse_record_after : References → TableRow → Found → Result Found Reason
sparse_record_after to row found = row_of row.bytes >>= λ columns. node_after to (as_whole columns) found

unfoldable pub sparse_placed_after : References → TableRow → Found → Result Found Place
sparse_placed_after to row found =
    if is_in to.folder (path_at row.bytes) then at (place_in to.folder (path_at row.bytes)) (sparse_record_after to row found) else Ok found

abbrev pub record_in : Takes → References → TableRow → Found → Result Found Reason
record_in Whole = record_after
record_in Sparse = sparse_record_after

abbrev pub placed_in : Takes → References → TableRow → Found → Result Found Place
placed_in Whole = placed_after
placed_in Sparse = sparse_placed_after

-- a row of a local change adds no node
abbrev pub LocalRowsChangeNothing : Type 0
LocalRowsChangeNothing =
    (to : References) (row : TableRow) (columns : NodeRow) (found : Found) → row_of row.bytes ≡ Ok columns → is_number columns.wc_id to.wc_id ≡ true
    → is_number columns.op_depth 0 ≡ false → record_after to row found ≡ Ok (one_change found)

-- ---- the other tables

-- how many rows are at the folder or below, by the path in them
abbrev pub count_in : List ℕ → List TableRow → ℕ
count_in folder rows = length (filter (λ (row : TableRow). is_in folder (path_at row.bytes)) rows)

abbrev pub count_of : File → List TableRow → List ℕ → TableName → Result ℕ Reason
count_of file schema folder table = table_of file schema table >>= λ rows. Ok (count_in folder rows)

abbrev pub locked_of : File → List TableRow → References → Found → Result ℕ Reason
locked_of file schema to found = table_of file schema tables.Lock >>= λ rows. Ok (locked_in (locks_of to.repos_id rows) found.0)

-- unfinished work has no path
abbrev pub notes_of : File → List TableRow → References → Found → Result Notes Reason
notes_of file schema to found = do
  actual ← count_of file schema to.folder tables.ActualNode
  locks ← count_of file schema to.folder tables.WcLock
  work ← count_of file schema [] tables.WorkQueue
  locked ← locked_of file schema to found
  Ok (record (found.1) { actual = actual; locks = locks; work = work; locked = locked })

-- a fault outside the rows of NODES is at no path
unfoldable pub tree_in : Takes → List ℕ → File → Result Base Place
tree_in takes folder file = do
  schema ← at None (table_rows file 1)
  roots ← at None (table_of file schema tables.Wcroot)
  wc_id ← at None (one_root roots)
  rows ← at None (table_of file schema tables.Nodes)
  repos_id ← repos_in folder rows
  repositories ← at None (table_of file schema tables.Repository)
  origin ← at None (origin_in repos_id repositories)
  texts ← at None (table_of file schema tables.Pristine)
  pristines ← at None (pristines_of texts)
  to ← Ok (record { wc_id = wc_id; repos_id = repos_id; folder = folder; pristines = pristines })
  found ← each (placed_in takes to) rows none_yet
  notes ← at None (notes_of file schema to found)
  Ok (record { origin = origin; pristines = pristines; nodes = found.0; notes = notes })

unfoldable pub base_tree_in : Takes → Path → List ℕ → Result Base Place
base_tree_in takes folder bytes = at None (image_of bytes) >>= tree_in takes (path_text folder)

abbrev pub base_tree_at : Path → List ℕ → Result Base Place
base_tree_at = base_tree_in Whole

abbrev pub base_tree_of : List ℕ → Result Base Place
base_tree_of = base_tree_at []
