-- Sparse copies: what directories of another depth than infinity leave out, and what was excluded.
--     as_whole row      a row of NODES as one of a whole copy: what was excluded is not present, and a directory has no depth
--     sparse_at folder row      a directory that isn't whole, with its depth, if that is the row
--     left_out_of folder rows      all of them by their paths, and how many entries the user and the server excluded
--     left_out_in takes folder bytes      of a database: nothing where sparse copies aren't taken
use Rattle.std.specs.Prelude.{ℕ, ◌+◌, min, Bool, false, not, ◌&&◌, ◌||◌, List, [], length, filter, filter_map, fold, bytes_eq, codes, Option, Some, None, is_some, option_map, Result, Ok, Err, if◌then◌else◌}
use Rattle.std.specs.BTreeMap.{insert_entry}
use Rattle.svn_types.specs.Names.{Path, path_cmp}
use Rattle.svn_types.specs.PathTexts.{path_text}
use Rattle.svn_wcdb.specs.declared.depth.Depth.{Depth}
use Rattle.svn_wcdb.specs.declared.depth.Depth.TheVariants.{Empty, Files, Immediates}
use Rattle.svn_wcdb.specs.declared.depth.Takes.{Takes}
use Rattle.svn_wcdb.specs.declared.depth.Takes.TheVariants.{Whole, Sparse}
use Rattle.svn_wcdb.specs.declared.fault.Reason.{Reason}
use Rattle.svn_wcdb.specs.declared.fault.TableName.TheVariants as tables
use Rattle.svn_wcdb.specs.declared.left_out.LeftOut as code
use Rattle.svn_wcdb.specs.declared.table.TableRow.{TableRow}
use Rattle.svn_wcdb.specs.Columns.{is_number, path_at}
use Rattle.svn_wcdb.specs.Images.{image_of}
use Rattle.svn_wcdb.specs.Locks.{path_in}
use Rattle.svn_wcdb.specs.Nodes.{NodeRow, row_of}
use Rattle.svn_wcdb.specs.Paths.{place_in, is_in}
use Rattle.svn_wcdb.specs.Reading.{◌>>=◌}
use Rattle.svn_wcdb.specs.Schema.{table_of}
use Rattle.svn_wcdb.specs.Tables.{table_rows}

-- ---- a row as one of a whole copy

-- the depth of a directory that isn't whole (`svn_depth_to_word`)
abbrev pub depth_in : Option (List ℕ) → Option Depth
depth_in None = None
depth_in (Some depth) =
    if bytes_eq depth (codes "empty") then Some Empty
    else if bytes_eq depth (codes "files") then Some Files
    else if bytes_eq depth (codes "immediates") then Some Immediates
    else None

abbrev pub whole_depth : Option (List ℕ) → Option (List ℕ)
whole_depth depth = if is_some (depth_in depth) then None else depth

abbrev pub is_presence : List ℕ → Option (List ℕ) → Bool
is_presence name None = false
is_presence name (Some presence) = bytes_eq presence name

-- by the user
abbrev pub is_excluded : Option (List ℕ) → Bool
is_excluded = is_presence (codes "excluded")

-- by the server, which doesn't show the node
abbrev pub is_withheld : Option (List ℕ) → Bool
is_withheld = is_presence (codes "server-excluded")

abbrev pub whole_presence : Option (List ℕ) → Option (List ℕ)
whole_presence presence = if is_excluded presence || is_withheld presence then Some (codes "not-present") else presence

abbrev pub as_whole : NodeRow → NodeRow
as_whole row = record row { presence = whole_presence row.presence; depth = whole_depth row.depth }

-- ---- what is left out

-- the columns of a row of the base tree
abbrev pub base_columns : Result NodeRow Reason → Option NodeRow
base_columns (Ok row) = if is_number row.op_depth 0 && not row.is_external then Some row else None
base_columns (Err reason) = None

-- of one at the folder or below
abbrev pub base_in : List ℕ → TableRow → Option NodeRow
base_in folder row = if is_in folder (path_at row.bytes) then base_columns (row_of row.bytes) else None

-- a directory that is there, complete or not
abbrev pub is_directory : NodeRow → Bool
is_directory row =
    (is_presence (codes "normal") row.presence || is_presence (codes "incomplete") row.presence) && is_presence (codes "dir") row.kind

abbrev pub depth_of : NodeRow → Option Depth
depth_of row = if is_directory row then depth_in row.depth else None

abbrev pub with_path : List ℕ → NodeRow → Depth → Option (Path × Depth)
with_path folder row depth = option_map (λ path. (path, depth)) (path_in (place_in folder row.path))

abbrev pub sparse_in : List ℕ → NodeRow → Option Depth → Option (Path × Depth)
sparse_in folder row None = None
sparse_in folder row (Some depth) = with_path folder row depth

abbrev pub sparse_row : List ℕ → Option NodeRow → Option (Path × Depth)
sparse_row folder None = None
sparse_row folder (Some row) = sparse_in folder row (depth_of row)

abbrev pub sparse_at : List ℕ → TableRow → Option (Path × Depth)
sparse_at folder row = sparse_row folder (base_in folder row)

-- depths by paths
abbrev pub Depths : Type 0
Depths = List (Path × Depth)

abbrev pub with_depth : Depths → Path × Depth → Depths
with_depth depths entry = insert_entry path_cmp depths entry.0 entry.1

abbrev pub depths_of : List ℕ → List TableRow → Depths
depths_of folder rows = fold with_depth [] (filter_map (sparse_at folder) rows)

-- the rows of the base tree whose presence is so
abbrev pub has_presence : (Option (List ℕ) → Bool) → Option NodeRow → Bool
has_presence is None = false
has_presence is (Some row) = is row.presence

abbrev pub count_of : (Option (List ℕ) → Bool) → List ℕ → List TableRow → ℕ
count_of is folder rows = length (filter (λ (row : TableRow). has_presence is (base_in folder row)) rows)

-- the directories that aren't whole, in path order, and how many entries the user and the server excluded
pub record LeftOut : Type 0 where
  pub depths : Depths
  pub excluded : ℕ
  pub withheld : ℕ

-- as the code has it
abbrev pub seen_left_out : code.LeftOut → LeftOut
seen_left_out l = record { depths = l.depths.entries; excluded = l.excluded; withheld = l.withheld }

abbrev pub nothing_left_out : LeftOut
nothing_left_out = record { depths = []; excluded = 0; withheld = 0 }

abbrev pub left_out_of : List ℕ → List TableRow → LeftOut
left_out_of folder rows =
    record { depths = depths_of folder rows; excluded = count_of is_excluded folder rows; withheld = count_of is_withheld folder rows }

-- ---- row by row

abbrev pub with_entry : Depths → Option (Path × Depth) → Depths
with_entry depths None = depths
with_entry depths (Some entry) = with_depth depths entry

-- one more if it is so, of at most 18446744073709551615
abbrev pub counted_if : Bool → ℕ → ℕ
counted_if so n = if so then min (n + 1) 18446744073709551615 else n

-- with what a row of the base tree leaves out
abbrev pub left_out_with : List ℕ → Option NodeRow → LeftOut → LeftOut
left_out_with folder row l =
    record {
      depths = with_entry l.depths (sparse_row folder row);
      excluded = counted_if (has_presence is_excluded row) l.excluded;
      withheld = counted_if (has_presence is_withheld row) l.withheld;
    }

-- of a row at the folder or below
abbrev pub left_out_by_record : Takes → List ℕ → TableRow → LeftOut → LeftOut
left_out_by_record Whole folder row l = l
left_out_by_record Sparse folder row l = left_out_with folder (base_columns (row_of row.bytes)) l

-- of any
abbrev pub left_out_after : Takes → List ℕ → LeftOut → TableRow → LeftOut
left_out_after takes folder l row = if is_in folder (path_at row.bytes) then left_out_by_record takes folder row l else l

-- ---- of a database

-- the rows of NODES
abbrev pub node_rows : List ℕ → Result (List TableRow) Reason
node_rows bytes = image_of bytes >>= λ file. table_rows file 1 >>= λ schema. table_of file schema tables.Nodes

-- nothing where sparse copies aren't taken
abbrev pub left_out_by : Takes → List ℕ → List TableRow → LeftOut
left_out_by Whole folder rows = nothing_left_out
left_out_by Sparse folder rows = left_out_of folder rows

abbrev pub rows_or_none : Result (List TableRow) Reason → List TableRow
rows_or_none (Ok rows) = rows
rows_or_none (Err reason) = []

abbrev pub left_out_in : Takes → Path → List ℕ → LeftOut
left_out_in takes folder bytes = left_out_by takes (path_text folder) (rows_or_none (node_rows bytes))
