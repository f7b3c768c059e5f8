-- Rows of NODES, and the base node that each is.
--     row_of record      the columns of a row
--     base_of pristines row      the base node of a row of the base tree, whose text is one of these, or why it is none
use Rattle.std.specs.Prelude.{ℕ, Bool, true, false, List, Option, Some, None, Result, Ok, Err, bytes_eq, codes, if◌then◌else◌}
use Rattle.std.specs.Option.{option_copied}
use Rattle.svn_model.specs.declared.base_node.BaseNode.{BaseNode}
use Rattle.svn_model.specs.declared.base_node.BaseNode.TheVariants as base
use Rattle.svn_types.specs.Names.{Path}
use Rattle.svn_wcdb.specs.declared.fault.Reason.{Reason}
use Rattle.svn_wcdb.specs.declared.fault.TableName.TheVariants as tables
use Rattle.svn_wcdb.specs.declared.fault.Reason.TheVariants.{BadPresence, Excluded, ServerExcluded, BadKind, Depth, IncompleteFile, NoRevision, NoReposPath}
use Rattle.svn_wcdb.specs.declared.node.Presence.{Presence}
use Rattle.svn_wcdb.specs.declared.node.Presence.TheVariants.{Dir, File, NotPresent}
use Rattle.svn_wcdb.specs.declared.row.Row.{Row}
use Rattle.svn_wcdb.specs.Columns.{column, text_in, bytes_in, number_in, is_set}
use Rattle.svn_wcdb.specs.Paths.{path_of}
use Rattle.svn_wcdb.specs.Pristines.{Sizes, text_among}
use Rattle.svn_wcdb.specs.Properties.{props_of}
use Rattle.svn_wcdb.specs.Reading.{◌>>=◌}

-- the columns that a base node is made of
pub record NodeRow : Type 0 where
  pub wc_id : Option ℕ
  pub path : Option (List ℕ)
  pub op_depth : Option ℕ
  pub parent : Option (List ℕ)
  pub repos_id : Option ℕ
  pub repos_path : Option (List ℕ)
  pub revision : Option ℕ
  pub presence : Option (List ℕ)
  pub kind : Option (List ℕ)
  pub properties : Option (List ℕ)
  pub depth : Option (List ℕ)
  pub checksum : Option (List ℕ)
  pub is_external : Bool

-- by their places in the table (wc-metadata.sql)
unfoldable pub row_of : List ℕ → Result NodeRow Reason
row_of bytes = do
  wc_id ← number_in tables.Nodes 0 (column bytes 0)
  path ← text_in tables.Nodes 1 (column bytes 1)
  op_depth ← number_in tables.Nodes 2 (column bytes 2)
  parent ← text_in tables.Nodes 3 (column bytes 3)
  repos_id ← number_in tables.Nodes 4 (column bytes 4)
  repos_path ← text_in tables.Nodes 5 (column bytes 5)
  revision ← number_in tables.Nodes 6 (column bytes 6)
  presence ← text_in tables.Nodes 7 (column bytes 7)
  kind ← text_in tables.Nodes 10 (column bytes 10)
  properties ← bytes_in tables.Nodes 11 (column bytes 11)
  depth ← text_in tables.Nodes 12 (column bytes 12)
  checksum ← text_in tables.Nodes 13 (column bytes 13)
  Ok (record { wc_id = wc_id; path = path; op_depth = op_depth; parent = parent; repos_id = repos_id; repos_path = repos_path; revision = revision; presence = presence; kind = kind; properties = properties; depth = depth; checksum = checksum; is_external = is_set (column bytes 21) })

-- a row as the code has it
abbrev pub seen : Row → NodeRow
seen row =
    record {
      wc_id = row.wc_id;
      path = option_copied row.path;
      op_depth = row.op_depth;
      parent = option_copied row.parent;
      repos_id = row.repos_id;
      repos_path = option_copied row.repos_path;
      revision = row.revision;
      presence = option_copied row.presence;
      kind = option_copied row.kind;
      properties = option_copied row.properties;
      depth = option_copied row.depth;
      checksum = option_copied row.checksum;
      is_external = row.is_external;
    }

-- whether all of a directory is wanted
abbrev pub is_whole : Option (List ℕ) → Bool
is_whole None = true
is_whole (Some depth) = bytes_eq depth (codes "infinity")

abbrev pub file_or_fault : Bool → Result Presence Reason
file_or_fault complete = if complete then Ok File else Err IncompleteFile

abbrev pub dir_or_fault : Option (List ℕ) → Bool → Result Presence Reason
dir_or_fault depth complete = if is_whole depth then Ok (Dir complete) else Err Depth

-- a node that is there, of that kind and depth
abbrev pub present : Option (List ℕ) → Option (List ℕ) → Bool → Result Presence Reason
present None depth complete = Err BadKind
present (Some kind) depth complete =
    if bytes_eq kind (codes "dir") then dir_or_fault depth complete
    else if bytes_eq kind (codes "file") then file_or_fault complete
    else Err BadKind

abbrev pub absent : List ℕ → Result Presence Reason
absent presence =
    if bytes_eq presence (codes "not-present") then Ok NotPresent
    else if bytes_eq presence (codes "excluded") then Err Excluded
    else if bytes_eq presence (codes "server-excluded") then Err ServerExcluded
    else Err BadPresence

abbrev pub presence_in : Option (List ℕ) → Option (List ℕ) → Option (List ℕ) → Result Presence Reason
presence_in None kind depth = Err BadPresence
presence_in (Some presence) kind depth =
    if bytes_eq presence (codes "normal") then present kind depth true
    else if bytes_eq presence (codes "incomplete") then present kind depth false
    else absent presence

abbrev pub presence_of : NodeRow → Result Presence Reason
presence_of row = presence_in row.presence row.kind row.depth

abbrev pub revision_of : Option ℕ → Result ℕ Reason
revision_of None = Err NoRevision
revision_of (Some n) = Ok n

abbrev pub repos_path_of : Option (List ℕ) → Result Path Reason
repos_path_of None = Err NoReposPath
repos_path_of (Some bytes) = path_of bytes

abbrev pub dir_of : NodeRow → Bool → Result BaseNode Reason
dir_of row complete =
    revision_of row.revision >>= λ rev. repos_path_of row.repos_path >>= λ path.
    props_of row.properties >>= λ props. Ok (base.Dir rev path complete props)

abbrev pub file_of : Sizes → NodeRow → Result BaseNode Reason
file_of pristines row =
    revision_of row.revision >>= λ rev. repos_path_of row.repos_path >>= λ path.
    text_among pristines row.checksum >>= λ text. props_of row.properties >>= λ props. Ok (base.File rev path text props)

abbrev pub node_of : Sizes → NodeRow → Presence → Result BaseNode Reason
node_of pristines row (Dir complete) = dir_of row complete
node_of pristines row File = file_of pristines row
node_of pristines row NotPresent = Ok base.NotPresent

abbrev pub base_of : Sizes → NodeRow → Result BaseNode Reason
base_of pristines row = presence_of row >>= node_of pristines row
