-- What an honest server says: so that answers which a history gives are there to be heard, whatever is asked.
--     said_by h node      what a server with this history says at last of the place of a node
--     HonestAnswersAreGiven      its history gives these answers, and they say all that was asked
use Rattle.std.specs.Prelude.{◌≡◌, ℕ, Bool, true, false, List, length, nat_lt, Option, Some, None, if◌then◌else◌}
use Rattle.std.specs.Map.{keys_of}
use Rattle.md5.specs.Md5.{md5}
use Rattle.svn_types.specs.declared.kind.Kind.{Kind}
use Rattle.svn_types.specs.declared.kind.Kind.TheVariants.{File, Directory}
use Rattle.svn_types.specs.Names.{Path}
use Rattle.svn_repo.specs.History.{NodeRow, History, node_at, look}
use Rattle.svn_repo.specs.Laws.{NodesExist}
use Rattle.svn_model.specs.declared.base_node.BaseNode.{BaseNode}
use Rattle.svn_model.specs.declared.base_node.BaseNode.TheVariants.{File as FileNode, Dir as DirNode, NotPresent}
use Rattle.svn_model.specs.Nodes.{node_revision, node_path}
use Rattle.svn_ask.specs.Answers.{SaidValue}
use Rattle.svn_ask.specs.Answers as said
use Rattle.svn_live_audit.specs.Verdicts.{Gives, asks_about}

-- of a node that was asked for as a file, as a directory with its names, or for its kind
abbrev pub of_file : NodeRow → Kind → SaidValue
of_file row File = said.file (md5 row.text) row.props
of_file row Directory = said.of_kind Directory

abbrev pub of_directory : NodeRow → Kind → SaidValue
of_directory row Directory = said.directory row.props (keys_of row.entries)
of_directory row File = said.of_kind File

abbrev pub of_row : BaseNode → NodeRow → SaidValue
of_row (FileNode r q text props) row = of_file row row.kind
of_row (DirNode r q true props) row = of_directory row row.kind
of_row (DirNode r q false props) row = said.of_kind row.kind
of_row NotPresent row = said.of_kind row.kind

abbrev pub of_found : BaseNode → Option NodeRow → SaidValue
of_found node None = said.nothing
of_found node (Some row) = of_row node row

abbrev pub row_of : History → Option ℕ → Option NodeRow
row_of h None = None
row_of h (Some n) = node_at h n

abbrev pub row_at : History → ℕ → Path → Option NodeRow
row_at h r q = row_of h (look h r q)

abbrev pub said_by : History → BaseNode → SaidValue
said_by h node =
    if nat_lt (node_revision (Some node)) (length h.roots) then of_found node (row_at h (node_revision (Some node)) (node_path (Some node)))
    else said.no_revision

abbrev pub HonestAnswersAreGiven : Type 0
HonestAnswersAreGiven =
    (h : History) (p : Path) (node : BaseNode) → NodesExist h → asks_about node ≡ true → Gives h ((p, node), said_by h node)
