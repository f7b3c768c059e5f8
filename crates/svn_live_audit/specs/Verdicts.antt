-- Verdicts on a working copy, by what a server said of the places of its nodes.
--     Gives h heard      a history gives the answer that was heard about a node: about its repository path in its revision
--     IsOfAll nodes heard      of each node of a list that is asked for an answer was heard, in their order
--     untrue_heard w heard      the untrue ones among these nodes, by what was said of each
--     VerdictsHold      of each history that gives the answers, its texts kept as MD5 stand-ins, these are all untrue nodes
use Rattle.std.specs.Prelude.{◌≡◌, ℕ, ◌<◌, ◌≤◌, Bool, true, false, List, length, map, filter, filter_map, Option, Some, None, option_map}
use Rattle.std.specs.List.{AllByRecursion}
use Rattle.std.specs.Map.{keys_of}
use Rattle.md5.specs.Md5.{md5}
use Rattle.svn_types.specs.declared.kind.Kind.TheVariants.{File, Directory}
use Rattle.svn_types.specs.Names.{Path}
use Rattle.svn_digits.specs.StandIns.{stand_in_of_md5, md5_stand_in}
use Rattle.svn_repo.specs.History.{NodeRow, History, node_at, look}
use Rattle.svn_model.specs.declared.base_node.BaseNode.{BaseNode}
use Rattle.svn_model.specs.declared.base_node.BaseNode.TheVariants.{File as FileNode, Dir as DirNode, NotPresent}
use Rattle.svn_model.specs.Nodes.{WorkingCopy, node_revision, node_path}
use Rattle.svn_audit.specs.declared.reason.Reason.{Reason}
use Rattle.svn_audit.specs.declared.reason.Reason.TheVariants.{NoRevision, Nothing}
use Rattle.svn_audit.specs.declared.reason.Untrue.{Untrue}
use Rattle.svn_audit.specs.Places.{Place, file, directory, of_kind, place_reason}
use Rattle.svn_audit.specs.Untrue.{untrue_by, untrue_in}
use Rattle.svn_ask.specs.Answers.{SaidValue}
use Rattle.svn_ask.specs.Answers as said
use Rattle.svn_live_audit.specs.Kept.{kept_history}

-- a node of the copy at its path, and what was said of its place
abbrev pub Heard : Type 0
Heard = (Path × BaseNode) × SaidValue

-- ---- what a history gives

-- a node is there, of which this holds
abbrev pub IsThere : History → ℕ → Path → (NodeRow → Type 0) → Type 0
IsThere h r q Holds = (n : ℕ) × (row : NodeRow) × (look h r q ≡ Some n) × (node_at h n ≡ Some row) × Holds row

abbrev pub GivesAt : History → ℕ → Path → SaidValue → Type 0
GivesAt h r q (said.file sum props) = IsThere h r q (λ row. (row.kind ≡ File) × (md5 row.text ≡ sum) × (row.props ≡ props))
GivesAt h r q (said.directory props names) =
    IsThere h r q (λ row. (row.kind ≡ Directory) × (row.props ≡ props) × (keys_of row.entries ≡ names))
GivesAt h r q (said.of_kind kind) = IsThere h r q (λ row. row.kind ≡ kind)
GivesAt h r q said.nothing = (look h r q ≡ None) × (r < length h.roots)
-- a file is there, or above
GivesAt h r q said.no_directory = Unit {0}
GivesAt h r q said.no_revision = length h.roots ≤ r

-- a history gives the answer about a node
abbrev pub GivesIn : History → Heard → Type 0
GivesIn h heard = GivesAt h (node_revision (Some heard.0.1)) (node_path (Some heard.0.1)) heard.1

-- of a node of the kind that was asked for more is said than its kind
abbrev pub SaysAll : BaseNode → SaidValue → Type 0
SaysAll (FileNode r q text props) (said.of_kind kind) = kind ≡ Directory
SaysAll (DirNode r q true props) (said.of_kind kind) = kind ≡ File
-- whether a file is there is asked then
SaysAll (FileNode r q text props) said.no_directory = ⊥
SaysAll (DirNode r q complete props) said.no_directory = ⊥
SaysAll node value = Unit {0}

abbrev pub SaysAllOf : Heard → Type 0
SaysAllOf heard = SaysAll heard.0.1 heard.1

pub record Gives (h : History) (heard : Heard) : Type 0 where
  pub there : GivesIn h heard
  pub all : SaysAllOf heard

-- ---- the verdict

abbrev pub said_place : SaidValue → Option Place
said_place (said.file sum props) = Some (file (stand_in_of_md5 sum) props)
said_place (said.directory props names) = Some (directory props names)
said_place (said.of_kind kind) = Some (of_kind kind)
said_place said.nothing = None
said_place said.no_directory = None
said_place said.no_revision = None

-- why nothing is there
abbrev pub said_missing : SaidValue → Reason
said_missing said.no_revision = NoRevision
said_missing value = Nothing

abbrev pub untrue_said : WorkingCopy → Heard → Option Untrue
untrue_said w heard =
    let e = heard.0 in
    option_map (untrue_by e.0 e.1) (place_reason w e.0 e.1 (said_missing heard.1) (said_place heard.1))

abbrev pub untrue_heard : WorkingCopy → List Heard → List Untrue
untrue_heard w heard = filter_map (untrue_said w) heard

abbrev pub asks_about : BaseNode → Bool
asks_about (FileNode r q text props) = true
asks_about (DirNode r q complete props) = true
asks_about NotPresent = false

abbrev pub is_asked : Path × BaseNode → Bool
is_asked e = asks_about e.1

abbrev pub IsOfAll : List (Path × BaseNode) → List Heard → Type 0
IsOfAll nodes heard = map (λ (x : Heard). x.0) heard ≡ filter is_asked nodes

abbrev pub VerdictsHold : Type 0
VerdictsHold =
    (h : History) (w : WorkingCopy) (nodes : List (Path × BaseNode)) (heard : List Heard)
    → IsOfAll nodes heard → AllByRecursion (Gives h) heard → untrue_heard w heard ≡ untrue_in (kept_history md5_stand_in h) w nodes
