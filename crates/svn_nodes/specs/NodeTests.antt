-- What an edit asks of the nodes of a copy, and what its end makes of them.
--     Gives fault value answer      the result of a call that gives a value: that fault, or there is none and the value is this one
--     AnswersAs fault answer      the same of the fault alone
--     IsSumOf sum nodes p      the checksum, if there is one, is that of the text at the path
use Rattle.std.specs.Prelude.{ℕ, not, List, [], ◌∷◌, ◌++◌, length, nat_eq, nat_lt, Option, Some, None, IfSome, Result, Ok, Err}
use Rattle.std.specs.Prelude.{if◌then◌else◌, ◌≡◌}
use Rattle.md5.specs.Md5.{md5}
use Rattle.svn_types.specs.declared.kind.Kind.{Kind}
use Rattle.svn_types.specs.Names.{Path}
use Rattle.svn_types.specs.Paths.{path_eq}
use Rattle.svn_types.specs.Limits.{path_limit}
use Rattle.svn_editor.specs.declared.mode.Mode.{Mode}
use Rattle.svn_editor.specs.declared.fault.EditFault.{EditFault}
use Rattle.svn_editor.specs.declared.fault.EditFault.TheVariants.{NoEntry, WrongKind, WrongRevision, TextChecksum, TooDeep}
use Rattle.svn_model.specs.declared.base_node.BaseNode.{BaseNode}
use Rattle.svn_model.specs.declared.base_node.BaseNode.TheVariants.{File as FileNode, Dir as DirNode, NotPresent}
use Rattle.svn_model.specs.Nodes.{get_in, is_present, at_revision, node_revision, node_text}
use Rattle.svn_model.specs.Effects.{has_kind, joined_path, moved_path, closed_file, is_wrong_sum, text_or}
use Rattle.svn_model.specs.Answering.{IsAnswer}
use Rattle.svn_types.specs.Props.{PropChange}

abbrev pub Gives : {T : Type 0} → Option EditFault → T → Result T EditFault → Type 0
Gives fault value (Ok v) = (fault ≡ None) × (v ≡ value)
Gives fault value (Err e) = IsAnswer fault e

abbrev pub AnswersAs : {T : Type 0} → Option EditFault → Result T EditFault → Type 0
AnswersAs fault (Ok v) = fault ≡ None
AnswersAs fault (Err e) = IsAnswer fault e

-- ---- one node

abbrev pub IsSumOf : Option (List ℕ) → List (Path × BaseNode) → Path → Type 0
IsSumOf sum nodes p = IfSome sum (λ s. s ≡ md5 (node_text (get_in nodes p)))

abbrev pub delete_fault_of : Option BaseNode → ℕ → Option EditFault
delete_fault_of node rev =
    if not (is_present node) then Some NoEntry
    else if not (nat_eq (node_revision node) rev) then Some WrongRevision
    else None

-- but for a path that is too deep
abbrev pub open_fault_of : Kind → Option BaseNode → ℕ → Option EditFault
open_fault_of kind node base =
    if not (is_present node) then Some NoEntry
    else if not (has_kind kind node) then Some WrongKind
    else if not (nat_eq (node_revision node) base) then Some WrongRevision
    else None

abbrev pub deep_fault : Path → Option EditFault
deep_fault p = if nat_lt path_limit (length p) then Some TooDeep else None

abbrev pub first_of : List (List ℕ) → Option (List ℕ)
first_of [] = None
first_of (text ∷ texts) = Some text

-- why a file isn't closed
abbrev pub sum_fault : (List ℕ → List ℕ) → Option (List ℕ) → List (List ℕ) → Option BaseNode → Option EditFault
sum_fault checksum sum texts node = if is_wrong_sum sum (checksum (text_or texts (node_text node))) then Some TextChecksum else None

-- the file at the path is closed, and the other nodes are as before
abbrev pub FileIsClosed : Mode → ℕ → Path → List PropChange → List (List ℕ) → List (Path × BaseNode) → List (Path × BaseNode) → Type 0
FileIsClosed mode target p changes texts nodes nodes2 =
    (q : Path) → get_in nodes2 q ≡ (if path_eq p q then closed_file target (moved_path mode (get_in nodes) p)
    (joined_path (get_in nodes) p) changes texts (get_in nodes p) else get_in nodes q)

-- ---- the end of a switch

-- a present node with that repository path
abbrev pub with_path : Path → BaseNode → BaseNode
with_path q (FileNode r was text props) = FileNode r q text props
with_path q (DirNode r was complete props) = DirNode r q complete props
with_path q NotPresent = NotPresent

-- a present node that gets the revision and the first of these paths, and the paths that are left then
abbrev pub settled_next : ℕ → List Path → BaseNode → BaseNode
settled_next target [] node = at_revision target node
settled_next target (next ∷ paths) node = with_path next (at_revision target node)

abbrev pub paths_left : BaseNode → List Path → List Path
paths_left NotPresent paths = paths
paths_left node [] = []
paths_left node (next ∷ paths) = paths

-- the paths under the root of the present nodes
abbrev pub moved_paths : Path → List (Path × BaseNode) → List Path
moved_paths root [] = []
moved_paths root (e ∷ nodes) = if is_present (Some e.1) then (root ++ e.0) ∷ moved_paths root nodes else moved_paths root nodes
