-- Why a node of a copy isn't what is known to be in its place: by whatever repository or server.
--     place_at h n      a node of a history, as far as an audit looks
--     found_place found      what is known, as the code has it
--     place_reason w p node missing place      why a node isn't what is there; where nothing is, the reason that is given for this
--     ReasonsAreOfPlaces      the reason of a node of a copy is that by what the history has in its place
use Rattle.std.specs.Prelude.{◌≡◌, ℕ, Bool, not, List, bytes_eq, Option, Some, None, option_map, if◌then◌else◌}
use Rattle.std.specs.Option.{option_or}
use Rattle.std.specs.Map.{keys_of}
use Rattle.svn_types.specs.declared.kind.Kind.{Kind}
use Rattle.svn_types.specs.declared.kind.Kind.TheVariants.{File, Directory}
use Rattle.svn_types.specs.Names.{Path}
use Rattle.svn_repo.specs.History.{History, look}
use Rattle.svn_repo.specs.Readings.{kind_of, text_of, props_of, entries_of, is_directory}
use Rattle.svn_model.specs.declared.base_node.BaseNode.{BaseNode}
use Rattle.svn_model.specs.declared.base_node.BaseNode.TheVariants.{File as FileNode, Dir as DirNode, NotPresent}
use Rattle.svn_model.specs.Nodes.{WorkingCopy, node_revision, node_path}
use Rattle.svn_model.specs.Truth.{Properties}
use Rattle.svn_audit.specs.declared.found.Found.{Found}
use Rattle.svn_audit.specs.declared.found.Found.TheVariants as found
use Rattle.svn_audit.specs.declared.reason.Reason.{Reason}
use Rattle.svn_audit.specs.declared.reason.Reason.TheVariants.{AnotherKind, AnotherText, AnotherProperty, Lacks}
use Rattle.svn_audit.specs.Untrue.{first_changed, first_lacking, missing_reason, node_reason}

-- a file with its text and properties, a directory with its properties and the names in it, or a node of which its kind alone is known
pub data Place : Type 0 where
  file : List ℕ → Properties → Place
  directory : Properties → List (List ℕ) → Place
  of_kind : Kind → Place

abbrev pub place_at : History → ℕ → Place
place_at h n =
    if is_directory (kind_of h n) then directory (props_of h n) (keys_of (entries_of h n))
    else file (text_of h n) (props_of h n)

-- as the code has it
abbrev pub found_place : Found → Place
found_place (found.File text props) = file text.now props.now
found_place (found.Directory props names) = directory props.now names.now
found_place (found.OfKind kind) = of_kind kind

-- a file, beside what is there
abbrev pub file_by : List ℕ → Properties → Place → Option Reason
file_by text props (file other others) =
    if not (bytes_eq text other) then Some AnotherText else option_map AnotherProperty (first_changed props others)
file_by text props (directory others names) = Some (AnotherKind Directory)
file_by text props (of_kind Directory) = Some (AnotherKind Directory)
file_by text props (of_kind File) = None

-- a directory that is complete
abbrev pub whole_by : WorkingCopy → Path → Properties → Properties → List (List ℕ) → Option Reason
whole_by w p props others names =
    option_or (option_map AnotherProperty (first_changed props others)) (option_map Lacks (first_lacking w p names))

abbrev pub dir_by : WorkingCopy → Path → Bool → Properties → Place → Option Reason
dir_by w p complete props (file other others) = Some (AnotherKind File)
dir_by w p complete props (directory others names) = if complete then whole_by w p props others names else None
dir_by w p complete props (of_kind File) = Some (AnotherKind File)
dir_by w p complete props (of_kind Directory) = None

abbrev pub by_place : Reason → (Place → Option Reason) → Option Place → Option Reason
by_place missing why None = Some missing
by_place missing why (Some place) = why place

abbrev pub place_reason : WorkingCopy → Path → BaseNode → Reason → Option Place → Option Reason
place_reason w p NotPresent missing place = None
place_reason w p (FileNode r q text props) missing place = by_place missing (file_by text props) place
place_reason w p (DirNode r q complete props) missing place = by_place missing (dir_by w p complete props) place

-- what a history has in the place of a node
abbrev pub place_of : History → BaseNode → Option Place
place_of h node = option_map (place_at h) (look h (node_revision (Some node)) (node_path (Some node)))

abbrev pub ReasonsAreOfPlaces : Type 0
ReasonsAreOfPlaces =
    (h : History) (w : WorkingCopy) (p : Path) (node : BaseNode)
    → node_reason h w p node ≡ place_reason w p node (missing_reason h (node_revision (Some node))) (place_of h node)
