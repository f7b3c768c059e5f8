-- Why nodes of a copy aren't what the repository has: of each the first reason that applies.
--     node_reason h w p node      why a node isn't what the repository has in its place; none where it is
--     untrue_in h w nodes      the untrue ones among nodes, in their order
use Rattle.std.specs.Prelude.{ℕ, Bool, not, List, [], ◌∷◌, length, nat_lt, bytes_eq, slice_get, filter_map, Option, Some, None, is_none}
use Rattle.std.specs.Prelude.{option_map, if◌then◌else◌}
use Rattle.std.specs.Option.{option_or}
use Rattle.std.specs.Map.{keys_of}
use Rattle.svn_types.specs.declared.kind.Kind.TheVariants.{File, Directory}
use Rattle.svn_types.specs.Names.{Path}
use Rattle.svn_types.specs.Paths.{child}
use Rattle.svn_types.specs.Props.{changes_between}
use Rattle.svn_repo.specs.History.{History, look}
use Rattle.svn_repo.specs.Readings.{kind_of, text_of, props_of, entries_of, is_directory}
use Rattle.svn_model.specs.declared.base_node.BaseNode.{BaseNode}
use Rattle.svn_model.specs.declared.base_node.BaseNode.TheVariants.{File as FileNode, Dir as DirNode, NotPresent}
use Rattle.svn_model.specs.Nodes.{WorkingCopy, node_revision, node_path}
use Rattle.svn_model.specs.Truth.{Properties}
use Rattle.svn_audit.specs.declared.reason.Reason.{Reason}
use Rattle.svn_audit.specs.declared.reason.Reason.TheVariants.{NoRevision, Nothing, AnotherKind, AnotherText, AnotherProperty, Lacks}
use Rattle.svn_audit.specs.declared.reason.Untrue.{Untrue}

-- the first name, in byte order, whose value differs
abbrev pub first_changed : Properties → Properties → Option (List ℕ)
first_changed props others = option_map (λ c. c.0) (slice_get (changes_between props others) 0)

-- the first of the names that has no entry below the path
abbrev pub first_lacking : WorkingCopy → Path → List (List ℕ) → Option (List ℕ)
first_lacking w p [] = None
first_lacking w p (name ∷ names) = if is_none (w (child p name)) then Some name else first_lacking w p names

-- node n isn't such a file
abbrev pub file_reason : History → List ℕ → Properties → ℕ → Option Reason
file_reason h text props n =
    if is_directory (kind_of h n) then Some (AnotherKind Directory)
    else if not (bytes_eq text (text_of h n)) then Some AnotherText
    else option_map AnotherProperty (first_changed props (props_of h n))

-- nor is the directory n one that the copy has whole
abbrev pub whole_reason : History → WorkingCopy → Path → Properties → ℕ → Option Reason
whole_reason h w p props n =
    option_or (option_map AnotherProperty (first_changed props (props_of h n)))
    (option_map Lacks (first_lacking w p (keys_of (entries_of h n))))

-- while a directory isn't complete, properties may be others, and entries may be missing
abbrev pub dir_reason : History → WorkingCopy → Path → Bool → Properties → ℕ → Option Reason
dir_reason h w p complete props n =
    if not (is_directory (kind_of h n)) then Some (AnotherKind File)
    else if complete then whole_reason h w p props n
    else None

-- nothing is at a place in revision r
abbrev pub missing_reason : History → ℕ → Reason
missing_reason h r = if nat_lt r (length h.roots) then Nothing else NoRevision

abbrev pub found_reason : Reason → (ℕ → Option Reason) → Option ℕ → Option Reason
found_reason missing why None = Some missing
found_reason missing why (Some n) = why n

abbrev pub node_reason : History → WorkingCopy → Path → BaseNode → Option Reason
node_reason h w p NotPresent = None
node_reason h w p (FileNode r q text props) = found_reason (missing_reason h r) (file_reason h text props) (look h r q)
node_reason h w p (DirNode r q complete props) = found_reason (missing_reason h r) (dir_reason h w p complete props) (look h r q)

abbrev pub untrue_by : Path → BaseNode → Reason → Untrue
untrue_by p node reason =
    record { path = p; rev = node_revision (Some node); repos_path = node_path (Some node); reason = reason }

abbrev pub untrue_at : History → WorkingCopy → Path → BaseNode → Option Untrue
untrue_at h w p node = option_map (untrue_by p node) (node_reason h w p node)

abbrev pub untrue_in : History → WorkingCopy → List (Path × BaseNode) → List Untrue
untrue_in h w nodes = filter_map (λ e. untrue_at h w e.0 e.1) nodes
