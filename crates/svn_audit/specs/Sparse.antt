-- Sparse copies: directories that may lack entries.
--     IsTrueBut lackable h w      each present node is what the repository has there; of its entries a directory may lack those that are lackable
--     reason_but lackable h w p node      why a node isn't that; none where it is
--     untrue_but lackable h w nodes      the untrue ones among nodes, in their order
--     WholeCopies      where nothing may be lacking, such a copy is a true one
use Rattle.std.specs.Prelude.{◌≡◌, ◌≢◌, ℕ, Bool, true, false, not, ◌&&◌, List, [], ◌∷◌, filter_map, Option, Some, None, is_none, option_map, if◌then◌else◌}
use Rattle.svn_types.specs.declared.kind.Kind.{Kind}
use Rattle.svn_types.specs.declared.kind.Kind.TheVariants.{Directory}
use Rattle.svn_types.specs.Names.{Path}
use Rattle.svn_types.specs.Paths.{child}
use Rattle.svn_repo.specs.History.{History, look}
use Rattle.svn_repo.specs.Readings.{kind_of, props_of, entries_of}
use Rattle.svn_model.specs.declared.base_node.BaseNode.{BaseNode}
use Rattle.svn_model.specs.declared.base_node.BaseNode.TheVariants.{File as FileNode, Dir as DirNode, NotPresent}
use Rattle.svn_model.specs.Nodes.{WorkingCopy, node_revision, node_path, IsTrueNode, IsTrueOf}
use Rattle.svn_audit.specs.declared.reason.Reason.{Reason}
use Rattle.svn_audit.specs.declared.reason.Reason.TheVariants.{NoRevision, Nothing, AnotherKind, AnotherText, AnotherProperty, Lacks}
use Rattle.svn_audit.specs.declared.reason.Untrue.{Untrue}
use Rattle.svn_audit.specs.Untrue.{node_reason, untrue_by}

-- whether the directory at a path may lack its entries of a kind
abbrev pub Lackable : Type 0
Lackable = Path → Kind → Bool

abbrev pub nothing_lacks : Lackable
nothing_lacks p kind = false

-- ---- truth

-- each of the entries is there below the path, present or not, unless it may be lacking
abbrev pub HasAllBut : (Kind → Bool) → History → WorkingCopy → Path → List (List ℕ × ℕ) → Type 0
HasAllBut may h w p [] = Unit {0}
HasAllBut may h w p (e ∷ entries) = (may (kind_of h e.1) ≡ false → w (child p e.0) ≢ None) × HasAllBut may h w p entries

pub record IsTrueDirBut (may : Kind → Bool) (h : History) (n : ℕ) (w : WorkingCopy) (p : Path) (complete : Bool) (props : List (List ℕ × List ℕ))
    : Type 0 where
  pub kind : kind_of h n ≡ Directory
  pub same_props : complete ≡ true → props ≡ props_of h n
  pub has_entries : complete ≡ true → HasAllBut may h w p (entries_of h n)

abbrev pub IsTrueNodeBut : Lackable → History → WorkingCopy → Path → Option BaseNode → Type 0
IsTrueNodeBut lackable h w p None = Unit {0}
IsTrueNodeBut lackable h w p (Some NotPresent) = Unit {0}
IsTrueNodeBut lackable h w p (Some (FileNode r q text props)) = IsTrueNode h w p (Some (FileNode r q text props))
IsTrueNodeBut lackable h w p (Some (DirNode r q complete props)) =
    (n : ℕ) × (look h r q ≡ Some n) × IsTrueDirBut (lackable p) h n w p complete props

abbrev pub IsTrueBut : Lackable → History → WorkingCopy → Type 0
IsTrueBut lackable h w = (p : Path) → IsTrueNodeBut lackable h w p (w p)

abbrev pub WholeCopies : Type 0
WholeCopies = (h : History) (w : WorkingCopy) → (IsTrueBut nothing_lacks h w → IsTrueOf h w) × (IsTrueOf h w → IsTrueBut nothing_lacks h w)

-- ---- reasons

-- the copy has nothing for the entry, and may not lack it
abbrev pub is_missing : (Kind → Bool) → History → WorkingCopy → Path → List ℕ × ℕ → Bool
is_missing may h w p e = is_none (w (child p e.0)) && not (may (kind_of h e.1))

-- the first such entry
abbrev pub first_missing : (Kind → Bool) → History → WorkingCopy → Path → List (List ℕ × ℕ) → Option (List ℕ)
first_missing may h w p [] = None
first_missing may h w p (e ∷ entries) = if is_missing may h w p e then Some e.0 else first_missing may h w p entries

-- of the node that is found in a place
abbrev pub missing_of : (Kind → Bool) → History → WorkingCopy → Path → Option ℕ → Option (List ℕ)
missing_of may h w p None = None
missing_of may h w p (Some n) = first_missing may h w p (entries_of h n)

abbrev pub missing_at : Lackable → History → WorkingCopy → Path → BaseNode → Option (List ℕ)
missing_at lackable h w p node = missing_of (lackable p) h w p (look h (node_revision (Some node)) (node_path (Some node)))

-- a reason stays, but for a lacking entry, which is the first that may not be lacking
abbrev pub unless_lackable : Option (List ℕ) → Option Reason → Option Reason
unless_lackable missing None = None
unless_lackable missing (Some NoRevision) = Some NoRevision
unless_lackable missing (Some Nothing) = Some Nothing
unless_lackable missing (Some (AnotherKind kind)) = Some (AnotherKind kind)
unless_lackable missing (Some AnotherText) = Some AnotherText
unless_lackable missing (Some (AnotherProperty name)) = Some (AnotherProperty name)
unless_lackable missing (Some (Lacks name)) = option_map Lacks missing

abbrev pub reason_but : Lackable → History → WorkingCopy → Path → BaseNode → Option Reason
reason_but lackable h w p node = unless_lackable (missing_at lackable h w p node) (node_reason h w p node)

abbrev pub untrue_at_but : Lackable → History → WorkingCopy → Path → BaseNode → Option Untrue
untrue_at_but lackable h w p node = option_map (untrue_by p node) (reason_but lackable h w p node)

abbrev pub untrue_but : Lackable → History → WorkingCopy → List (Path × BaseNode) → List Untrue
untrue_but lackable h w nodes = filter_map (λ e. untrue_at_but lackable h w e.0 e.1) nodes
