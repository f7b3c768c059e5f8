-- How a copy is compared with the repository, node by node in path order.
--     looked h node      what the repository has in a node's place, by its revision and repository path
--     HasWalked h nodes e old found new      the nodes at and below a path were compared
use Rattle.std.specs.Prelude.{◌≡◌, ℕ, ◌+◌, ◌<◌, ◌≤◌, Bool, true, false, List, [], ◌∷◌, ◌++◌, length, nat_lt}
use Rattle.std.specs.Prelude.{Option, Some, None, option_and_then}
use Rattle.std.specs.List.{list_all, AllByRecursion}
use Rattle.std.specs.declared.cmp.Ordering.TheVariants.{Less}
use Rattle.svn_types.specs.Names.{Path, name_cmp}
use Rattle.svn_types.specs.Paths.{child, parent, is_within, is_below}
use Rattle.svn_types.specs.Pairs.{InNameOrder, value_of}
use Rattle.svn_repo.specs.History.{History, look}
use Rattle.svn_repo.specs.Readings.{entries_of}
use Rattle.svn_model.specs.declared.base_node.BaseNode.{BaseNode}
use Rattle.svn_model.specs.declared.base_node.BaseNode.TheVariants.{File as FileNode, Dir as DirNode, NotPresent}
use Rattle.svn_model.specs.Nodes.{WorkingCopy, get_in}
use Rattle.svn_model.specs.Truth.{first_untrue_in, lacks_entry}

abbrev pub looked : History → BaseNode → Option ℕ
looked h (FileNode r q text props) = look h r q
looked h (DirNode r q complete props) = look h r q
looked h NotPresent = None

-- the entries of a directory
abbrev pub entries_at : History → Option ℕ → List (List ℕ × ℕ)
entries_at h None = []
entries_at h (Some n) = entries_of h n

-- a directory has none in the repository
abbrev pub HasNoEntries : BaseNode → List (List ℕ × ℕ) → Type 0
HasNoEntries (DirNode r q complete props) entries = entries ≡ []
HasNoEntries _ entries = Unit {0}

-- that many of a directory's names have no node
abbrev pub CountsMissing : WorkingCopy → Path → BaseNode → List (List ℕ) → ℕ → Type 0
CountsMissing w p (DirNode r q complete props) names missing = nat_lt 0 missing ≡ lacks_entry w p names
CountsMissing w p _ names missing = Unit {0}

-- the node under a name
abbrev pub entry_in : History → Option ℕ → List ℕ → Option ℕ
entry_in h found name = option_and_then (λ n. value_of (entries_of h n) name) found

-- the path is the directory's with the name after it, in its revision
abbrev pub IsStep : BaseNode → ℕ → Path → List ℕ → Type 0
IsStep (DirNode r q complete props) rev p name = (r ≡ rev) × (p ≡ child q name)
IsStep _ rev p name = ⊥

-- the second path is the first with the name after it; with no name, it isn't the first with one name more
abbrev pub IsNameBelow : Path → Path → Option (List ℕ) → Type 0
IsNameBelow p q None = (name : List ℕ) → q ≡ child p name → ⊥
IsNameBelow p q (Some name) = q ≡ child p name

-- no name of the entries comes after a name
abbrev pub AreUpTo : List ℕ → List (List ℕ × ℕ) → Type 0
AreUpTo name entries = AllByRecursion (λ (e : List ℕ × ℕ). name_cmp name e.0 ≡ Less → ⊥) entries

-- the entries up to a name were passed, and the value under it was found
pub record PassesTo (name : List ℕ) (old : List (List ℕ × ℕ)) (found : Option ℕ) (new : List (List ℕ × ℕ)) : Type 0 where
  pub passed : List (List ℕ × ℕ)
  pub parts : old ≡ passed ++ new
  pub up_to : AreUpTo name passed
  pub value : InNameOrder old → found ≡ value_of old name

-- no node of the list is at the path or below, if they are in path order and after the path
abbrev pub IsPast : Path → List (Path × BaseNode) → Type 0
IsPast p [] = Unit {0}
IsPast p (e ∷ es) = is_within p e.0 ≡ false

-- the first of the nodes has no more names than that
abbrev pub IsNoDeeper : ℕ → List (Path × BaseNode) → Type 0
IsNoDeeper depth [] = Unit {0}
IsNoDeeper depth (e ∷ es) = length e.0 ≤ depth

-- the first node was taken, which has more names than that; or it hasn't
abbrev pub TakesDeeper : ℕ → List (Path × BaseNode) → Option (Path × BaseNode) → List (Path × BaseNode) → Type 0
TakesDeeper depth old None new = IsNoDeeper depth old × (new ≡ old)
TakesDeeper depth old (Some e) new = (old ≡ e ∷ new) × (depth < length e.0)

-- the last name of a path that has one name more than that; with no name, it hasn't
abbrev pub IsLastName : ℕ → Path → Option (List ℕ) → Type 0
IsLastName depth q None = length q ≡ depth + 1 → ⊥
IsLastName depth q (Some name) = (length q ≡ depth + 1) × (q ≡ child (parent q) name)

-- a prefix was taken away
abbrev pub IsRest : List (Path × BaseNode) → List (Path × BaseNode) → Type 0
IsRest old new = (taken : List (Path × BaseNode)) × (old ≡ taken ++ new)

-- all of them are strictly below the path
abbrev pub all_below : Path → List (Path × BaseNode) → Bool
all_below p nodes = list_all (λ e. is_below p e.0) nodes

-- the nodes taken are below the path, and the first untrue node of these and the path's own is found
pub record HasWalked (h : History) (nodes : List (Path × BaseNode)) (e : Path × BaseNode) (old : List (Path × BaseNode))
    (found : Option Path) (new : List (Path × BaseNode)) : Type 0 where
  pub taken : List (Path × BaseNode)
  pub parts : old ≡ taken ++ new
  pub below : all_below e.0 taken ≡ true
  pub first : found ≡ first_untrue_in h (get_in nodes) (e ∷ taken)
