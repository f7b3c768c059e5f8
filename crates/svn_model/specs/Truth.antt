-- The test of truth: the first path of a copy whose node isn't what the repository has there.
--     is_untrue h w p node      the node differs from the repository's, or an entry of a complete directory is missing
--     first_untrue h nodes      the first such path of the list
use Rattle.std.specs.Prelude.{ℕ, Bool, true, false, ◌&&◌, ◌||◌, not, List, [], ◌∷◌, bytes_eq, Option, Some, None, is_none, if◌then◌else◌}
use Rattle.std.specs.List.{list_any}
use Rattle.std.specs.Map.{keys_of}
use Rattle.std.specs.Cmp.Lexicographic.{pointwise}
use Rattle.svn_types.specs.Names.{Path}
use Rattle.svn_types.specs.Paths.{child}
use Rattle.svn_repo.specs.History.{History, look}
use Rattle.svn_repo.specs.Readings.{kind_of, text_of, props_of, entries_of, is_directory}
use Rattle.svn_model.specs.declared.base_node.BaseNode.{BaseNode}
use Rattle.svn_model.specs.declared.base_node.BaseNode.TheVariants.{File as FileNode, Dir as DirNode, NotPresent}
use Rattle.svn_model.specs.Nodes.{WorkingCopy, get_in}

abbrev pub Properties : Type 0
Properties = List (List ℕ × List ℕ)

abbrev pub prop_eq : List ℕ × List ℕ → List ℕ × List ℕ → Bool
prop_eq a b = bytes_eq a.0 b.0 && bytes_eq a.1 b.1

abbrev pub props_eq : Properties → Properties → Bool
props_eq = pointwise prop_eq

-- the node that is looked up isn't such a file
abbrev pub is_untrue_file : History → List ℕ → Properties → Option ℕ → Bool
is_untrue_file h text props None = true
is_untrue_file h text props (Some n) =
    is_directory (kind_of h n) || not (bytes_eq text (text_of h n)) || not (props_eq props (props_of h n))

-- one of the names has no entry below the path
abbrev pub lacks_entry : WorkingCopy → Path → List (List ℕ) → Bool
lacks_entry w p names = list_any (λ name. is_none (w (child p name))) names

-- nor such a directory; while it isn't complete, properties may be others, and entries may be missing
abbrev pub is_untrue_dir : History → WorkingCopy → Path → Bool → Properties → Option ℕ → Bool
is_untrue_dir h w p complete props None = true
is_untrue_dir h w p complete props (Some n) =
    not (is_directory (kind_of h n)) || complete && (not (props_eq props (props_of h n)) || lacks_entry w p (keys_of (entries_of h n)))

abbrev pub is_untrue : History → WorkingCopy → Path → BaseNode → Bool
is_untrue h w p NotPresent = false
is_untrue h w p (FileNode r q text props) = is_untrue_file h text props (look h r q)
is_untrue h w p (DirNode r q complete props) = is_untrue_dir h w p complete props (look h r q)

abbrev pub first_untrue_in : History → WorkingCopy → List (Path × BaseNode) → Option Path
first_untrue_in h w [] = None
first_untrue_in h w (e ∷ es) = if is_untrue h w e.0 e.1 then Some e.0 else first_untrue_in h w es

abbrev pub first_untrue : History → List (Path × BaseNode) → Option Path
first_untrue h nodes = first_untrue_in h (get_in nodes) nodes
