-- What a dump that begins late may leave out of its first revision: the properties of the repository's root (`svnadmin dump -r N:` does).
--     has_untold_root first nodes      a copy has the root, and the dump begins late
--     is_untold first untrue      the root is untrue by a property, which such a dump may have left out
use Rattle.std.specs.Prelude.{ℕ, Bool, true, false, ◌&&◌, List, nat_lt, Option, Some, None}
use Rattle.std.specs.List.{list_any}
use Rattle.svn_types.specs.Names.{Path}
use Rattle.svn_types.specs.Paths.{is_root}
use Rattle.svn_model.specs.declared.base_node.BaseNode.{BaseNode}
use Rattle.svn_model.specs.Nodes.{present_path}
use Rattle.svn_audit.specs.declared.reason.Reason.{Reason}
use Rattle.svn_audit.specs.declared.reason.Reason.TheVariants.{NoRevision, Nothing, AnotherKind, AnotherText, AnotherProperty, Lacks}
use Rattle.svn_audit.specs.declared.reason.Untrue.{Untrue}

abbrev pub is_root_path : Option Path → Bool
is_root_path None = false
is_root_path (Some path) = is_root path

abbrev pub has_untold_root : ℕ → List (Path × BaseNode) → Bool
has_untold_root first nodes = nat_lt 1 first && list_any (λ (e : Path × BaseNode). is_root_path (present_path e.1)) nodes

abbrev pub is_of_property : Reason → Bool
is_of_property NoRevision = false
is_of_property Nothing = false
is_of_property (AnotherKind kind) = false
is_of_property AnotherText = false
is_of_property (AnotherProperty name) = true
is_of_property (Lacks name) = false

abbrev pub is_of_root : Untrue → Bool
is_of_root u = is_root u.repos_path && is_of_property u.reason

abbrev pub is_untold : ℕ → List Untrue → Bool
is_untold first untrue = nat_lt 1 first && list_any is_of_root untrue
