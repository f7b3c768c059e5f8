-- Parts of paths: the last name, and lemmas of svn_types under the names by which the crates above call them.
use Rattle.std.proofs.Common.{◌≡◌, ℕ, ◌-◌, Bool, true, false, cond, List, [], ◌∷◌, length, refl, sym, ◌∙◌, ap}
use Rattle.std.specs.Prelude.{Option, Some, None, slice_get}
use Rattle.svn_types.specs.Names.{Path}
use Rattle.svn_types.specs.Paths.{path_eq, parent, last_name}
use Rattle.svn_types.proofs.PathLemmas.{same_path, split_at_last, last_name-child}
pub use Rattle.svn_types.proofs.PathLemmas.{starts-within, parent-child as front_is}
use Rattle.svn_model.specs.declared.base_node.BaseNode.{BaseNode}
use Rattle.svn_model.specs.Nodes.{WorkingCopy}

-- the name at the last place, as a path
pub last_is : (p : Path) (n : List ℕ) → slice_get p (length p - 1) ≡ Some n → last_name p ≡ n ∷ []
last_is p n h = ap last_name (split_at_last p n h) ∙ last_name-child (parent p) n

-- where nothing is, nothing changes
pub none_changed : (w : WorkingCopy) (k : Path) (f : Option BaseNode → Option BaseNode) → w k ≡ None → f None ≡ None → (p : Path)
    → w p ≡ cond (path_eq k p) (f (w k)) (w p)
none_changed w k f none still p = by (path_eq k p) refl
  where
    by : (b : Bool) → path_eq k p ≡ b → w p ≡ cond b (f (w k)) (w p)
    by true e = ap w (sym (same_path k p e)) ∙ none ∙ sym (ap f none ∙ still)
    by false e = refl
