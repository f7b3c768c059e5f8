-- A copy as a map, and as the function from paths.
use Rattle.std.proofs.Common.{◌≡◌, Bool, true, false, cond, List, [], ◌∷◌, ◌++◌, refl, ap, ◌∙◌, Option, Some}
use Rattle.std.specs.BTreeMap.{is_at}
use Rattle.std.specs.Option.{option_or}
use Rattle.svn_types.specs.Names.{Path, path_cmp}
use Rattle.svn_types.specs.Paths.{path_eq}
pub use Rattle.svn_types.proofs.PathsInOrder.{at_path}
use Rattle.svn_model.specs.declared.base_node.BaseNode.{BaseNode}
use Rattle.svn_model.specs.Nodes.{get_in}

-- a map after one key was set or removed
pub get_in-updated : (m n : List (Path × BaseNode)) (k : Path) (v : Option BaseNode)
    → ((q : Path) → get_in n q ≡ cond (is_at (path_cmp k) q) v (get_in m q)) → (p : Path) → get_in n p ≡ cond (path_eq k p) v (get_in m p)
get_in-updated m n k v h p = h p ∙ ap (λ b. cond b v (get_in m p)) (at_path k p)

-- what two lists have, one after the other
pub get_in-append : (xs ys : List (Path × BaseNode)) (p : Path) → get_in (xs ++ ys) p ≡ option_or (get_in xs p) (get_in ys p)
get_in-append [] ys p = refl
get_in-append (x ∷ xs) ys p = by (is_at (path_cmp p) x.0) (get_in-append xs ys p)
  where
    by : (b : Bool) → get_in (xs ++ ys) p ≡ option_or (get_in xs p) (get_in ys p)
        → cond b (Some x.1) (get_in (xs ++ ys) p) ≡ option_or (cond b (Some x.1) (get_in xs p)) (get_in ys p)
    by true e = refl
    by false e = e
