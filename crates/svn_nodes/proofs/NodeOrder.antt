-- Nodes in path order: which come before which; and a lemma of law_copy under the name by which proofs about nodes call it.
use Rattle.std.proofs.Common.{◌≡◌, Bool, true, false, cond, List, [], ◌∷◌, ◌++◌, refl, sym, ap, ◌∙◌, Some, true≢false}
use Rattle.std.specs.Option.{is_some}
use Rattle.std.specs.declared.cmp.Ordering.TheVariants.{Less}
use Rattle.std.specs.List.{AllByRecursion}
use Rattle.std.specs.Map.{keys_of}
use Rattle.std.specs.BTreeMap.{is_at}
use Rattle.std.proofs.lemmas.Map.Keys.{sorted_head, sorted_tail}
use Rattle.svn_lists.proofs.Options.{option_or_some}
use Rattle.svn_types.specs.Names.{Path, path_cmp}
use Rattle.svn_model.specs.declared.base_node.BaseNode.{BaseNode}
use Rattle.svn_model.specs.Nodes.{get_in, InPathOrder}
use Rattle.svn_types.proofs.PathLemmas.{same_path}
use Rattle.law_copy.proofs.Lookups.{at_path, get_in-append}
pub use Rattle.law_copy.proofs.NodeLists.{found_first as at_first}

pub order_behind : (xs ys : List (Path × BaseNode)) → InPathOrder (xs ++ ys) → InPathOrder ys
order_behind [] ys order = order
order_behind (x ∷ xs) ys order = order_behind xs ys (sorted_tail path_cmp x.0 (keys_of (xs ++ ys)) order)

-- the first, or one of the others
first_or_other : (P : Type 0) (e : Path × BaseNode) (es : List (Path × BaseNode)) (p : Path) → is_some (get_in (e ∷ es) p) ≡ true
    → (p ≡ e.0 → P) → (is_some (get_in es p) ≡ true → P) → P
first_or_other P e es p some first other = by (is_at (path_cmp p) e.0) refl some
  where
    by : (b : Bool) → is_at (path_cmp p) e.0 ≡ b → is_some (cond b (Some e.1) (get_in es p)) ≡ true → P
    by true t h = first (same_path p e.0 (sym (at_path p e.0) ∙ t))
    by false f h = other h

after_all : (x : Path) (es : List (Path × BaseNode)) → AllByRecursion (λ y. path_cmp x y ≡ Less) (keys_of es) → (p : Path)
    → is_some (get_in es p) ≡ true → path_cmp x p ≡ Less
after_all x [] all p some = absurd (true≢false (sym some))
after_all x (e ∷ es) all p some = first_or_other (path_cmp x p ≡ Less) e es p some (λ same. ap (path_cmp x) same ∙ all.0)
    (λ later. after_all x es all.1 p later)

-- the first comes before every other
pub first_or_after : (P : Type 0) (e : Path × BaseNode) (es : List (Path × BaseNode)) → InPathOrder (e ∷ es) → (p : Path)
    → is_some (get_in (e ∷ es) p) ≡ true → (p ≡ e.0 → P) → (path_cmp e.0 p ≡ Less → P) → P
first_or_after P e es order p some first after = first_or_other P e es p some first
    (λ later. after (after_all e.0 es (sorted_head path_cmp e.0 (keys_of es) order) p later))

-- what is after others comes after each of them
pub before_behind : (xs ys : List (Path × BaseNode)) → InPathOrder (xs ++ ys) → (p k : Path) → is_some (get_in xs p) ≡ true
    → is_some (get_in ys k) ≡ true → path_cmp p k ≡ Less
before_behind [] ys order p k here there = absurd (true≢false (sym here))
before_behind (x ∷ xs) ys order p k here there =
    first_or_other (path_cmp p k ≡ Less) x xs p here
    (λ same.
    ap (λ z. path_cmp z k) same
    ∙ after_all x.0 (xs ++ ys) (sorted_head path_cmp x.0 (keys_of (xs ++ ys)) order) k (ap is_some (get_in-append xs ys k)
    ∙ option_or_some (get_in xs k) (get_in ys k) there))
    (λ later. before_behind xs ys (sorted_tail path_cmp x.0 (keys_of (xs ++ ys)) order) p k later there)
