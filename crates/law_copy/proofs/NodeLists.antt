-- Lists of nodes in path order: what is at each path.
use Rattle.std.proofs.Common.{◌≡◌, Bool, true, false, List, [], ◌∷◌, refl, sym, ◌∙◌, ap}
use Rattle.std.specs.Prelude.{Option, Some, None, cond}
use Rattle.std.specs.declared.cmp.Ordering.TheVariants.{Less}
use Rattle.std.specs.List.{AllByRecursion}
use Rattle.std.specs.Map.{keys_of}
use Rattle.std.specs.BTreeMap.{is_at}
use Rattle.std.proofs.lemmas.Cmp.{eq_by_cmp_equiv}
use Rattle.std.proofs.lemmas.Map.{lookup-none}
use Rattle.std.proofs.lemmas.Map.Entries.{none_past_head}
use Rattle.std.proofs.lemmas.Map.Keys.{sorted_head, sorted_tail, IsDistinct-from_sorted}
use Rattle.svn_types.specs.Names.{Path, path_cmp}
use Rattle.svn_types.specs.Paths.{path_eq}
use Rattle.svn_types.proofs.PathLemmas.{same_path, path_eq-symm, path_eq-same}
use Rattle.svn_types.proofs.PathsInOrder.{at_path, paths_total}
use Rattle.svn_model.specs.declared.base_node.BaseNode.{BaseNode}
use Rattle.svn_model.specs.Nodes.{get_in, InPathOrder}

-- what is found in a list that begins with a node
pub get_in-first : (e : Path × BaseNode) (es : List (Path × BaseNode)) (p : Path)
    → get_in (e ∷ es) p ≡ cond (path_eq e.0 p) (Some e.1) (get_in es p)
get_in-first e es p = ap (λ b. cond b (Some e.1) (get_in es p)) (at_path p e.0 ∙ path_eq-symm p e.0)

pub found_first : (e : Path × BaseNode) (es : List (Path × BaseNode)) → get_in (e ∷ es) e.0 ≡ Some e.1
found_first e es = get_in-first e es e.0 ∙ ap (λ b. cond b (Some e.1) (get_in es e.0)) (path_eq-same e.0)

pub absent_after : (e : Path × BaseNode) (es : List (Path × BaseNode)) → InPathOrder (e ∷ es) → get_in es e.0 ≡ None
absent_after e es order =
    lookup-none (is_at (path_cmp e.0)) es
    (none_past_head (eq_by_cmp_equiv paths_total) e.0 e es (IsDistinct-from_sorted path_cmp _ order) (at_path e.0 e.0 ∙ path_eq-same e.0))

pub rest_in_order : (e : Path × BaseNode) (es : List (Path × BaseNode)) → InPathOrder (e ∷ es) → InPathOrder es
rest_in_order e es order = sorted_tail path_cmp e.0 (keys_of es) order

-- the first path comes before each other
pub first_before : (e : Path × BaseNode) (es : List (Path × BaseNode)) → InPathOrder (e ∷ es)
    → AllByRecursion (λ q. path_cmp e.0 q ≡ Less) (keys_of es)
first_before e es order = sorted_head path_cmp e.0 (keys_of es) order

-- each element of the list is what the function gives at its path
abbrev pub AllIn : (Path → Option BaseNode) → List (Path × BaseNode) → Type 0
AllIn w [] = Unit {0}
AllIn w (e ∷ es) = (w e.0 ≡ Some e.1) × AllIn w es

all_in_longer : (e : Path × BaseNode) (es fs : List (Path × BaseNode)) → get_in es e.0 ≡ None → AllIn (get_in es) fs
    → AllIn (get_in (e ∷ es)) fs
all_in_longer e es [] n h = tt
all_in_longer e es (f ∷ fs) n h = (get_in-first e es f.0 ∙ by (path_eq e.0 f.0) refl, all_in_longer e es fs n h.1)
  where
    by : (b : Bool) → path_eq e.0 f.0 ≡ b → cond b (Some e.1) (get_in es f.0) ≡ Some f.1
    by true q = let at = sym (ap (get_in es) (same_path e.0 f.0 q)) in cc
    by false q = h.0

pub all_in : (es : List (Path × BaseNode)) → InPathOrder es → AllIn (get_in es) es
all_in [] h = tt
all_in (e ∷ es) h =
    (found_first e es, all_in_longer e es es (absent_after e es h) (all_in es (rest_in_order e es h)))
