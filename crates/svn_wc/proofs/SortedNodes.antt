-- Lists of nodes that are sorted by their paths: whether a path is there twice, what a search finds, and that no fault depends on the order.
use Rattle.std.proofs.Common.{◌≡◌, ℕ, zero, suc, ◌+◌, ◌<◌, ◌≤◌, ◌⊎◌, inl, inr, Bool, true, false, ◌||◌, cond, not, List, [], ◌∷◌}
use Rattle.std.proofs.Common.{length, take, get_or, refl, sym, ◌∙◌, ap, subst, true≢false, arith}
use Rattle.std.specs.Prelude.{Option, Some, None}
use Rattle.std.specs.List.{list_any, IsDistinct, AllByRecursion, Contains}
use Rattle.std.specs.List.Sorted.{IsPermutation, IsPartitionPoint}
use Rattle.std.specs.declared.cmp.Ordering.TheVariants.{Less, Greater}
use Rattle.std.specs.Ordering.{is_lt, is_eq}
use Rattle.std.proofs.lemmas.Bool.{or_parts, or_from, cases_lt}
use Rattle.std.proofs.lemmas.List.Sorted.{IsPermutation-sym, Contains-permutation, list_any-IsPermutation}
use Rattle.std.proofs.lemmas.Map.Keys.{IsDistinct-IsPermutation}
use Rattle.svn_lists.proofs.Options.{cond_none}
use Rattle.svn_lists.proofs.Somewhere.{fails_at}
use Rattle.svn_types.specs.Names.{Path, path_cmp}
use Rattle.svn_types.specs.Paths.{path_eq}
use Rattle.svn_types.proofs.PathsInOrder.{paths_total, at_path, before_apart, earlier}
use Rattle.svn_types.proofs.PathLemmas.{same_path, path_eq-symm, path_eq-same}
use Rattle.svn_model.specs.declared.base_node.BaseNode.{BaseNode}
use Rattle.svn_model.specs.declared.wc_fault.WcFault.{WcFault}
use Rattle.svn_model.specs.declared.wc_fault.WcFault.TheVariants.{Twice, BadRoot, NoParent, TooDeep}
use Rattle.svn_model.specs.Nodes.{get_in, is_dir}
use Rattle.svn_model.specs.Refusals.{is_of, has_twice, is_orphan, is_node_too_deep, nodes_fault}
use Rattle.law_copy.proofs.NodeLists.{get_in-first}
use Rattle.svn_wc.specs.Listed.{IsSorted}

-- ---- one after the other

abbrev RisesFrom : Path → List (Path × BaseNode) → Type 0
RisesFrom p [] = Unit {0}
RisesFrom p (e ∷ es) = path_cmp e.0 p ≡ Less → ⊥

-- no node comes before the one that it is after
abbrev pub IsRising : List (Path × BaseNode) → Type 0
IsRising [] = Unit {0}
IsRising (e ∷ es) = RisesFrom e.0 es × IsRising es

pub rising : (es : List (Path × BaseNode)) → IsSorted es → IsRising es
rising [] h = tt
rising (e ∷ es) h = (
  next es h,
  rising es (λ k d low inside.
      subst (λ (n : ℕ). is_lt (path_cmp (get_or (e ∷ es) n d).0 (get_or es k d).0) ≡ false) (one_more k)
      (h (suc k) d (omega arith) (omega (arith, inside)))),
)
  where
    one_more : (k : ℕ) → suc k + 1 ≡ suc (k + 1)
    one_more k = omega arith

    next : (es : List (Path × BaseNode)) → IsSorted (e ∷ es) → RisesFrom e.0 es
    next [] h = tt
    next (f ∷ fs) h = λ before. true≢false (sym (ap is_lt before) ∙ h 0 e (omega arith) (omega arith))

apart_after : (p : Path) (e : Path × BaseNode) (es : List (Path × BaseNode)) → IsRising (e ∷ es) → path_cmp p e.0 ≡ Less
    → list_any (is_of p) (e ∷ es) ≡ false
apart_after p e [] up before = or_from (path_eq p e.0) false (before_apart p e.0 before) refl
apart_after p e (f ∷ fs) up before =
    or_from (path_eq p e.0) (list_any (is_of p) (f ∷ fs)) (before_apart p e.0 before)
    (apart_after p f fs up.1 (by (path_eq e.0 f.0) refl))
  where
    by : (b : Bool) → path_eq e.0 f.0 ≡ b → path_cmp p f.0 ≡ Less
    by true h = subst (λ (q : Path). path_cmp p q ≡ Less) (same_path e.0 f.0 h) before
    by false h = paths_total.trans p e.0 f.0 before (earlier e.0 f.0 h up.0)

-- if a path is there again, it comes next
pub only_next : (e : Path × BaseNode) (es : List (Path × BaseNode)) → IsRising (e ∷ es)
    → list_any (is_of e.0) (take 1 es) ≡ list_any (is_of e.0) es
only_next e [] up = refl
only_next e (f ∷ fs) up = by (path_eq e.0 f.0) refl
  where
    by : (b : Bool) → path_eq e.0 f.0 ≡ b → (path_eq e.0 f.0 || false) ≡ (path_eq e.0 f.0 || list_any (is_of e.0) fs)
    by true h = ap (λ b. b || false) h ∙ sym (ap (λ b. b || list_any (is_of e.0) fs) h)
    by false h = ap (λ b. b || false) h ∙ sym (apart_after e.0 f fs up.1 (earlier e.0 f.0 h up.0))

-- ---- what a search finds

pub found_at : (es : List (Path × BaseNode)) → has_twice es ≡ false → (i : ℕ) (d : Path × BaseNode) → i < length es → (q : Path)
    → (get_or es i d).0 ≡ q → get_in es q ≡ Some (get_or es i d).1
found_at [] once i d inside q is = absurd (omega (arith, inside))
found_at (e ∷ es) once zero d inside q is =
    get_in-first e es q ∙ ap (λ b. cond b (Some e.1) (get_in es q)) (ap (path_eq e.0) (sym is) ∙ path_eq-same e.0)
found_at (e ∷ es) once (suc i) d inside q is =
    let parts = or_parts (list_any (is_of e.0) es) (has_twice es) once in
    let other : path_eq e.0 q ≡ false = ap (path_eq e.0) (sym is) ∙ fails_at (is_of e.0) es parts.0 i d (omega (arith, inside)) in
    get_in-first e es q ∙ ap (λ b. cond b (Some e.1) (get_in es q)) other ∙ found_at es parts.1 i d (omega (arith, inside)) q is

pub none_found : (es : List (Path × BaseNode)) (q : Path)
    → ((i : ℕ) (d : Path × BaseNode) → i < length es → path_eq (get_or es i d).0 q ≡ false) → get_in es q ≡ None
none_found [] q others = refl
none_found (e ∷ es) q others =
    get_in-first e es q ∙ ap (λ b. cond b (Some e.1) (get_in es q)) (others 0 e (omega arith))
    ∙ none_found es q (λ i d inside. others (suc i) d (omega (arith, inside)))

pub none_between : (es : List (Path × BaseNode)) (q : Path) (i : ℕ)
    → IsPartitionPoint (λ (y : Path × BaseNode). path_cmp y.0 q ≡ Less) (λ (y : Path × BaseNode). path_cmp y.0 q ≡ Greater) es i
    → get_in es q ≡ None
none_between es q i parts = none_found es q (λ k d inside. by k d inside (cases_lt k i))
  where
    by : (k : ℕ) (d : Path × BaseNode) → k < length es → (k < i) ⊎ (i ≤ k) → path_eq (get_or es k d).0 q ≡ false
    by k d inside (inl before) = sym (at_path (get_or es k d).0 q) ∙ ap is_eq (parts.0 k d (omega arith) before)
    by k d inside (inr behind) = sym (at_path (get_or es k d).0 q) ∙ ap is_eq (parts.1 k d behind inside)

-- ---- in any order

abbrev beside : Path × BaseNode → Path × BaseNode → Bool
beside x y = path_eq x.0 y.0

distinct : (es : List (Path × BaseNode)) → has_twice es ≡ false → IsDistinct beside es
unfolding IsDistinct
distinct [] once = tt
distinct (e ∷ es) once =
    let parts = or_parts (list_any (is_of e.0) es) (has_twice es) once in (others es parts.0, distinct es parts.1)
  where
    others : (es : List (Path × BaseNode)) → list_any (is_of e.0) es ≡ false → AllByRecursion (λ y. beside e y ≡ false) es
    others [] none = tt
    others (f ∷ fs) none = let parts = or_parts (path_eq e.0 f.0) (list_any (is_of e.0) fs) none in (parts.0, others fs parts.1)

each_once : (es : List (Path × BaseNode)) → IsDistinct beside es → has_twice es ≡ false
unfolding IsDistinct
each_once [] h = refl
each_once (e ∷ es) h = or_from (list_any (is_of e.0) es) (has_twice es) (others es h.0) (each_once es h.1)
  where
    others : (es : List (Path × BaseNode)) → AllByRecursion (λ y. beside e y ≡ false) es → list_any (is_of e.0) es ≡ false
    others [] h = refl
    others (f ∷ fs) h = or_from (path_eq e.0 f.0) (list_any (is_of e.0) fs) h.0 (others fs h.1)

still_once : (xs ys : List (Path × BaseNode)) → IsPermutation xs ys → has_twice xs ≡ false → has_twice ys ≡ false
still_once xs ys same once =
    each_once ys (IsDistinct-IsPermutation beside (λ x y. path_eq-symm x.0 y.0) xs ys same (distinct xs once))

pub same_twice : (xs ys : List (Path × BaseNode)) → IsPermutation xs ys → has_twice xs ≡ has_twice ys
same_twice xs ys same = by (has_twice xs) (has_twice ys) refl refl
  where
    by : (a b : Bool) → has_twice xs ≡ a → has_twice ys ≡ b → a ≡ b
    by true true x y = refl
    by false false x y = refl
    by false true x y = absurd (true≢false (sym y ∙ still_once xs ys same x))
    by true false x y = absurd (true≢false (sym x ∙ still_once ys xs (IsPermutation-sym xs ys same) y))

contained : (es : List (Path × BaseNode)) (q : Path) (n : BaseNode) → get_in es q ≡ Some n → Contains es (q, n)
contained [] q n is = absurd (none is)
  where
    none : None ≡ Some n → ⊥
    none h = cc
contained (e ∷ es) q n is = by (path_eq e.0 q) refl (sym (get_in-first e es q) ∙ is) (contained es q n)
  where
    one_node : (m : BaseNode) → Some m ≡ Some n → m ≡ n
    one_node m h = cc

    by : (b : Bool) → path_eq e.0 q ≡ b → cond (path_eq e.0 q) (Some e.1) (get_in es q) ≡ Some n
        → (get_in es q ≡ Some n → Contains es (q, n)) → Contains (e ∷ es) (q, n)
    by true here found rest =
        let node = one_node e.1 (sym (ap (λ b. cond b (Some e.1) (get_in es q)) here) ∙ found) in
        (0, omega arith, λ i. (same_path e.0 q here i, node i))
    by false other found rest =
        let there = rest (sym (ap (λ b. cond b (Some e.1) (get_in es q)) other) ∙ found) in
        (suc there.0, omega (arith, there.1), there.2)

pub same_nodes : (xs ys : List (Path × BaseNode)) → IsPermutation xs ys → has_twice xs ≡ false → (q : Path) → get_in xs q ≡ get_in ys q
same_nodes xs ys same once q = by (get_in xs q) (get_in ys q) refl refl
  where
    moved : (es fs : List (Path × BaseNode)) → IsPermutation es fs → has_twice fs ≡ false → (n : BaseNode) → get_in es q ≡ Some n
        → get_in fs q ≡ Some n
    moved es fs same once n is =
        let there = Contains-permutation es fs (q, n) same (contained es q n is) in
        found_at fs once there.0 (q, n) there.1 q (ap (λ (x : Path × BaseNode). x.0) there.2)
        ∙ ap (λ (x : Path × BaseNode). Some x.1) there.2

    by : (a b : Option BaseNode) → get_in xs q ≡ a → get_in ys q ≡ b → a ≡ b
    by None None x y = refl
    by (Some n) b x y = sym (moved xs ys same (still_once xs ys same once) n x) ∙ y
    by None (Some n) x y = sym x ∙ moved ys xs (IsPermutation-sym xs ys same) once n y

-- what a list without a fault has is what it has in any other order
pub nodes_stay : (xs ys : List (Path × BaseNode)) → IsPermutation xs ys → nodes_fault xs ≡ None → (q : Path) → get_in ys q ≡ get_in xs q
nodes_stay xs ys same none q = sym (same_nodes xs ys same (cond_none (has_twice xs) Twice _ none).0 q)

-- the fault of a list is that of the list in any other order
pub same_fault : (xs ys : List (Path × BaseNode)) → IsPermutation xs ys → nodes_fault xs ≡ nodes_fault ys
same_fault xs ys same = by (has_twice xs) refl
  where
    rest : List (Path × BaseNode) → Option WcFault
    rest es = cond (not (is_dir (get_in es []))) (Some BadRoot)
        (cond (list_any (is_orphan (get_in es)) es) (Some NoParent) (cond (list_any is_node_too_deep es) (Some TooDeep) None))

    by : (b : Bool) → has_twice xs ≡ b → nodes_fault xs ≡ nodes_fault ys
    by true x =
        ap (λ b. cond b (Some Twice) (rest xs)) x
        ∙ sym (ap (λ b. cond b (Some Twice) (rest ys)) (sym (same_twice xs ys same) ∙ x))
    by false x =
        let nodes : (q : Path) → get_in xs q ≡ get_in ys q = same_nodes xs ys same x in
        (λ i. cond (same_twice xs ys same i) (Some Twice) (cond (not (is_dir (nodes [] i))) (Some BadRoot)
        (cond (list_any (is_orphan (λ q. nodes q i)) xs) (Some NoParent) (cond (list_any is_node_too_deep xs) (Some TooDeep) None))))
        ∙ (λ i. cond (has_twice ys) (Some Twice) (cond (not (is_dir (get_in ys []))) (Some BadRoot)
        (cond (list_any-IsPermutation (is_orphan (get_in ys)) xs ys same i) (Some NoParent)
        (cond (list_any-IsPermutation is_node_too_deep xs ys same i) (Some TooDeep) None))))
