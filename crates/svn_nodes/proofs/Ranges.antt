-- The nodes at a path and below are next to each other: those from the path on, as long as they are within it.
use Rattle.std.proofs.Common.{◌≡◌, ℕ, Bool, true, false, cond, ◌&&◌, ◌||◌, not, List, [], ◌∷◌, ◌++◌, take, drop, refl, sym, ◌∙◌}
use Rattle.std.proofs.Common.{ap, subst, true≢false, append_assoc}
use Rattle.std.specs.Prelude.{Option, Some, None}
use Rattle.std.specs.Option.{is_some, option_or}
use Rattle.std.specs.List.{list_any, list_all, AllByRecursion}
use Rattle.std.specs.List.Sorted.{IsStrictlySortedBy}
use Rattle.std.specs.Map.{keys_of}
use Rattle.std.specs.BTreeMap.{is_at}
use Rattle.std.specs.BTreeMap.Range.{entries_between}
use Rattle.std.specs.declared.ops.Bound.TheVariants.{Included, Excluded, Unbounded}
use Rattle.std.specs.declared.cmp.Ordering.{Ordering}
use Rattle.std.specs.declared.cmp.Ordering.TheVariants.{Less, Equal, Greater}
use Rattle.std.specs.Ordering.{is_le, is_lt, is_eq}
use Rattle.std.proofs.lemmas.List.{take-append-drop}
use Rattle.std.proofs.lemmas.Map.Entries.{lookup-filter-keys}
use Rattle.svn_lists.proofs.Entries.{keys_of-push}
use Rattle.svn_lists.proofs.Filters.{filter_passes}
use Rattle.svn_lists.proofs.Somewhere.{list_all_push}
use Rattle.svn_types.specs.Names.{Path, path_cmp}
use Rattle.svn_types.specs.Paths.{path_eq, is_within, is_below}
use Rattle.svn_types.proofs.PathsInOrder.{paths_total, not_before_itself, within_after, within_between, below_after, before_apart}
use Rattle.svn_model.specs.declared.base_node.BaseNode.{BaseNode}
use Rattle.svn_model.specs.Nodes.{get_in, InPathOrder}
use Rattle.svn_types.proofs.PathLemmas.{same_path, path_eq-symm, is_within-same}
use Rattle.law_copy.proofs.Lookups.{at_path, get_in-append}
use Rattle.svn_nodes.proofs.NodeOrder.{first_or_after, order_behind}

abbrev pub from_path : Path → List (Path × BaseNode) → List (Path × BaseNode)
from_path path es = entries_between path_cmp (Included path) Unbounded es

-- the nodes were taken one by one, and their paths kept
pub record Taken (path : Path) (es : List (Path × BaseNode)) (paths : List Path) (left : List (Path × BaseNode)) : Type 0 where
  pub taken : List (Path × BaseNode)
  pub split : from_path path es ≡ taken ++ left
  pub are : paths ≡ keys_of taken
  pub within : list_all (is_within path) (keys_of taken) ≡ true

pub taken_none : (path : Path) (es left : List (Path × BaseNode)) → left ≡ from_path path es → Taken path es [] left
taken_none path es left h = record { taken = []; split = sym h; are = refl; within = refl }

pub taken_more : (path : Path) (es : List (Path × BaseNode)) (paths : List Path) (e : Path × BaseNode) (left : List (Path × BaseNode))
    → Taken path es paths (e ∷ left) → is_within path e.0 ≡ true
    → Taken path es (paths ++ e.0 ∷ []) left
taken_more path es paths e left t w = record {
  taken = t.taken ++ e ∷ [];
  split = t.split ∙ sym (append_assoc t.taken (e ∷ []) left);
  are = ap (λ (l : List Path). l ++ e.0 ∷ []) t.are ∙ sym (keys_of-push t.taken e);
  within = ap (list_all (is_within path)) (keys_of-push t.taken e) ∙ list_all_push (is_within path) (keys_of t.taken) e.0 t.within w;
}

-- ---- at the end

-- what is left begins outside the path, or is nothing
pub data IsPast (path : Path) : List (Path × BaseNode) → Type 0 where
  nothing_left : IsPast path []
  outside_next : (e : Path × BaseNode) (left : List (Path × BaseNode)) → is_within path e.0 ≡ false → IsPast path (e ∷ left)

any_key : (es : List (Path × BaseNode)) (p : Path) → list_any (λ q. path_eq q p) (keys_of es) ≡ is_some (get_in es p)
any_key [] p = refl
any_key (e ∷ es) p = ap (λ b. b || list_any (λ q. path_eq q p) (keys_of es)) (path_eq-symm e.0 p ∙ sym (at_path p e.0))
    ∙ by (is_at (path_cmp p) e.0) (any_key es p)
  where
    by : (b : Bool) → list_any (λ q. path_eq q p) (keys_of es) ≡ is_some (get_in es p)
        → (b || list_any (λ q. path_eq q p) (keys_of es)) ≡ is_some (cond b (Some e.1) (get_in es p))
    by true ih = refl
    by false ih = ih

none_outside : (path p : Path) (ks : List Path) → list_all (is_within path) ks ≡ true → is_within path p ≡ false
    → list_any (λ q. path_eq q p) ks ≡ false
none_outside path p [] h w = refl
none_outside path p (k ∷ ks) h w = by (path_eq k p) refl (is_within path k) refl h (none_outside path p ks)
  where
    by : (b : Bool) → path_eq k p ≡ b → (d : Bool) → is_within path k ≡ d → (d && list_all (is_within path) ks) ≡ true
        → (list_all (is_within path) ks ≡ true → is_within path p ≡ false → list_any (λ q. path_eq q p) ks ≡ false)
        → (b || list_any (λ q. path_eq q p) ks) ≡ false
    by b e false f h ih = absurd (true≢false (sym h))
    by true e true f h ih = absurd (true≢false (sym f ∙ ap (is_within path) (same_path k p e) ∙ w))
    by false e true f h ih = ih h w

from_same : (path p : Path) (es : List (Path × BaseNode)) → is_within path p ≡ true → get_in (from_path path es) p ≡ get_in es p
from_same path p es w =
    lookup-filter-keys (is_at (path_cmp p)) (λ k. is_le (path_cmp path k) && not false) true
    (λ k h. ap (λ b. b && not false) (ap (λ (q : Path). is_le (path_cmp path q)) (sym (same_path p k (sym (at_path p k) ∙ h)))
    ∙ within_after path p w)) es

module _ (path : Path) (es : List (Path × BaseNode)) (paths : List Path) (left : List (Path × BaseNode)) (t : Taken path es paths left)
    (order : InPathOrder (from_path path es)) where
  -- nothing within the path is left
  left_none : IsPast path left → (p : Path) → is_within path p ≡ true → get_in left p ≡ None
  left_none past p w = by left refl past
    where
      by : (l : List (Path × BaseNode)) → left ≡ l → IsPast path l → get_in l p ≡ None
      by [] same past = refl
      by (e ∷ rest) same (outside_next x y out) = found (get_in (e ∷ rest) p) refl
        where
          ordered : InPathOrder (e ∷ rest)
          ordered = order_behind t.taken (e ∷ rest) (subst InPathOrder (t.split
              ∙ ap (λ (l : List (Path × BaseNode)). t.taken ++ l) same) order)

          passes : (is_le (path_cmp path e.0) && not false) ≡ true
          passes = filter_passes (λ (x : Path × BaseNode). is_le (path_cmp path x.0) && not false) es t.taken e rest (t.split
              ∙ ap (λ (l : List (Path × BaseNode)). t.taken ++ l) same)

          after : (o : Ordering) → path_cmp path e.0 ≡ o → (is_le o && not false) ≡ true → path_cmp path e.0 ≡ Less
          after Less h k = h
          after Equal h k = absurd (true≢false (sym (ap (is_within path) (sym (same_path path e.0 (sym (at_path path e.0) ∙ ap is_eq h)))
              ∙ is_within-same path) ∙ out))
          after Greater h k = absurd (true≢false (sym k))

          found : (o : Option BaseNode) → get_in (e ∷ rest) p ≡ o → o ≡ None
          found None h = refl
          found (Some n) h =
              first_or_after (Some n ≡ None) e rest ordered p (ap is_some h)
              (λ is. absurd (true≢false (sym w ∙ ap (is_within path) is ∙ out)))
              (λ before. absurd (true≢false (sym (within_between path e.0 p (after (path_cmp path e.0) refl passes)
              (λ back. not_before_itself e.0 (paths_total.trans e.0 p e.0 before back)) w) ∙ out)))

  pub paths_are : IsPast path left → (p : Path) → list_any (λ q. path_eq q p) paths ≡ (is_within path p && is_some (get_in es p))
  paths_are past p = ap (list_any (λ q. path_eq q p)) t.are ∙ by (is_within path p) refl
    where
      by : (b : Bool) → is_within path p ≡ b → list_any (λ q. path_eq q p) (keys_of t.taken) ≡ (b && is_some (get_in es p))
      by false w = none_outside path p (keys_of t.taken) t.within w
      by true w =
          any_key t.taken p ∙ sym (or_none (get_in t.taken p))
          ∙ ap is_some (ap (option_or (get_in t.taken p)) (sym (left_none past p w)) ∙ sym (get_in-append t.taken left p)
          ∙ ap (λ (l : List (Path × BaseNode)). get_in l p) (sym t.split) ∙ from_same path p es w)
        where
          or_none : (o : Option BaseNode) → is_some (option_or o None) ≡ is_some o
          or_none None = refl
          or_none (Some x) = refl

-- ---- the nodes below a path

-- those after the path
abbrev pub nodes_behind : Path → List (Path × BaseNode) → List (Path × BaseNode)
nodes_behind path es = entries_between path_cmp (Excluded path) Unbounded es

-- those after a path are from the path on
pub from_behind : (path : Path) (es : List (Path × BaseNode)) → from_path path (nodes_behind path es) ≡ nodes_behind path es
from_behind path [] = refl
from_behind path (e ∷ es) = by (path_cmp path e.0) refl (from_behind path es)
  where
    by : (o : Ordering) → path_cmp path e.0 ≡ o → from_path path (nodes_behind path es) ≡ nodes_behind path es
        → from_path path (cond (is_lt o && not false) (e ∷ nodes_behind path es) (nodes_behind path es))
        ≡ cond (is_lt o && not false) (e ∷ nodes_behind path es) (nodes_behind path es)
    by Less h rest =
        ap (λ x. cond (is_le x && not false) (e ∷ from_path path (nodes_behind path es)) (from_path path (nodes_behind path es))) h
        ∙ ap (λ (l : List (Path × BaseNode)). e ∷ l) rest
    by Equal h rest = rest
    by Greater h rest = rest

-- what is after a path and within it is below it
pub below_there : (path p : Path) (es : List (Path × BaseNode))
    → (is_within path p && is_some (get_in (nodes_behind path es) p)) ≡ (is_below path p && is_some (get_in es p))
below_there path p es = by (is_within path p) refl (path_eq path p) refl
  where
    test : Path → Bool
    test k = is_lt (path_cmp path k) && not false

    found : (b : Bool) → test p ≡ b → get_in (nodes_behind path es) p ≡ cond b (get_in es p) None
    found b h = lookup-filter-keys (is_at (path_cmp p)) (λ k. is_lt (path_cmp path k) && not false) b
        (λ k at. ap test (sym (same_path p k (sym (at_path p k) ∙ at))) ∙ h) es

    itself : path_eq path p ≡ true → (o : Ordering) → path_cmp path p ≡ o → (is_lt o && not false) ≡ false
    itself same Less h = absurd (true≢false (sym same ∙ before_apart path p h))
    itself same Equal h = refl
    itself same Greater h = refl

    by : (w : Bool) → is_within path p ≡ w → (s : Bool) → path_eq path p ≡ s
        → (w && is_some (get_in (nodes_behind path es) p)) ≡ ((w && not s) && is_some (get_in es p))
    by false w s same = refl
    by true w true same = ap is_some (found false (itself same (path_cmp path p) refl))
    by true w false same = ap is_some (found true (ap (λ o. is_lt o && not false) (below_after path p w same)))

-- of those after a path, only what is below it was taken
pub taken_below : (path p : Path) (es : List (Path × BaseNode)) (paths : List Path) (left : List (Path × BaseNode))
    → Taken path (nodes_behind path es) paths left → is_below path p ≡ false → list_any (λ q. path_eq q p) paths ≡ false
taken_below path p es paths left t out = ap (list_any (λ q. path_eq q p)) t.are ∙ by (is_within path p) refl
  where
    there : (n : BaseNode) → get_in t.taken p ≡ Some n → is_some (get_in (nodes_behind path es) p) ≡ true
    there n h =
        ap (λ (l : List (Path × BaseNode)). is_some (get_in l p)) (sym (from_behind path es) ∙ t.split)
        ∙ ap is_some (get_in-append t.taken left p) ∙ ap (λ o. is_some (option_or o (get_in left p))) h

    none : is_within path p ≡ true → (o : Option BaseNode) → get_in t.taken p ≡ o → is_some o ≡ false
    none w None h = refl
    none w (Some n) h =
        sym (ap (λ b. b && is_some (get_in (nodes_behind path es) p)) w ∙ there n h)
        ∙ below_there path p es ∙ ap (λ b. b && is_some (get_in es p)) out

    by : (w : Bool) → is_within path p ≡ w → list_any (λ q. path_eq q p) (keys_of t.taken) ≡ false
    by false w = none_outside path p (keys_of t.taken) t.within w
    by true w = any_key t.taken p ∙ none w (get_in t.taken p) refl

-- where the next node after a path isn't within it, none is below it
pub none_below : (path : Path) (es left : List (Path × BaseNode)) → left ≡ nodes_behind path es → InPathOrder left → IsPast path left
    → (p : Path) → is_below path p ≡ true → get_in es p ≡ None
none_below path es left h order past p below =
    missing (get_in es p) (paths_are path (nodes_behind path es) [] left (taken_none path (nodes_behind path es) left from)
    (subst InPathOrder from order) past p ∙ below_there path p es ∙ ap (λ b. b && is_some (get_in es p)) below)
  where
    from : left ≡ from_path path (nodes_behind path es)
    from = h ∙ sym (from_behind path es)

    missing : (o : Option BaseNode) → false ≡ is_some o → o ≡ None
    missing None h = refl
    missing (Some n) h = absurd (true≢false (sym h))

-- ---- a run of what is in order is in order

order_front : (xs ys : List (Path × BaseNode)) → InPathOrder (xs ++ ys) → InPathOrder xs
unfolding IsStrictlySortedBy
order_front [] ys order = tt
order_front (x ∷ xs) ys order = (front xs order.0, order_front xs ys order.1)
  where
    front : (zs : List (Path × BaseNode)) → AllByRecursion (λ y. path_cmp x.0 y ≡ Less) (keys_of (zs ++ ys))
        → AllByRecursion (λ y. path_cmp x.0 y ≡ Less) (keys_of zs)
    front [] h = tt
    front (z ∷ zs) h = (h.0, front zs h.1)

pub order_run : (es : List (Path × BaseNode)) (i n : ℕ) → InPathOrder es → InPathOrder (take n (drop i es))
order_run es i n order = order_front (take n (drop i es)) (drop n (drop i es))
    (subst InPathOrder (sym (take-append-drop n (drop i es)))
    (order_behind (take i es) (drop i es) (subst InPathOrder (sym (take-append-drop i es)) order)))

-- ---- removals

-- what is below a path, or is it, is within it
pub below_or_same : (path p : Path) → (is_below path p || path_eq path p) ≡ is_within path p
below_or_same path p = by (is_within path p) refl (path_eq path p) refl
  where
    by : (w : Bool) → is_within path p ≡ w → (s : Bool) → path_eq path p ≡ s → ((w && not s) || s) ≡ w
    by true w true same = refl
    by true w false same = refl
    by false w false same = refl
    by false w true same = absurd (true≢false (sym (ap (is_within path) (sym (same_path path p same)) ∙ is_within-same path) ∙ w))
