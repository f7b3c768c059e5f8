-- Nodes compared with others, both in path order: the paths at which the others have nothing.
use Rattle.std.proofs.Common.{◌≡◌, Bool, true, false, ◌&&◌, ◌||◌, cond, List, [], ◌∷◌, ◌++◌, refl, sym, ap, subst, ◌∙◌}
use Rattle.std.proofs.Common.{Option, Some, None, true≢false}
use Rattle.std.specs.Prelude.{is_none}
use Rattle.std.specs.Option.{is_some}
use Rattle.std.specs.declared.cmp.Ordering.TheVariants.{Less, Equal, Greater}
use Rattle.std.specs.Ordering.{is_gt}
use Rattle.svn_lists.proofs.Somewhere.{any_push}
use Rattle.svn_types.specs.Names.{Path, path_cmp}
use Rattle.svn_types.specs.Paths.{path_eq, is_within}
use Rattle.svn_types.proofs.PathsInOrder.{path_tie, path_cmp-same, not_before_itself, not_both, before_apart}
use Rattle.svn_types.proofs.PathLemmas.{same_path}
use Rattle.svn_model.specs.declared.base_node.BaseNode.{BaseNode}
use Rattle.svn_model.specs.Nodes.{get_in, InPathOrder}
use Rattle.law_copy.proofs.NodeLists.{get_in-first, found_first, absent_after, rest_in_order}
use Rattle.svn_nodes.proofs.NodeOrder.{first_or_after, order_behind}
use Rattle.svn_nodes.proofs.Ranges.{from_path, Taken, taken_none, taken_more, IsPast, paths_are}
use Rattle.svn_nodes.proofs.NodeRanges.{within_from}
use Rattle.svn_nodes.proofs.Replacing.{is_one}

-- what is elsewhere than at the first path is among the others
not_first : (e : Path × BaseNode) (es : List (Path × BaseNode)) (p : Path) → path_eq e.0 p ≡ false → get_in (e ∷ es) p ≡ get_in es p
not_first e es p other = get_in-first e es p ∙ ap (λ b. cond b (Some e.1) (get_in es p)) other

-- ---- nodes up to a path are passed

-- nodes before the path were passed
abbrev pub HasPassed : Path → List (Path × BaseNode) → List (Path × BaseNode) → Type 0
HasPassed path old left =
    (InPathOrder old → InPathOrder left) × ((p : Path) → (path_cmp p path ≡ Less → ⊥) → get_in left p ≡ get_in old p)

-- the first of the nodes that are left, and the others
pub passed_step : (path : Path) (old all : List (Path × BaseNode)) (e : Path × BaseNode) (rest left : List (Path × BaseNode))
    → HasPassed path old all → all ≡ e ∷ rest → left ≡ rest → HasPassed path old (e ∷ left)
passed_step path old all e rest left s step advanced =
    subst (HasPassed path old) (step ∙ ap (λ (l : List (Path × BaseNode)). e ∷ l) (sym advanced)) s

pub passed_on : (path : Path) (old : List (Path × BaseNode)) (e : Path × BaseNode) (left : List (Path × BaseNode))
    → HasPassed path old (e ∷ left) → path_cmp e.0 path ≡ Less → HasPassed path old left
passed_on path old e left s before =
    (λ order. rest_in_order e left (s.0 order), λ p after. sym (not_first e left p (other p after (path_eq e.0 p) refl)) ∙ s.1 p after)
  where
    other : (p : Path) → (path_cmp p path ≡ Less → ⊥) → (b : Bool) → path_eq e.0 p ≡ b → path_eq e.0 p ≡ false
    other p after false h = h
    other p after true h = absurd (after (ap (λ q. path_cmp q path) (sym (same_path e.0 p h)) ∙ before))

pub left_behind : (path : Path) (old left : List (Path × BaseNode)) → HasPassed path old left → (p : Path) → path_cmp path p ≡ Less
    → get_in left p ≡ get_in old p
left_behind path old left s p behind = s.1 p (not_both path p behind)

pub none_left : (path : Path) (old : List (Path × BaseNode)) → HasPassed path old [] → false ≡ is_some (get_in old path)
none_left path old s = ap is_some (s.1 path (not_before_itself path))

pub none_yet : (path : Path) (old : List (Path × BaseNode)) (e : Path × BaseNode) (left : List (Path × BaseNode))
    → HasPassed path old (e ∷ left) → path_cmp e.0 path ≡ Greater → InPathOrder old → false ≡ is_some (get_in old path)
none_yet path old e left s greater order =
    by (is_some (get_in (e ∷ left) path)) refl ∙ ap is_some (s.1 path (not_before_itself path))
  where
    by : (b : Bool) → is_some (get_in (e ∷ left) path) ≡ b → false ≡ is_some (get_in (e ∷ left) path)
    by false h = sym h
    by true h =
        absurd (first_or_after ⊥ e left (s.0 order) path h
        (λ same. true≢false (ap is_gt (sym greater ∙ ap (path_cmp e.0) same ∙ path_cmp-same e.0)))
        (λ before. true≢false (ap is_gt (sym greater ∙ before))))

module _ (path : Path) (old : List (Path × BaseNode)) (e : Path × BaseNode) (left : List (Path × BaseNode))
    (s : HasPassed path old (e ∷ left)) (equal : path_cmp e.0 path ≡ Equal) where
  same : e.0 ≡ path
  same = path_tie e.0 path equal

  pub one_here : true ≡ is_some (get_in old path)
  one_here =
      ap is_some (sym (found_first e left) ∙ ap (get_in (e ∷ left)) same ∙ s.1 path (not_before_itself path))

  pub behind_here : (p : Path) → path_cmp path p ≡ Less → get_in left p ≡ get_in old p
  behind_here p behind =
      sym (not_first e left p (before_apart e.0 p (ap (λ q. path_cmp q p) same ∙ behind))) ∙ left_behind path old (e ∷ left) s p behind

-- ---- the paths at which the others have nothing

-- the nodes up to some were gone through
pub record Compared (at : Path) (nodes others beside : List (Path × BaseNode)) (paths : List Path) (left : List (Path × BaseNode))
    : Type 0 where
  pub whole : InPathOrder (from_path at nodes)
  pub seen : List Path
  pub taken : Taken at nodes seen left
  pub noted : (p : Path) → is_one paths p ≡ (is_one seen p && is_none (get_in others p))
  pub order : InPathOrder beside
  pub ahead : (p : Path) → is_within at p ≡ true → is_some (get_in left p) ≡ true → get_in beside p ≡ get_in others p

pub compare_begins : (at : Path) (nodes others beside left : List (Path × BaseNode)) → InPathOrder (from_path at nodes)
    → left ≡ from_path at nodes → beside ≡ from_path at others → InPathOrder beside → Compared at nodes others beside [] left
compare_begins at nodes others beside left whole all rest order = record {
  whole = whole;
  seen = [];
  taken = taken_none at nodes left all;
  noted = λ p. refl;
  order = order;
  ahead = λ p within some. ap (λ (l : List (Path × BaseNode)). get_in l p) rest ∙ within_from at others p within;
}

-- a path is noted where the others have nothing
noted_by : (others : List (Path × BaseNode)) (paths : List Path) (k : Path) (there : Bool) → there ≡ is_some (get_in others k) → (p : Path)
    → is_one (cond there paths (paths ++ k ∷ [])) p ≡ (is_one paths p || (path_eq k p && is_none (get_in others k)))
noted_by others paths k true some p = by (get_in others k) some (is_one paths p) (path_eq k p)
  where
    by : (o : Option BaseNode) → true ≡ is_some o → (a b : Bool) → a ≡ (a || (b && is_none o))
    by None s a b = absurd (true≢false s)
    by (Some n) s true b = refl
    by (Some n) s false true = refl
    by (Some n) s false false = refl
noted_by others paths k false none p =
    any_push (λ q. path_eq q p) paths k ∙ ap (λ b. is_one paths p || b) (by (get_in others k) none (path_eq k p))
  where
    by : (o : Option BaseNode) → false ≡ is_some o → (b : Bool) → b ≡ (b && is_none o)
    by (Some n) h b = absurd (true≢false (sym h))
    by None h true = refl
    by None h false = refl

module _ (at : Path) (nodes others beside beside2 : List (Path × BaseNode)) (paths paths2 : List Path) (e : Path × BaseNode)
    (all left : List (Path × BaseNode)) (step : all ≡ e ∷ left) (was : Compared at nodes others beside paths all)
    (within : is_within at e.0 ≡ true) where
  s : Compared at nodes others beside paths (e ∷ left)
  s = subst (λ (l : List (Path × BaseNode)). Compared at nodes others beside paths l) step was

  ordered : InPathOrder (e ∷ left)
  ordered = order_behind s.taken.taken (e ∷ left) (subst InPathOrder s.taken.split s.whole)

  -- there: the path was found on the other side, and so it is among the others
  pub compare_on : (there : Bool) → there ≡ is_some (get_in beside e.0) → InPathOrder beside2
      → ((p : Path) → path_cmp e.0 p ≡ Less → get_in beside2 p ≡ get_in beside p) → paths2 ≡ cond there paths (paths ++ e.0 ∷ [])
      → Compared at nodes others beside2 paths2 left
  compare_on there found order behind noted = record {
    whole = s.whole;
    seen = s.seen ++ e.0 ∷ [];
    taken = taken_more at nodes s.seen e left s.taken within;
    noted = λ p.
        ap (λ (l : List Path). is_one l p) noted
        ∙ noted_by others paths e.0 there (found ∙ ap is_some (s.ahead e.0 within (ap is_some (found_first e left)))) p
        ∙ ap (λ b. b || (path_eq e.0 p && is_none (get_in others e.0))) (s.noted p)
        ∙ by p (is_one s.seen p) (path_eq e.0 p) refl
        ∙ ap (λ b. b && is_none (get_in others p)) (sym (any_push (λ q. path_eq q p) s.seen e.0));
    order = order;
    ahead = λ p inside some.
        let all : is_some (get_in (e ∷ left) p) ≡ true = ap is_some (get_in-first e left p) ∙ either (path_eq e.0 p) (get_in left p) some in
        behind p (first_or_after (path_cmp e.0 p ≡ Less) e left ordered p all
        (λ same. absurd (true≢false (sym some ∙ ap is_some (ap (get_in left) same ∙ absent_after e left ordered)))) (λ later. later))
        ∙ s.ahead p inside all;
  }
    where
      either : (b : Bool) (o : Option BaseNode) → is_some o ≡ true → is_some (cond b (Some e.1) o) ≡ true
      either true o h = refl
      either false o h = h

      by : (p : Path) (a b : Bool) → path_eq e.0 p ≡ b
          → ((a && is_none (get_in others p)) || (b && is_none (get_in others e.0))) ≡ ((a || b) && is_none (get_in others p))
      by p a true e_is =
          ap (λ q. (a && is_none (get_in others p)) || is_none (get_in others q)) (same_path e.0 p e_is)
          ∙ both a (is_none (get_in others p))
        where
          both : (x y : Bool) → ((x && y) || y) ≡ ((x || true) && y)
          both true true = refl
          both true false = refl
          both false y = refl
      by p a false other = neither a (is_none (get_in others p))
        where
          neither : (x y : Bool) → ((x && y) || false) ≡ ((x || false) && y)
          neither true true = refl
          neither true false = refl
          neither false y = refl

pub compare_ends : (at : Path) (nodes others beside : List (Path × BaseNode)) (paths : List Path) (left : List (Path × BaseNode))
    → Compared at nodes others beside paths left → IsPast at left → (p : Path)
    → is_one paths p ≡ ((is_within at p && is_some (get_in nodes p)) && is_none (get_in others p))
compare_ends at nodes others beside paths left s past p =
    s.noted p ∙ ap (λ b. b && is_none (get_in others p)) (paths_are at nodes s.seen left s.taken s.whole past p)
