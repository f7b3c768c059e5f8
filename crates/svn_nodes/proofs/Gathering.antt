-- A tree of the repository is gathered: its node first, and then the entries in order of their names.
use Rattle.std.proofs.Common.{◌≡◌, ℕ, ◌≤◌, length, arith, cond, List, [], ◌∷◌, ◌++◌, refl, sym, ap, ◌∙◌, subst, Option, Some, None}
use Rattle.std.proofs.Common.{append_assoc}
use Rattle.std.proofs.lemmas.List.{append-nil, length-append, length-drop, drop-append-le}
use Rattle.std.specs.Option.{is_some}
use Rattle.svn_lists.proofs.Options.{none_from_test}
use Rattle.svn_types.specs.Names.{Path}
use Rattle.svn_types.specs.Paths.{path_eq}
use Rattle.svn_types.specs.Pairs.{InNameOrder, value_of}
use Rattle.svn_repo.specs.History.{History}
use Rattle.svn_repo.specs.Readings.{entries_of}
use Rattle.svn_model.specs.declared.base_node.BaseNode.{BaseNode}
use Rattle.svn_model.specs.Nodes.{WorkingCopy, base_node}
use Rattle.svn_nodes.specs.Standing.{standing, standing_at, Puts, IsSwept, SameOutside, AreAmong}
use Rattle.std.specs.Ordering.{eq_by_cmp}
use Rattle.std.proofs.lemmas.Map.{update_all_push}
use Rattle.svn_types.specs.Names.{path_cmp}
use Rattle.svn_types.proofs.PathLemmas.{apart_paths, path_eq-same, path_eq-longer}
use Rattle.svn_nodes.specs.Gathered.{gathered}
use Rattle.svn_nodes.specs.Tails.{IsTail}
use Rattle.law_copy.proofs.Lookups.{at_path}
use Rattle.svn_nodes.proofs.Trees.{standing-here, standing-below}
use Rattle.svn_nodes.proofs.Sweeps.{swept_on, among_left, value_of-first}

module _ (h : History) (rev : ℕ) (at q : Path) (n : ℕ) (w w1 : WorkingCopy)
    (put : (p : Path) → w1 p ≡ cond (path_eq at p) (Some (base_node h rev q n)) (w p)) where
  -- nothing is yet at an entry that is left
  abbrev pub Free : List ℕ → Path → Option BaseNode → Type 0
  Free name r found = found ≡ None

  -- what belongs there is at an entry that is done
  abbrev pub Filled : List ℕ → Path → Option BaseNode → Type 0
  Filled name r found = found ≡ standing_at h rev q name (value_of (entries_of h n) name) r

  pub fill_begins : ((r : Path) → w (at ++ r) ≡ None) → (es : List (List ℕ × ℕ)) → InNameOrder es → es ≡ entries_of h n
      → IsSwept at es Free Filled w1 w1 × AreAmong es (entries_of h n)
  fill_begins free es order is = (
    record {
      order = order;
      here = refl;
      outside = λ p out. refl;
      waiting = λ name some r. still name r;
      done =
          λ name none r. still name r
          ∙ sym (ap (λ o. standing_at h rev q name o r) (ap (λ l. value_of l name) (sym is) ∙ none_from_test (value_of es name) none));
    },
    λ name v found. ap (λ l. value_of l name) (sym is) ∙ found,
  )
    where
      still : (name : List ℕ) (r : Path) → w1 (at ++ name ∷ r) ≡ None
      still name r =
          put (at ++ name ∷ r) ∙ ap (λ b. cond b (Some (base_node h rev q n)) (w (at ++ name ∷ r))) (path_eq-longer at name r)
          ∙ free (name ∷ r)

  -- all is there once the node and its entries are
  module _ (w2 : WorkingCopy) (here : w2 at ≡ w1 at) (done : (name : List ℕ) (r : Path) → Filled name r (w2 (at ++ name ∷ r)))
      (outside : SameOutside at w1 w2) where
    within : (r : Path) → w2 (at ++ r) ≡ standing h rev q n r
    within [] =
        ap w2 (append-nil at) ∙ here ∙ put at ∙ ap (λ b. cond b (Some (base_node h rev q n)) (w at)) (path_eq-same at)
        ∙ sym (standing-here h rev q n)
    within (name ∷ r) = done name r ∙ sym (standing-below h rev q n name r)

    pub whole : Puts (standing h rev q n) at w w2
    whole = record {
      inside = within;
      outside = λ p out. outside p out ∙ put p ∙ ap (λ b. cond b (Some (base_node h rev q n)) (w p)) (apart_paths at p out);
    }

  pub fill_ends : (w2 : WorkingCopy) → IsSwept {V = ℕ} at [] Free Filled w1 w2 → Puts (standing h rev q n) at w w2
  fill_ends w2 swept = whole w2 swept.here (λ name r. swept.done name refl r) swept.outside

  pub fill_leaf : ((r : Path) → w (at ++ r) ≡ None) → entries_of h n ≡ [] → Puts (standing h rev q n) at w w1
  fill_leaf free leaf =
      whole w1 refl
      (λ name r. put (at ++ name ∷ r) ∙ ap (λ b. cond b (Some (base_node h rev q n)) (w (at ++ name ∷ r))) (path_eq-longer at name r)
      ∙ free (name ∷ r)
      ∙ sym (ap (λ l. standing_at h rev q name (value_of l name) r) leaf))
      (λ p out. refl)

  module _ (e : List ℕ × ℕ) (left : List (List ℕ × ℕ)) (w2 w3 : WorkingCopy) (swept : IsSwept at (e ∷ left) Free Filled w1 w2) where
    pub fill_free : (r : Path) → w2 ((at ++ e.0 ∷ []) ++ r) ≡ None
    fill_free r = ap w2 (append_assoc at (e.0 ∷ []) r) ∙ swept.waiting e.0 (ap is_some (value_of-first e left)) r

    pub fill_next : AreAmong (e ∷ left) (entries_of h n) → Puts (standing h rev (q ++ e.0 ∷ []) e.1) (at ++ e.0 ∷ []) w2 w3
        → IsSwept at left Free Filled w1 w3 × AreAmong left (entries_of h n)
    fill_next among puts = (
      swept_on ℕ e left swept.order at Free Filled w1 w2 w3 swept filled puts.outside,
      among_left ℕ e left swept.order (entries_of h n) among,
    )
      where
        filled : (r : Path) → Filled e.0 r (w3 (at ++ e.0 ∷ r))
        filled r =
            ap w3 (sym (append_assoc at (e.0 ∷ []) r)) ∙ puts.inside r
            ∙ sym (ap (λ o. standing_at h rev q e.0 o r) (among e.0 e.1 (value_of-first e left)))

    -- the same for paths that are those of the entry
    module _ (at_below below : Path) (is_at : at_below ≡ at ++ e.0 ∷ []) (is_below : below ≡ q ++ e.0 ∷ []) where
      pub fill_free_at : (r : Path) → w2 (at_below ++ r) ≡ None
      fill_free_at r = ap (λ (p : Path). w2 (p ++ r)) is_at ∙ fill_free r

      pub fill_next_at : AreAmong (e ∷ left) (entries_of h n) → Puts (standing h rev below e.1) at_below w2 w3
          → IsSwept at left Free Filled w1 w3 × AreAmong left (entries_of h n)
      fill_next_at among puts =
          fill_next among
          (subst (λ (p : Path). Puts (standing h rev (q ++ e.0 ∷ []) e.1) p w2 w3) is_at
          (subst (λ (p : Path). Puts (standing h rev p e.1) at_below w2 w3) is_below puts))

-- a list with one pair more
pub gathered-pushed : (xs ys : List (Path × BaseNode)) (k : Path) (n : BaseNode) → ys ≡ xs ++ (k, n) ∷ [] → (p : Path)
    → gathered ys p ≡ cond (path_eq k p) (Some n) (gathered xs p)
gathered-pushed xs ys k n e p =
    ap (λ (l : List (Path × BaseNode)). gathered l p) e
    ∙ sym (update_all_push (eq_by_cmp path_cmp) (λ q. None) (gathered xs) xs (k, n) p refl)
    ∙ ap (λ b. cond b (Some n) (gathered xs p)) (at_path k p)

-- ---- paths that are tails of others

pub tail_child : (front : Option ℕ) (p q : Path) (name : List ℕ) → IsTail front p q → IsTail front (p ++ name ∷ []) (q ++ name ∷ [])
tail_child None p q name tail = tt
tail_child (Some k) p q name tail = (
  omega (arith, tail.0, length-append q (name ∷ [])),
  (λ i. tail.1 i ++ name ∷ []) ∙ sym (drop-append-le k q (name ∷ []) tail.0),
)

-- a tail is no longer
pub tail_length : (k : ℕ) (p q : Path) → IsTail (Some k) p q → length p ≤ length q
tail_length k p q tail = omega (arith, ap length tail.1, length-drop k q)
