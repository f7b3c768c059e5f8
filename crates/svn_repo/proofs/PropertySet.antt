-- A property of one fresh node of a draft is set: the tree changes there alone.
use Rattle.std.proofs.Common.{◌≡◌, ◌≢◌, ℕ, ◌≤◌, false, cond, List, [], ◌∷◌, ◌++◌, refl, arith, Option, Some, None, subst, sym, ap}
use Rattle.std.proofs.Common.{◌∙◌, append-nil, inl, inr}
use Rattle.std.specs.List.{slice_get, slice_set}
use Rattle.std.specs.Option.{option_and_then, option_map, is_some}
use Rattle.std.proofs.lemmas.Bool.{cases_eq}
use Rattle.std.proofs.lemmas.Grind.{common_steps}
use Rattle.std.proofs.lemmas.Option.{slice_get_within}
use Rattle.svn_lists.proofs.Equality.{bytes_eq-same}
use Rattle.svn_lists.proofs.Options.{and_then_same}
use Rattle.svn_lists.proofs.Places.{slice_get-set_other, slice_get-set_same}
use Rattle.svn_repo.specs.declared.store.Node.{Node}
use Rattle.svn_types.specs.Names.{Path}
use Rattle.svn_types.specs.Pairs.{with_value}
use Rattle.svn_repo.specs.History.{entries_at, child_in, walk}
use Rattle.svn_repo.specs.Stored.{row_of, rows}
use Rattle.svn_repo.specs.Walks.{rest_below, led}
use Rattle.svn_repo.specs.Trees.{Place, place_of, place_at, touched, touch, graft, is_within, place_with_prop, with_prop}
use Rattle.svn_repo.specs.Drafts.{IsDraftEntries, SetsProp, shape_at, tree_in, IsThawed, IsGrafted}
use Rattle.svn_repo.proofs.Walking.{rest_below_is}
use Rattle.svn_repo.proofs.Thawing.{place_from_shape, place_fresh, rest_below_self}

pub sets_prop : (old : List Node) (at : ℕ) (node : Node) (name : List ℕ) (value : Option (List ℕ)) (ps : List (List ℕ × List ℕ))
    → slice_get old at ≡ Some node → ps ≡ with_value node.props name value
    → SetsProp old (slice_set old at (record node { props = ps })) at name value
sets_prop old at node name value ps here is =
    let now = ap (option_map row_of) (slice_get-set_same old at (record node { props = ps }) (slice_get_within old at node here)) in
    let was : rows old at ≡ Some (row_of node) = ap (option_map row_of) here in
    record {
      size = grind (arith, common_steps);
      others = slice_get-set_other old at (record node { props = ps });
      shape = rw (now, was, is) refl;
      children = λ x. rw (now, was) refl;
      entries = rw (now, was) refl;
    }

module _ (base : ℕ) (old mid new : List Node) (from root at : ℕ) (p : Path) (name : List ℕ) (value : Option (List ℕ))
    (thawed : IsThawed base old mid from root p at) (sets : SetsProp mid new at name value) where
  children_same : (n : ℕ) (x : List ℕ) → child_in (rows new n) x ≡ child_in (rows mid n) x
  children_same n x = elim (cases_eq n at) [
    | inl e ↦ subst (λ k. child_in (rows new k) x ≡ child_in (rows mid k) x) (sym e) (sets.children x)
    | inr ne ↦ ap (λ o. child_in (option_map row_of o) x) (sets.others n ne)
  ]

  entries_same : (n : ℕ) → entries_at (rows new n) ≡ entries_at (rows mid n)
  entries_same n = elim (cases_eq n at) [
    | inl e ↦ subst (λ k. entries_at (rows new k) ≡ entries_at (rows mid k)) (sym e) sets.entries
    | inr ne ↦ ap (λ o. entries_at (option_map row_of o)) (sets.others n ne)
  ]

  walk_prop : (n : ℕ) (q : Path) → walk (rows new) n q ≡ walk (rows mid) n q
  walk_prop n [] = refl
  walk_prop n (x ∷ q) =
      ap (option_and_then (λ c. walk (rows new) c q)) (children_same n x)
      ∙ and_then_same (λ c. walk (rows new) c q) (λ c. walk (rows mid) c q) (child_in (rows mid n) x) (λ c e. walk_prop c q)

  shape_else : (m : ℕ) → m ≢ at → shape_at new m ≡ shape_at mid m
  shape_else m ne = ap (λ o. option_map (place_of None) (option_map row_of o)) (sets.others m ne)

  prop_else : (q : Path) → q ≢ p → tree_in base new root q ≡ tree_in base mid root q
  prop_else q ne =
      ap (option_and_then (place_at (rows new) base)) (walk_prop root q)
      ∙ and_then_same (place_at (rows new) base) (place_at (rows mid) base) (walk (rows mid) root q) (λ m e.
      place_from_shape new mid base m (shape_else m (λ s. ne (thawed.draft.distinct q p at thawed.fresh (e ∙ ap Some s) thawed.here))))

  with_touched : (o : Option Place) → option_map (place_with_prop name value) (option_map touched o) ≡ option_map
      (place_with_prop name value) o
  with_touched None = refl
  with_touched (Some x) = refl

  touch_self : touch (tree_in base old from) p p ≡ option_map touched (tree_in base old from p)
  touch_self = ap (λ o. cond (is_some o) (option_map touched (tree_in base old from p)) (tree_in base old from p)) (rest_below_self p)

  prop_here : tree_in base new root p ≡ option_map (place_with_prop name value) (tree_in base old from p)
  prop_here =
      ap (option_and_then (place_at (rows new) base)) (walk_prop root p ∙ thawed.here) ∙ place_fresh new base at thawed.fresh ∙ sets.shape
      ∙ ap (option_map (place_with_prop name value)) (sym (place_fresh mid base at thawed.fresh)
      ∙ sym (ap (option_and_then (place_at (rows mid) base)) thawed.here) ∙ thawed.tree p ∙ touch_self)
      ∙ with_touched (tree_in base old from p)

  longer_within : (q : Path) (x : List ℕ) (r : Path) → is_within (p ++ x ∷ r) p ≡ false
  longer_within q x r = longer p
    where
      longer : (p : Path) → is_within (p ++ x ∷ r) p ≡ false
      longer [] = refl
      longer (m ∷ p) = rw (bytes_eq-same m) (longer p)

  prop_tree : (q : Path) → tree_in base new root q ≡ graft (tree_in base old from) p (with_prop (tree_in base old from) p name value) q
  prop_tree q = by_rest (rest_below p q) refl
    where
      by_rest : (o : Option Path) → rest_below p q ≡ o → tree_in base new root q ≡ led o (with_prop (tree_in base old from) p name value)
          (touch (tree_in base old from) p q)
      by_rest None e =
          let ne : q ≢ p = λ s. (let bad : None ≡ Some [] = sym e ∙ ap (rest_below p) s ∙ rest_below_self p in cc) in
          prop_else q ne ∙ thawed.tree q
      by_rest (Some []) e =
          let s : q ≡ p = rest_below_is p q [] e ∙ append-nil p in
          ap (tree_in base new root) s ∙ prop_here
      by_rest (Some (x ∷ r)) e =
          let s : q ≡ p ++ x ∷ r = rest_below_is p q (x ∷ r) e in
          let ne : q ≢ p = λ t. (let bad : Some (x ∷ r) ≡ Some [] = sym e ∙ ap (rest_below p) t ∙ rest_below_self p in cc) in
          prop_else q ne ∙ thawed.tree q ∙ ap (touch (tree_in base old from) p) s
          ∙ ap (λ b. cond b (option_map touched (tree_in base old from (p ++ x ∷ r))) (tree_in base old from (p ++ x ∷ r)))
          (longer_within q x r)

  pub prop_grafted : base ≤ root → IsGrafted base old new from root p (with_prop (tree_in base old from) p name value)
  prop_grafted fresh = record {
    draft = record {
      base_in = omega (arith, thawed.draft.base_in, sets.size);
      root_in = omega (arith, thawed.draft.root_in, sets.size);
      closed = λ n m x e. rw sets.size (thawed.draft.closed n m x (sym (children_same n x) ∙ e));
      old_closed = λ n m x h e. thawed.draft.old_closed n m x h (sym (children_same n x) ∙ e);
      distinct = λ q r m h v w. thawed.draft.distinct q r m h (sym (walk_prop root q) ∙ v) (sym (walk_prop root r) ∙ w);
      each = λ n. subst (IsDraftEntries base n) (sym (entries_same n)) (thawed.draft.each n);
    };
    fresh = fresh;
    tree = prop_tree;
  }
