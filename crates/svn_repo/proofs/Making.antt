-- A draft with the root made anew, with a new node put in, and with an old node put in.
use Rattle.std.proofs.Common.{◌≡◌, ℕ, ◌<◌, ◌≤◌, true, cond, List, [], ◌∷◌, ◌++◌, length, refl, arith, Option, Some, None, subst, sym, ap}
use Rattle.std.proofs.Common.{◌∙◌, length-append, ◌⊎◌, inl, inr}
use Rattle.std.specs.Option.{option_and_then, option_map, is_some}
use Rattle.svn_lists.proofs.Options.{and_then_same, and_then_every}
use Rattle.svn_repo.specs.declared.store.Node.{Node}
use Rattle.svn_types.specs.Names.{Path}
use Rattle.svn_repo.specs.History.{entries_at, child_in, walk}
use Rattle.svn_repo.specs.Stored.{row_of, rows, entries_of}
use Rattle.svn_repo.specs.Walks.{rest_below, led}
use Rattle.svn_repo.specs.Trees.{Place, Tree, place_of, place_at, touched, touch, is_within, leaf, IsWay, is_directory_place}
use Rattle.svn_repo.specs.Drafts.{IsDraft, IsDraftEntries, PutsChild, shape_at, tree_in, IsThawed, IsGrafted, KeepsOld, old_part, IsOld}
use Rattle.svn_repo.specs.Drafts.{IsListing}
use Rattle.svn_repo.specs.Changes.{above_fault}
use Rattle.svn_repo.proofs.Faults.{way_above}
use Rattle.svn_repo.proofs.Walking.{walk_on}
use Rattle.svn_repo.proofs.Thawing.{StaysIn, walk_stays, walk_same, place_from_shape, place_fresh, touched_shape, rows-append, rows-push}
use Rattle.svn_repo.proofs.Thawing.{not_within_longer}
use Rattle.svn_repo.proofs.Thawing.{closed_grown, walk_grown, in_range}
use Rattle.svn_repo.proofs.Entering.{no_entries, old_entries, each-push}
use Rattle.svn_repo.proofs.Ways.{is_some-touch, is_directory_place-touch, listing_at}
use Rattle.svn_repo.proofs.ChildPut.{put_tree, put_draft, put_graft}

pub stays_old : (base : ℕ) (nodes : List Node) (root : ℕ) → IsDraft base nodes root → StaysIn (λ k. k < base) (rows nodes)
stays_old base nodes root draft k m x h e = draft.old_closed k m x h e

-- ---- the root

module _ (base : ℕ) (old : List Node) (root : ℕ) (node : Node) (draft : IsDraft base old root) (below : root < base)
    (copy : rows old root ≡ Some (row_of node)) where
  row_new : rows (old ++ node ∷ []) (length old) ≡ rows old root
  row_new = rows-push old node ∙ sym copy

  walk_new : (x : List ℕ) (r : Path) → walk (rows (old ++ node ∷ [])) (length old) (x ∷ r) ≡ walk (rows old) root (x ∷ r)
  walk_new x r =
      ap (λ o. option_and_then (λ c. walk (rows (old ++ node ∷ [])) c r) (child_in o x)) row_new
      ∙ and_then_same (λ c. walk (rows (old ++ node ∷ [])) c r) (λ c. walk (rows old) c r) (child_in (rows old root) x)
      (λ c e. walk_grown old node draft.closed c r (draft.closed root c x e))

  new_old : (x : List ℕ) (r : Path) (m : ℕ) → walk (rows (old ++ node ∷ [])) (length old) (x ∷ r) ≡ Some m → m < base
  new_old x r m w = walk_stays (λ k. k < base) (rows old) (stays_old base old root draft) root m (x ∷ r) below (sym (walk_new x r) ∙ w)

  shape_same : (m : ℕ) → m < length old → shape_at (old ++ node ∷ []) m ≡ shape_at old m
  shape_same m h = ap (option_map (place_of None)) (rows-append old node m h)

  root_distinct : (p q : Path) (m : ℕ) → base ≤ m → walk (rows (old ++ node ∷ [])) (length old) p ≡ Some m
      → walk (rows (old ++ node ∷ [])) (length old) q ≡ Some m → p ≡ q
  root_distinct [] [] m h v w = refl
  root_distinct (x ∷ p) q m h v w = let b : m < base = new_old x p m v in absurd (omega arith)
  root_distinct [] (x ∷ q) m h v w = let b : m < base = new_old x q m w in absurd (omega arith)

  root_tree : (q : Path) → tree_in base (old ++ node ∷ []) (length old) q ≡ touch (tree_in base old root) [] q
  root_tree [] = place_fresh (old ++ node ∷ []) base (length old) draft.base_in ∙ ap (option_map (place_of None)) row_new
      ∙ sym (touched_shape old base root)
  root_tree (x ∷ q) =
      ap (option_and_then (place_at (rows (old ++ node ∷ [])) base)) (walk_new x q)
      ∙ and_then_same (place_at (rows (old ++ node ∷ [])) base) (place_at (rows old) base) (walk (rows old) root (x ∷ q))
      (λ m e. place_from_shape (old ++ node ∷ []) old base m (shape_same m (in_range old draft.closed root m (x ∷ q) draft.root_in e)))

  copied_entries : IsDraftEntries base root (entries_of node.content)
  copied_entries = subst (λ o. IsDraftEntries base root (entries_at o)) copy (draft.each root)

  pub root_thawed : IsThawed base old (old ++ node ∷ []) root (length old) [] (length old)
  root_thawed = record {
    draft = record {
      base_in = omega (arith, draft.base_in, length-append old (node ∷ []));
      root_in = omega (arith, length-append old (node ∷ []));
      closed = closed_grown old node draft.closed (λ m x e. draft.closed root m x (ap (λ o. child_in o x) copy ∙ e));
      old_closed = λ k m x h e. let b : k < length old = omega (arith, draft.base_in) in
          draft.old_closed k m x h (ap (λ o. child_in o x) (sym (rows-append old node k b)) ∙ e);
      distinct = root_distinct;
      each = each-push base old node draft.each (old_entries base (length old) (entries_of node.content) (copied_entries.in_order)
          (copied_entries.named) (λ name m e. draft.old_closed root m name below (ap (λ o. child_in o name) copy ∙ e)));
    };
    here = refl;
    fresh = draft.base_in;
    tree = root_tree;
  }

touched_twice : (o : Option Place) → option_map touched (option_map touched o) ≡ option_map touched o
touched_twice None = refl
touched_twice (Some p) = refl

touch_root : (t : Tree) (p q : Path) → touch (touch t []) p q ≡ touch t p q
touch_root t p [] = touched_twice (t [])
touch_root t p (x ∷ q) = refl

-- the root, and then the way below it
pub thawed_path : (base : ℕ) (old mid new : List Node) (from root at : ℕ) (p : Path) → IsThawed base old mid from root [] root
    → IsThawed base mid new root root p at → IsThawed base old new from root p at
thawed_path base old mid new from root at p top way = record {
  draft = way.draft;
  here = way.here;
  fresh = way.fresh;
  tree = λ q. way.tree q ∙ ap (λ o. cond (is_within q p) (option_map touched o) o) (top.tree q) ∙ touch_root (tree_in base old from) p q;
}

pub way_below_root : (base : ℕ) (old mid : List Node) (from root : ℕ) (p : Path) → IsThawed base old mid from root [] root
    → IsWay (tree_in base old from) p → IsWay (tree_in base mid root) p
way_below_root base old mid from root p top way = record {
  directories = λ i h. ap is_directory_place (top.tree _) ∙ is_directory_place-touch (tree_in base old from) [] _ ∙ way.directories i h;
  present = λ i h. ap is_some (top.tree _) ∙ is_some-touch (tree_in base old from) [] _ ∙ way.present i h;
}

-- the last directory of a thawed way
thawed_listing : (base : ℕ) (old mid : List Node) (from root at : ℕ) (p : Path) → IsThawed base old mid from root p at
    → is_directory_place (tree_in base old from p) ≡ true → IsListing mid at
thawed_listing base old mid from root at p thawed h =
    listing_at base mid root at p thawed.here (ap is_directory_place (thawed.tree p) ∙ is_directory_place-touch (tree_in base old from) p p
    ∙ h)

-- the directory above the last name of a path that has no fault above it
pub thawed_above : (base : ℕ) (old mid : List Node) (from root at : ℕ) (path above : Path) (last : List ℕ) → path ≡ above ++ last ∷ []
    → above_fault (tree_in base old from) path ≡ None → IsThawed base old mid from root above at → IsListing mid at
thawed_above base old mid from root at path above last split no_fault thawed =
    thawed_listing base old mid from root at above thawed (way_above (tree_in base old from) path above last split no_fault).1

-- what is under the last name of a path, once the directory above is made anew, is what was at the path
pub found_above : (base : ℕ) (old mid : List Node) (from root at : ℕ) (above : Path) (last : List ℕ)
    → IsThawed base old mid from root above at
    → option_and_then (place_at (rows mid) base) (child_in (rows mid at) last) ≡ tree_in base old from (above ++ last ∷ [])
found_above base old mid from root at above last thawed =
    let path : Path = above ++ last ∷ [] in
    let t : Tree = tree_in base old from in
    let walked : walk (rows mid) root path ≡ child_in (rows mid at) last =
    walk_on (rows mid) root at above (last ∷ []) thawed.here ∙ and_then_every (child_in (rows mid at) last) in
    ap (option_and_then (place_at (rows mid) base)) (sym walked)
    ∙ thawed.tree path ∙ ap (λ b. cond b (option_map touched (t path)) (t path)) (not_within_longer above last)

-- ---- a new node

module _ (base : ℕ) (old mid new : List Node) (from root at : ℕ) (p : Path) (name : List ℕ) (node : Node)
    (thawed : IsThawed base old mid from root p at) (childless : entries_of node.content ≡ [])
    (put : PutsChild (mid ++ node ∷ []) new at name (Some (length mid))) where
  no_child : (x : List ℕ) → child_in (Some (row_of node)) x ≡ None
  no_child x = rw childless refl

  leaf_child : (x : List ℕ) → child_in (rows (mid ++ node ∷ []) (length mid)) x ≡ None
  leaf_child x = ap (λ o. child_in o x) (rows-push mid node) ∙ no_child x

  leaf_walk : (r : Path) (m : ℕ) → walk (rows (mid ++ node ∷ [])) (length mid) r ≡ Some m → (r ≡ []) × (m ≡ length mid)
  leaf_walk [] m w = (refl, let e : length mid ≡ m = cc in sym e)
  leaf_walk (x ∷ r) m w = let bad : None ≡ Some m = sym (ap (option_and_then (λ c. walk (rows (mid ++ node ∷ [])) c r)) (leaf_child x))
      ∙ w in cc

  walk_mid : (q : Path) → walk (rows (mid ++ node ∷ [])) root q ≡ walk (rows mid) root q
  walk_mid q = walk_grown mid node thawed.draft.closed root q thawed.draft.root_in

  draft_mid : IsDraft base (mid ++ node ∷ []) root
  draft_mid = record {
    base_in = omega (arith, thawed.draft.base_in, length-append mid (node ∷ []));
    root_in = omega (arith, thawed.draft.root_in, length-append mid (node ∷ []));
    closed = closed_grown mid node thawed.draft.closed (λ m x e. let bad : None ≡ Some m = sym (no_child x) ∙ e in cc);
    old_closed = λ k m x h e. let b : k < length mid = omega (arith, thawed.draft.base_in) in
        thawed.draft.old_closed k m x h (ap (λ o. child_in o x) (sym (rows-append mid node k b)) ∙ e);
    distinct = λ q r m h v w. thawed.draft.distinct q r m h (sym (walk_mid q) ∙ v) (sym (walk_mid r) ∙ w);
    each = each-push base mid node thawed.draft.each (no_entries base (length mid) (entries_of node.content) childless);
  }

  last_later : (c : ℕ) → Some (length mid) ≡ Some c → (c < base) ⊎ (at < c)
  last_later c e =
      let s : length mid ≡ c = cc in
      let b : at < length mid = in_range mid thawed.draft.closed root at p thawed.draft.root_in thawed.here in
      inr (omega arith)

  inside : (c : ℕ) → Some (length mid) ≡ Some c → c < length (mid ++ node ∷ [])
  inside c e = let s : length mid ≡ c = cc in omega (arith, length-append mid (node ∷ []))

  aside : (c m : ℕ) (q r : Path) → Some (length mid) ≡ Some c → base ≤ m → walk (rows (mid ++ node ∷ [])) c r ≡ Some m
      → walk (rows (mid ++ node ∷ [])) root q ≡ Some m → ⊥
  aside c m q r e h v w =
      let s : length mid ≡ c = cc in
      let l = leaf_walk r m (ap (λ i. walk (rows (mid ++ node ∷ [])) i r) s ∙ v) in
      let b : m < length mid = in_range mid thawed.draft.closed root m q thawed.draft.root_in (sym (walk_mid q) ∙ w) in
      absurd (omega (arith, l.1))

  alone : (c m : ℕ) (q r : Path) → Some (length mid) ≡ Some c → base ≤ m → walk (rows (mid ++ node ∷ [])) c q ≡ Some m
      → walk (rows (mid ++ node ∷ [])) c r ≡ Some m → q ≡ r
  alone c m q r e h v w =
      let s : length mid ≡ c = cc in
      (leaf_walk q m (ap (λ i. walk (rows (mid ++ node ∷ [])) i q) s ∙ v)).0
      ∙ sym (leaf_walk r m (ap (λ i. walk (rows (mid ++ node ∷ [])) i r) s ∙ w)).0

  way_mid : walk (rows (mid ++ node ∷ [])) root p ≡ Some at
  way_mid = walk_mid p ∙ thawed.here

  part_is : (r : Path) → tree_in base (mid ++ node ∷ []) (length mid) r ≡ leaf (place_of None (row_of node)) r
  part_is [] = let b : base ≤ length mid = thawed.draft.base_in in place_fresh (mid ++ node ∷ []) base (length mid) b
      ∙ ap (option_map (place_of None)) (rows-push mid node)
  part_is (x ∷ r) = ap (λ o. option_and_then (place_at (rows (mid ++ node ∷ [])) base)
      (option_and_then (λ c. walk (rows (mid ++ node ∷ [])) c r) o)) (leaf_child x)

  places_mid : (q : Path) → tree_in base (mid ++ node ∷ []) root q ≡ tree_in base mid root q
  places_mid q =
      ap (option_and_then (place_at (rows (mid ++ node ∷ [])) base)) (walk_mid q)
      ∙ and_then_same (place_at (rows (mid ++ node ∷ [])) base) (place_at (rows mid) base) (walk (rows mid) root q)
      (λ m e. place_from_shape (mid ++ node ∷ []) mid base m
      (ap (option_map (place_of None)) (rows-append mid node m (in_range mid thawed.draft.closed root m q thawed.draft.root_in e))))

  pub made_grafted : base ≤ root → IsGrafted base old new from root (p ++ name ∷ []) (leaf (place_of None (row_of node)))
  made_grafted fresh = record {
    draft = put_draft base (mid ++ node ∷ []) new root at p name
        (Some (length mid)) draft_mid way_mid thawed.fresh put inside aside alone last_later;
    fresh = fresh;
    tree = λ q.
        put_tree base (mid ++ node ∷ []) new root at p name
        (Some (length mid)) draft_mid way_mid thawed.fresh put inside aside alone last_later q
        ∙ ap (led (rest_below (p ++ name ∷ []) q) (λ r. tree_in base (mid ++ node ∷ []) (length mid) r)) (places_mid q ∙ thawed.tree q)
        ∙ put_graft (tree_in base old from) p name (λ r. tree_in base (mid ++ node ∷ []) (length mid) r)
        (leaf (place_of None (row_of node))) q part_is;
  }

-- ---- an old node, or nothing

module _ (base : ℕ) (old mid new : List Node) (from root at : ℕ) (p : Path) (name : List ℕ) (w : Option ℕ)
    (first : IsDraft base old from) (thawed : IsThawed base old mid from root p at) (kept : KeepsOld base old mid)
    (is_old : IsOld base w) (put : PutsChild mid new at name w) where
  old_range : (c m : ℕ) (r : Path) → w ≡ Some c → walk (rows mid) c r ≡ Some m → m < base
  old_range c m r e v = walk_stays (λ k. k < base) (rows mid) (stays_old base mid root thawed.draft) c m r (is_old c e) v

  inside2 : (c : ℕ) → w ≡ Some c → c < length mid
  inside2 c e = omega (arith, is_old c e, thawed.draft.base_in)

  aside2 : (c m : ℕ) (q r : Path) → w ≡ Some c → base ≤ m → walk (rows mid) c r ≡ Some m → walk (rows mid) root q ≡ Some m → ⊥
  aside2 c m q r e h v x = let b : m < base = old_range c m r e v in omega arith

  alone2 : (c m : ℕ) (q r : Path) → w ≡ Some c → base ≤ m → walk (rows mid) c q ≡ Some m → walk (rows mid) c r ≡ Some m → q ≡ r
  alone2 c m q r e h v x = let b : m < base = old_range c m q e v in absurd (omega arith)

  rows_kept : (k : ℕ) → k < base → rows mid k ≡ rows old k
  rows_kept k h = ap (option_map row_of) (kept.same k h)

  old_tree : (c : ℕ) (r : Path) → c < base → tree_in base mid c r ≡ tree_in base old c r
  old_tree c r h =
      ap (option_and_then (place_at (rows mid) base)) (walk_same (λ k. k < base) (rows old) (rows mid)
      (stays_old base old from first) rows_kept c r h)
      ∙ and_then_same (place_at (rows mid) base) (place_at (rows old) base) (walk (rows old) c r)
      (λ m e. place_from_shape mid old base m (ap (option_map (place_of None))
      (rows_kept m (walk_stays (λ k. k < base) (rows old) (stays_old base old from first) c m r h e))))

  part_is2 : (r : Path) → old_part base mid w r ≡ old_part base old w r
  part_is2 r = and_then_same (λ c. tree_in base mid c r) (λ c. tree_in base old c r) w (λ c e. old_tree c r (is_old c e))

  pub old_grafted : base ≤ root → IsGrafted base old new from root (p ++ name ∷ []) (old_part base old w)
  old_grafted fresh = record {
    draft = put_draft base mid new root at p name w thawed.draft thawed.here thawed.fresh put inside2 aside2 alone2
        (λ c e. inl (is_old c e));
    fresh = fresh;
    tree = λ q.
        put_tree base mid new root at p name w thawed.draft thawed.here thawed.fresh put inside2 aside2 alone2 (λ c e. inl (is_old c e)) q
        ∙ ap (led (rest_below (p ++ name ∷ []) q) (old_part base mid w)) (thawed.tree q)
        ∙ put_graft (tree_in base old from) p name (old_part base mid w) (old_part base old w) q part_is2;
  }
