-- Another child put into a fresh directory of a draft: the tree has the child's part there, and nothing else changes.
use Rattle.std.proofs.Common.{◌≡◌, ◌≢◌, ℕ, ◌<◌, ◌≤◌, cond, List, [], ◌∷◌, ◌++◌, length, refl, arith, Option, Some, None, sym, ap}
use Rattle.std.proofs.Common.{◌∙◌, ◌⊎◌, inl, inr}
use Rattle.std.specs.Prelude.{bytes_eq}
use Rattle.std.specs.Option.{option_and_then, option_map}
use Rattle.std.proofs.lemmas.Bool.{cases_Bool, cases_eq}
use Rattle.svn_lists.proofs.Options.{and_then_parts, and_then_same}
use Rattle.svn_repo.specs.declared.store.Node.{Node}
use Rattle.svn_types.specs.Names.{Path}
use Rattle.svn_repo.specs.History.{child_in, walk}
use Rattle.svn_repo.specs.Stored.{row_of, rows}
use Rattle.svn_repo.specs.Walks.{rest_below, led}
use Rattle.svn_repo.specs.Trees.{Tree, place_at, touched, touch, graft}
use Rattle.svn_repo.specs.Drafts.{IsDraft, IsClosedIn, PutsChild, tree_in}
use Rattle.svn_repo.proofs.Walking.{SameBut, IsOnlyWay, walk_after_put, rest_below_is}
use Rattle.svn_repo.proofs.Entering.{each-put}
use Rattle.svn_repo.proofs.EntryWrites.{shape_put}
use Rattle.svn_repo.proofs.Thawing.{place_from_shape, within_more, rest_below_self}

pub led_same : {T : Type 0} (o : Option Path) (u v : Path → T) (x y : T) → ((r : Path) → u r ≡ v r) → (o ≡ None → x ≡ y)
    → led o u x ≡ led o v y
led_same None u v x y h k = k refl
led_same (Some r) u v x y h k = h r

module _ (base : ℕ) (mid new : List Node) (root at : ℕ) (p : Path) (name : List ℕ) (w : Option ℕ)
    (draft : IsDraft base mid root) (way : walk (rows mid) root p ≡ Some at) (fresh : base ≤ at)
    (put : PutsChild mid new at name w)
    (inside : (c : ℕ) → w ≡ Some c → c < length mid)
    (aside : (c m : ℕ) (q r : Path) → w ≡ Some c → base ≤ m → walk (rows mid) c r ≡ Some m → walk (rows mid) root q ≡ Some m → ⊥)
    (alone : (c m : ℕ) (q r : Path) → w ≡ Some c → base ≤ m → walk (rows mid) c q ≡ Some m → walk (rows mid) c r ≡ Some m → q ≡ r)
    (later : (c : ℕ) → w ≡ Some c → (c < base) ⊎ (at < c)) where
  spot : Path
  spot = p ++ name ∷ []

  part : Path → Option ℕ
  part r = option_and_then (λ c. walk (rows mid) c r) w

  rows_but : SameBut (rows mid) (rows new) at
  rows_but m ne = ap (option_map row_of) (put.others m ne)

  only_way : IsOnlyWay (rows mid) root p at
  only_way = record { leads = way; only = λ r h. draft.distinct r p at fresh h way }

  walk_put : (q : Path) → walk (rows new) root q ≡ led (rest_below (p ++ name ∷ []) q) (λ r. option_and_then (λ c. walk (rows mid) c r) w)
      (walk (rows mid) root q)
  walk_put = walk_after_put (rows mid) (rows new) at root p name w rows_but put.children only_way (λ c e r h. aside c at p r e fresh h way)

  places : (o : Option ℕ) → option_and_then (place_at (rows new) base) o ≡ option_and_then (place_at (rows mid) base) o
  places o = and_then_same (place_at (rows new) base) (place_at (rows mid) base) o (λ m e. place_from_shape new mid base m (shape_put mid new at name w put m))

  part_tree : (r : Path) (v : Option ℕ) → option_and_then (place_at (rows mid) base)
      (option_and_then (λ c. walk (rows mid) c r) v) ≡ option_and_then (λ c. tree_in base mid c r) v
  part_tree r None = refl
  part_tree r (Some c) = refl

  led_places : (o : Option Path) (x : Option ℕ) → option_and_then (place_at (rows mid) base)
      (led o (λ r. option_and_then (λ c. walk (rows mid) c r) w) x) ≡ led o (λ r. option_and_then (λ c. tree_in base mid c r) w)
      (option_and_then (place_at (rows mid) base) x)
  led_places None x = refl
  led_places (Some r) x = part_tree r w

  pub put_tree : (q : Path) → tree_in base new root q ≡ led (rest_below (p ++ name ∷ []) q)
      (λ r. option_and_then (λ c. tree_in base mid c r) w) (tree_in base mid root q)
  put_tree q = ap (option_and_then (place_at (rows new) base)) (walk_put q) ∙ places _
      ∙ led_places (rest_below (p ++ name ∷ []) q) (walk (rows mid) root q)

  closed_put : IsClosedIn new
  closed_put k m x e = elim (cases_eq k at) [
    | inl s ↦
        let e2 : cond (bytes_eq name x) w (child_in (rows mid at) x) ≡ Some m = sym (put.children x)
        ∙ ap (λ i. child_in (rows new i) x) (sym s) ∙ e in
        (elim (cases_Bool (bytes_eq name x)) [
          | inl t ↦ let e3 = rw t at e2 in let b : m < length mid = inside m e3 in omega (arith, put.size)
          | inr t ↦ let e3 = rw t at e2 in let b : m < length mid = draft.closed at m x e3 in omega (arith, put.size)
        ])
    | inr ne ↦ let b : m < length mid = draft.closed k m x (ap (λ o. child_in o x) (sym (rows_but k ne)) ∙ e) in omega (arith, put.size)
  ]

  old_closed_put : (k m : ℕ) (x : List ℕ) → k < base → child_in (rows new k) x ≡ Some m → m < base
  old_closed_put k m x h e =
      let ne : k ≢ at = λ s. absurd (omega arith) in
      draft.old_closed k m x h (ap (λ o. child_in o x) (sym (rows_but k ne)) ∙ e)

  distinct_put : (q r : Path) (m : ℕ) → base ≤ m → walk (rows new) root q ≡ Some m → walk (rows new) root r ≡ Some m → q ≡ r
  distinct_put q r m h v x = by_rests (rest_below (p ++ name ∷ []) q) (rest_below (p ++ name ∷ []) r) refl refl (sym (walk_put q) ∙ v)
      (sym (walk_put r) ∙ x)
    where
      by_rests : (a b : Option Path) → a ≡ rest_below (p ++ name ∷ []) q → b ≡ rest_below (p ++ name ∷ []) r
          → led a (λ s. option_and_then (λ c. walk (rows mid) c s) w) (walk (rows mid) root q) ≡ Some m
          → led b (λ s. option_and_then (λ c. walk (rows mid) c s) w) (walk (rows mid) root r) ≡ Some m → q ≡ r
      by_rests None None a b v x = draft.distinct q r m h v x
      by_rests None (Some s) a b v x = let c = and_then_parts (λ c. walk (rows mid) c s) w m x in absurd (aside c.0 m q s c.1 h c.2 v)
      by_rests (Some s) None a b v x = let c = and_then_parts (λ c. walk (rows mid) c s) w m v in absurd (aside c.0 m r s c.1 h c.2 x)
      by_rests (Some s) (Some t) a b v x =
          let c = and_then_parts (λ c. walk (rows mid) c s) w m v in
          let d = and_then_parts (λ c. walk (rows mid) c t) w m x in
          let same : Some d.0 ≡ Some c.0 = sym d.1 ∙ c.1 in
          let same2 : d.0 ≡ c.0 = cc in
          let e : s ≡ t = alone c.0 m s t c.1 h c.2 (ap (λ i. walk (rows mid) i t) (sym same2) ∙ d.2) in
          rest_below_is (p ++ name ∷ []) q s (sym a) ∙ ap (λ z. (p ++ name ∷ []) ++ z) e ∙ sym (rest_below_is (p ++ name ∷ []) r t (sym b))

  pub put_draft : IsDraft base new root
  put_draft = record {
    base_in = omega (arith, draft.base_in, put.size);
    root_in = omega (arith, draft.root_in, put.size);
    closed = closed_put;
    old_closed = old_closed_put;
    distinct = distinct_put;
    each = each-put base mid new at name w draft.each put later;
  }

-- the tree after the way to p was thawed and the part put at the name
pub put_graft : (t : Tree) (p : Path) (name : List ℕ) (u v : Tree) (q : Path) → ((r : Path) → u r ≡ v r)
    → led (rest_below (p ++ name ∷ []) q) u (touch t p q) ≡ graft t (p ++ name ∷ []) v q
put_graft t p name u v q same =
    led_same (rest_below (p ++ name ∷ []) q) u v (touch t p q) (touch t (p ++ name ∷ []) q) same (λ e.
    let ne : q ≢ p ++ name ∷ [] = λ s. (let bad : None ≡ Some [] = sym e ∙ ap (rest_below (p ++ name ∷ [])) s
    ∙ rest_below_self (p ++ name ∷ []) in cc) in
    sym (ap (λ b. cond b (option_map touched (t q)) (t q)) (within_more p name q ne)))
