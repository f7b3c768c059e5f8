-- One node made anew: the tree stays as it was but for the number there, and the nodes still are a draft.
use Rattle.std.proofs.Common.{◌≡◌, ◌≢◌, ℕ, ◌+◌, ◌<◌, ◌≤◌, true, false, cond, List, [], ◌∷◌, ◌++◌, length, refl, arith, Option, Some, None}
use Rattle.std.proofs.Common.{subst, sym, ap, ◌∙◌, append-nil, length-append, ◌⊎◌, inl, inr}
use Rattle.std.specs.Prelude.{bytes_eq, nat_lt}
use Rattle.std.specs.Option.{option_and_then, option_map, is_some}
use Rattle.std.specs.Cmp.Lexicographic.{pointwise}
use Rattle.std.proofs.lemmas.Bool.{cases_Bool, cases_lt, cases_eq, le-ltb}
use Rattle.std.proofs.lemmas.Option.{slice_get_past}
use Rattle.std.proofs.lemmas.Slice.Eq.{bytes_eq-Decides, slice_eq-Decides}
use Rattle.svn_lists.proofs.Options.{and_then_parts, and_then_same}
use Rattle.svn_lists.proofs.Places.{slice_get-append, slice_get-push}
use Rattle.svn_repo.specs.declared.store.Node.{Node}
use Rattle.svn_types.specs.Names.{Path}
use Rattle.svn_repo.specs.History.{Nodes, NodeRow, entries_at, child_in, walk}
use Rattle.svn_repo.specs.Stored.{row_of, rows, entries_of}
use Rattle.svn_repo.specs.Walks.{rest_below, led}
use Rattle.svn_repo.specs.Trees.{Place, Tree, place_of, place_at, tree_below, touched, touch, is_within}
use Rattle.svn_repo.specs.Drafts.{IsDraft, IsDraftEntries, IsClosedIn, ThawsChild, already, copied, PutsChild, shape_at, tree_in, IsThawed}
use Rattle.svn_repo.proofs.EntryWrites.{shape_put}
use Rattle.svn_repo.proofs.Entering.{old_entries, each-push, each-put}
use Rattle.svn_repo.proofs.Walking.{SameBut, IsApart, IsOnlyWay, walk_step, walk_on, walk_after_put}
use Rattle.svn_repo.proofs.Walking.{rest_below_is}

-- ---- paths

pub path_cases : (p q : Path) → (p ≡ q) ⊎ (p ≡ q → ⊥)
path_cases p q =
    let d = slice_eq-Decides {E = bytes_eq} bytes_eq-Decides p q (pointwise bytes_eq p q) refl in
    elim (cases_Bool (pointwise bytes_eq p q)) [
      | inl t ↦ inl (d.0 t)
      | inr f ↦ inr (λ e. let t : pointwise bytes_eq p q ≡ true = d.1 e in
          cc)
    ]

pub rest_below_self : (p : Path) → rest_below p p ≡ Some []
rest_below_self [] = refl
rest_below_self (m ∷ p) = rw ((bytes_eq-Decides m m).1 refl) (rest_below_self p)

-- ---- walks among some of the nodes

-- no child leads out of the nodes with P
abbrev pub StaysIn : (ℕ → Type 0) → Nodes → Type 0
StaysIn P f = (n m : ℕ) (name : List ℕ) → P n → child_in (f n) name ≡ Some m → P m

pub walk_stays : (P : ℕ → Type 0) (f : Nodes) → StaysIn P f → (n m : ℕ) (q : Path) → P n → walk f n q ≡ Some m → P m
walk_stays P f stays n m [] h w = let e : n ≡ m = cc in subst P e h
walk_stays P f stays n m (x ∷ q) h w =
    let s = and_then_parts (λ c. walk f c q) (child_in (f n) x) m w in
    walk_stays P f stays s.0 m q (stays n s.0 x h s.1) s.2

pub walk_same : (P : ℕ → Type 0) (f g : Nodes) → StaysIn P f → ((n : ℕ) → P n → g n ≡ f n) → (n : ℕ) (q : Path) → P n
    → walk g n q ≡ walk f n q
walk_same P f g stays same n [] h = refl
walk_same P f g stays same n (x ∷ q) h =
    ap (λ o. option_and_then (λ c. walk g c q) (child_in o x)) (same n h)
    ∙ and_then_same (λ c. walk g c q) (λ c. walk f c q) (child_in (f n) x) (λ c e. walk_same P f g stays same c q (stays n c x h e))

-- ---- places

abbrev renumber : Option ℕ → Place → Place
renumber number p = record { number = number; line = p.line; kind = p.kind; text = p.text; props = p.props }

place_renumber : (number : Option ℕ) (o : Option NodeRow)
    → option_map (place_of number) o ≡ option_map (renumber number) (option_map (place_of None) o)
place_renumber number None = refl
place_renumber number (Some row) = refl

-- a place is known by the shape of its node
pub place_from_shape : (new old : List Node) (base m : ℕ) → shape_at new m ≡ shape_at old m
    → place_at (rows new) base m ≡ place_at (rows old) base m
place_from_shape new old base m e =
    let number : Option ℕ = cond (nat_lt m base) (Some m) None in
    place_renumber number (rows new m) ∙ ap (option_map (renumber number)) e ∙ sym (place_renumber number (rows old m))

-- a fresh node has no number
pub place_fresh : (nodes : List Node) (base m : ℕ) → base ≤ m → place_at (rows nodes) base m ≡ shape_at nodes m
place_fresh nodes base m h = ap (λ b. option_map (place_of (cond b (Some m) None)) (rows nodes m)) (le-ltb m base h)

touched_place : (number : Option ℕ) (o : Option NodeRow)
    → option_map touched (option_map (place_of number) o) ≡ option_map (place_of None) o
touched_place number None = refl
touched_place number (Some row) = refl

pub touched_shape : (nodes : List Node) (base m : ℕ) → option_map touched (place_at (rows nodes) base m) ≡ shape_at nodes m
touched_shape nodes base m = touched_place (cond (nat_lt m base) (Some m) None) (rows nodes m)

-- ---- one more node

pub rows-append : (old : List Node) (node : Node) (m : ℕ) → m < length old → rows (old ++ node ∷ []) m ≡ rows old m
rows-append old node m h = ap (option_map row_of) (slice_get-append old (node ∷ []) m h)

pub rows-push : (old : List Node) (node : Node) → rows (old ++ node ∷ []) (length old) ≡ Some (row_of node)
rows-push old node = ap (option_map row_of) (slice_get-push old node)

pub rows_past : (nodes : List Node) (m : ℕ) → length nodes ≤ m → rows nodes m ≡ None
rows_past nodes m h = ap (option_map row_of) (slice_get_past nodes m h)

pub in_range : (nodes : List Node) → IsClosedIn nodes → (n m : ℕ) (q : Path) → n < length nodes → walk (rows nodes) n q ≡ Some m
    → m < length nodes
in_range nodes closed = walk_stays (λ n. n < length nodes) (rows nodes) (λ n m name h e. closed n m name e)

-- where n leads is known in the longer list too
pub walk_grown : (old : List Node) (node : Node) → IsClosedIn old → (n : ℕ) (q : Path) → n < length old
    → walk (rows (old ++ node ∷ [])) n q ≡ walk (rows old) n q
walk_grown old node closed = walk_same (λ n. n < length old) (rows old) (rows (old ++ node ∷ [])) (λ n m name h e. closed n m name e)
    (rows-append old node)

pub closed_grown : (old : List Node) (node : Node) → IsClosedIn old
    → ((m : ℕ) (name : List ℕ) → child_in (Some (row_of node)) name ≡ Some m → m < length old) → IsClosedIn (old ++ node ∷ [])
closed_grown old node closed last n m name e =
    let long : length (old ++ node ∷ []) ≡ length old + 1 = omega (arith, length-append old (node ∷ [])) in
    elim (cases_lt n (length old)) [
      | inl h ↦
          let e2 : child_in (rows old n) name ≡ Some m = ap (λ o. child_in o name) (sym (rows-append old node n h)) ∙ e in
          let b : m < length old = closed n m name e2 in omega arith
      | inr h ↦ elim (cases_eq n (length old)) [
        | inl same ↦
            let e2 : child_in (Some (row_of node)) name ≡ Some m = ap (λ o. child_in o name) (sym (rows-push old node))
            ∙ ap (λ k. child_in (rows (old ++ node ∷ []) k) name) (sym same) ∙ e in
            let b : m < length old = last m name e2 in omega arith
        | inr other ↦
            let past : length (old ++ node ∷ []) ≤ n = omega arith in
            let e2 : None ≡ Some m = ap (λ o. child_in o name) (sym (rows_past (old ++ node ∷ []) n past)) ∙ e in cc
      ]
    ]

-- what one step of the walk down leaves
pub record IsStep (base : ℕ) (old new : List Node) (root : ℕ) (p : Path) (result : ℕ) : Type 0 where
  pub draft : IsDraft base new root
  pub here : walk (rows new) root p ≡ Some result
  pub fresh : base ≤ result
  pub tree_here : tree_below (rows new) base root p ≡ option_map touched (tree_below (rows old) base root p)
  pub tree_else : (q : Path) → q ≢ p → tree_below (rows new) base root q ≡ tree_below (rows old) base root q

step_already : (base : ℕ) (old : List Node) (root at : ℕ) (p : Path) (name : List ℕ) (result : ℕ) → IsDraft base old root
    → walk (rows old) root p ≡ Some at → child_in (rows old at) name ≡ Some result → base ≤ result
    → IsStep base old old root (p ++ name ∷ []) result
step_already base old root at p name result draft way found fresh =
    let here : walk (rows old) root (p ++ name ∷ []) ≡ Some result = walk_on (rows old) root at p (name ∷ []) way
    ∙ walk_step (rows old) at result name [] found in
    record {
      draft = draft;
      here = here;
      fresh = fresh;
      tree_here =
          ap (option_and_then (place_at (rows old) base)) here ∙ place_fresh old base result fresh ∙ sym (touched_shape old base result)
          ∙ sym (ap (λ o. option_map touched (option_and_then (place_at (rows old) base) o)) here);
      tree_else = λ q ne. refl;
    }

-- the child is an old node, which is copied
module _ (base : ℕ) (old between new : List Node) (root at : ℕ) (p : Path) (name : List ℕ) (n : ℕ) (node : Node)
    (draft : IsDraft base old root) (way : walk (rows old) root p ≡ Some at) (fresh : base ≤ at)
    (found : child_in (rows old at) name ≡ Some n) (is_old : n < base)
    (grown : between ≡ old ++ node ∷ []) (copy : rows old n ≡ Some (row_of node))
    (put : PutsChild between new at name (Some (length old))) where
  at_below : at < length old
  at_below = in_range old draft.closed root at p draft.root_in way

  rows_between : (m : ℕ) → m < length old → rows between m ≡ rows old m
  rows_between m h = rw grown (rows-append old node m h)

  row_copy : rows between (length old) ≡ rows old n
  row_copy = rw grown (rows-push old node ∙ sym copy)

  long : length between ≡ length old + 1
  long = rw grown (omega (arith, length-append old (node ∷ [])))

  closed_between : IsClosedIn between
  closed_between = rw grown (closed_grown old node draft.closed (λ m x e. draft.closed n m x (ap (λ o. child_in o x) copy ∙ e)))

  walk_between : (k : ℕ) (q : Path) → k < length old → walk (rows between) k q ≡ walk (rows old) k q
  walk_between = walk_same (λ k. k < length old) (rows old) (rows between) (λ k m x h e. draft.closed k m x e) rows_between

  rows_new : SameBut (rows between) (rows new) at
  rows_new m ne = ap (option_map row_of) (put.others m ne)

  only_way : IsOnlyWay (rows between) root p at
  only_way = record {
    leads = walk_between root p draft.root_in ∙ way;
    only = λ r h. draft.distinct r p at fresh (sym (walk_between root r draft.root_in) ∙ h) way;
  }

  stays_old : StaysIn (λ k. k < base) (rows old)
  stays_old k m x h e = draft.old_closed k m x h e

  old_apart : (m : ℕ) → m < base → IsApart (rows between) m at
  old_apart m h r w =
      let base_in : base ≤ length old = draft.base_in in
      let below : m < length old = omega arith in
      let b : at < base = walk_stays (λ k. k < base) (rows old) stays_old m at r h (sym (walk_between m r below) ∙ w) in
      absurd (omega arith)

  -- below the copy all is as below what it is a copy of
  copy_walk : (x : List ℕ) (r : Path) → walk (rows between) (length old) (x ∷ r) ≡ walk (rows old) n (x ∷ r)
  copy_walk x r =
      ap (λ o. option_and_then (λ c. walk (rows between) c r) (child_in o x)) row_copy
      ∙ and_then_same (λ c. walk (rows between) c r) (λ c. walk (rows old) c r) (child_in (rows old n) x)
      (λ c e. walk_between c r (draft.closed n c x e))

  copy_apart : (c : ℕ) → Some (length old) ≡ Some c → IsApart (rows between) c at
  copy_apart c e =
      let s : length old ≡ c = cc in
      subst (λ k. IsApart (rows between) k at) s (from_copy)
    where
      from_copy : IsApart (rows between) (length old) at
      from_copy [] w = let t : length old ≡ at = cc in let b : at < length old = at_below in absurd (omega arith)
      from_copy (x ∷ r) w =
          let base_in : base ≤ length old = draft.base_in in
          let b : at < base = walk_stays (λ k. k < base) (rows old) stays_old n at (x ∷ r) is_old (sym (copy_walk x r) ∙ w) in
          absurd (omega arith)

  walk_new : (q : Path) → walk (rows new) root q ≡ led (rest_below (p ++ name ∷ []) q) (λ r. walk (rows between) (length old) r)
      (walk (rows between) root q)
  walk_new = walk_after_put (rows between) (rows new) at root p name (Some (length old)) rows_new put.children only_way copy_apart

  way_child : walk (rows old) root (p ++ name ∷ []) ≡ Some n
  way_child = walk_on (rows old) root at p (name ∷ []) way ∙ walk_step (rows old) at n name [] found

  walk_here : walk (rows new) root (p ++ name ∷ []) ≡ Some (length old)
  walk_here = walk_new (p ++ name ∷ []) ∙ ap (λ o. led o (λ r. walk (rows between) (length old) r)
      (walk (rows between) root (p ++ name ∷ []))) (rest_below_self (p ++ name ∷ []))

  walk_else : (q : Path) → q ≢ p ++ name ∷ [] → walk (rows new) root q ≡ walk (rows old) root q
  walk_else q ne = walk_new q ∙ by_rest (rest_below (p ++ name ∷ []) q) refl
    where
      by_rest : (o : Option Path) → o ≡ rest_below (p ++ name ∷ []) q
          → led o (λ r. walk (rows between) (length old) r) (walk (rows between) root q) ≡ walk (rows old) root q
      by_rest None e = walk_between root q draft.root_in
      by_rest (Some []) e =
          let s : q ≡ (p ++ name ∷ []) ++ [] = rest_below_is (p ++ name ∷ []) q [] (sym e) in
          absurd (ne (s ∙ append-nil (p ++ name ∷ [])))
      by_rest (Some (x ∷ r)) e =
          let s : q ≡ (p ++ name ∷ []) ++ x ∷ r = rest_below_is (p ++ name ∷ []) q (x ∷ r) (sym e) in
          copy_walk x r ∙ sym (ap (walk (rows old) root) s ∙ walk_on (rows old) root n (p ++ name ∷ []) (x ∷ r) way_child)

  shape_new : (m : ℕ) → shape_at new m ≡ shape_at between m
  shape_new = shape_put between new at name (Some (length old)) put

  shape_old : (m : ℕ) → m < length old → shape_at new m ≡ shape_at old m
  shape_old m h = shape_new m ∙ ap (option_map (place_of None)) (rows_between m h)

  shape_copy : shape_at new (length old) ≡ shape_at old n
  shape_copy = shape_new (length old) ∙ ap (option_map (place_of None)) row_copy

  closed_new : IsClosedIn new
  closed_new k m x e = elim (cases_eq k at) [
    | inl s ↦
        let e2 : cond (bytes_eq name x) (Some (length old)) (child_in (rows between at) x) ≡ Some m = sym (put.children x)
        ∙ ap (λ i. child_in (rows new i) x) (sym s) ∙ e in
        (elim (cases_Bool (bytes_eq name x)) [
          | inl t ↦ let e3 = rw t at e2 in let e4 : Some (length old) ≡ Some m = e3 in let e5 : length old ≡ m = cc in
              omega (arith, put.size, long)
          | inr t ↦ let e3 = rw t at e2 in let b : m < length between = closed_between at m x e3 in omega (arith, put.size)
        ])
    | inr ne ↦ let b : m < length between = closed_between k m x (ap (λ o. child_in o x) (sym (rows_new k ne)) ∙ e) in
        omega (arith, put.size)
  ]

  old_closed_new : (k m : ℕ) (x : List ℕ) → k < base → child_in (rows new k) x ≡ Some m → m < base
  old_closed_new k m x h e =
      let ne : k ≢ at = λ s. absurd (omega arith) in
      let base_in : base ≤ length old = draft.base_in in
      let below : k < length old = omega arith in
      draft.old_closed k m x h (ap (λ o. child_in o x) (sym (rows_new k ne ∙ rows_between k below)) ∙ e)

  distinct_new : (q r : Path) (m : ℕ) → base ≤ m → walk (rows new) root q ≡ Some m → walk (rows new) root r ≡ Some m → q ≡ r
  distinct_new q r m h v w = elim (path_cases q (p ++ name ∷ [])) [
    | inl a ↦ elim (path_cases r (p ++ name ∷ [])) [
      | inl b ↦ a ∙ sym b
      | inr b ↦ clash q r a b v w
    ]
    | inr a ↦ elim (path_cases r (p ++ name ∷ [])) [
      | inl b ↦ sym (clash r q b a w v)
      | inr b ↦ draft.distinct q r m h (sym (walk_else q a) ∙ v) (sym (walk_else r b) ∙ w)
    ]
  ]
    where
      clash : (q r : Path) → q ≡ p ++ name ∷ [] → r ≢ p ++ name ∷ [] → walk (rows new) root q ≡ Some m → walk (rows new) root r ≡ Some m
          → q ≡ r
      clash q r a b v w =
          let s : Some (length old) ≡ Some m = sym walk_here ∙ ap (walk (rows new) root) (sym a) ∙ v in
          let t : length old ≡ m = cc in
          let below : m < length old = in_range old draft.closed root m r draft.root_in (sym (walk_else r b) ∙ w) in
          absurd (omega arith)

  tree_else_new : (q : Path) → q ≢ p ++ name ∷ [] → tree_below (rows new) base root q ≡ tree_below (rows old) base root q
  tree_else_new q ne =
      ap (option_and_then (place_at (rows new) base)) (walk_else q ne)
      ∙ and_then_same (place_at (rows new) base) (place_at (rows old) base) (walk (rows old) root q)
      (λ m e. place_from_shape new old base m (shape_old m (in_range old draft.closed root m q draft.root_in e)))

  copied_entries : IsDraftEntries base n (entries_of node.content)
  copied_entries = subst (λ o. IsDraftEntries base n (entries_at o)) copy (draft.each n)

  each_between : (k : ℕ) → IsDraftEntries base k (entries_at (rows between k))
  each_between = rw grown (each-push base old node draft.each
      (old_entries base (length old) (entries_of node.content) copied_entries.in_order copied_entries.named
      (λ x m e. draft.old_closed n m x is_old (ap (λ o. child_in o x) copy ∙ e))))

  each_new : (k : ℕ) → IsDraftEntries base k (entries_at (rows new k))
  each_new = each-put base between new at name (Some (length old)) each_between put (λ c e. let s : length old ≡ c = cc in
      inr (omega (arith, at_below)))

  step_copied : IsStep base old new root (p ++ name ∷ []) (length old)
  step_copied = record {
    draft = record {
      base_in = omega (arith, draft.base_in, put.size, long);
      root_in = omega (arith, draft.root_in, put.size, long);
      closed = closed_new;
      old_closed = old_closed_new;
      distinct = distinct_new;
      each = each_new;
    };
    here = walk_here;
    fresh = draft.base_in;
    tree_here =
        ap (option_and_then (place_at (rows new) base)) walk_here ∙ place_fresh new base (length old) draft.base_in ∙ shape_copy
        ∙ sym (touched_shape old base n)
        ∙ sym (ap (λ o. option_map touched (option_and_then (place_at (rows old) base) o)) way_child);
    tree_else = tree_else_new;
  }

pub thaw_step : (base : ℕ) (old new : List Node) (root at : ℕ) (p : Path) (name : List ℕ) (result : ℕ) → IsDraft base old root
    → walk (rows old) root p ≡ Some at → base ≤ at → ThawsChild base old new at name result
    → IsStep base old new root (p ++ name ∷ []) result
thaw_step base old new root at p name result draft way fresh (already found above same) =
    subst (λ x. IsStep base old x root (p ++ name ∷ []) result) (sym same)
    (step_already base old root at p name result draft way found above)
thaw_step base old new root at p name result draft way fresh (copied n between found is_old same copies put) =
    subst (λ x. IsStep base old new root (p ++ name ∷ []) x) (sym same)
    (step_copied base old between new root at p name n copies.0 draft way fresh found is_old copies.1 copies.2
    (subst (λ x. PutsChild between new at name (Some x)) same put))

-- ---- the whole way

pub within_more : (p : Path) (name : List ℕ) (q : Path) → q ≢ p ++ name ∷ [] → is_within q (p ++ name ∷ []) ≡ is_within q p
within_more p name [] ne = refl
within_more [] name (m ∷ []) ne = elim (cases_Bool (bytes_eq m name)) [
  | inl t ↦ absurd (ne (ap (λ x. x ∷ []) ((bytes_eq-Decides m name).0 t)))
  | inr t ↦ rw t refl
]
within_more [] name (m ∷ x ∷ q) ne = elim (cases_Bool (bytes_eq m name)) [ inl t ↦ rw t refl | inr t ↦ rw t refl ]
within_more (n ∷ p) name (m ∷ q) ne = elim (cases_Bool (bytes_eq m n)) [
  | inl t ↦ rw t (within_more p name q (λ e. ne (ap (λ x. x ∷ q) ((bytes_eq-Decides m n).0 t) ∙ ap (λ r. n ∷ r) e)))
  | inr t ↦ rw t refl
]

pub within_self : (p : Path) → is_within p p ≡ true
within_self p = ap is_some (rest_below_self p)

pub not_within_longer : (p : Path) (name : List ℕ) → is_within (p ++ name ∷ []) p ≡ false
not_within_longer [] name = refl
not_within_longer (m ∷ p) name = rw ((bytes_eq-Decides m m).1 refl) (not_within_longer p name)

pub touch_more : (base : ℕ) (old between new : List Node) (from root : ℕ) (p : Path) (name : List ℕ) (result : ℕ)
    → ((q : Path) → tree_in base between root q ≡ touch (tree_in base old from) p q) → IsStep base between new root (p ++ name ∷ []) result
    → (q : Path) → tree_in base new root q ≡ touch (tree_in base old from) (p ++ name ∷ []) q
touch_more base old between new from root p name result before step q =
    let t : Tree = tree_in base old from in
    elim (path_cases q (p ++ name ∷ [])) [
      | inl e ↦
          let at : tree_in base new root (p ++ name ∷ []) ≡ touch t (p ++ name ∷ []) (p ++ name ∷ []) =
          step.tree_here ∙ ap (option_map touched) (before (p ++ name ∷ [])
          ∙ ap (λ b. cond b (option_map touched (t (p ++ name ∷ []))) (t (p ++ name ∷ []))) (not_within_longer p name))
          ∙ sym (ap (λ b. cond b (option_map touched (t (p ++ name ∷ []))) (t (p ++ name ∷ []))) (within_self (p ++ name ∷ []))) in
          subst (λ x. tree_in base new root x ≡ touch t (p ++ name ∷ []) x) (sym e) at
      | inr ne ↦ step.tree_else q ne ∙ before q ∙ sym (ap (λ b. cond b (option_map touched (t q)) (t q)) (within_more p name q ne))
    ]

pub thaw_more : (base : ℕ) (old between new : List Node) (from root at : ℕ) (p : Path) (name : List ℕ) (result : ℕ)
    → IsThawed base old between from root p at → ThawsChild base between new at name result
    → IsThawed base old new from root (p ++ name ∷ []) result
thaw_more base old between new from root at p name result before thaws =
    let step = thaw_step base between new root at p name result before.draft before.here before.fresh thaws in
    record {
      draft = step.draft;
      here = step.here;
      fresh = step.fresh;
      tree = touch_more base old between new from root p name result before.tree step;
    }

-- the root alone
pub thaw_none : (base : ℕ) (nodes : List Node) (root : ℕ) → IsDraft base nodes root → base ≤ root
    → IsThawed base nodes nodes root root [] root
thaw_none base nodes root draft fresh = record {
  draft = draft;
  here = refl;
  fresh = fresh;
  tree = at_root;
}
  where
    at_root : (q : Path) → tree_in base nodes root q ≡ touch (tree_in base nodes root) [] q
    at_root [] = place_fresh nodes base root fresh ∙ sym (touched_shape nodes base root)
    at_root (x ∷ q) = refl
