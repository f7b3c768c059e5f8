-- The pool object that the tree's fields mean.
use Rattle.std.proofs.Common.{◌≡◌, ◌≢◌, ℕ, ◌+◌, Bool, true, false, cond, nat_eq, List, [], ◌∷◌, ◌++◌, map, length, Option, None, Some}
use Rattle.std.proofs.Common.{is_some, refl, sym, ap, ◌∙◌, inl, inr, arith}
use Rattle.std.proofs.lemmas.Bool.{cases_eq}
use Rattle.std.proofs.lemmas.Cmp.{nat_cmp_total}
use Rattle.std.proofs.lemmas.List.Sums.{sum_by-cons}
use Rattle.std.proofs.lemmas.Map.Keys.{IsDistinct-head, IsDistinct-tail}
use Rattle.std.specs.FinMap as fin
use Rattle.std.specs.FinMap.Entries.{by_order, find, put}
use Rattle.std.specs.List.{sum_by, AllByRecursion, IsDistinct}
use Rattle.std.specs.Map.{keys_of, lookup, values_of}
use Rattle.std.specs.Ordering.{is_eq, nat_cmp}
use Rattle.std.specs.declared.cmp.Ordering.{Ordering}
use Rattle.std.specs.declared.cmp.Ordering.TheVariants.{Less, Equal, Greater}
use Rattle.svn_lists.proofs.Orderings.{eq_by_cmp-nat_eq, eq_by_cmp_same, eq_by_cmp_apart}
use Rattle.svn_pool.specs.Linked.{Changes, IsTree, IsUnique, LinkedMap, LivePools, bare, blocks_held, fixed_held, live_at}
use Rattle.svn_pool.specs.Pools.{Entry, Pools, pool_at, parent_of, strings_of_pool, strings_at, blocks_of, fixed_of, blocks_in, fixed_in}
use Rattle.svn_pool.specs.Pools.{store_of, created, pushed, root_alone}
use Rattle.svn_pool.specs.Refusals.{fault_if_live, push_fault}
use Rattle.svn_pool.specs.Stores.{Store, stored, string_fault}
use Rattle.svn_pool.specs.Views.{contents, seen}

nothing_in_empty : (es : List (ℕ × Entry)) → length es ≡ 0 → es ≡ []
nothing_in_empty [] e = refl
nothing_in_empty (x ∷ es) e = absurd (omega arith)

find-lookup : (q : ℕ) (es : List (ℕ × Entry)) → find nat_cmp q es ≡ lookup (nat_eq q) es
find-lookup q [] = refl
find-lookup q (e ∷ es) = (λ i. cond (eq_by_cmp-nat_eq q e.0 i) (Some e.1) (find-lookup q es i))

none_among : (k : ℕ) (es : List (ℕ × Entry)) → AllByRecursion (λ y. nat_eq k y ≡ false) (keys_of es) → lookup (nat_eq k) es ≡ None
none_among k [] h = refl
none_among k (e ∷ es) h = ap (λ (b : Bool). cond b (Some e.1) (lookup (nat_eq k) es)) h.0 ∙ none_among k es h.1

abbrev map_of : List (ℕ × Entry) → fin.FinMap nat_cmp Entry
map_of es = fin.from_entries es

absent : (e : ℕ × Entry) (es : List (ℕ × Entry)) → IsDistinct nat_eq (keys_of (e ∷ es)) → fin.get (map_of es) e.0 ≡ None
absent e es d =
    fin.get-from_entries nat_cmp_total es e.0 ∙ find-lookup e.0 es ∙ none_among e.0 es (IsDistinct-head nat_eq e.0 (keys_of es) d)

len-map_of : (es : List (ℕ × Entry)) → IsDistinct nat_eq (keys_of es) → fin.len (map_of es) ≡ length es
len-map_of [] d = fin.len-empty nat_cmp Entry
len-map_of (e ∷ es) d =
    let later = len-map_of es (IsDistinct-tail nat_eq e.0 (keys_of es) d) in
    let n = fin.len (map_of es) in
    let more : fin.len (fin.insert (map_of es) e.0 e.1) ≡ n + 1 =
    fin.len-insert nat_cmp_total (map_of es) e.0 e.1 ∙ ap (λ (o : Option Entry). cond (is_some o) n (n + 1)) (absent e es d) in
    omega (arith, later, more)

abbrev sum_of : (Entry → ℕ) → List (ℕ × Entry) → ℕ
sum_of f es = sum_by f (map (λ e. e.1) es)

-- one step of the search for the key's place
sum-placed : (f : Entry → ℕ) (r : Ordering) (k : ℕ) (v : Entry) (e : ℕ × Entry) (es later : List (ℕ × Entry)) (o : Option Entry)
    → cond (is_eq r) (Some e.1) o ≡ None → sum_of f later ≡ f v + sum_of f es
    → sum_of f (by_order r ((k, v) ∷ e ∷ es) ((e.0, v) ∷ es) (e ∷ later)) ≡ f v + sum_of f (e ∷ es)
sum-placed f Less k v e es later o none more = sum_by-cons f v (map (λ x. x.1) (e ∷ es))
sum-placed f Equal k v e es later o none more = let no : ⊥ = cc in absurd no
sum-placed f Greater k v e es later o none more =
    omega (arith, more, sum_by-cons f e.1 (map (λ x. x.1) later), sum_by-cons f e.1 (map (λ x. x.1) es))

past_head : (b : Bool) (x : Entry) (o : Option Entry) → cond b (Some x) o ≡ None → o ≡ None
past_head true x o h = let no : ⊥ = cc in absurd no
past_head false x o h = h

sum-put : (f : Entry → ℕ) (k : ℕ) (v : Entry) (es : List (ℕ × Entry)) → find nat_cmp k es ≡ None
    → sum_of f (put nat_cmp k v es) ≡ f v + sum_of f es
sum-put f k v [] none = sum_by-cons f v []
sum-put f k v (e ∷ es) none =
    let rest = past_head (is_eq (nat_cmp k e.0)) e.1 (find nat_cmp k es) none in
    sum-placed f (nat_cmp k e.0) k v e es (put nat_cmp k v es) (find nat_cmp k es) none (sum-put f k v es rest)

sum-map_of : (f : Entry → ℕ) (es : List (ℕ × Entry)) → IsDistinct nat_eq (keys_of es)
    → sum_by f (fin.values (map_of es)) ≡ sum_by f (values_of es)
sum-map_of f [] d =
    ap (sum_of f) (nothing_in_empty (fin.entries (fin.empty {X = Entry} {R = nat_cmp}))
    (sym (fin.len-entries (fin.empty {X = Entry} {R = nat_cmp})) ∙ fin.len-empty nat_cmp Entry))
sum-map_of f (e ∷ es) d =
    let later = sum-map_of f es (IsDistinct-tail nat_eq e.0 (keys_of es) d) in
    let put_in = ap (sum_of f) (fin.entries-insert nat_cmp_total (map_of es) e.0 e.1) in
    let more = sum-put f e.0 e.1 (fin.entries (map_of es)) (sym (fin.get-entries (map_of es) e.0) ∙ absent e es d) in
    put_in ∙ more ∙ ap (λ (n : ℕ). f e.1 + n) later ∙ sym (sum_by-cons f e.1 (values_of es))

module _ (m : LivePools) (unique : IsUnique m) where
  pub get-contents : (q : ℕ) → fin.get (contents m) q ≡ live_at m q
  get-contents q = fin.get-from_entries nat_cmp_total m q ∙ find-lookup q m

  pub len-contents : fin.len (contents m) ≡ length m
  len-contents = len-map_of m unique

  pub sum-contents : (f : Entry → ℕ) → sum_by f (fin.values (contents m)) ≡ sum_by f (values_of m)
  sum-contents f = sum-map_of f m unique

module _ (t : fin.FinMap nat_cmp Entry) (s : ℕ) (e : Entry) where
  pub inserted_here : fin.get (fin.insert t s e) s ≡ Some e
  inserted_here = fin.get-insert nat_cmp_total t s e s ∙ ap (λ (b : Bool). cond b (Some e) (fin.get t s)) (eq_by_cmp_same s)

  pub inserted_away : (q : ℕ) → q ≢ s → fin.get (fin.insert t s e) q ≡ fin.get t q
  inserted_away q apart = fin.get-insert nat_cmp_total t s e q
      ∙ ap (λ (b : Bool). cond b (Some e) (fin.get t q)) (eq_by_cmp_apart q s apart)

module _ (t : fin.FinMap nat_cmp Entry) (s : ℕ) where
  pub removed_here : fin.get (fin.remove t s) s ≡ None
  removed_here = fin.get-remove nat_cmp_total t s s ∙ ap (λ (b : Bool). cond b None (fin.get t s)) (eq_by_cmp_same s)

  pub removed_away : (q : ℕ) → q ≢ s → fin.get (fin.remove t s) q ≡ fin.get t q
  removed_away q apart = fin.get-remove nat_cmp_total t s q ∙ ap (λ (b : Bool). cond b None (fin.get t q)) (eq_by_cmp_apart q s apart)

-- maps with the same pools are the same
pub same_contents : (m : LivePools) → IsUnique m → (t : fin.FinMap nat_cmp Entry) → ((q : ℕ) → live_at m q ≡ fin.get t q)
    → contents m ≡ t
same_contents m unique t same =
    fin.same_map nat_cmp_total fin.nat_cmp-IsAntisymmetric (contents m) t (λ q. get-contents m unique q ∙ same q)

-- one pool was put in
pub contents-put : (m n : LivePools) → IsUnique m → IsUnique n → (s : ℕ) (e : Entry) → Changes m n s (Some e)
    → contents n ≡ fin.insert (contents m) s e
contents-put m n before after s e put =
    same_contents n after (fin.insert (contents m) s e) (λ q. elim (cases_eq q s) [
      | inl is ↦
          ap (live_at n) is ∙ put.0
          ∙ sym (ap (fin.get (fin.insert (contents m) s e)) is ∙ inserted_here (contents m) s e)
      | inr apart ↦ put.1 q apart ∙ sym (get-contents m before q) ∙ sym (inserted_away (contents m) s e q apart)
    ])

-- what a tree's fields mean, where its invariant is
module _ {root last used spare : ℕ} {pools : LinkedMap} {t : Pools} (tree : IsTree pools root last used)
    (view : seen root last (bare pools) spare ≡ t) where
  pub pool_is : (q : ℕ) → pool_at t q ≡ live_at (bare pools) q
  pool_is q = sym (ap (λ (u : Pools). pool_at u q) view) ∙ get-contents (bare pools) tree.linked.unique q

  pub strings_are : (q : ℕ) → strings_at t q ≡ strings_of_pool (live_at (bare pools) q)
  strings_are q = ap strings_of_pool (pool_is q)

  pub blocks_are : blocks_in t ≡ blocks_held (bare pools)
  blocks_are = sym (ap blocks_in view) ∙ sum-contents (bare pools) tree.linked.unique blocks_of

  pub fixed_are : fixed_in t ≡ fixed_held (bare pools)
  fixed_are = sym (ap fixed_in view) ∙ sum-contents (bare pools) tree.linked.unique fixed_of

  pub live_is : fin.len t.live ≡ length (bare pools)
  live_is = sym (ap (λ (u : Pools). fin.len u.live) view) ∙ len-contents (bare pools) tree.linked.unique

  pub created-view : (new : LivePools) (p : ℕ) → IsUnique new
      → Changes (bare pools) new (last + 1) (Some (record { parent = Some p; strings = [] }))
      → seen root (last + 1) new spare ≡ created t p
  created-view new p after put =
      let live =
      contents-put (bare pools) new tree.linked.unique after (last + 1) (record { parent = Some p; strings = [] }) put in
      (λ i. record { root = root; next = last + 1 + 1; live = live i; spare = spare }) ∙ ap (λ (u : Pools). created u p) view

  abbrev stock : Store
  stock = record { used = used; spare = spare }

  pub store_is : store_of t ≡ stock
  store_is =
      let held : blocks_in t ≡ used = blocks_are ∙ sym tree.counted in
      let left : t.spare ≡ spare = sym (ap (λ (u : Pools). u.spare) view) in
      (λ i. record { used = held i; spare = left i })

  pub push_fault_is : (s n : ℕ) → push_fault t s n ≡ fault_if_live (live_at (bare pools) s) (λ e. string_fault stock e.strings n)
  push_fault_is s n = (λ i. fault_if_live (pool_is s i) (λ e. string_fault (store_is i) e.strings n))

  pub pushed-view : (new : LivePools) (after s : ℕ) (bs : List ℕ) → IsUnique new
      → Changes (bare pools) new s
      (Some (record {
        parent = parent_of (live_at (bare pools) s);
        strings = strings_of_pool (live_at (bare pools) s) ++ bs ∷ [];
      }))
      → after ≡ (stored stock (strings_of_pool (live_at (bare pools) s)) (length bs)).spare
      → seen root last new after ≡ pushed t s bs
  pushed-view new after s bs late put left =
      let o : live_at (bare pools) s ≡ pool_at t s = sym (pool_is s) in
      let put_in = contents-put (bare pools) new tree.linked.unique late s _ put in
      let at_t : contents (bare pools) ≡ t.live = ap (λ (u : Pools). u.live) view in
      let roots : root ≡ t.root = ap (λ (u : Pools). u.root) view in
      let nexts : last + 1 ≡ t.next = ap (λ (u : Pools). u.next) view in
      let b : stock ≡ store_of t = sym store_is in
      (λ i. record { root = root; next = last + 1; live = put_in i; spare = left i })
      ∙ (λ i. record {
        root = roots i;
        next = nexts i;
        live = fin.insert (at_t i) s (record { parent = parent_of (o i); strings = strings_of_pool (o i) ++ bs ∷ [] });
        spare = (stored (b i) (strings_of_pool (o i)) (length bs)).spare;
      })

-- the root alone
pub root_alone-view : (first spare : ℕ) (none new : LivePools) → none ≡ [] → IsUnique new
    → Changes none new first (Some (record { parent = None; strings = [] })) → spare ≡ 0
    → seen first first new spare ≡ root_alone first
root_alone-view first spare none new empty after put zero =
    let e : Entry = record { parent = None; strings = [] } in
    let live : contents new ≡ fin.insert fin.empty first e =
    same_contents new after (fin.insert fin.empty first e) (λ q. elim (cases_eq q first) [
      | inl is ↦
          ap (live_at new) is ∙ put.0
          ∙ sym (ap (fin.get (fin.insert fin.empty first e)) is ∙ inserted_here fin.empty first e)
      | inr apart ↦
          put.1 q apart ∙ ap (lookup (nat_eq q)) empty
          ∙ sym (inserted_away fin.empty first e q apart ∙ fin.get-empty nat_cmp q)
    ]) in
    (λ i. record { root = first; next = first + 1; live = live i; spare = zero i })
