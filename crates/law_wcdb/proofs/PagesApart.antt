-- The pages of a table by `sqlite_btree`, no two of them the same.
use Rattle.std.proofs.Common.{◌≡◌, ◌⊎◌, inl, inr, ℕ, zero, suc, ◌<◌, ◌≤◌, true, false, List, [], ◌∷◌, ◌++◌, length, refl, subst, arith, eqb, ne_eqb}
use Rattle.std.proofs.lemmas.Bool.{cases_eq}
use Rattle.std.specs.Prelude.{◌||◌}
use Rattle.std.specs.List.{AllByRecursion, IsDistinct, list_any}
use Rattle.std.proofs.lemmas.Map.Steps.{length-le_from_distinct_below}
use Rattle.sqlite_format.specs.Cell.{cell_child}
use Rattle.sqlite_btree.specs.Cut.{IsIn, Ascends}
use Rattle.sqlite_btree.specs.Part.{Part}
use Rattle.sqlite_btree.specs.Items.{Item, Form, cell_item}
use Rattle.sqlite_btree.specs.Tree.{cells_of, right_of, EachChild, SomeChild, fan_items, IsTree, tree_items, IsTop, Reaches}
use Rattle.sqlite_btree.proofs.CutLemmas.{in_left, in_right, Ascends-left, Ascends-right, Ascends-across}
use Rattle.sqlite_btree.proofs.TreeLemmas.{some_so, shared_item, top_not_below, IsTree-top}

-- ---- numbers, no two of them the same

abbrev pub NoneTwice : List ℕ → Type 0
NoneTwice [] = Unit {0}
NoneTwice (x ∷ xs) = (IsIn x xs → ⊥) × NoneTwice xs

pub in_one : (n : ℕ) (xs ys : List ℕ) → IsIn n (xs ++ ys) → IsIn n xs ⊎ IsIn n ys
in_one n [] ys at = inr at
in_one n (x ∷ xs) ys (inl e) = inl (inl e)
in_one n (x ∷ xs) ys (inr at) = elim (in_one n xs ys at) [ inl l ↦ inl (inr l) | inr r ↦ inr r ]

pub none_twice_both : (xs ys : List ℕ) → NoneTwice xs → NoneTwice ys → ((n : ℕ) → IsIn n xs → IsIn n ys → ⊥) → NoneTwice (xs ++ ys)
none_twice_both [] ys a b never = b
none_twice_both (x ∷ xs) ys a b never =
    (λ at. elim (in_one x xs ys at) [ inl l ↦ a.0 l | inr r ↦ never x (inl refl) r ], none_twice_both xs ys a.1 b (λ n p q. never n (inr p) q))

all_other : (x : ℕ) (xs : List ℕ) → (IsIn x xs → ⊥) → AllByRecursion (λ y. eqb x y ≡ false) xs
all_other x [] never = tt
all_other x (y ∷ ys) never = (ne_eqb x y (λ e. never (inl e)), all_other x ys (λ at. never (inr at)))

distinct : (xs : List ℕ) → NoneTwice xs → IsDistinct eqb xs
unfolding IsDistinct
distinct [] h = tt
distinct (x ∷ xs) h = (all_other x xs h.0, distinct xs h.1)

is_in : (q : ℕ) (xs : List ℕ) → list_any (eqb q) xs ≡ true → IsIn q xs
is_in q [] h = cc
is_in q (x ∷ xs) h = elim (cases_eq q x) [
  | inl e ↦ inl e
  | inr other ↦ inr (is_in q xs (subst (λ b. (b || list_any (eqb q) xs) ≡ true) (ne_eqb q x other) h))
]

pub no_more_than : (xs : List ℕ) (most : ℕ) → NoneTwice xs → ((n : ℕ) → IsIn n xs → (0 < n) × (n ≤ most)) → length xs ≤ most
no_more_than xs most apart within =
    let all = distinct (0 ∷ xs) (λ at. omega (arith, (within 0 at).0), apart) in
    let below : (q : ℕ) → list_any (eqb q) (0 ∷ xs) ≡ true → q < suc most =
    λ q at. elim (is_in q (0 ∷ xs) at) [ inl e ↦ omega (arith, e) | inr more ↦ omega (arith, (within q more).1) ] in
    omega (arith, length-le_from_distinct_below (0 ∷ xs) (suc most) all below)

-- ---- nodes

abbrev pub fan_nodes : (ℕ → List ℕ) → List (List ℕ) → ℕ → List ℕ
fan_nodes nodes [] last = nodes last
fan_nodes nodes (cell ∷ cells) last = nodes (cell_child cell) ++ fan_nodes nodes cells last

abbrev pub nodes_of : Form → Part → ℕ → ℕ → List ℕ
nodes_of form part zero page = page ∷ []
nodes_of form part (suc h) page = page ∷ fan_nodes (nodes_of form part h) (cells_of form false part page) (right_of part page)

in_fan : (n : ℕ) (nodes : ℕ → List ℕ) (cells : List (List ℕ)) (last : ℕ) → IsIn n (fan_nodes nodes cells last) → SomeChild (λ c. IsIn n (nodes c)) cells last
in_fan n nodes [] last at = at
in_fan n nodes (cell ∷ cells) last at =
    elim (in_one n (nodes (cell_child cell)) (fan_nodes nodes cells last) at) [ inl l ↦ inl l | inr r ↦ inr (in_fan n nodes cells last r) ]

pub in_nodes : (form : Form) (part : Part) (n h page : ℕ) → IsIn n (nodes_of form part h page) → Reaches form part h page n
in_nodes form part n zero page (inl e) = e
in_nodes form part n zero page (inr none) = absurd none
in_nodes form part n (suc h) page (inl e) = inl e
in_nodes form part n (suc h) page (inr at) =
    let cells = cells_of form false part page in
    let last = right_of part page in
    inr (some_so (λ c. IsIn n (nodes_of form part h c)) (λ c. Reaches form part h c n) cells last (λ c. in_nodes form part n h c)
    (in_fan n (nodes_of form part h) cells last at))

pub some_child : (T P : ℕ → Type 0) (cells : List (List ℕ)) (last : ℕ) → EachChild T cells last → SomeChild P cells last → (c : ℕ) × T c × P c
some_child T P [] last all some = (last, all, some)
some_child T P (cell ∷ cells) last all (inl some) = (cell_child cell, all.0, some)
some_child T P (cell ∷ cells) last all (inr some) = some_child T P cells last all.1 some

-- a page in two of the trees: an item is in both
shared_in_fan : (form : Form) (part : Part) (h a n : ℕ) (cells : List (List ℕ)) (last : ℕ) → IsTree form part h a → Reaches form part h a n
    → EachChild (IsTree form part h) cells last → SomeChild (λ c. IsIn n (nodes_of form part h c)) cells last
    → (x : Item) × IsIn x (tree_items form part h a) × IsIn x (fan_items form (tree_items form part h) cells last)
shared_in_fan form part h a n [] last tree reach trees some = shared_item form part h a last n tree trees reach (in_nodes form part n h last some)
shared_in_fan form part h a n (cell ∷ cells) last tree reach trees (inl some) =
    let x = shared_item form part h a (cell_child cell) n tree trees.0 reach (in_nodes form part n h (cell_child cell) some) in
    (x.0, x.1, in_left x.0 (tree_items form part h (cell_child cell)) _ x.2)
shared_in_fan form part h a n (cell ∷ cells) last tree reach trees (inr some) =
    let x = shared_in_fan form part h a n cells last tree reach trees.1 some in
    (x.0, x.1, in_right x.0 (tree_items form part h (cell_child cell)) _ (inr x.2))

abbrev pub IsStrictIn : Form → Type 0
IsStrictIn form = (x : Item) → form.order x x ≡ true → ⊥

fan_none_twice : (form : Form) (part : Part) (h : ℕ) → IsStrictIn form
    → ((c : ℕ) → IsTop form part h c → Ascends form.order (tree_items form part h c) → NoneTwice (nodes_of form part h c))
    → (cells : List (List ℕ)) (last : ℕ) → EachChild (IsTree form part h) cells last → Ascends form.order (fan_items form (tree_items form part h) cells last)
    → NoneTwice (fan_nodes (nodes_of form part h) cells last)
fan_none_twice form part h strict below [] last trees up = below last (IsTree-top form part h last trees).0 up
fan_none_twice form part h strict below (cell ∷ cells) last trees up =
    let c = cell_child cell in
    let items = tree_items form part h c in
    let more = cell_item form false cell ∷ fan_items form (tree_items form part h) cells last in
    none_twice_both (nodes_of form part h c) (fan_nodes (nodes_of form part h) cells last)
    (below c (IsTree-top form part h c trees.0).0 (Ascends-left form.order items more up))
    (fan_none_twice form part h strict below cells last trees.1 (Ascends-right form.order items more up).1)
    (λ n p q.
    let x = shared_in_fan form part h c n cells last trees.0 (in_nodes form part n h c p) trees.1 (in_fan n (nodes_of form part h) cells last q) in
    strict x.0 (Ascends-across form.order items more x.0 x.0 up x.1 (inr x.2)))

pub nodes_none_twice : (form : Form) (part : Part) → IsStrictIn form → (h page : ℕ) → IsTop form part h page
    → Ascends form.order (tree_items form part h page)
    → NoneTwice (nodes_of form part h page)
nodes_none_twice form part strict zero page top up = (λ at. at, tt)
nodes_none_twice form part strict (suc h) page top up =
    let cells = cells_of form false part page in
    let last = right_of part page in (
      λ at.
          let found = in_fan page (nodes_of form part h) cells last at in
          let c = some_child (IsTree form part h) (λ c. IsIn page (nodes_of form part h c)) cells last top.1 found in
          top_not_below form part (suc h) h page c.0 top refl c.1 (in_nodes form part page h c.0 c.2),
      fan_none_twice form part h strict (nodes_none_twice form part strict h) cells last top.1 up,
    )
