-- Nodes that compare as equal are the same.
use Rattle.std.proofs.Common.{◌≡◌, ℕ, Bool, true, false, ◌&&◌, Option, Some, None, List, [], ◌∷◌, refl, sym, ap, ap₂, true≢false, nat_eq, Bor}
use Rattle.std.specs.Option.{option_copied, option_eq}
use Rattle.std.specs.Cmp.Lexicographic.{pointwise}
use Rattle.std.proofs.lemmas.Bool.{and_parts, eqb-true}
use Rattle.svn_types.specs.Names.{Path}
use Rattle.svn_model.specs.declared.base_node.BaseNode.{BaseNode}
use Rattle.svn_model.specs.declared.base_node.BaseNode.TheVariants.{File, Dir, NotPresent}
use Rattle.svn_model.specs.contracts.base_node.BaseNodePartialEq.TheImpl.{ghosts}

-- lists whose elements are the same, one by one
same_all : {A : Type 0} (eq : A → A → Bool) → ((x y : A) → eq x y ≡ true → x ≡ y) → (xs ys : List A) → pointwise eq xs ys ≡ true → xs ≡ ys
same_all eq same [] [] h = refl
same_all eq same [] (y ∷ ys) h = absurd (true≢false (sym h))
same_all eq same (x ∷ xs) [] h = absurd (true≢false (sym h))
same_all eq same (x ∷ xs) (y ∷ ys) h =
    let parts = and_parts (eq x y) (pointwise eq xs ys) h in
    ap₂ (λ z zs. z ∷ zs) (same x y parts.0) (same_all eq same xs ys parts.1)

pub same_bytes : (m n : List ℕ) → pointwise nat_eq m n ≡ true → m ≡ n
same_bytes = same_all nat_eq eqb-true

same_path : (p q : Path) → pointwise (pointwise nat_eq) p q ≡ true → p ≡ q
same_path = same_all (pointwise nat_eq) same_bytes

abbrev pub prop_eq : List ℕ × List ℕ → List ℕ × List ℕ → Bool
prop_eq p q = pointwise nat_eq p.0 q.0 && pointwise nat_eq p.1 q.1

same_prop : (p q : List ℕ × List ℕ) → prop_eq p q ≡ true → p ≡ q
same_prop p q h =
    let parts = and_parts (pointwise nat_eq p.0 q.0) (pointwise nat_eq p.1 q.1) h in
    ap₂ (λ m n. (m, n)) (same_bytes p.0 q.0 parts.0) (same_bytes p.1 q.1 parts.1)

pub same_props : (ps qs : List (List ℕ × List ℕ)) → pointwise prop_eq ps qs ≡ true → ps ≡ qs
same_props = same_all prop_eq same_prop

-- what is lent, if anything is
pub same_lent : {A : Type 0} → (eq : A → A → Bool) → ((x y : A) → eq x y ≡ true → x ≡ y) → (a b : Option (Bor A))
    → option_eq (λ (x y : Bor A). eq x.now y.now) a b ≡ true → option_copied a ≡ option_copied b
same_lent eq same None None h = refl
same_lent eq same None (Some y) h = absurd (true≢false (sym h))
same_lent eq same (Some x) None h = absurd (true≢false (sym h))
same_lent eq same (Some x) (Some y) h = ap Some (same x.now y.now h)

-- of two directories that are both complete, or both not
same_rest : (r r2 : ℕ) (p p2 : Path) (ps ps2 : List (List ℕ × List ℕ))
    → (nat_eq r r2 && (pointwise (pointwise nat_eq) p p2 && pointwise prop_eq ps ps2)) ≡ true → (r ≡ r2) × (p ≡ p2) × (ps ≡ ps2)
same_rest r r2 p p2 ps ps2 h =
    let a = and_parts (nat_eq r r2) (pointwise (pointwise nat_eq) p p2 && pointwise prop_eq ps ps2) h in
    let b = and_parts (pointwise (pointwise nat_eq) p p2) (pointwise prop_eq ps ps2) a.1 in
    (eqb-true r r2 a.0, same_path p p2 b.0, same_props ps ps2 b.1)

never : (r r2 : ℕ) (p p2 : Path) → (nat_eq r r2 && (pointwise (pointwise nat_eq) p p2 && false)) ≡ true → false ≡ true
never r r2 p p2 h =
    let a = and_parts (nat_eq r r2) (pointwise (pointwise nat_eq) p p2 && false) h in
    (and_parts (pointwise (pointwise nat_eq) p p2) false a.1).1

pub node_same : (x y : BaseNode) → ghosts.eq x y ≡ true → x ≡ y
node_same (File r p t ps) (File r2 p2 t2 ps2) h =
    let a = and_parts (nat_eq r r2) (pointwise (pointwise nat_eq) p p2 && (pointwise nat_eq t t2 && pointwise prop_eq ps ps2)) h in
    let b = and_parts (pointwise (pointwise nat_eq) p p2) (pointwise nat_eq t t2 && pointwise prop_eq ps ps2) a.1 in
    let d = and_parts (pointwise nat_eq t t2) (pointwise prop_eq ps ps2) b.1 in
    rw (eqb-true r r2 a.0, same_path p p2 b.0, same_bytes t t2 d.0, same_props ps ps2 d.1) refl
node_same (Dir r p true ps) (Dir r2 p2 true ps2) h =
    let same = same_rest r r2 p p2 ps ps2 h in rw (same.0, same.1, same.2) refl
node_same (Dir r p false ps) (Dir r2 p2 false ps2) h =
    let same = same_rest r r2 p p2 ps ps2 h in rw (same.0, same.1, same.2) refl
node_same (Dir r p true ps) (Dir r2 p2 false ps2) h = absurd (true≢false (sym (never r r2 p p2 h)))
node_same (Dir r p false ps) (Dir r2 p2 true ps2) h = absurd (true≢false (sym (never r r2 p p2 h)))
node_same NotPresent NotPresent h = refl
node_same (File r p t ps) (Dir r2 p2 c2 ps2) h = absurd (true≢false (sym h))
node_same (File r p t ps) NotPresent h = absurd (true≢false (sym h))
node_same (Dir r p c ps) (File r2 p2 t2 ps2) h = absurd (true≢false (sym h))
node_same (Dir r p c ps) NotPresent h = absurd (true≢false (sym h))
node_same NotPresent (File r2 p2 t2 ps2) h = absurd (true≢false (sym h))
node_same NotPresent (Dir r2 p2 c2 ps2) h = absurd (true≢false (sym h))

-- with a path each
abbrev entry_eq : Path × BaseNode → Path × BaseNode → Bool
entry_eq a b = pointwise (pointwise nat_eq) a.0 b.0 && ghosts.eq a.1 b.1

same_entry : (a b : Path × BaseNode) → entry_eq a b ≡ true → a ≡ b
same_entry a b h =
    let parts = and_parts (pointwise (pointwise nat_eq) a.0 b.0) (ghosts.eq a.1 b.1) h in
    ap₂ (λ p n. (p, n)) (same_path a.0 b.0 parts.0) (node_same a.1 b.1 parts.1)

pub same_nodes : (xs ys : List (Path × BaseNode)) → pointwise entry_eq xs ys ≡ true → xs ≡ ys
same_nodes = same_all entry_eq same_entry
