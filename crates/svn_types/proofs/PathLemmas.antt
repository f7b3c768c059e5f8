-- Paths: when they are the same, their parts, and paths above and below one another.
use Rattle.std.proofs.Common.{◌≡◌, ◌≢◌, suc, ◌-◌, Bool, true, false, ◌&&◌, ◌⊎◌, not, [], ◌∷◌, ◌++◌, length, refl, sym, ◌∙◌, ap}
use Rattle.std.proofs.Common.{subst, arith, true≢false, append_assoc, append-nil, inl, inr}
use Rattle.std.specs.Prelude.{Some, None, cond, bytes_eq, slice_get}
use Rattle.std.specs.List.{starts_with}
use Rattle.std.specs.Cmp.Lexicographic.{pointwise_decides, bytes_decides}
use Rattle.std.proofs.lemmas.Bool.{and_parts, not-true}
use Rattle.std.proofs.lemmas.Option.{same_Some}
use Rattle.svn_lists.proofs.Equality.{bytes_eq-same, eq-symm, same_bytes}
use Rattle.svn_types.specs.Names.{Path}
use Rattle.svn_types.specs.Paths.{path_eq, is_within, is_below, is_root, child, parent, parent_path, last_name}
use Rattle.svn_types.proofs.NameLemmas.{Name}

-- ---- equality

pub same_path : (p q : Path) → path_eq p q ≡ true → p ≡ q
same_path p q h = (pointwise_decides bytes_decides p q).0 h

pub path_eq_from : (p q : Path) → p ≡ q → path_eq p q ≡ true
path_eq_from p q h = (pointwise_decides bytes_decides p q).1 h

pub path_eq-same : (p : Path) → path_eq p p ≡ true
path_eq-same p = path_eq_from p p refl

pub path_eq-symm : (p q : Path) → path_eq p q ≡ path_eq q p
path_eq-symm = eq-symm path_eq same_path path_eq-same

-- ---- parts

-- what holds of the root, and of each child where it holds of the path, holds of every path
module _ (P : Path → Type 0) (root : P []) (more : (p : Path) (name : Name) → P p → P (child p name)) where
  go : (done rest : Path) → P done → P (done ++ rest)
  go done [] h = subst P (sym (append-nil done)) h
  go done (n ∷ rest) h = subst P (append_assoc done (n ∷ []) rest) (go (child done n) rest (more done n h))

  pub path_ind : (p : Path) → P p
  path_ind p = go [] p root

-- each path is the root or a child
pub path_cases : (p : Path) → (p ≡ []) ⊎ ((q : Path) × (name : Name) × (p ≡ child q name))
path_cases = path_ind (λ p. (p ≡ []) ⊎ ((q : Path) × (name : Name) × (p ≡ child q name))) (inl refl) (λ q name ih. inr (q, name, refl))

pub parent-child : (p : Path) (name : Name) → parent (child p name) ≡ p
parent-child [] name = refl
parent-child (m ∷ []) name = refl
parent-child (m ∷ n ∷ p) name = ap (λ (q : Path). m ∷ q) (parent-child (n ∷ p) name)

pub last_name-child : (p : Path) (name : Name) → last_name (child p name) ≡ name ∷ []
last_name-child [] name = refl
last_name-child (m ∷ []) name = refl
last_name-child (m ∷ n ∷ p) name = last_name-child (n ∷ p) name

pub is_root-child : (p : Path) (name : Name) → is_root (child p name) ≡ false
is_root-child [] name = refl
is_root-child (m ∷ p) name = refl

-- a path is its parent and its last name
pub parent_and_last : (p : Path) → parent p ++ last_name p ≡ p
parent_and_last [] = refl
parent_and_last (n ∷ []) = refl
parent_and_last (m ∷ n ∷ p) = ap (λ (q : Path). m ∷ q) (parent_and_last (n ∷ p))

pub parent_path-child : (p : Path) (name : Name) → parent_path (child p name) ≡ Some p
parent_path-child p name = ap (λ b. cond b None (Some (parent (child p name)))) (is_root-child p name) ∙ ap Some (parent-child p name)

pub length_parent : (p : Path) → is_root p ≡ false → length p ≡ suc (length (parent p))
length_parent [] h = absurd (true≢false h)
length_parent (n ∷ []) h = refl
length_parent (m ∷ n ∷ p) h = ap suc (length_parent (n ∷ p) refl)

-- the name at the last place is the last name
pub split_at_last : (p : Path) (n : Name) → slice_get p (length p - 1) ≡ Some n → p ≡ child (parent p) n
split_at_last [] n h = absurd (none h)
  where
    none : None ≡ Some n → ⊥
    none e = cc
split_at_last (m ∷ []) n h = ap (λ (x : Name). x ∷ []) (same_Some m n h)
split_at_last (m ∷ k ∷ p) n h =
    let one : length (m ∷ k ∷ p) - 1 ≡ suc (length p) = omega arith in
    let other : length (k ∷ p) - 1 ≡ length p = omega arith in
    let there : slice_get (k ∷ p) (length (k ∷ p) - 1) ≡ Some n =
    ap (λ i. slice_get (k ∷ p) i) other ∙ sym (ap (λ i. slice_get (m ∷ k ∷ p) i) one) ∙ h in
    ap (λ (q : Path). m ∷ q) (split_at_last (k ∷ p) n there)

-- ---- paths within paths

pub starts-within : (p q : Path) → starts_with bytes_eq q p ≡ is_within p q
starts-within [] q = refl
starts-within (m ∷ p) [] = refl
starts-within (m ∷ p) (n ∷ q) = ap (λ b. bytes_eq m n && b) (starts-within p q)

pub within_append : (p r : Path) → is_within p (p ++ r) ≡ true
within_append [] r = refl
within_append (m ∷ p) r = ap (λ b. b && is_within p (p ++ r)) (bytes_eq-same m) ∙ within_append p r

-- what is within a path has its names first
pub split_within : (p q : Path) → is_within p q ≡ true → (r : Path) × (q ≡ p ++ r)
split_within [] q h = (q, refl)
split_within (m ∷ p) [] h = absurd (true≢false (sym h))
split_within (m ∷ p) (n ∷ q) h =
    let parts = and_parts (bytes_eq m n) (is_within p q) h in
    let rest = split_within p q parts.1 in
    (rest.0, (λ i. sym (same_bytes m n parts.0) i ∷ rest.1 i))

pub is_within-same : (p : Path) → is_within p p ≡ true
is_within-same [] = refl
is_within-same (n ∷ p) = ap (λ b. b && is_within p p) (bytes_eq-same n) ∙ is_within-same p

pub is_within-chain : (p q r : Path) → is_within p q ≡ true → is_within q r ≡ true → is_within p r ≡ true
is_within-chain p q r h k =
    let one = split_within p q h in
    let two = split_within q r k in
    ap (is_within p) (two.1 ∙ ap (λ (x : Path). x ++ two.0) one.1 ∙ append_assoc p one.0 two.0) ∙ within_append p (one.0 ++ two.0)

-- a path that isn't within another isn't that one
pub apart_paths : (p q : Path) → is_within p q ≡ false → path_eq p q ≡ false
apart_paths p q h = by (path_eq p q) refl
  where
    by : (b : Bool) → path_eq p q ≡ b → b ≡ false
    by false e = refl
    by true e = absurd (true≢false (sym (ap (is_within p) (sym (same_path p q e)) ∙ is_within-same p) ∙ h))

pub below_parts : (p q : Path) → is_below p q ≡ true → (is_within p q ≡ true) × (path_eq p q ≡ false)
below_parts p q h = let parts = and_parts (is_within p q) (not (path_eq p q)) h in (parts.0, not-true (path_eq p q) parts.1)

pub below_from : (p q : Path) → is_within p q ≡ true → path_eq p q ≡ false → is_below p q ≡ true
below_from p q h k = ap (λ b. b && not (path_eq p q)) h ∙ ap not k

-- ---- below a path, and below its children

-- a path with more names is another one, and isn't above it
pub path_eq-longer : (p : Path) (n : Name) (r : Path) → path_eq p (p ++ n ∷ r) ≡ false
path_eq-longer [] n r = refl
path_eq-longer (m ∷ p) n r = ap (λ b. b && path_eq p (p ++ n ∷ r)) (bytes_eq-same m) ∙ path_eq-longer p n r

pub within_shorter : (p : Path) (n : Name) (r : Path) → is_within (p ++ n ∷ r) p ≡ false
within_shorter [] n r = refl
within_shorter (m ∷ p) n r = ap (λ b. b && is_within (p ++ n ∷ r) p) (bytes_eq-same m) ∙ within_shorter p n r

pub path_eq-child : (p : Path) (name : Name) → path_eq p (child p name) ≡ false
path_eq-child p name = path_eq-longer p name []

pub is_within-child : (p : Path) (name : Name) → is_within p (child p name) ≡ true
is_within-child p name = within_append p (name ∷ [])

pub is_below-child : (p : Path) (name : Name) → is_below p (child p name) ≡ true
is_below-child p name = below_from p (child p name) (is_within-child p name) (path_eq-child p name)

pub is_within-longer : (q p : Path) (name : Name) → is_within q p ≡ true → is_within q (child p name) ≡ true
is_within-longer q p name h = is_within-chain q p (child p name) h (is_within-child p name)

-- what is above a child is the path or above it
pub within_child : (q p : Path) (name : Name) → is_within q (child p name) ≡ true → path_eq q (child p name) ≡ false → is_within q p ≡ true
within_child [] p name h k = refl
within_child (m ∷ []) [] name h k = absurd (true≢false (sym h ∙ k))
within_child (m ∷ n ∷ q) [] name h k = absurd (true≢false (sym (and_parts (bytes_eq m name) false h).1))
within_child (m ∷ q) (n ∷ p) name h k =
    let parts = and_parts (bytes_eq m n) (is_within q (child p name)) h in
    ap (λ b. b && is_within q p) parts.0 ∙ within_child q p name parts.1 (sym (ap (λ b. b && path_eq q (child p name)) parts.0) ∙ k)

pub below_child : (q p : Path) (name : Name) → is_below q (child p name) ≡ true → (q ≡ p) ⊎ (is_below q p ≡ true)
below_child q p name h = by (path_eq q p) refl
  where
    parts : (is_within q (child p name) ≡ true) × (path_eq q (child p name) ≡ false)
    parts = below_parts q (child p name) h

    by : (b : Bool) → path_eq q p ≡ b → (q ≡ p) ⊎ (is_below q p ≡ true)
    by true e = inl (same_path q p e)
    by false e = inr (below_from q p (within_child q p name parts.0 parts.1) e)

-- a child is within the same paths as its parent, but for itself
pub within_more : (p : Path) (name : Name) (q : Path) → q ≢ child p name → is_within q (child p name) ≡ is_within q p
within_more p name q ne = by (is_within q (child p name)) refl (is_within q p) refl
  where
    other : path_eq q (child p name) ≡ false
    other = apart (path_eq q (child p name)) refl
      where
        apart : (b : Bool) → path_eq q (child p name) ≡ b → b ≡ false
        apart false e = refl
        apart true e = absurd (ne (same_path q (child p name) e))

    by : (a : Bool) → is_within q (child p name) ≡ a → (b : Bool) → is_within q p ≡ b → a ≡ b
    by true e b f = sym (within_child q p name e other) ∙ f
    by false e true f = absurd (true≢false (sym (is_within-longer q p name f) ∙ e))
    by false e false f = refl

-- what is within a child is strictly below the path
pub below_from_child : (p q : Path) (name : Name) → is_within (child p name) q ≡ true → (is_within p q ≡ true) × (path_eq p q ≡ false)
below_from_child p q name h =
    let rest = split_within (child p name) q h in
    let longer : q ≡ p ++ name ∷ rest.0 = rest.1 ∙ append_assoc p (name ∷ []) rest.0 in
    (ap (is_within p) longer ∙ within_append p (name ∷ rest.0), ap (path_eq p) longer ∙ path_eq-longer p name rest.0)

pub is_below-longer : (p q : Path) (name : Name) → is_below (child p name) q ≡ true → is_below p q ≡ true
is_below-longer p q name h =
    let parts = below_from_child p q name (below_parts (child p name) q h).0 in
    below_from p q parts.0 parts.1

-- what isn't below a path isn't below its children
pub outside_child : (p : Path) (name : Name) (q : Path) → is_within p q ≡ false → is_within (child p name) q ≡ false
outside_child p name q h = by (is_within (child p name) q) refl
  where
    by : (b : Bool) → is_within (child p name) q ≡ b → b ≡ false
    by false e = refl
    by true e = absurd (true≢false (sym (below_from_child p q name e).0 ∙ h))

-- ---- two children

pub path_eq-children : (p : Path) (m n : Name) → path_eq (child p m) (child p n) ≡ bytes_eq m n
path_eq-children [] m n = and_true (bytes_eq m n)
  where
    and_true : (a : Bool) → (a && true) ≡ a
    and_true true = refl
    and_true false = refl
path_eq-children (k ∷ p) m n = ap (λ b. b && path_eq (child p m) (child p n)) (bytes_eq-same k) ∙ path_eq-children p m n

-- what is below one child isn't below another
pub within_other : (p r : Path) (m name : Name) → bytes_eq m name ≡ false → is_within (child p m) (p ++ name ∷ r) ≡ false
within_other [] r m name h = ap (λ b. b && true) h
within_other (k ∷ p) r m name h = ap (λ b. b && is_within (child p m) (p ++ name ∷ r)) (bytes_eq-same k) ∙ within_other p r m name h

pub children_apart : (p : Path) (m k : Name) (q : Path) → bytes_eq k m ≡ false → is_within (child p m) q ≡ true
    → is_within (child p k) q ≡ false
children_apart p m k q ne h =
    let rest = split_within (child p m) q h in
    ap (is_within (child p k)) (rest.1 ∙ append_assoc p (m ∷ []) rest.0) ∙ within_other p rest.0 k m ne
