-- Paths in their order: name by name, a prefix first, so what is below a path comes directly after it.
use Rattle.std.proofs.Common.{◌≡◌, Bool, true, false, ◌&&◌, [], ◌∷◌, ◌++◌, refl, sym, ◌∙◌, ap, true≢false}
use Rattle.std.specs.Prelude.{bytes_eq}
use Rattle.std.specs.declared.cmp.Ordering.{Ordering}
use Rattle.std.specs.declared.cmp.Ordering.TheVariants.{Less, Equal, Greater}
use Rattle.std.specs.Ordering.{ordering_then, ordering_reverse, is_eq, is_le, is_lt, is_gt}
use Rattle.std.specs.BTreeMap.{is_at}
use Rattle.std.specs.Cmp.{IsTotalOrder}
use Rattle.std.specs.Cmp.Lexicographic.{lists_total, lists_ties, texts_ties, nat_list_cmp_total}
use Rattle.std.specs.FinMap.{slice_cmp-IsAntisymmetric}
use Rattle.std.proofs.lemmas.Bool.{and_parts}
use Rattle.std.proofs.lemmas.Cmp.{tied_itself}
use Rattle.svn_lists.proofs.Equality.{bytes_eq-same, same_bytes}
use Rattle.svn_types.specs.Names.{Path, name_cmp, path_cmp}
use Rattle.svn_types.specs.Paths.{path_eq, is_within, child}
use Rattle.svn_types.proofs.NameLemmas.{Name, same_name, level_names, reversed}
use Rattle.svn_types.proofs.PathLemmas.{same_path}

pub paths_total : IsTotalOrder path_cmp
paths_total = lists_total nat_list_cmp_total

pub path_tie : (p q : Path) → path_cmp p q ≡ Equal → p ≡ q
path_tie = slice_cmp-IsAntisymmetric same_name

-- the test by which a path is looked up
pub at_path : (p q : Path) → is_at (path_cmp p) q ≡ path_eq p q
at_path p q = sym (lists_ties name_cmp texts_ties p q)

-- ---- one before another

pub path_cmp-same : (p : Path) → path_cmp p p ≡ Equal
path_cmp-same = tied_itself paths_total

pub not_before_itself : (p : Path) → path_cmp p p ≡ Less → ⊥
not_before_itself p h = true≢false (ap is_lt (sym h ∙ path_cmp-same p))

pub not_both : (p q : Path) → path_cmp p q ≡ Less → path_cmp q p ≡ Less → ⊥
not_both p q h g = not_before_itself p (paths_total.trans p q p h g)

-- nothing comes before the root
pub not_before_root : (p : Path) → path_cmp p [] ≡ Less → ⊥
not_before_root [] h = true≢false (sym (ap is_lt h))
not_before_root (name ∷ p) h = true≢false (sym (ap is_lt h))

pub is_before : (p q : Path) → path_cmp p q ≡ Less → is_gt (path_cmp q p) ≡ true
is_before p q h = ap is_gt (paths_total.antisymm q p ∙ ap ordering_reverse h)

pub before_apart : (p q : Path) → path_cmp p q ≡ Less → path_eq p q ≡ false
before_apart p q l = by (path_eq p q) refl
  where
    by : (b : Bool) → path_eq p q ≡ b → b ≡ false
    by true e = absurd (not_before_itself p (ap (path_cmp p) (same_path p q e) ∙ l))
    by false e = refl

-- of two paths one is earlier
pub earlier : (p q : Path) → path_eq p q ≡ false → (path_cmp q p ≡ Less → ⊥) → path_cmp p q ≡ Less
earlier p q e h = by (path_cmp p q) refl
  where
    by : (o : Ordering) → path_cmp p q ≡ o → o ≡ Less
    by Less k = refl
    by Equal k = absurd (true≢false (sym (sym (at_path p q) ∙ ap is_eq k) ∙ e))
    by Greater k = absurd (h (paths_total.antisymm q p ∙ ap ordering_reverse k))

-- ---- what is below a path comes directly after it

pub below_after : (p q : Path) → is_within p q ≡ true → path_eq p q ≡ false → path_cmp p q ≡ Less
below_after [] [] w e = absurd (true≢false e)
below_after [] (n ∷ q) w e = refl
below_after (m ∷ p) [] w e = absurd (true≢false (sym w))
below_after (m ∷ p) (n ∷ q) w e =
    let parts = and_parts (bytes_eq m n) (is_within p q) w in
    ap (λ o. ordering_then o (path_cmp p q)) (level_names m n parts.0)
    ∙ below_after p q parts.1 (sym (ap (λ b. b && path_eq p q) parts.0) ∙ e)

pub within_after : (p q : Path) → is_within p q ≡ true → is_le (path_cmp p q) ≡ true
within_after p q w = by (path_eq p q) refl
  where
    by : (b : Bool) → path_eq p q ≡ b → is_le (path_cmp p q) ≡ true
    by true e = ap is_le (ap (path_cmp p) (sym (same_path p q e)) ∙ path_cmp-same p)
    by false e = ap is_le (below_after p q w e)

pub within_between : (p x q : Path) → path_cmp p x ≡ Less → (path_cmp q x ≡ Less → ⊥) → is_within p q ≡ true → is_within p x ≡ true
within_between [] x q before after w = refl
within_between (m ∷ p) [] q before after w = cc
within_between (m ∷ p) (k ∷ x) [] before after w = absurd (true≢false (sym w))
within_between (m ∷ p) (k ∷ x) (n ∷ q) before after w = by (name_cmp m k) refl before (within_between p x q)
  where
    parts : (bytes_eq m n ≡ true) × (is_within p q ≡ true)
    parts = and_parts (bytes_eq m n) (is_within p q) w

    as_m : (o : Ordering) → name_cmp m k ≡ o → name_cmp n k ≡ o
    as_m o e = ap (λ (z : Name). name_cmp z k) (sym (same_bytes m n parts.0)) ∙ e

    by : (o : Ordering) → name_cmp m k ≡ o → ordering_then o (path_cmp p x) ≡ Less
        → (path_cmp p x ≡ Less → (path_cmp q x ≡ Less → ⊥) → is_within p q ≡ true → is_within p x ≡ true)
        → (bytes_eq m k && is_within p x) ≡ true
    by Less e h ih = absurd (after (ap (λ o. ordering_then o (path_cmp q x)) (as_m Less e)))
    by Equal e h ih =
        ap (λ b. b && is_within p x) (ap (bytes_eq m) (sym (same_name m k e)) ∙ bytes_eq-same m)
        ∙ ih h (λ l. after (ap (λ o. ordering_then o (path_cmp q x)) (as_m Equal e) ∙ l)) parts.1
    by Greater e h ih = cc

-- what is between a path and one of its children is below an earlier child
pub between_child : (q k : Path) (name : Name) → path_cmp q k ≡ Less → path_cmp k (child q name) ≡ Less
    → (x : Name) × (r : Path) × (k ≡ q ++ x ∷ r) × (name_cmp x name ≡ Less)
between_child [] [] name after before = absurd (true≢false (sym (ap is_lt after)))
between_child [] (x ∷ r) name after before = (x, r, refl, by (name_cmp x name) before)
  where
    by : (o : Ordering) → ordering_then o (path_cmp r []) ≡ Less → o ≡ Less
    by Less h = refl
    by Equal h = absurd (not_before_root r h)
    by Greater h = h
between_child (m ∷ q) [] name after before = absurd (true≢false (sym (ap is_lt after)))
between_child (m ∷ q) (n ∷ k) name after before = by (name_cmp m n) refl after (between_child q k name)
  where
    by : (o : Ordering) → name_cmp m n ≡ o → ordering_then o (path_cmp q k) ≡ Less
        → (path_cmp q k ≡ Less → path_cmp k (child q name) ≡ Less → (x : Name) × (r : Path) × (k ≡ q ++ x ∷ r) × (name_cmp x name ≡ Less))
        → (x : Name) × (r : Path) × (n ∷ k ≡ m ∷ q ++ x ∷ r) × (name_cmp x name ≡ Less)
    by Less e h next =
        absurd (true≢false (sym (ap is_lt (sym (ap (λ o. ordering_then o (path_cmp k (child q name))) (reversed m n Less e)) ∙ before))))
    by Equal e h next =
        let found = next h (sym (ap (λ o. ordering_then o (path_cmp k (child q name))) (reversed m n Equal e)) ∙ before) in
        let same : m ≡ n = same_name m n e in
        (found.0, found.1, (λ i. sym same i ∷ found.2 i), found.3)
    by Greater e h next = absurd (true≢false (sym (ap is_lt h)))
