-- The order in which directories end, and names below a path in both orders.
use Rattle.std.proofs.Common.{◌≡◌, ◌<◌, ◌≤◌, Bool, true, false, ◌&&◌, not, List, [], ◌∷◌, cond, length, refl, sym, ◌∙◌, ap, arith}
use Rattle.std.proofs.Common.{true≢false}
use Rattle.std.proofs.lemmas.Bool.{and_parts}
use Rattle.std.proofs.lemmas.Cmp.{tied_itself}
use Rattle.std.specs.Prelude.{bytes_eq}
use Rattle.std.specs.declared.cmp.Ordering.{Ordering}
use Rattle.std.specs.declared.cmp.Ordering.TheVariants.{Less, Equal, Greater}
use Rattle.std.specs.Ordering.{is_eq, ordering_then, ordering_reverse}
use Rattle.std.specs.BTreeMap.{is_at}
use Rattle.std.specs.Cmp.Lexicographic.{texts_ties}
use Rattle.svn_lists.proofs.Equality.{bytes_eq-same, same_bytes}
use Rattle.svn_types.specs.Names.{Path, name_cmp, path_cmp}
use Rattle.svn_types.specs.Paths.{path_eq, is_within, is_below, child}
use Rattle.svn_report.specs.ReportNames.{next_name}
use Rattle.svn_report.specs.ReportOrder.{end_cmp, end_total}
use Rattle.svn_types.proofs.NameLemmas.{Name, name_cmp-same, level_names}
use Rattle.svn_types.proofs.PathsInOrder.{paths_total, path_tie, before_apart}

-- ---- a path strictly below another has more names

pub longer_within : (p q : Path) → length p < length q → is_within p q ≡ is_below p q
longer_within p q h = by (is_within p q) (apart p q h)
  where
    apart : (p q : Path) → length p < length q → path_eq p q ≡ false
    apart [] [] h = absurd (omega arith)
    apart [] (n ∷ q) h = refl
    apart (m ∷ p) [] h = refl
    apart (m ∷ p) (n ∷ q) h = and_false (bytes_eq m n) (apart p q (omega arith))
      where
        and_false : (b : Bool) → path_eq p q ≡ false → (b && path_eq p q) ≡ false
        and_false true e = e
        and_false false e = refl

    by : (b : Bool) → path_eq p q ≡ false → b ≡ (b && not (path_eq p q))
    by true e = sym (ap not e)
    by false e = refl

pub shorter_below : (p q : Path) → length q ≤ length p → false ≡ is_below p q
shorter_below [] [] h = refl
shorter_below [] (n ∷ q) h = absurd (omega arith)
shorter_below (m ∷ p) [] h = refl
shorter_below (m ∷ p) (n ∷ q) h = by (bytes_eq m n) (shorter_below p q (omega arith))
  where
    by : (b : Bool) → false ≡ is_below p q → false ≡ ((b && is_within p q) && not (b && path_eq p q))
    by true e = e
    by false e = refl

-- ---- the order of the ends by that of the paths

less_end : (p q : Path) → path_cmp p q ≡ Less → end_cmp p q ≡ cond (is_within p q) Greater Less
less_end [] [] h = cc
less_end [] (n ∷ q) h = refl
less_end (m ∷ p) [] h = cc
less_end (m ∷ p) (n ∷ q) h = by (name_cmp m n) refl h (less_end p q)
  where
    apart : (b : Bool) → bytes_eq m n ≡ b → name_cmp m n ≡ Less → b ≡ false
    apart true e l = absurd (true≢false (ap is_eq (sym (level_names m n e) ∙ l)))
    apart false e l = refl

    by : (o : Ordering) → name_cmp m n ≡ o → ordering_then o (path_cmp p q) ≡ Less
        → (path_cmp p q ≡ Less → end_cmp p q ≡ cond (is_within p q) Greater Less)
        → ordering_then o (end_cmp p q) ≡ cond (bytes_eq m n && is_within p q) Greater Less
    by Less e h ih = sym (ap (λ b. cond (b && is_within p q) Greater Less) (apart (bytes_eq m n) refl e))
    by Equal e h ih = ih h ∙ sym (ap (λ b. cond (b && is_within p q) Greater Less) (texts_ties m n ∙ ap is_eq e))
    by Greater e h ih = cc

below_within : (p q : Path) → path_cmp p q ≡ Less → is_below p q ≡ is_within p q
below_within p q l = by (is_within p q) (before_apart p q l)
  where
    by : (b : Bool) → path_eq p q ≡ false → (b && not (path_eq p q)) ≡ b
    by true e = ap not e
    by false e = refl

pub ends_after : (p q : Path) → path_cmp p q ≡ Less → true ≡ is_below p q → Greater ≡ end_cmp p q
ends_after p q l b = sym (less_end p q l ∙ ap (λ w. cond w Greater Less) (sym (below_within p q l) ∙ sym b))

pub ends_before : (p q : Path) → path_cmp p q ≡ Less → false ≡ is_below p q → Less ≡ end_cmp p q
ends_before p q l b = sym (less_end p q l ∙ ap (λ w. cond w Greater Less) (sym (below_within p q l) ∙ sym b))

-- the other way round
back : (p q : Path) → path_cmp p q ≡ Greater → path_cmp q p ≡ Less
back p q g = paths_total.antisymm q p ∙ ap ordering_reverse g

pub ends_before_above : (p q : Path) → path_cmp p q ≡ Greater → true ≡ is_below q p → Less ≡ end_cmp p q
ends_before_above p q g b = ap ordering_reverse (ends_after q p (back p q g) b) ∙ sym (end_total.antisymm p q)

pub ends_after_apart : (p q : Path) → path_cmp p q ≡ Greater → false ≡ is_below q p → Greater ≡ end_cmp p q
ends_after_apart p q g b = ap ordering_reverse (ends_before q p (back p q g) b) ∙ sym (end_total.antisymm p q)

pub ends_together : (p q : Path) → path_cmp p q ≡ Equal → Equal ≡ end_cmp p q
ends_together p q e = sym (ap (end_cmp p) (sym (path_tie p q e)) ∙ tied_itself end_total p)

-- in this order too one path is level with itself alone
pub end_tied : (p q : Path) → is_at (end_cmp p) q ≡ path_eq p q
end_tied [] [] = refl
end_tied [] (n ∷ q) = refl
end_tied (m ∷ p) [] = refl
end_tied (m ∷ p) (n ∷ q) = both_tied (name_cmp m n) (end_cmp p q) ∙ (λ i. sym (texts_ties m n) i && end_tied p q i)
  where
    both_tied : (o u : Ordering) → is_eq (ordering_then o u) ≡ (is_eq o && is_eq u)
    both_tied Less u = refl
    both_tied Equal u = refl
    both_tied Greater u = refl

-- ---- below two names of a path, both orders go by the names

-- in an order that goes by the first names first
by_names : (order : Path → Path → Ordering)
    → ((a b : Name) (x y : Path) → order (a ∷ x) (b ∷ y) ≡ ordering_then (name_cmp a b) (order x y))
    → (p : Path) (m k : Name) (x y : Path) → is_within (child p m) x ≡ true → is_within (child p k) y ≡ true
    → name_cmp m k ≡ Less → order x y ≡ Less
by_names order first [] m k [] y w v l = absurd (true≢false (sym w))
by_names order first [] m k (a ∷ x) [] w v l = absurd (true≢false (sym v))
by_names order first [] m k (a ∷ x) (b ∷ y) w v l =
    let here = and_parts (bytes_eq m a) (is_within [] x) w in
    let there = and_parts (bytes_eq k b) (is_within [] y) v in
    first a b x y
    ∙ ap (λ o. ordering_then o (order x y))
    (ap (λ (z : Name). name_cmp z b) (sym (same_bytes m a here.0)) ∙ ap (name_cmp m) (sym (same_bytes k b there.0)) ∙ l)
by_names order first (c ∷ p) m k [] y w v l = absurd (true≢false (sym w))
by_names order first (c ∷ p) m k (a ∷ x) [] w v l = absurd (true≢false (sym v))
by_names order first (c ∷ p) m k (a ∷ x) (b ∷ y) w v l =
    let here = and_parts (bytes_eq c a) (is_within (child p m) x) w in
    let there = and_parts (bytes_eq c b) (is_within (child p k) y) v in
    first a b x y
    ∙ ap (λ o. ordering_then o (order x y)) (ap (name_cmp a) (sym (same_bytes c b there.0) ∙ same_bytes c a here.0) ∙ name_cmp-same a)
    ∙ by_names order first p m k x y here.1 there.1 l

pub names_in_order : (p : Path) (m k : Name) (x y : Path) → is_within (child p m) x ≡ true → is_within (child p k) y ≡ true
    → name_cmp m k ≡ Less → path_cmp x y ≡ Less
names_in_order = by_names path_cmp (λ a b x y. refl)

pub names_end_in_order : (p : Path) (m k : Name) (x y : Path) → is_within (child p m) x ≡ true → is_within (child p k) y ≡ true
    → name_cmp m k ≡ Less → end_cmp x y ≡ Less
names_end_in_order = by_names end_cmp (λ a b x y. refl)

-- ---- what is below a name

pub within_named : (p : Path) (n : Name) (x : Path) → n ∷ [] ≡ next_name p x → is_within (child p n) x ≡ true
within_named [] n [] h = cc
within_named [] n (a ∷ x) h = ap (λ b. b && true) (ap (bytes_eq n) (sym (ap (λ (l : List Name). first l) h)) ∙ bytes_eq-same n)
  where
    first : List Name → Name
    first [] = []
    first (z ∷ zs) = z
within_named (c ∷ p) n [] h = cc
within_named (c ∷ p) n (a ∷ x) h = by (bytes_eq c a) h (within_named p n x)
  where
    by : (b : Bool) → n ∷ [] ≡ cond b (next_name p x) [] → (n ∷ [] ≡ next_name p x → is_within (child p n) x ≡ true)
        → (b && is_within (child p n) x) ≡ true
    by true h ih = ih h
    by false h ih = cc

-- ---- what ends after a name below a path

-- the name that leads to it comes later, and where none does, what is below the path ends before it
pub later_named : (p : Path) (n m : Name) (x : Path) → end_cmp (child p n) x ≡ Less → m ∷ [] ≡ next_name p x → name_cmp n m ≡ Less
later_named [] n m [] l h = cc
later_named [] n m (a ∷ x) l h = ap (name_cmp n) (ap (λ (l : List Name). first l) h) ∙ by (name_cmp n a) x l
  where
    first : List Name → Name
    first [] = []
    first (z ∷ zs) = z

    by : (o : Ordering) (y : Path) → ordering_then o (end_cmp [] y) ≡ Less → o ≡ Less
    by Less y l = refl
    by Equal [] l = cc
    by Equal (b ∷ y) l = cc
    by Greater y l = cc
later_named (c ∷ p) n m [] l h = cc
later_named (c ∷ p) n m (a ∷ x) l h = by (bytes_eq c a) refl h (later_named p n m x)
  where
    by : (b : Bool) → bytes_eq c a ≡ b → m ∷ [] ≡ cond b (next_name p x) []
        → (end_cmp (child p n) x ≡ Less → m ∷ [] ≡ next_name p x → name_cmp n m ≡ Less) → name_cmp n m ≡ Less
    by true e h ih = ih (sym (ap (λ o. ordering_then o (end_cmp (child p n) x)) (level_names c a e)) ∙ l) h
    by false e h ih = cc

pub named_ends_before : (p : Path) (n k : Name) (x q : Path) → end_cmp (child p n) x ≡ Less → [] ≡ next_name p x
    → is_within (child p k) q ≡ true → end_cmp q x ≡ Less
named_ends_before [] n k x [] l h w = absurd (true≢false (sym w))
named_ends_before [] n k [] (b ∷ q) l h w = refl
named_ends_before [] n k (a ∷ x) (b ∷ q) l h w = cc
named_ends_before (c ∷ p) n k x [] l h w = absurd (true≢false (sym w))
named_ends_before (c ∷ p) n k [] (b ∷ q) l h w = refl
named_ends_before (c ∷ p) n k (a ∷ x) (b ∷ q) l h w = by (bytes_eq c a) refl h (named_ends_before p n k x q)
  where
    here : (bytes_eq c b ≡ true) × (is_within (child p k) q ≡ true)
    here = and_parts (bytes_eq c b) (is_within (child p k) q) w

    as_c : name_cmp b a ≡ name_cmp c a
    as_c = ap (λ (z : Name). name_cmp z a) (sym (same_bytes c b here.0))

    less : (o : Ordering) → name_cmp c a ≡ o → bytes_eq c a ≡ false → ordering_then o (end_cmp (child p n) x) ≡ Less → o ≡ Less
    less Less e f l = refl
    less Equal e f l = absurd (true≢false (sym (texts_ties c a ∙ ap is_eq e) ∙ f))
    less Greater e f l = cc

    by : (s : Bool) → bytes_eq c a ≡ s → [] ≡ cond s (next_name p x) []
        → (end_cmp (child p n) x ≡ Less → [] ≡ next_name p x → is_within (child p k) q ≡ true → end_cmp q x ≡ Less)
        → ordering_then (name_cmp b a) (end_cmp q x) ≡ Less
    by true e h ih =
        let same = level_names c a e in
        ap (λ o. ordering_then o (end_cmp q x)) (as_c ∙ same)
        ∙ ih (sym (ap (λ o. ordering_then o (end_cmp (child p n) x)) same) ∙ l) h here.1
    by false e h ih = ap (λ o. ordering_then o (end_cmp q x)) (as_c ∙ less (name_cmp c a) refl e l)
