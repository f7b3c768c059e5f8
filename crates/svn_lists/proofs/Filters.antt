-- Lists that are filtered.
use Rattle.std.proofs.Common.{Bool, List, [], ap, cond, false, length, not, refl, suc, sym, true, true≢false, zero, ℕ, ◌&&◌, ◌++◌, ◌||◌}
use Rattle.std.proofs.Common.{◌∙◌, ◌∷◌, ◌≡◌}
use Rattle.std.specs.List.{cons_option, list_any}
use Rattle.std.specs.Prelude.{None, Option, Some, filter, filter_map, nat_eq, slice_get}
use Rattle.std.proofs.Math.Bool.{and-false}
use Rattle.std.proofs.Math.Dec.{eqb-suc-zero}
use Rattle.std.proofs.lemmas.Option.{same_Some}

-- tests that agree on the elements keep the same
pub filter_same : {X : Type 0} (p q : X → Bool) (xs : List X) → ((i : ℕ) (x : X) → slice_get xs i ≡ Some x → p x ≡ q x)
    → filter p xs ≡ filter q xs
filter_same p q [] h = refl
filter_same p q (x ∷ xs) h =
    ap (λ b. cond b (x ∷ filter p xs) (filter p xs)) (h 0 x refl)
    ∙ ap (λ ys. cond (q x) (x ∷ ys) ys) (filter_same p q xs (λ i y k. h (suc i) y k))

pub filter_all : {X : Type 0} (q : X → Bool) (xs : List X) → ((i : ℕ) (x : X) → slice_get xs i ≡ Some x → q x ≡ true) → filter q xs ≡ xs
filter_all q [] h = refl
filter_all q (x ∷ xs) h =
    ap (λ b. cond b (x ∷ filter q xs) (filter q xs)) (h 0 x refl) ∙ ap (λ ys. x ∷ ys) (filter_all q xs (λ i y k. h (suc i) y k))

pub filter_both : {X : Type 0} (p q : X → Bool) (xs : List X) → filter (λ x. p x && q x) xs ≡ filter q (filter p xs)
filter_both p q [] = refl
filter_both p q (x ∷ xs) = by (p x) (filter_both p q xs)
  where
    by : (b : Bool) → filter (λ y. p y && q y) xs ≡ filter q (filter p xs)
        → cond (b && q x) (x ∷ filter (λ y. p y && q y) xs) (filter (λ y. p y && q y) xs)
        ≡ filter q (cond b (x ∷ filter p xs) (filter p xs))
    by true ih = ap (λ ys. cond (q x) (x ∷ ys) ys) ih
    by false ih = ih

-- ---- what is kept

-- what a filter keeps was there, and passes
pub filter_member : {X : Type 0} (p : X → Bool) (xs : List X) (i : ℕ) (x : X) → slice_get (filter p xs) i ≡ Some x
    → (j : ℕ) × (slice_get xs j ≡ Some x) × (p x ≡ true)
filter_member p [] i x h = absurd (none h)
  where
    none : None ≡ Some x → ⊥
    none e = cc
filter_member {X} p (y ∷ xs) i x h = by (p y) refl i h (filter_member p xs)
  where
    by : (b : Bool) → p y ≡ b → (i : ℕ) → slice_get (cond b (y ∷ filter p xs) (filter p xs)) i ≡ Some x
        → ((i : ℕ) (x : X) → slice_get (filter p xs) i ≡ Some x → (j : ℕ) × (slice_get xs j ≡ Some x) × (p x ≡ true))
        → (j : ℕ) × (slice_get (y ∷ xs) j ≡ Some x) × (p x ≡ true)
    by true k zero h ih = (0, h, ap p (sym (same_Some y x h)) ∙ k)
    by true k (suc i) h ih = let r = ih i x h in (suc r.0, r.1, r.2)
    by false k i h ih = let r = ih i x h in (suc r.0, r.1, r.2)

-- what passes is kept
pub filter_keeps : {X : Type 0} (p : X → Bool) (xs : List X) (j : ℕ) (x : X) → slice_get xs j ≡ Some x → p x ≡ true
    → (i : ℕ) × (slice_get (filter p xs) i ≡ Some x)
filter_keeps p [] j x h k = absurd (none h)
  where
    none : None ≡ Some x → ⊥
    none e = cc
filter_keeps {X} p (y ∷ xs) zero x h k = by (p y) (ap p (same_Some y x h) ∙ k)
  where
    by : (b : Bool) → b ≡ true → (i : ℕ) × (slice_get (cond b (y ∷ filter p xs) (filter p xs)) i ≡ Some x)
    by true e = (0, h)
    by false e = absurd (true≢false (sym e))
filter_keeps {X} p (y ∷ xs) (suc j) x h k = by (p y) (filter_keeps p xs j x h k)
  where
    by : (b : Bool) → (i : ℕ) × (slice_get (filter p xs) i ≡ Some x)
        → (i : ℕ) × (slice_get (cond b (y ∷ filter p xs) (filter p xs)) i ≡ Some x)
    by true r = (suc r.0, r.1)
    by false r = r

-- what a filter keeps passes
pub filter_passes : {X : Type 0} (f : X → Bool) (es xs : List X) (y : X) (ys : List X) → filter f es ≡ xs ++ y ∷ ys → f y ≡ true
filter_passes f [] [] y ys h = absurd (none h)
  where
    none : [] ≡ y ∷ ys → ⊥
    none e = cc
filter_passes f [] (x ∷ xs) y ys h = absurd (none h)
  where
    none : [] ≡ x ∷ xs ++ y ∷ ys → ⊥
    none e = cc
filter_passes {X} f (e ∷ es) xs y ys h = by (f e) refl xs h (filter_passes f es)
  where
    by : (b : Bool) → f e ≡ b → (xs : List X) → cond b (e ∷ filter f es) (filter f es) ≡ xs ++ y ∷ ys
        → ((xs : List X) (y : X) (ys : List X) → filter f es ≡ xs ++ y ∷ ys → f y ≡ true) → f y ≡ true
    by true k [] h ih = ap f (sym (first h)) ∙ k
      where
        first : e ∷ filter f es ≡ y ∷ ys → e ≡ y
        first q = cc
    by true k (x ∷ xs) h ih = ih xs y ys (rest h)
      where
        rest : e ∷ filter f es ≡ x ∷ xs ++ y ∷ ys → filter f es ≡ xs ++ y ∷ ys
        rest q = cc
    by false k xs h ih = ih xs y ys h

-- the head of a filtered list fails each test that no element passes
pub filter_head_fails : {X : Type 0} (f g : X → Bool) (xs : List X) (t : X) (rest : List X) → filter f xs ≡ t ∷ rest → list_any g xs ≡ false
    → g t ≡ false
filter_head_fails f g [] t rest e h = cc
filter_head_fails {X} f g (x ∷ xs) t rest e h = by (f x) (g x) refl e h (filter_head_fails f g xs t rest)
  where
    by : (a b : Bool) → g x ≡ b → cond a (x ∷ filter f xs) (filter f xs) ≡ t ∷ rest → (b || list_any g xs) ≡ false
        → (filter f xs ≡ t ∷ rest → list_any g xs ≡ false → g t ≡ false) → g t ≡ false
    by a true q e h ih = cc
    by true false q e h ih = cc
    by false false q e h ih = ih e h

-- ---- tests on what is kept

-- one of a filtered list passes a test, where one of the whole passes both
pub any_both : {X : Type 0} (p q : X → Bool) (xs : List X) → list_any (λ x. p x && q x) xs ≡ list_any p (filter q xs)
any_both p q [] = refl
any_both p q (x ∷ xs) = by (q x) (any_both p q xs)
  where
    by : (b : Bool) → list_any (λ x. p x && q x) xs ≡ list_any p (filter q xs)
        → (p x && b || list_any (λ x. p x && q x) xs) ≡ list_any p (cond b (x ∷ filter q xs) (filter q xs))
    by true ih = at (p x)
      where
        at : (a : Bool) → (a && true || list_any (λ x. p x && q x) xs) ≡ (a || list_any p (filter q xs))
        at true = refl
        at false = ih
    by false ih = ap (λ b. b || list_any (λ x. p x && q x) xs) (and-false (p x)) ∙ ih

pub any_kept : {X : Type 0} (p : X → Bool) (xs : List X) → list_any p xs ≡ not (nat_eq (length (filter p xs)) 0)
any_kept p [] = refl
any_kept p (x ∷ xs) = by (p x) (any_kept p xs)
  where
    by : (b : Bool) → list_any p xs ≡ not (nat_eq (length (filter p xs)) 0)
        → (b || list_any p xs) ≡ not (nat_eq (length (cond b (x ∷ filter p xs) (filter p xs))) 0)
    by true ih = sym (ap not (eqb-suc-zero (length (filter p xs))))
    by false ih = ih

-- ---- values made of the elements

pub filter_map-push : {X Y : Type 0} (f : X → Option Y) (xs : List X) (x : X)
    → filter_map f (xs ++ x ∷ []) ≡ filter_map f xs ++ cons_option (f x) []
filter_map-push f [] x = refl
filter_map-push {X} {Y} f (y ∷ xs) x = by (f y) (filter_map-push f xs x)
  where
    by : (o : Option Y) → filter_map f (xs ++ x ∷ []) ≡ filter_map f xs ++ cons_option (f x) []
        → cons_option o (filter_map f (xs ++ x ∷ [])) ≡ cons_option o (filter_map f xs) ++ cons_option (f x) []
    by None h = h
    by (Some v) h = ap (λ l. v ∷ l) h
