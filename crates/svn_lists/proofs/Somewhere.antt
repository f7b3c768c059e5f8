-- Tests on lists: whether an element passes, and whether all do.
use Rattle.std.proofs.Common.{Bool, List, [], ap, arith, false, get_or, length, refl, suc, sym, take, true, true≢false, zero, ℕ, ◌++◌}
use Rattle.std.proofs.Common.{◌<◌, ◌||◌, ◌∙◌, ◌∷◌, ◌≡◌}
use Rattle.std.specs.List.{AllByRecursion, list_all, list_any}
use Rattle.std.specs.Prelude.{Some, slice_get}
use Rattle.std.proofs.Math.Bool.{or-false}
use Rattle.std.proofs.lemmas.Bool.{and_from, false_from_ne_true, or_from, or_left, or_parts, or_right}
use Rattle.std.proofs.lemmas.List.Folds.{list_all-append, list_any-append}
use Rattle.svn_lists.proofs.Tests.{or_first}

module _ {X : Type 0} where
  -- ---- whether one passes

  -- a test that none passes
  pub none_any : (f : X → Bool) (xs : List X) → AllByRecursion (λ x. f x ≡ false) xs → list_any f xs ≡ false
  none_any f [] h = refl
  none_any f (x ∷ xs) h = ap (λ b. b || list_any f xs) h.0 ∙ none_any f xs h.1

  pub each_fails : (f : X → Bool) (xs : List X) → list_any f xs ≡ false → AllByRecursion (λ x. f x ≡ false) xs
  each_fails f [] h = tt
  each_fails f (x ∷ xs) h = let parts = or_parts (f x) (list_any f xs) h in (parts.0, each_fails f xs parts.1)

  -- where one passes a test that implies another, one passes that
  pub any_implied : (f g : X → Bool) → ((x : X) → f x ≡ true → g x ≡ true) → (xs : List X) → list_any f xs ≡ true → list_any g xs ≡ true
  any_implied f g e [] h = h
  any_implied f g e (x ∷ xs) h = by (f x) refl h (any_implied f g e xs)
    where
      by : (b : Bool) → f x ≡ b → (b || list_any f xs) ≡ true → (list_any f xs ≡ true → list_any g xs ≡ true)
          → (g x || list_any g xs) ≡ true
      by true q h ih = or_left (g x) (list_any g xs) (e x q)
      by false q h ih = or_right (g x) (list_any g xs) (ih h)

  -- ---- parts

  -- what is in the whole and not in the second part is in the first
  pub in_front : (f : X → Bool) (xs ys : List X) → list_any f (xs ++ ys) ≡ true → list_any f ys ≡ false → list_any f xs ≡ true
  in_front f xs ys h k = or_first (list_any f xs) (list_any f ys) (sym (list_any-append f xs ys) ∙ h) k

  -- what is in a part is in the whole
  pub in_whole : (f : X → Bool) (xs ys : List X) → list_any f xs ≡ true → list_any f (xs ++ ys) ≡ true
  in_whole f xs ys h = list_any-append f xs ys ∙ ap (λ b. b || list_any f ys) h

pub any_push : {X : Type 0} (p : X → Bool) (xs : List X) (x : X) → list_any p (xs ++ x ∷ []) ≡ (list_any p xs || p x)
any_push p xs x = list_any-append p xs (x ∷ []) ∙ ap (λ b. list_any p xs || b) (or-false (p x))

-- one more that doesn't pass
pub any_still : {X : Type 0} (p : X → Bool) (xs : List X) (x : X) → p x ≡ false → list_any p (xs ++ x ∷ []) ≡ list_any p xs
any_still p xs x h = any_push p xs x ∙ ap (λ b. list_any p xs || b) h ∙ or-false (list_any p xs)

-- no element of a list passes, so none of its first ones
pub any_take : {X : Type 0} (f : X → Bool) (xs : List X) (i : ℕ) → list_any f xs ≡ false → list_any f (take i xs) ≡ false
any_take f xs zero h = refl
any_take f [] (suc i) h = refl
any_take f (x ∷ xs) (suc i) h =
    let parts = or_parts (f x) (list_any f xs) h in or_from (f x) (list_any f (take i xs)) parts.0 (any_take f xs i parts.1)

-- ---- places

-- each place fails a test that no element passes
pub fails_at : {X : Type 0} (f : X → Bool) (xs : List X) → list_any f xs ≡ false → (i : ℕ) (d : X) → i < length xs
    → f (get_or xs i d) ≡ false
fails_at f [] none i d inside = absurd (omega (arith, inside))
fails_at f (x ∷ xs) none zero d inside = (or_parts (f x) (list_any f xs) none).0
fails_at f (x ∷ xs) none (suc i) d inside = fails_at f xs (or_parts (f x) (list_any f xs) none).1 i d (omega (arith, inside))

-- a weaker test that none passes
pub any_weaker : {X : Type 0} (p q : X → Bool) (xs : List X) → ((x : X) → p x ≡ true → q x ≡ true) → list_any q xs ≡ false
    → list_any p xs ≡ false
any_weaker p q [] w h = refl
any_weaker {X} p q (x ∷ xs) w h =
    let parts = or_parts (q x) (list_any q xs) h in
    ap (λ b. b || list_any p xs) (false_from_ne_true (p x) (λ e. true≢false (sym (w x e) ∙ parts.0))) ∙ any_weaker p q xs w parts.1

pub any_found : {X : Type 0} (p : X → Bool) (xs : List X) → list_any p xs ≡ true
    → (i : ℕ) × (x : X) × (slice_get xs i ≡ Some x) × (p x ≡ true)
any_found p [] h = absurd (true≢false (sym h))
any_found {X} p (x ∷ xs) h = by (p x) refl h (any_found p xs)
  where
    by : (b : Bool) → p x ≡ b → (b || list_any p xs) ≡ true
        → (list_any p xs ≡ true → (i : ℕ) × (y : X) × (slice_get xs i ≡ Some y) × (p y ≡ true))
        → (i : ℕ) × (y : X) × (slice_get (x ∷ xs) i ≡ Some y) × (p y ≡ true)
    by true k h ih = (0, x, refl, k)
    by false k h ih = let r = ih h in (suc r.0, r.1, r.2, r.3)

-- ---- whether all pass

pub list_all_append : {X : Type 0} (f : X → Bool) (xs ys : List X) → list_all f xs ≡ true → list_all f ys ≡ true
    → list_all f (xs ++ ys) ≡ true
list_all_append f xs ys h k = list_all-append f xs ys ∙ and_from (list_all f xs) (list_all f ys) h k

pub list_all_push : {X : Type 0} (f : X → Bool) (xs : List X) (x : X) → list_all f xs ≡ true → f x ≡ true → list_all f (xs ++ x ∷ []) ≡ true
list_all_push f xs x h k = list_all_append f xs (x ∷ []) h (and_from (f x) true k refl)
