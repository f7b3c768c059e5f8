-- What is at a place in a list.
use Rattle.std.proofs.Common.{List, [], ap, arith, get_or, inl, inr, length, refl, set, suc, sym, take, true, zero, ℕ, ◌++◌, ◌-◌, ◌<◌}
use Rattle.std.proofs.Common.{◌∙◌, ◌∷◌, ◌≡◌, ◌≢◌, ◌≤◌, ◌⊎◌}
use Rattle.std.specs.Option.{option_map, option_to_list}
use Rattle.std.specs.Prelude.{None, Option, Some, is_some, map, slice_get}
use Rattle.std.proofs.lemmas.Grind.{common_steps}
use Rattle.std.proofs.lemmas.List.{get_or_read, length_push}
use Rattle.std.proofs.lemmas.Option.{gets, none-some, same_Some, slice_get-map, slice_get_within}
use Rattle.svn_lists.proofs.Options.{some-none}

-- ---- within and beyond

pub slice_get_in : {X : Type 0} (xs : List X) (i : ℕ) → i < length xs → (x : X) × (slice_get xs i ≡ Some x)
slice_get_in [] i h = absurd (omega arith)
slice_get_in (x ∷ xs) zero h = (x, refl)
slice_get_in (x ∷ xs) (suc i) h = slice_get_in xs i (omega arith)

pub is_some-slice_get : {X : Type 0} (xs : List X) (n : ℕ) → n < length xs → is_some (slice_get xs n) ≡ true
is_some-slice_get [] n h = absurd (omega arith)
is_some-slice_get (x ∷ xs) zero h = refl
is_some-slice_get (x ∷ xs) (suc n) h = is_some-slice_get xs n (omega arith)

pub length-le_from_none : {X : Type 0} (xs : List X) (i : ℕ) → slice_get xs i ≡ None → length xs ≤ i
length-le_from_none [] i h = omega arith
length-le_from_none (x ∷ xs) zero h = absurd (some-none x h)
length-le_from_none (x ∷ xs) (suc i) h = let l = length-le_from_none xs i h in omega arith

-- ---- lists put together

pub slice_get-append : {X : Type 0} (xs ys : List X) (m : ℕ) → m < length xs → slice_get (xs ++ ys) m ≡ slice_get xs m
slice_get-append (x ∷ xs) ys zero h = refl
slice_get-append (x ∷ xs) ys (suc m) h = slice_get-append xs ys m (omega arith)
slice_get-append [] ys m h = absurd (omega arith)

pub slice_get-append_right : {X : Type 0} (xs ys : List X) (m : ℕ) → length xs ≤ m → slice_get (xs ++ ys) m ≡ slice_get ys (m - length xs)
slice_get-append_right [] ys m h = (let all : m - 0 ≡ m = omega arith in rw all refl)
slice_get-append_right (x ∷ xs) ys zero h = absurd (omega arith)
slice_get-append_right (x ∷ xs) ys (suc m) h =
    (let less : suc m - suc (length xs) ≡ m - length xs = omega arith in rw less (slice_get-append_right xs ys m (omega arith)))

pub slice_get-push : {X : Type 0} (xs : List X) (x : X) → slice_get (xs ++ x ∷ []) (length xs) ≡ Some x
slice_get-push [] x = refl
slice_get-push (y ∷ xs) x = slice_get-push xs x

pub slice_get_push_at : {X : Type 0} (xs : List X) (x : X) (i : ℕ) → i ≡ length xs → slice_get (xs ++ x ∷ []) i ≡ Some x
slice_get_push_at xs x i e = ap (slice_get (xs ++ x ∷ [])) e ∙ slice_get-push xs x

pub slice_get_push_kept : {X : Type 0} (xs : List X) (x : X) (i : ℕ) (y : X) → slice_get xs i ≡ Some y → slice_get (xs ++ x ∷ []) i ≡ Some y
slice_get_push_kept xs x i y h = slice_get-append xs (x ∷ []) i (slice_get_within xs i y h) ∙ h

pub slice_get_push_cases : {X : Type 0} (xs : List X) (x : X) (i : ℕ) (y : X) → slice_get (xs ++ x ∷ []) i ≡ Some y
    → (slice_get xs i ≡ Some y) ⊎ ((i ≡ length xs) × (x ≡ y))
slice_get_push_cases [] x zero y h = inr (refl, same_Some x y h)
slice_get_push_cases [] x (suc i) y h = cc
slice_get_push_cases (z ∷ xs) x zero y h = inl h
slice_get_push_cases (z ∷ xs) x (suc i) y h = by (slice_get_push_cases xs x i y h)
  where
    by : (slice_get xs i ≡ Some y) ⊎ ((i ≡ length xs) × (x ≡ y)) → (slice_get xs i ≡ Some y) ⊎ ((suc i ≡ suc (length xs)) × (x ≡ y))
    by (inl e) = inl e
    by (inr e) = inr (ap suc e.0, e.1)

-- the last one
pub slice_get-last : {X : Type 0} (xs : List X) (x : X) → slice_get (xs ++ x ∷ []) (length (xs ++ x ∷ []) - 1) ≡ Some x
slice_get-last xs x =
    let e = length_push xs x in
    let k : length (xs ++ x ∷ []) - 1 ≡ length xs = omega arith in
    slice_get_push_at xs x (length (xs ++ x ∷ []) - 1) k

-- a list that has no last one is empty
pub empty_from_no_last : {X : Type 0} (xs : List X) → slice_get xs (length xs - 1) ≡ None → xs ≡ []
empty_from_no_last [] h = refl
empty_from_no_last (x ∷ xs) h =
    let few = length-le_from_none (x ∷ xs) (length (x ∷ xs) - 1) h in absurd (omega (arith, few))

-- ---- one changed

pub slice_get-set_other : {X : Type 0} (xs : List X) (i : ℕ) (v : X) (m : ℕ) → m ≢ i → slice_get (set xs i v) m ≡ slice_get xs m
slice_get-set_other xs i v m ne = grind (arith, common_steps, gets)

pub slice_get-set_same : {X : Type 0} (xs : List X) (i : ℕ) (y : X) → i < length xs → slice_get (set xs i y) i ≡ Some y
slice_get-set_same [] i y h = absurd (omega arith)
slice_get-set_same (x ∷ xs) zero y h = refl
slice_get-set_same (x ∷ xs) (suc i) y h = slice_get-set_same xs i y (omega arith)

-- ---- the first ones

pub slice_get-take : {X : Type 0} (xs : List X) (n i : ℕ) → i < n → slice_get (take n xs) i ≡ slice_get xs i
slice_get-take xs zero i h = absurd (omega arith)
slice_get-take [] (suc n) i h = refl
slice_get-take (x ∷ xs) (suc n) zero h = refl
slice_get-take (x ∷ xs) (suc n) (suc i) h = slice_get-take xs n i (omega arith)

pub slice_get_from_take : {X : Type 0} (n : ℕ) (xs : List X) (i : ℕ) (x : X) → slice_get (take n xs) i ≡ Some x → slice_get xs i ≡ Some x
slice_get_from_take zero xs i x h = absurd (some-none x (sym h))
slice_get_from_take (suc n) [] i x h = h
slice_get_from_take (suc n) (y ∷ xs) zero x h = h
slice_get_from_take (suc n) (y ∷ xs) (suc i) x h = slice_get_from_take n xs i x h

pub take_from_places : {X : Type 0} (old new : List X) → length old ≤ length new
    → ((m : ℕ) → m < length old → slice_get new m ≡ slice_get old m)
    → take (length old) new ≡ old
take_from_places [] new grown same = refl
take_from_places (x ∷ old) [] grown same = absurd (omega arith)
take_from_places (x ∷ old) (y ∷ new) grown same =
    let first : Some y ≡ Some x = same zero (omega arith) in
    let rest : take (length old) new ≡ old = take_from_places old new (omega arith) (λ m h. same (suc m) (omega arith)) in
    cc

-- one element more of the first ones
pub take_next : {X : Type 0} (xs : List X) (i : ℕ) → take i xs ++ option_to_list (slice_get xs i) ≡ take (suc i) xs
take_next [] zero = refl
take_next [] (suc i) = refl
take_next (x ∷ xs) zero = refl
take_next (x ∷ xs) (suc i) = ap (λ l. x ∷ l) (take_next xs i)

-- ---- what is read of a list

-- what is read twice is the same
pub read_twice : {X : Type 0} (xs : List X) (i : ℕ) → i < length xs → (x y : X) → x ≡ get_or xs i x → y ≡ get_or xs i y → x ≡ y
read_twice xs i within x y read again = get_or_read xs i x within read x ∙ sym (get_or_read xs i y within again x)

-- what is at a place of one list has its like at that place of the other
pub like_at : {X Y Z : Type 0} (f : X → Z) (g : Y → Z) (xs : List X) (ys : List Y) (i : ℕ) (y : Y) → map f xs ≡ map g ys
    → slice_get ys i ≡ Some y → (x : X) × (slice_get xs i ≡ Some x) × (f x ≡ g y)
like_at {X = X} f g xs ys i y e h =
    by (slice_get xs i) refl
    (sym (slice_get-map f xs i) ∙ ap (λ zs. slice_get zs i) e ∙ slice_get-map g ys i ∙ ap (option_map g) h)
  where
    by : (o : Option X) → slice_get xs i ≡ o → option_map f o ≡ Some (g y) → (x : X) × (slice_get xs i ≡ Some x) × (f x ≡ g y)
    by None k q = absurd (none-some (g y) q)
    by (Some x) k q = (x, k, same_Some (f x) (g y) q)
