-- What holds of each element of a list.
use Rattle.std.proofs.Common.{List, [], arith, drop, get_or, length, suc, take, zero, ℕ, ◌++◌, ◌<◌, ◌∷◌}
use Rattle.std.specs.List.{AllByRecursion, insert, remove}

module _ {X : Type 0} where
  -- what follows from it holds of each
  pub all_map : (P Q : X → Type 0) → ((x : X) → P x → Q x) → (xs : List X) → AllByRecursion P xs → AllByRecursion Q xs
  all_map P Q f [] h = tt
  all_map P Q f (x ∷ xs) h = (f x h.0, all_map P Q f xs h.1)

  pub all_both : (P Q : X → Type 0) (xs : List X) → AllByRecursion P xs → AllByRecursion Q xs → AllByRecursion (λ x. P x × Q x) xs
  all_both P Q [] h k = tt
  all_both P Q (x ∷ xs) h k = ((h.0, k.0), all_both P Q xs h.1 k.1)

  pub all_from : (P : X → Type 0) → ((x : X) → P x) → (xs : List X) → AllByRecursion P xs
  all_from P f [] = tt
  all_from P f (x ∷ xs) = (f x, all_from P f xs)

  -- ---- parts

  pub all-append : (P : X → Type 0) (xs ys : List X) → AllByRecursion P xs → AllByRecursion P ys → AllByRecursion P (xs ++ ys)
  all-append P [] ys h k = k
  all-append P (x ∷ xs) ys h k = (h.0, all-append P xs ys h.1 k)

  pub all_left : (P : X → Type 0) (xs ys : List X) → AllByRecursion P (xs ++ ys) → AllByRecursion P xs
  all_left P [] ys h = tt
  all_left P (x ∷ xs) ys h = (h.0, all_left P xs ys h.1)

  pub all_right : (P : X → Type 0) (xs ys : List X) → AllByRecursion P (xs ++ ys) → AllByRecursion P ys
  all_right P [] ys h = h
  all_right P (x ∷ xs) ys h = all_right P xs ys h.1

  pub all_part : (P : X → Type 0) (xs : List X) (x : X) (ys : List X) → AllByRecursion P (xs ++ x ∷ ys) → P x
  all_part P xs x ys h = (all_right P xs (x ∷ ys) h).0

  pub all_push : (P : X → Type 0) (xs : List X) (x : X) → AllByRecursion P xs → P x → AllByRecursion P (xs ++ x ∷ [])
  all_push P xs x all own = all-append P xs (x ∷ []) all (own, tt)

-- ---- places

module _ {X : Type 0} (P : X → Type 0) where
  pub all_from_places : (xs : List X) → ((i : ℕ) (d : X) → i < length xs → P (get_or xs i d)) → AllByRecursion P xs
  all_from_places [] h = tt
  all_from_places (x ∷ xs) h = (h 0 x (omega arith), all_from_places xs (λ i d within. h (suc i) d (omega arith)))

  pub all_take : (i : ℕ) (xs : List X) → AllByRecursion P xs → AllByRecursion P (take i xs)
  all_take zero xs h = tt
  all_take (suc i) [] h = tt
  all_take (suc i) (x ∷ xs) h = (h.0, all_take i xs h.1)

  pub all_drop : (i : ℕ) (xs : List X) → AllByRecursion P xs → AllByRecursion P (drop i xs)
  all_drop zero xs h = h
  all_drop (suc i) [] h = tt
  all_drop (suc i) (x ∷ xs) h = all_drop i xs h.1

  pub all_insert : (i : ℕ) (xs : List X) (y : X) → P y → AllByRecursion P xs → AllByRecursion P (insert xs i y)
  all_insert zero xs y own h = (own, h)
  all_insert (suc i) [] y own h = (own, tt)
  all_insert (suc i) (x ∷ xs) y own h = (h.0, all_insert i xs y own h.1)

  pub all_remove : (i : ℕ) (xs : List X) → AllByRecursion P xs → AllByRecursion P (remove xs i)
  all_remove zero [] h = tt
  all_remove (suc i) [] h = tt
  all_remove zero (x ∷ xs) h = h.1
  all_remove (suc i) (x ∷ xs) h = (h.0, all_remove i xs h.1)
