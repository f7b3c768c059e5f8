-- Lists put together, and their parts.
use Rattle.std.proofs.Common.{List, [], ap, append-nil, append_assoc, arith, drop, get_or, inl, inr, length, length-append, refl, suc}
use Rattle.std.proofs.Common.{sym, take, zero, ℕ, ⊎_elim, ◌++◌, ◌+◌, ◌-◌, ◌<◌, ◌∙◌, ◌∷◌, ◌≡◌, ◌≤◌, ◌⊎◌}
use Rattle.std.specs.List.{flat_map, insert, remove}
use Rattle.std.specs.Option.{option_to_list}
use Rattle.std.specs.Prelude.{slice_get}
use Rattle.std.proofs.Math.Seq.{take-append_seam}
use Rattle.std.proofs.lemmas.List.{length-take, length-take-le, take-append-drop}
use Rattle.std.proofs.lemmas.List.Concat.{flat_map-append}
use Rattle.std.proofs.lemmas.List.Edits.{insert-append_left, insert-append_right}
use Rattle.svn_lists.proofs.Places.{take_next}

-- ---- put together

pub append_one : {X : Type 0} (xs : List X) (y : X) (ys : List X) → xs ++ y ∷ ys ≡ (xs ++ y ∷ []) ++ ys
append_one [] y ys = refl
append_one (x ∷ xs) y ys = ap (λ l. x ∷ l) (append_one xs y ys)

pub empty_parts : {X : Type 0} (xs ys : List X) → xs ++ ys ≡ [] → (xs ≡ []) × (ys ≡ [])
empty_parts {X} [] ys h = (refl, h)
empty_parts {X} (x ∷ xs) ys h = absurd (none h)
  where
    none : x ∷ (xs ++ ys) ≡ [] → ⊥
    none q = cc

pub empty_from_length : {X : Type 0} (xs : List X) (n : ℕ) → n ≡ 0 → n ≡ length xs → xs ≡ []
empty_from_length [] n h e = refl
empty_from_length (x ∷ xs) n h e = absurd (omega arith)

pub length_one : {X : Type 0} (xs ys : List X) (x : X) → ys ≡ xs ++ x ∷ [] → length ys ≡ length xs + 1
length_one xs ys x e = omega (arith, ap length e, length-append xs (x ∷ []))

-- lists that end with one element each have the same front
pub same_front : {X : Type 0} (s t : List X) (a b : X) → s ++ a ∷ [] ≡ t ++ b ∷ [] → s ≡ t
same_front s t a b e =
    let same_length : length s ≡ length t =
    omega (arith, sym (length-append s (a ∷ [])) ∙ ap length e ∙ length-append t (b ∷ [])) in
    sym (take-append_seam s (a ∷ [])) ∙ (λ i. take (same_length i) (e i)) ∙ take-append_seam t (b ∷ [])

-- an element of a longer list is the new one, or is in the shorter list
pub push_cases : {X : Type 0} (xs before after : List X) (x y : X) → xs ++ x ∷ [] ≡ before ++ y ∷ after
    → (after ≡ []) ⊎ ((rest : List X) × (xs ≡ before ++ y ∷ rest))
push_cases [] [] after x y e = inl cc
push_cases (z ∷ xs) [] after x y e = inr (xs, cc)
push_cases [] (b ∷ []) after x y e = absurd cc
push_cases [] (b ∷ b' ∷ bs) after x y e = absurd cc
push_cases {X} (z ∷ xs) (b ∷ bs) after x y e =
    ⊎_elim
    (λ (t : after ≡ []). inl t)
    (λ (t : (rest : List X) × (xs ≡ bs ++ y ∷ rest)). inr (t.0, let same = t.1 in cc))
    (push_cases xs bs after x y cc)

-- a longer list goes on after its first elements
pub cut_at : {X : Type 0} (n : ℕ) (xs : List X) → n < length xs
    → (ys : List X) × (y : X) × (zs : List X) × (xs ≡ ys ++ y ∷ zs) × (length ys ≡ n)
cut_at {X} n xs long = by (drop n xs) (take-append-drop n xs)
  where
    first : length (take n xs) ≡ n
    first = length-take-le n xs (omega arith)

    by : (r : List X) → take n xs ++ r ≡ xs → (ys : List X) × (y : X) × (zs : List X) × (xs ≡ ys ++ y ∷ zs) × (length ys ≡ n)
    by [] whole =
        let all : length (take n xs) ≡ length xs = ap length (sym (append-nil (take n xs)) ∙ whole) in absurd (omega (arith, all, first))
    by (y ∷ r) whole = (take n xs, y, r, sym whole, first)

-- ---- first and last ones

pub take_take_le : {X : Type 0} (n k : ℕ) (xs : List X) → n ≤ k → take n (take k xs) ≡ take n xs
take_take_le zero k xs le = refl
take_take_le (suc n) zero xs le = absurd (omega arith)
take_take_le (suc n) (suc k) [] le = refl
take_take_le (suc n) (suc k) (x ∷ xs) le = ap (λ l. x ∷ l) (take_take_le n k xs (omega arith))

pub drop_next : {X : Type 0} (i : ℕ) (xs : List X) → drop 1 (drop i xs) ≡ drop (suc i) xs
drop_next zero xs = refl
drop_next (suc i) [] = refl
drop_next (suc i) (x ∷ xs) = drop_next i xs

pub first_left : {X : Type 0} (i : ℕ) (xs : List X) (d : X) → get_or (drop i xs) 0 d ≡ get_or xs i d
first_left zero xs d = refl
first_left (suc i) [] d = refl
first_left (suc i) (x ∷ xs) d = first_left i xs d

-- ---- one put in or taken out

pub remove_only : {X : Type 0} (xs : List X) (i : ℕ) → length xs ≤ 1 → i < length xs → remove xs i ≡ []
remove_only [] i short within = absurd (omega (arith, within))
remove_only (x ∷ []) zero short within = refl
remove_only (x ∷ []) (suc i) short within = absurd (omega (arith, within))
remove_only (x ∷ y ∷ xs) i short within = absurd (omega (arith, short))

module _ {X : Type 0} (xs : List X) where
  pub insert_before : (x : X) (place first : ℕ) → place ≤ first → first ≤ length xs
      → insert (take first xs) place x ++ drop first xs ≡ insert xs place x
  insert_before x place first before within =
      sym (insert-append_left (take first xs) (drop first xs) place x (omega (arith, length-take first xs)))
      ∙ ap (λ (l : List X). insert l place x) (take-append-drop first xs)

  pub insert_behind : (x : X) (place first : ℕ) → first ≤ place → first ≤ length xs
      → take first xs ++ insert (drop first xs) (place - first) x ≡ insert xs place x
  insert_behind x place first behind within =
      sym (insert-append_right (take first xs) (drop first xs) first place x (omega (arith, length-take first xs)) behind)
      ∙ ap (λ (l : List X). insert l place x) (take-append-drop first xs)

-- ---- what the elements give, one after the other

pub flat_map-take_next : {X Y : Type 0} (f : X → List Y) (xs : List X) (i : ℕ)
    → flat_map f (take i xs) ++ flat_map f (option_to_list (slice_get xs i)) ≡ flat_map f (take (i + 1) xs)
flat_map-take_next f xs i =
    sym (flat_map-append f (take i xs) (option_to_list (slice_get xs i)))
    ∙ ap (flat_map f) (take_next xs i) ∙ ap (λ n. flat_map f (take n xs)) (next i)
  where
    next : (k : ℕ) → suc k ≡ k + 1
    next k = omega arith

-- what each list gives and then the last one is what all elements give
pub flat_map-lists : {X Y Z : Type 0} (items : Z → List X) (f : X → List Y) (lists : List Z) (last : List X)
    → flat_map (λ l. flat_map f (items l)) lists ++ flat_map f last ≡ flat_map f (flat_map items lists ++ last)
flat_map-lists items f [] last = refl
flat_map-lists items f (l ∷ lists) last =
    append_assoc (flat_map f (items l)) (flat_map (λ l. flat_map f (items l)) lists) (flat_map f last)
    ∙ ap (λ ys. flat_map f (items l) ++ ys) (flat_map-lists items f lists last)
    ∙ sym (flat_map-append f (items l) (flat_map items lists ++ last))
    ∙ ap (flat_map f) (sym (append_assoc (items l) (flat_map items lists) last))

-- what is written of a list, where one element more is written
pub next_item : {A : Type 0} (g : A → List ℕ) (done : List ℕ) (x : A) (rest items : List A) (all : List ℕ) → items ≡ x ∷ rest
    → done ++ flat_map g items ≡ all → (done ++ g x) ++ flat_map g rest ≡ all
next_item {A} g done x rest items all step e =
    append_assoc done (g x) (flat_map g rest) ∙ ap (λ (l : List A). done ++ flat_map g l) (sym step) ∙ e

pub no_item : {A : Type 0} (g : A → List ℕ) (done : List ℕ) (items : List A) (all : List ℕ) → items ≡ [] → done ++ flat_map g items ≡ all
    → done ≡ all
no_item {A} g done items all step e = sym (append-nil done) ∙ ap (λ (l : List A). done ++ flat_map g l) (sym step) ∙ e
