-- Lists that are cut at the elements that pass a test.
use Rattle.std.proofs.Common.{Bool, List, [], ap, arith, cond, drop, false, get_or, length, not, refl, take, true, ℕ, ◌+◌, ◌<◌, ◌∙◌, ◌∷◌}
use Rattle.std.proofs.Common.{◌≡◌, ◌≤◌}
use Rattle.std.specs.List.{onto_first, position, position_or_len, prefix_len, slice_split}
use Rattle.std.specs.Prelude.{None, Some, nat_lt}
use Rattle.std.proofs.lemmas.Bool.{false_from_ne_true, ltb-false}
use Rattle.std.proofs.lemmas.List.Quantifiers.{position-Some}
use Rattle.std.proofs.lemmas.List.Splits.{length-slice_split, slice_split_first}
use Rattle.std.proofs.lemmas.List.Sums.{position_or_len_is}
use Rattle.svn_lists.proofs.Options.{cond_none}

pub position_is : (p : ℕ → Bool) (xs : List ℕ) (i : ℕ) → i ≤ length xs → ((k : ℕ) → k < i → p (get_or xs k 0) ≡ true → ⊥)
    → (i < length xs → p (get_or xs i 0) ≡ true) → position p xs ≡ cond (nat_lt i (length xs)) (Some i) None
position_is p xs i l before here =
    ap (λ n. cond (nat_lt n (length xs)) (Some n) None)
    (position_or_len_is p xs i 0 l (λ k m. false_from_ne_true (p (get_or xs k 0)) (before k m)) here)

pub slice_split_past : {X : Type 0} (p : X → Bool) (xs : List X) → length xs ≤ position_or_len p xs → slice_split p xs ≡ xs ∷ []
slice_split_past p [] h = refl
slice_split_past p (x ∷ xs) h =
    (elim (p x) as (λ (b : Bool). length (x ∷ xs) ≤ cond (not b) (1 + prefix_len (λ y. not (p y)) xs) 0
    → cond b ([] ∷ slice_split p xs) (onto_first x (slice_split p xs)) ≡ (x ∷ xs) ∷ []) [
      | true ↦ λ few. absurd (omega (arith, few))
      | false ↦ λ few. ap (onto_first x) (slice_split_past p xs (omega (arith, few)))
    ]) h

-- a list in which no element passes is the one part
pub slice_split_whole : {X : Type 0} (p : X → Bool) (xs : List X) → position_or_len p xs ≡ length xs → slice_split p xs ≡ xs ∷ []
slice_split_whole p xs h = slice_split_past p xs (omega (arith, h))

pub slice_split_nowhere : (p : ℕ → Bool) (xs : List ℕ) → position p xs ≡ None → slice_split p xs ≡ xs ∷ []
slice_split_nowhere p xs e =
    let at = position_or_len p xs in
    slice_split_past p xs (ltb-false at (length xs) (cond_none (nat_lt at (length xs)) at None e).0)

-- with an element that passes there are a first part and those of the rest
pub slice_split_at : (p : ℕ → Bool) (xs : List ℕ) (i : ℕ) → position p xs ≡ Some i
    → slice_split p xs ≡ take i xs ∷ slice_split p (drop (i + 1) xs)
slice_split_at p xs i e =
    let facts = position-Some p xs i 0 e in
    let bound : i < length xs = facts.0 in
    let here : position_or_len p xs ≡ i = position_or_len_is p xs i 0 (omega (arith, bound)) facts.2 (λ _. facts.1) in
    slice_split_first p xs 0 (omega (arith, here, bound)) ∙ (λ j. take (here j) xs ∷ slice_split p (drop (here j + 1) xs))

only_part : {X : Type 0} (b : Bool) (x : X) (xs : List X) (parts : List (List X)) → 1 ≤ length parts
    → length (cond b ([] ∷ parts) (onto_first x parts)) ≤ 1 → (length parts ≤ 1 → parts ≡ xs ∷ [])
    → cond b ([] ∷ parts) (onto_first x parts) ≡ (x ∷ xs) ∷ []
only_part true x xs parts some few whole = absurd (omega (arith, some, few))
only_part false x xs [] some few whole = absurd (omega (arith, some))
only_part false x xs (y ∷ ys) some few whole = ap (onto_first x) (whole few)

-- where there is one part, it is the list
pub slice_split_one : {X : Type 0} (p : X → Bool) (xs : List X) → length (slice_split p xs) ≤ 1 → slice_split p xs ≡ xs ∷ []
slice_split_one p [] few = refl
slice_split_one p (x ∷ xs) few =
    only_part (p x) x xs (slice_split p xs) (omega (arith, length-slice_split p xs)) few (slice_split_one p xs)

-- the rest after the first of two parts is the second
pub slice_split_two : {X : Type 0} (p : X → Bool) (xs first second : List X) → slice_split p xs ≡ first ∷ slice_split p second
    → length (slice_split p xs) ≤ 2 → slice_split p xs ≡ first ∷ second ∷ []
slice_split_two p xs first second cut few =
    let whole = slice_split_one p second (omega (arith, few, ap length cut)) in
    cut ∙ ap (λ parts. first ∷ parts) whole

pub slice_split_three : {X : Type 0} (p : X → Bool) (xs first rest second third : List X) → slice_split p xs ≡ first ∷ slice_split p rest
    → slice_split p rest ≡ second ∷ slice_split p third → length (slice_split p xs) ≤ 3 → slice_split p xs ≡ first ∷ second ∷ third ∷ []
slice_split_three p xs first rest second third cut next few =
    cut ∙ ap (λ parts. first ∷ parts) (slice_split_two p rest second third next (omega (arith, few, ap length cut)))
