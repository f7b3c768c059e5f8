-- Bytes that lack one: what is cut at that byte, where it is first, and bytes that have it.
use Rattle.std.proofs.Common.{◌≡◌, ◌⊎◌, inl, inr, ℕ, ◌+◌, Bool, true, false, cond, not, List, [], ◌∷◌, ◌++◌, length, take, drop, Option, Some, None, option_and_then, refl, sym, true≢false, ap, ap₂, ◌∙◌, ◌^◌, ◌<◌, arith, nat_eq, nat_lt, decimal, length-append}
use Rattle.std.proofs.Math.Seq.{take-append_seam, drop-append-add}
use Rattle.std.specs.List.{list_all, onto_first, position, position_or_len, slice_split}
use Rattle.std.proofs.lemmas.Bool.{and_from, and_parts, ne_eqb, lt-ltb, le-ltb, eqb-true}
use Rattle.std.proofs.lemmas.List.Splits.{slice_split-cons_yes, slice_split-cons_no}
use Rattle.svn_lists.proofs.Somewhere.{list_all_append}
use Rattle.svn_lists.proofs.Tests.{nat_eq-same}
use Rattle.svn_digits.specs.Numbers.{is_digit}
use Rattle.svn_digits.proofs.Decimals.{spelled}
pub use Rattle.law_dump.specs.Grammar.{lacks}

pub not_true : (b : Bool) → not b ≡ true → b ≡ false
not_true false h = refl
not_true true h = cc

pub lacks_parts : (c b : ℕ) (bytes : List ℕ) → lacks c (b ∷ bytes) ≡ true → (nat_eq b c ≡ false) × (lacks c bytes ≡ true)
lacks_parts c b bytes h =
    let parts = and_parts (not (nat_eq b c)) (lacks c bytes) h in
    (not_true (nat_eq b c) parts.0, parts.1)

pub lacks_append : (c : ℕ) (xs ys : List ℕ) → lacks c xs ≡ true → lacks c ys ≡ true → lacks c (xs ++ ys) ≡ true
lacks_append c xs ys h k = list_all_append (λ b. not (nat_eq b c)) xs ys h k

-- bytes that pass a test which the byte fails
pub lacks_by : (test : ℕ → Bool) (c : ℕ) (bytes : List ℕ) → test c ≡ false → list_all test bytes ≡ true → lacks c bytes ≡ true
lacks_by test c [] fails h = refl
lacks_by test c (b ∷ bytes) fails h =
    let parts = and_parts (test b) (list_all test bytes) h in
    let other : nat_eq b c ≡ false = ne_eqb b c (λ same. true≢false (sym parts.0 ∙ ap test same ∙ fails)) in
    and_from (not (nat_eq b c)) (lacks c bytes) (ap not other) (lacks_by test c bytes fails parts.1)

pub number_lacks_line_feed : (n : ℕ) → n < 2 ^ 64 → lacks 10 (decimal n) ≡ true
number_lacks_line_feed n small = lacks_by is_digit 10 (decimal n) refl (spelled n small).all_digits

-- the first part of what is cut at a byte that the part hasn't
pub first_part : (c : ℕ) (part more : List ℕ) → lacks c part ≡ true
    → slice_split (λ b. nat_eq b c) (part ++ c ∷ more) ≡ part ∷ slice_split (λ b. nat_eq b c) more
first_part c [] more h = slice_split-cons_yes (λ b. nat_eq b c) c more (nat_eq-same c)
first_part c (b ∷ part) more h =
    let parts = lacks_parts c b part h in
    slice_split-cons_no (λ x. nat_eq x c) b (part ++ c ∷ more) parts.0 ∙ ap (onto_first b) (first_part c part more parts.1)

first_place : (c : ℕ) (part more : List ℕ) → lacks c part ≡ true → position_or_len (λ b. nat_eq b c) (part ++ c ∷ more) ≡ length part
first_place c [] more h = rw (nat_eq-same c) refl
first_place c (b ∷ part) more h =
    let parts = lacks_parts c b part h in
    let after = first_place c part more parts.1 in
    rw parts.0 (omega (arith, after))

-- where the byte is first that the part hasn't
pub place_after : (c : ℕ) (part more : List ℕ) → lacks c part ≡ true → position (λ b. nat_eq b c) (part ++ c ∷ more) ≡ Some (length part)
place_after c part more h =
    let all = part ++ c ∷ more in
    let within : nat_lt (length part) (length all) ≡ true = lt-ltb _ _ (omega (arith, length-append part (c ∷ more))) in
    ap (λ n. cond (nat_lt n (length all)) (Some n) None) (first_place c part more h) ∙ ap (λ b. cond b (Some (length part)) None) within

no_place : (c : ℕ) (part : List ℕ) → lacks c part ≡ true → position_or_len (λ b. nat_eq b c) part ≡ length part
no_place c [] h = refl
no_place c (b ∷ part) h =
    let parts = lacks_parts c b part h in
    let after = no_place c part parts.1 in
    rw parts.0 (omega (arith, after))

-- the byte is nowhere in what lacks it
pub place_none : (c : ℕ) (part : List ℕ) → lacks c part ≡ true → position (λ b. nat_eq b c) part ≡ None
place_none c part h =
    ap (λ n. cond (nat_lt n (length part)) (Some n) None) (no_place c part h)
    ∙ ap (λ b. cond b (Some (length part)) None) (le-ltb (length part) (length part) (omega arith))

-- what is made of the bytes before the byte, and of those after it
pub parts_at : {B : Type 0} (c : ℕ) (f : List ℕ → List ℕ → Option B) (part more : List ℕ) → lacks c part ≡ true
    → option_and_then (λ i. f (take i (part ++ c ∷ more)) (drop (i + 1) (part ++ c ∷ more))) (position (λ b. nat_eq b c) (part ++ c ∷ more))
    ≡ f part more
parts_at c f part more h =
    let all = part ++ c ∷ more in
    ap (λ o. option_and_then (λ i. f (take i all) (drop (i + 1) all)) o) (place_after c part more h)
    ∙ ap₂ f (take-append_seam part (c ∷ more)) (drop-append-add part (c ∷ more) 1)

pub no_parts : {B : Type 0} (c : ℕ) (f : List ℕ → List ℕ → Option B) (bytes : List ℕ) → lacks c bytes ≡ true
    → option_and_then (λ i. f (take i bytes) (drop (i + 1) bytes)) (position (λ b. nat_eq b c) bytes) ≡ None
no_parts c f bytes h = ap (λ o. option_and_then (λ i. f (take i bytes) (drop (i + 1) bytes)) o) (place_none c bytes h)

-- bytes that have the byte, cut at the first
pub record Cut (c : ℕ) (bytes : List ℕ) : Type 0 where
  pub front : List ℕ
  pub back : List ℕ
  pub parts : bytes ≡ front ++ c ∷ back
  pub plain : lacks c front ≡ true

pub cut : (c : ℕ) (bytes : List ℕ) → (lacks c bytes ≡ true) ⊎ Cut c bytes
cut c [] = inl refl
cut c (b ∷ bytes) = by (nat_eq b c) refl (cut c bytes)
  where
    by : (same : Bool) → nat_eq b c ≡ same → (lacks c bytes ≡ true) ⊎ Cut c bytes → (lacks c (b ∷ bytes) ≡ true) ⊎ Cut c (b ∷ bytes)
    by true e rest =
        inr (record { front = []; back = bytes; parts = ap (λ (x : ℕ). x ∷ bytes) (eqb-true b c e); plain = refl })
    by false e (inl none) = inl (rw e none)
    by false e (inr some) =
        inr (record { front = b ∷ some.front; back = some.back; parts = ap (λ (l : List ℕ). b ∷ l) some.parts; plain = rw e some.plain })
