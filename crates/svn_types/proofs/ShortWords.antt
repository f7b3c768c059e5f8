-- Bytes with zeros after them: words of eight of them decide their order.
use Rattle.std.proofs.Common.{◌≡◌, ◌≢◌, ℕ, zero, suc, ◌+◌, ◌-◌, ◌*◌, ◌^◌, ◌/◌, ◌<◌, ◌≤◌, refl, ap, sym, subst, ◌∙◌, arith}
use Rattle.std.proofs.Common.{List, [], ◌∷◌, length, take, drop, get_or}
use Rattle.std.specs.declared.cmp.Ordering.{Ordering}
use Rattle.std.specs.declared.cmp.Ordering.TheVariants.{Less, Equal, Greater}
use Rattle.std.specs.Ordering.{ordering_then, nat_cmp}
use Rattle.std.specs.Cmp.Lexicographic.{slice_cmp}
use Rattle.std.proofs.lemmas.List.{get_or-take, get_or-drop, get_or_past, length-take-le}
use Rattle.std.proofs.lemmas.Nat.{pow-add}
use Rattle.svn_lists.proofs.Digits.{nat_cmp-last_digit, first_digit_same, last_digit_same, digits_regroup}
use Rattle.svn_lists.proofs.Orderings.{nat_cmp-suc, less_from_nat_cmp, nat_cmp_equal, nat_cmp-zero_suc, greater_from_nat_cmp}
use Rattle.svn_lists.proofs.Orderings.{equal_from_nat_cmp, nat_cmp-suc_zero}
use Rattle.svn_lists.proofs.Parts.{drop_next, first_left}
use Rattle.svn_types.specs.LeadingBytes.{IsByteList, IsZeroFrom, leading}
use Rattle.svn_types.proofs.PathHeads.{heads_order, leading_bounded}

-- the digit at a place, and those after it
leading_at : (n j next : ℕ) (s : List ℕ) → next ≡ suc j → leading (suc n) (drop j s) ≡ get_or s j 0 * 256 ^ n + leading n (drop next s)
unfolding leading
leading_at n j next s behind =
    (λ i. first_left j s 0 i * 256 ^ n + leading n (drop_next j s i))
    ∙ ap (λ k. get_or s j 0 * 256 ^ n + leading n (drop k s)) (sym behind)

-- eight bytes from a place on as one number
pub eight_bytes : (i : ℕ) (s : List ℕ)
    → get_or s i 0 * 72057594037927936 + get_or s (i + 1) 0 * 281474976710656 + get_or s (i + 2) 0 * 1099511627776
    + get_or s (i + 3) 0 * 4294967296
    + get_or s (i + 4) 0 * 16777216
    + get_or s (i + 5) 0 * 65536
    + get_or s (i + 6) 0 * 256
    + get_or s (i + 7) 0 ≡ leading 8 (drop i s)
unfolding leading
eight_bytes i s =
    omega (
      arith,
      leading_at 7 i (i + 1) s (omega arith),
      leading_at 6 (i + 1) (i + 2) s (omega arith),
      leading_at 5 (i + 2) (i + 3) s (omega arith),
      leading_at 4 (i + 3) (i + 4) s (omega arith),
      leading_at 3 (i + 4) (i + 5) s (omega arith),
      leading_at 2 (i + 5) (i + 6) s (omega arith),
      leading_at 1 (i + 6) (i + 7) s (omega arith),
      leading_at 0 (i + 7) (i + 8) s (omega arith),
    )

-- a list is read as another that has the same at each place
leading_same : (n : ℕ) (s t : List ℕ) → ((i : ℕ) → get_or s i 0 ≡ get_or t i 0) → leading n s ≡ leading n t
unfolding leading
leading_same zero s t same = refl
leading_same (suc n) s t same =
    let rest : (i : ℕ) → get_or (drop 1 s) i 0 ≡ get_or (drop 1 t) i 0 =
    λ i. get_or-drop 1 s i 0 ∙ same (1 + i) ∙ sym (get_or-drop 1 t i 0) in
    (λ k. same 0 k * 256 ^ n + leading_same n (drop 1 s) (drop 1 t) rest k)

abbrev no_bytes : List ℕ
no_bytes = []

drop_nothing : (k : ℕ) → drop k no_bytes ≡ drop (suc k) no_bytes
drop_nothing zero = refl
drop_nothing (suc k) = refl

-- the digits of a list in two parts
pub leading_split : (k n : ℕ) (s : List ℕ) → leading (k + n) s ≡ leading k s * 256 ^ n + leading n (drop k s)
unfolding leading
leading_split zero n s =
    let all : zero + n ≡ n = omega arith in
    ap (λ m. leading m s) all ∙ omega arith
leading_split (suc k) n [] =
    let all : suc k + n ≡ suc (k + n) = omega arith in
    ap (λ m. leading m []) all
    ∙ (λ i. 0 * 256 ^ (k + n) + leading_split k n [] i)
    ∙ digits_regroup 0 (256 ^ k) (256 ^ n) (leading k []) (leading n (drop k [])) (256 ^ (k + n)) (pow-add 256 k n)
    ∙ (λ i. (0 * 256 ^ k + leading k []) * 256 ^ n + leading n (drop_nothing k i))
leading_split (suc k) n (b ∷ s) =
    let all : suc k + n ≡ suc (k + n) = omega arith in
    ap (λ m. leading m (b ∷ s)) all
    ∙ (λ i. b * 256 ^ (k + n) + leading_split k n s i)
    ∙ digits_regroup b (256 ^ k) (256 ^ n) (leading k s) (leading n (drop k s)) (256 ^ (k + n)) (pow-add 256 k n)

pub dropped : (k : ℕ) (s : List ℕ) → IsByteList s → IsByteList (drop k s)
dropped k s small i = subst (λ n. n < 256) (sym (get_or-drop k s i 0)) (small (k + i))

-- the first six of eight bytes, and how large they are
without_last : (h x y : ℕ) → h ≡ x * 65536 + y → y < 65536 → h / 65536 ≡ x
without_last h x y is small = omega (arith, is, small)

pub six_of_eight : (s : List ℕ) → IsByteList s → leading 8 s / 65536 ≡ leading 6 s
six_of_eight s small =
    without_last (leading 8 s) (leading 6 s) (leading 2 (drop 6 s)) (leading_split 6 2 s) (leading_bounded 2 (drop 6 s) (dropped 6 s small))

pub six_bytes : (s : List ℕ) → IsByteList s → leading 6 (drop 8 s) < 281474976710656
six_bytes s small = leading_bounded 6 (drop 8 s) (dropped 8 s small)

-- lists that have the same first bytes have the same fewer ones
same_start : (k n : ℕ) (s t : List ℕ) → IsByteList s → IsByteList t → leading (k + n) s ≡ leading (k + n) t → leading k s ≡ leading k t
same_start k n s t small_s small_t same =
    first_digit_same (leading k s) (leading k t) (256 ^ n) (leading n (drop k s)) (leading n (drop k t))
    (leading_bounded n (drop k s) (dropped k s small_s))
    (leading_bounded n (drop k t) (dropped k t small_t))
    (sym (leading_split k n s) ∙ same ∙ leading_split k n t)

-- lists of at most that many bytes that have the same ones are ordered as their lengths are

lengths_order : (n : ℕ) (s t : List ℕ) → length s ≤ n → length t ≤ n → IsByteList s → IsByteList t → leading n s ≡ leading n t
    → slice_cmp nat_cmp s t ≡ nat_cmp (length s) (length t)
unfolding leading
lengths_order n [] [] short_s short_t small_s small_t same = refl
lengths_order n [] (c ∷ t) short_s short_t small_s small_t same = sym (nat_cmp-zero_suc (length t))
lengths_order n (b ∷ s) [] short_s short_t small_s small_t same = sym (nat_cmp-suc_zero (length s))
lengths_order zero (b ∷ s) (c ∷ t) short_s short_t small_s small_t same = absurd (omega arith)
lengths_order (suc n) (b ∷ s) (c ∷ t) short_s short_t small_s small_t same =
    let rest_s : IsByteList s = λ i. small_s (suc i) in
    let rest_t : IsByteList t = λ i. small_t (suc i) in
    let first : b ≡ c =
    first_digit_same b c (256 ^ n) (leading n s) (leading n t) (leading_bounded n s rest_s) (leading_bounded n t rest_t) same in
    ap (λ o. ordering_then o (slice_cmp nat_cmp s t)) (nat_cmp_equal b c first)
    ∙ lengths_order n s t (omega arith) (omega arith) rest_s rest_t (last_digit_same b c (256 ^ n) (leading n s) (leading n t) first same)
    ∙ nat_cmp-suc (length s) (length t)

-- what is in a room: its first bytes, with zeros after them
pub shown_at : (n : ℕ) (room : List ℕ) → IsZeroFrom n room → n ≤ length room → (i : ℕ) → get_or room i 0 ≡ get_or (take n room) i 0
shown_at n room zeros fits i = by (nat_cmp i n) refl
  where
    past : n ≤ i → get_or room i 0 ≡ get_or (take n room) i 0
    past behind = zeros i behind ∙ sym (get_or_past (take n room) i 0 (omega (arith, length-take-le n room fits)))

    by : (o : Ordering) → o ≡ nat_cmp i n → get_or room i 0 ≡ get_or (take n room) i 0
    by Less e = sym (get_or-take n room i 0 (less_from_nat_cmp i n (sym e)))
    by Equal e = past (omega (arith, equal_from_nat_cmp i n (sym e)))
    by Greater e = past (omega (arith, greater_from_nat_cmp i n (sym e)))

-- bytes with zeros after them, in rooms of one size
pub record InRoom (size len : ℕ) (room : List ℕ) : Type 0 where
  pub fits : len ≤ size
  pub whole : length room ≡ size
  pub zeros : IsZeroFrom len room
  pub small : IsByteList room

pub in_room : (size len : ℕ) (room : List ℕ) → (len ≤ size) × (length room ≡ size) × IsZeroFrom len room → IsByteList room
    → InRoom size len room
in_room size len room holds small = record { fits = holds.0; whole = holds.1; zeros = holds.2; small = small }

shown_bytes : (size n : ℕ) (room : List ℕ) → InRoom size n room → IsByteList (take n room)
shown_bytes size n room r i = subst (λ b. b < 256) (shown_at n room r.zeros (omega (arith, r.fits, r.whole)) i) (r.small i)

-- a word of a room is one of its bytes
pub word_shown : (size n k : ℕ) (room : List ℕ) → InRoom size n room → leading 8 (drop k room) ≡ leading 8 (drop k (take n room))
word_shown size n k room r =
    leading_same 8 (drop k room) (drop k (take n room))
    (λ i. get_or-drop k room i 0
    ∙ shown_at n room r.zeros (omega (arith, r.fits, r.whole)) (k + i)
    ∙ sym (get_or-drop k (take n room) i 0))

-- two different first words decide the order
pub first_words : (size m n : ℕ) (one two : List ℕ) → InRoom size m one → InRoom size n two
    → (o : Ordering) → o ≡ nat_cmp (leading 8 one) (leading 8 two) → o ≢ Equal → o ≡ slice_cmp nat_cmp (take m one) (take n two)
first_words size m n one two r s o is unlike =
    sym (heads_order 8 (take m one) (take n two) (shown_bytes size m one r) (shown_bytes size n two s) o
    (is ∙ (λ i. nat_cmp (word_shown size m 0 one r i) (word_shown size n 0 two s i))) unlike)

-- what is in two rooms with the same first words begins with the same bytes
same_fronts : (size k m n : ℕ) (one two : List ℕ) → k ≤ 8 → InRoom size m one → InRoom size n two → leading 8 one ≡ leading 8 two
    → leading k (take m one) ≡ leading k (take n two)
same_fronts size k m n one two within r s same =
    let all : 8 ≡ k + (8 - k) = omega arith in
    let starts : leading 8 (take m one) ≡ leading 8 (take n two) =
    sym (word_shown size m 0 one r) ∙ same ∙ word_shown size n 0 two s in
    same_start k (8 - k) (take m one) (take n two) (shown_bytes size m one r) (shown_bytes size n two s)
    (subst (λ l. leading l (take m one) ≡ leading l (take n two)) all starts)

-- after equal first words the last two decide the order
pub last_words : (size m n : ℕ) (one two : List ℕ) → 8 ≤ size → size ≤ 16 → InRoom size m one → InRoom size n two
    → leading 8 one ≡ leading 8 two
    → (o : Ordering) → o ≡ nat_cmp (leading 8 (drop (size - 8) one)) (leading 8 (drop (size - 8) two)) → o ≢ Equal
    → o ≡ slice_cmp nat_cmp (take m one) (take n two)
last_words size m n one two least most r s same o is unlike =
    let k : ℕ = size - 8 in
    let front : leading k (take m one) ≡ leading k (take n two) = same_fronts size k m n one two (omega arith) r s same in
    let whole : nat_cmp (leading 8 (drop k (take m one))) (leading 8 (drop k (take n two)))
    ≡ nat_cmp (leading (k + 8) (take m one)) (leading (k + 8) (take n two)) =
    nat_cmp-last_digit (leading k (take m one)) (leading k (take n two)) (256 ^ 8) _ _ front
    ∙ (λ i. nat_cmp (sym (leading_split k 8 (take m one)) i) (sym (leading_split k 8 (take n two)) i)) in
    sym (heads_order (k + 8) (take m one) (take n two) (shown_bytes size m one r) (shown_bytes size n two s) o
    (is ∙ (λ i. nat_cmp (word_shown size m k one r i) (word_shown size n k two s i)) ∙ whole) unlike)

-- and after the same words the lengths
pub last_lengths : (size m n : ℕ) (one two : List ℕ) → 8 ≤ size → size ≤ 16 → InRoom size m one → InRoom size n two
    → leading 8 one ≡ leading 8 two
    → leading 8 (drop (size - 8) one) ≡ leading 8 (drop (size - 8) two) → nat_cmp m n ≡ slice_cmp nat_cmp (take m one) (take n two)
last_lengths size m n one two least most r s same last =
    let k : ℕ = size - 8 in
    let len_r : length (take m one) ≡ m = length-take-le m one (omega (arith, r.fits, r.whole)) in
    let len_s : length (take n two) ≡ n = length-take-le n two (omega (arith, s.fits, s.whole)) in
    let front : leading k (take m one) ≡ leading k (take n two) = same_fronts size k m n one two (omega arith) r s same in
    let back : leading 8 (drop k (take m one)) ≡ leading 8 (drop k (take n two)) =
    sym (word_shown size m k one r) ∙ last ∙ word_shown size n k two s in
    let whole : leading (k + 8) (take m one) ≡ leading (k + 8) (take n two) =
    leading_split k 8 (take m one) ∙ (λ i. front i * 256 ^ 8 + back i) ∙ sym (leading_split k 8 (take n two)) in
    (λ i. nat_cmp (sym len_r i) (sym len_s i))
    ∙ sym (lengths_order (k + 8) (take m one) (take n two) (omega (arith, len_r, r.fits)) (omega (arith, len_s, s.fits))
    (shown_bytes size m one r) (shown_bytes size n two s) whole)
