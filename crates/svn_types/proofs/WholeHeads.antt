-- Heads that hold whole keys: such paths are equal where their heads are.
use Rattle.std.proofs.Common.{◌≡◌, ℕ, zero, suc, ◌+◌, ◌*◌, ◌^◌, ◌%◌, ◌<◌, Bool, true, false, refl, ap, sym, ◌∙◌, arith}
use Rattle.std.proofs.Common.{List, [], ◌∷◌, length, drop, get_or, nat_eq, ◌&&◌}
use Rattle.std.specs.Prelude.{nat_le}
use Rattle.std.specs.List.{list_all}
use Rattle.std.specs.declared.cmp.Ordering.TheVariants.{Equal}
use Rattle.std.specs.Ordering.{nat_cmp}
use Rattle.std.specs.Cmp.Lexicographic.{pointwise, pointwise_decides, bytes_decides, slice_cmp, texts_ties, lists_ties}
use Rattle.std.proofs.lemmas.Bool.{and_parts}
use Rattle.std.proofs.lemmas.List.Folds.{list_all-append}
use Rattle.std.specs.Cmp.{Equal-is}
use Rattle.svn_lists.proofs.Digits.{first_digit_same, first_digit_zero, last_digit_same}
use Rattle.svn_lists.proofs.Parts.{first_left}
use Rattle.svn_types.specs.Names.{Path, is_plain}
use Rattle.svn_types.specs.LeadingBytes.{IsByteList, leading}
use Rattle.svn_types.specs.PathHeads.{IsHeadOf, head_number}
use Rattle.svn_types.specs.declared.path_head.Head.{Head}
use Rattle.svn_types.specs.PathKeys.{path_key, is_plain_name, is_plain_path}
use Rattle.svn_types.proofs.PathHeads.{leading_bounded, leading_nil}
use Rattle.svn_types.proofs.PathKeys.{key_decides}
use Rattle.svn_types.proofs.ShortWords.{leading_split}

-- ---- no byte of a key is zero

some_byte : (b : ℕ) (rest : Bool) → (is_plain b && rest) ≡ true → nat_le 1 b ≡ true
some_byte b rest h = grind (arith, h)

some_bytes : (n : List ℕ) → list_all is_plain n ≡ true → list_all (nat_le 1) n ≡ true
some_bytes [] h = refl
some_bytes (b ∷ n) h =
    rw (some_byte b (list_all is_plain n) h) (some_bytes n (and_parts (is_plain b) (list_all is_plain n) h).1)

key_bytes : (p : Path) → is_plain_path p ≡ true → list_all (nat_le 1) (path_key p) ≡ true
key_bytes [] h = refl
key_bytes (n ∷ p) h =
    let parts = and_parts (is_plain_name n) (is_plain_path p) h in
    let plain = and_parts (nat_le 1 (length n)) (list_all is_plain n) parts.0 in
    list_all-append (nat_le 1) n (1 ∷ path_key p)
    ∙ (λ i. some_bytes n plain.1 i && key_bytes p parts.1 i)

-- ---- lists without a zero that lie whole in their heads

not_zero : (b : ℕ) (rest : Bool) → (nat_le 1 b && rest) ≡ true → b ≡ 0 → ⊥
not_zero b rest h e = grind (arith, h, e)

whole_same : (n : ℕ) (s t : List ℕ) → IsByteList s → IsByteList t → list_all (nat_le 1) s ≡ true → list_all (nat_le 1) t ≡ true
    → get_or s n 0 ≡ 0 → get_or t n 0 ≡ 0 → leading n s ≡ leading n t → s ≡ t
unfolding leading
whole_same n [] [] small_s small_t some_s some_t end_s end_t e = refl
whole_same zero [] (c ∷ t) small_s small_t some_s some_t end_s end_t e =
    absurd (not_zero c (list_all (nat_le 1) t) some_t end_t)
whole_same zero (b ∷ s) t small_s small_t some_s some_t end_s end_t e =
    absurd (not_zero b (list_all (nat_le 1) s) some_s end_s)
whole_same (suc n) [] (c ∷ t) small_s small_t some_s some_t end_s end_t e =
    absurd
    (not_zero c (list_all (nat_le 1) t) some_t
    (first_digit_zero c (256 ^ n) (leading n t) (leading_bounded n t (λ i. small_t (suc i))) (sym (leading_nil (suc n)) ∙ e)))
whole_same (suc n) (b ∷ s) [] small_s small_t some_s some_t end_s end_t e =
    absurd
    (not_zero b (list_all (nat_le 1) s) some_s
    (first_digit_zero b (256 ^ n) (leading n s) (leading_bounded n s (λ i. small_s (suc i))) (sym (e ∙ leading_nil (suc n)))))
whole_same (suc n) (b ∷ s) (c ∷ t) small_s small_t some_s some_t end_s end_t e =
    let rest_s : IsByteList s = λ i. small_s (suc i) in
    let rest_t : IsByteList t = λ i. small_t (suc i) in
    let first : b ≡ c =
    first_digit_same b c (256 ^ n) (leading n s) (leading n t) (leading_bounded n s rest_s) (leading_bounded n t rest_t) e in
    let rest : leading n s ≡ leading n t = last_digit_same b c (256 ^ n) (leading n s) (leading n t) first e in
    let same : s ≡ t =
    whole_same n s t rest_s rest_t (and_parts (nat_le 1 b) (list_all (nat_le 1) s) some_s).1
    (and_parts (nat_le 1 c) (list_all (nat_le 1) t) some_t).1 end_s end_t rest in
    (λ i. first i ∷ same i)

-- ---- the last byte of a head

last_of_head : (first second x y : ℕ) → y < 256 → first * 281474976710656 + second ≡ x * 256 + y → second % 256 ≡ 0 → y ≡ 0
last_of_head first second x y small is last = omega (arith, is, last)

last_zero : (s : List ℕ) → leading 1 (drop 13 s) ≡ get_or s 13 0
unfolding leading
last_zero s = omega (arith, first_left 13 s 0)

split_head : (s : List ℕ) → leading 14 s ≡ leading 13 s * 256 + get_or s 13 0
split_head s = leading_split 13 1 s ∙ (λ i. leading 13 s * 256 + last_zero s i)

fronts_same : (x y z : ℕ) → x * 256 + z ≡ y * 256 + z → x ≡ y
fronts_same x y z e = omega arith

-- ---- paths

pub whole_paths : (p q : Path) (h k : Head) → IsHeadOf p h → IsHeadOf q k → h.first ≡ k.first → h.second ≡ k.second
    → h.second % 256 ≡ 0 → p ≡ q
whole_paths p q h k at_p at_q first second last =
    let s = path_key p in
    let t = path_key q in
    let heads : head_number h ≡ head_number k = (λ i. first i * 281474976710656 + second i) in
    let end_s : get_or s 13 0 ≡ 0 =
    last_of_head h.first h.second (leading 13 s) (get_or s 13 0) (at_p.bytes 13) (at_p.head_is ∙ split_head s) last in
    let end_t : get_or t 13 0 ≡ 0 =
    last_of_head k.first k.second (leading 13 t) (get_or t 13 0) (at_q.bytes 13) (at_q.head_is ∙ split_head t)
    (ap (λ n. n % 256) (sym second) ∙ last) in
    let fronts : leading 13 s ≡ leading 13 t =
    fronts_same (leading 13 s) (leading 13 t) 0
    ((λ i. leading 13 s * 256 + sym end_s i) ∙ sym (split_head s) ∙ sym at_p.head_is ∙ heads ∙ at_q.head_is ∙ split_head t
    ∙ (λ i. leading 13 t * 256 + end_t i)) in
    key_decides p q at_p.plain at_q.plain
    (whole_same 13 s t at_p.bytes at_q.bytes (key_bytes p at_p.plain) (key_bytes q at_q.plain) end_s end_t fronts)

pub equal_paths : (p q : Path) → p ≡ q → pointwise (pointwise nat_eq) p q ≡ true
equal_paths p q e = (pointwise_decides bytes_decides p q).1 e

pub unlike_paths : (p q : Path) (h k : Head) → IsHeadOf p h → IsHeadOf q k → (head_number h ≡ head_number k → ⊥)
    → false ≡ pointwise (pointwise nat_eq) p q
unlike_paths p q h k at_p at_q unlike = by (pointwise (pointwise nat_eq) p q) refl
  where
    by : (b : Bool) → b ≡ pointwise (pointwise nat_eq) p q → false ≡ b
    by false is = refl
    by true is =
        absurd
        (unlike
        (at_p.head_is ∙ ap (λ (r : Path). leading 14 (path_key r)) ((pointwise_decides bytes_decides p q).0 (sym is)) ∙ sym at_q.head_is))

pub ordered_equal : (p q : Path) → p ≡ q → Equal ≡ slice_cmp (slice_cmp nat_cmp) p q
ordered_equal p q e =
    (sym ((Equal-is (slice_cmp (slice_cmp nat_cmp) p q)).0 (sym (lists_ties (slice_cmp nat_cmp) texts_ties p q) ∙ equal_paths p q e)))
