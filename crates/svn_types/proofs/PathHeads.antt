-- The heads of keys: keys with unlike heads are ordered as these are.
use Rattle.std.proofs.Common.{◌≡◌, ◌≢◌, ℕ, zero, suc, ◌^◌, ◌<◌, ◌≤◌, refl, ap, sym, subst, ◌∙◌, arith}
use Rattle.std.proofs.Common.{List, [], ◌∷◌, length, drop}
use Rattle.std.specs.declared.cmp.Ordering.{Ordering}
use Rattle.std.specs.declared.cmp.Ordering.TheVariants.{Less, Equal, Greater}
use Rattle.std.specs.Ordering.{ordering_reverse, nat_cmp}
use Rattle.std.specs.Cmp.Lexicographic.{slice_cmp}
use Rattle.std.proofs.lemmas.Cmp.{nat_list_cmp_total}
use Rattle.std.proofs.Math.Nat.{pow-suc}
use Rattle.std.proofs.Math.ListN.{drop_of_length-le}
use Rattle.svn_lists.proofs.Digits.{digits_below, first_digit_not_above, last_digit_below}
use Rattle.svn_lists.proofs.Orderings.{ordering_then_less, less_from_nat_cmp, greater_from_nat_cmp}
use Rattle.svn_types.specs.Names.{Path}
use Rattle.svn_types.specs.LeadingBytes.{IsByteList, leading}
use Rattle.svn_types.specs.PathHeads.{IsHeadOf, head_number}
use Rattle.svn_types.specs.declared.path_head.Head.{Head}
use Rattle.svn_types.specs.PathKeys.{path_key}
use Rattle.svn_types.proofs.PathKeys.{key_order}

pub leading_nil : (n : ℕ) → leading n [] ≡ 0
unfolding leading
leading_nil zero = refl
leading_nil (suc n) = omega (arith, leading_nil n)

-- after its last byte nothing is left of a list
pub no_second_word : (s : List ℕ) → length s ≤ 8 → leading 6 (drop 8 s) ≡ 0
no_second_word s short = ap (leading 6) (drop_of_length-le s short) ∙ leading_nil 6

pub leading_bounded : (n : ℕ) (s : List ℕ) → IsByteList s → leading n s < 256 ^ n
unfolding leading
leading_bounded zero s small = omega arith
leading_bounded (suc n) [] small =
    digits_below 0 (256 ^ n) 256 (leading n []) (256 ^ suc n) (pow-suc 256 n) (small 0) (leading_bounded n [] small)
leading_bounded (suc n) (b ∷ s) small =
    digits_below b (256 ^ n) 256 (leading n s) (256 ^ suc n) (pow-suc 256 n) (small 0) (leading_bounded n s (λ i. small (suc i)))

heads_below : (n : ℕ) (s t : List ℕ) → IsByteList t → leading n s < leading n t → slice_cmp nat_cmp s t ≡ Less
unfolding leading
heads_below zero s t small below = absurd (omega arith)
heads_below (suc n) s [] small below = absurd (omega (arith, leading_nil n))
heads_below (suc n) [] (c ∷ t) small below = refl
heads_below (suc n) (b ∷ s) (c ∷ t) small below =
    let rest : IsByteList t = λ i. small (suc i) in
    ordering_then_less (nat_cmp b c) b c (slice_cmp nat_cmp s t) refl
    (λ e. heads_below n s t rest (last_digit_below b c (256 ^ n) (leading n s) (leading n t) e below))
    (λ above. first_digit_not_above b c (256 ^ n) (leading n s) (leading n t) above (leading_bounded n t rest) below)

-- lists with unlike heads are ordered as these are
pub heads_order : (n : ℕ) (s t : List ℕ) → IsByteList s → IsByteList t
    → (o : Ordering) → o ≡ nat_cmp (leading n s) (leading n t) → o ≢ Equal → slice_cmp nat_cmp s t ≡ o
heads_order n s t small_s small_t Less e unlike = heads_below n s t small_t (less_from_nat_cmp (leading n s) (leading n t) (sym e))
heads_order n s t small_s small_t Equal e unlike = absurd (unlike refl)
heads_order n s t small_s small_t Greater e unlike =
    nat_list_cmp_total.antisymm s t
    ∙ ap ordering_reverse (heads_below n t s small_s (greater_from_nat_cmp (leading n s) (leading n t) (sym e)))

-- so are paths
pub unlike_heads : (p q : Path) (h k : Head) → IsHeadOf p h → IsHeadOf q k → (o : Ordering) → o ≡ nat_cmp (head_number h) (head_number k)
    → o ≢ Equal → o ≡ slice_cmp (slice_cmp nat_cmp) p q
unlike_heads p q h k at_p at_q o is unlike =
    let heads : o ≡ nat_cmp (leading 14 (path_key p)) (leading 14 (path_key q)) = is ∙ (λ i. nat_cmp (at_p.head_is i) (at_q.head_is i)) in
    sym (heads_order 14 (path_key p) (path_key q) at_p.bytes at_q.bytes o heads unlike) ∙ key_order p q at_p.plain at_q.plain

pub root_head : (p : Path) (h : Head) → head_number h ≡ 0 → p ≡ [] → IsHeadOf p h
root_head p h nothing root =
    subst (λ (q : Path). IsHeadOf q h) (sym root)
    (record { head_is = nothing ∙ sym (leading_nil 14); small = omega (arith, nothing); bytes = λ i. omega arith; plain = refl })
