-- Questions that are open, one less.
use Rattle.std.proofs.Common.{◌≡◌, ℕ, zero, suc, ◌+◌, ◌-◌, true, ◌||◌, List, [], ◌∷◌, length, take, drop, nat_le, Some, sym, ap, subst, ◌∙◌, arith}
use Rattle.std.proofs.lemmas.Bool.Decides.{nat_tests}
use Rattle.std.proofs.lemmas.List.Sums.{sum_by-cons}
use Rattle.svn_ask.specs.declared.question.Question.{Question}
use Rattle.svn_ask.specs.Windows.{IsWindow, len_of, sent_len, most_sent, is_within, first_of}

fewer : (k l m : ℕ) → (nat_le (suc k) 1 || nat_le (l + m) most_sent) ≡ true → (nat_le k 1 || nat_le m most_sent) ≡ true
fewer k l m h = grind (arith, nat_tests)

less_within : (q : Question) (sent : List Question) → is_within (q ∷ sent) ≡ true → is_within sent ≡ true
less_within q sent h =
    fewer (length sent) (len_of q) (sent_len sent)
    (ap (λ s. nat_le (suc (length sent)) 1 || nat_le s most_sent) (sym (sum_by-cons len_of q sent)) ∙ h)

without : (bytes len rest : ℕ) → bytes ≡ len + rest → bytes - len ≡ rest
without bytes len rest h = omega (arith, h)

less : (total : ℕ) (q : Question) (u : List Question) (n bytes : ℕ) → IsWindow total (q ∷ u) (suc n) bytes → IsWindow total u n (bytes - len_of q)
less total q u n bytes w = record {
  few = omega (arith, w.few);
  among = omega (arith, w.among);
  counted = without bytes (len_of q) (sent_len (take n u)) (w.counted ∙ sum_by-cons len_of q (take n u));
  bounded = less_within q (take n u) w.bounded;
}

-- the first of those that are open is answered
pub one_less : (total : ℕ) (u v : List Question) (n bytes len : ℕ) (q : Question) → IsWindow total u n bytes → Some q ≡ first_of (take n u)
    → len ≡ len_of q → v ≡ drop 1 u → IsWindow total v (n - 1) (bytes - len)
one_less total u v zero bytes len q w h size rest = cc
one_less total [] v (suc n) bytes len q w h size rest = cc
one_less total (p ∷ u) v (suc n) bytes len q w h size rest =
    let p_is : q ≡ p = cc in
    let count : n ≡ suc n - 1 = omega arith in
    subst (λ (k : ℕ). IsWindow total v k (bytes - len)) count
    (subst (λ (l : ℕ). IsWindow total v n (bytes - l)) (sym (size ∙ ap len_of p_is))
    (subst (λ (k : List Question). IsWindow total k n (bytes - len_of p)) (sym rest) (less total p u n bytes w)))
