-- The revision that made a node, found by searches over the roots.
use Rattle.std.proofs.Common.{◌≡◌, ℕ, ◌-◌, ◌+◌, ◌<◌, ◌≤◌, ◌⊎◌, true, false, length, Option, Some, None, refl, sym, ap, subst, ◌∙◌, arith, rules, ⊎_elim}
use Rattle.std.specs.Option.{option_and_then}
use Rattle.std.specs.List.{slice_get}
use Rattle.std.proofs.lemmas.Bool.{ltb-true, ltb-false, le-ltb}
use Rattle.std.proofs.lemmas.Option.{slice_get_within}
use Rattle.svn_lists.proofs.Places.{slice_get_in}
use Rattle.svn_repo.specs.History.{History}
use Rattle.svn_history.specs.Made.{root_of, is_below, is_root_below, RootsRise, IsFirstFrom, IsMadeIn}

same_found : (found : Option ℕ) → option_and_then (λ n. Some n) found ≡ found
same_found None = refl
same_found (Some n) = refl

split : (a b : ℕ) → (a ≤ b) ⊎ (b < a)
split a b = search rules

some_same : (a b : ℕ) → Some a ≡ Some b → a ≡ b
some_same a b e = cc

-- a root isn't below itself
pub not_below_itself : (h : History) (r root : ℕ) → root_of h r ≡ Some root → is_root_below h root r ≡ false
not_below_itself h r root is = ap (λ found. is_below found root) is ∙ le-ltb root root (omega arith)

-- there is a root in each revision before one that has a root
root_before : (h : History) (r s n : ℕ) → r ≤ s → root_of h s ≡ Some n → (k : ℕ) × (root_of h r ≡ Some k)
root_before h r s n le is =
    let within = slice_get_within h.roots s n (sym (same_found (slice_get h.roots s)) ∙ is) in
    let found = slice_get_in h.roots r (omega arith) in
    (found.0, same_found (slice_get h.roots r) ∙ found.1)

root_within : (h : History) (r n : ℕ) → root_of h r ≡ Some n → r < length h.roots
root_within h r n is = slice_get_within h.roots r n (sym (same_found (slice_get h.roots r)) ∙ is)

root_below : (found : Option ℕ) (n : ℕ) → is_below found n ≡ true → (root : ℕ) × (found ≡ Some root) × (root < n)
root_below None n e = cc
root_below (Some root) n e = (root, refl, ltb-true root n e)

root_from : (found : Option ℕ) (n root : ℕ) → is_below found n ≡ false → found ≡ Some root → n ≤ root
root_from found n root e is = ltb-false root n (subst (λ (f : Option ℕ). is_below f n ≡ false) is e)

-- no revision before has so large a root
before_first : (h : History) (n m : ℕ) → RootsRise h → (0 < m → is_root_below h n (m - 1) ≡ true) → (r k : ℕ) → root_of h r ≡ Some k → r < m → k < n
before_first h n m rising below r k e before =
    let last = root_below (root_of h (m - 1)) n (below (omega arith)) in
    let up = rising.rise r (m - 1) k last.0 (omega arith) e last.1 in
    omega (arith, up, last.2)

-- the node is a root
pub made_at_root : (h : History) (n j : ℕ) → (0 < j → is_root_below h n (j - 1) ≡ true) → root_of h j ≡ Some n → RootsRise h → IsMadeIn h n j
made_at_root h n j below is rising = record {
  root = n;
  is_root = is;
  at_most = omega arith;
  largest = λ r k e le. le;
  first = before_first h n j rising below;
}

-- the first revision that has the root of this one, after which no root is at most the node
made_first : (h : History) (n b m root : ℕ) → root_of h b ≡ Some root → root ≤ n
    → ((r k : ℕ) → root_of h r ≡ Some k → b < r → k ≤ n → ⊥) → IsFirstFrom h root m → RootsRise h → IsMadeIn h n m
made_first h n b m root is at_most above first rising =
    let here = root_before h m b root early is in
    let up = rising.rise m b here.0 root early here.1 is in
    let down = root_from (root_of h m) root here.0 first.from here.1 in
    let same : here.0 ≡ root = omega (arith, up, down) in
    record {
      root = root;
      is_root = here.1 ∙ ap (λ (k : ℕ). Some k) same;
      at_most = at_most;
      largest = largest;
      first = before_first h root m rising first.below;
    }
  where
    early : m ≤ b
    early = ⊎_elim (λ (le : m ≤ b). le) (λ (later : b < m).
        let up = before_first h root m rising first.below b root is later in
        absurd (omega (arith, up))) (split m b)

    largest : (r k : ℕ) → root_of h r ≡ Some k → k ≤ n → k ≤ root
    largest r k e le = ⊎_elim (λ (before : r ≤ b). rising.rise r b k root before e is)
        (λ (after : b < r). absurd (above r k e after le)) (split r b)

-- the last root is below the node
pub made_after_all : (h : History) (n latest m : ℕ) → latest + 1 ≡ length h.roots → is_root_below h n latest ≡ true
    → ((root : ℕ) → root_of h latest ≡ Some root → IsFirstFrom h root m) → RootsRise h → IsMadeIn h n m
made_after_all h n latest m count below first rising =
    let last = root_below (root_of h latest) n below in
    let less = last.2 in
    made_first h n latest m last.0 last.1 (omega (arith, less))
    (λ r k e after le. let within = root_within h r k e in absurd (omega (arith, within, count, after))) (first last.0 last.1) rising

-- a root is above the node, and the one before is below
made_between : (h : History) (n i m : ℕ) → is_root_below h n i ≡ true → is_root_below h n (i + 1) ≡ false → (root_of h (i + 1) ≡ Some n → ⊥)
    → ((root : ℕ) → root_of h i ≡ Some root → IsFirstFrom h root m) → RootsRise h → IsMadeIn h n m
made_between h n i m below from other first rising =
    let last = root_below (root_of h i) n below in
    let less = last.2 in
    made_first h n i m last.0 last.1 (omega (arith, less)) above (first last.0 last.1) rising
  where
    above : (r k : ℕ) → root_of h r ≡ Some k → i < r → k ≤ n → ⊥
    above r k e after le =
        let here = root_before h (i + 1) r k (omega arith) e in
        let up = rising.rise (i + 1) r here.0 k (omega arith) here.1 e in
        let down = root_from (root_of h (i + 1)) n here.0 from here.1 in
        let same : here.0 ≡ n = omega (arith, up, down, le) in
        other (here.1 ∙ ap (λ (x : ℕ). Some x) same)

-- no root is the node
pub made_inside : (h : History) (n j m : ℕ) → (0 < j → is_root_below h n (j - 1) ≡ true) → is_root_below h n j ≡ false
    → (root_of h j ≡ Some n → ⊥) → ((root : ℕ) → root_of h (j - 1) ≡ Some root → IsFirstFrom h root m) → RootsRise h → IsMadeIn h n m
made_inside h n j m below from other first rising = ⊎_elim at_front further (split j 0)
  where
    at_front : j ≤ 0 → IsMadeIn h n m
    at_front le =
        let front : j ≡ 0 = omega arith in
        let least = root_from (root_of h 0) n 0 (subst (λ (k : ℕ). is_root_below h n k ≡ false) front from) rising.first in
        let is : 0 ≡ n = omega (arith, least) in
        absurd (other (subst (λ (k : ℕ). root_of h k ≡ Some n) (sym front) (rising.first ∙ ap (λ (k : ℕ). Some k) is)))

    further : 0 < j → IsMadeIn h n m
    further more =
        let next : j ≡ j - 1 + 1 = omega arith in
        made_between h n (j - 1) m (below more) (subst (λ (k : ℕ). is_root_below h n k ≡ false) next from)
        (λ e. other (subst (λ (k : ℕ). root_of h k ≡ Some n) (sym next) e)) first rising
