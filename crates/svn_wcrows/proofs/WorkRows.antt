-- Rows of the work queue, one after another.
use Rattle.std.proofs.Common.{◌≡◌, ℕ, zero, suc, ◌+◌, ◌<◌, List, [], ◌∷◌, ◌++◌, map, length, take, get_or, Option, Some, All, refl, sym, ap, ap₂, ◌∙◌, arith, add-one}
use Rattle.std.specs.List.{range_with_len}
use Rattle.std.proofs.lemmas.List.{map-append, map_more}
use Rattle.std.proofs.lemmas.List.Elements.{All-head, All-tail}
use Rattle.std.proofs.lemmas.Option.{same_Some}
use Rattle.law_dump.specs.Laws.{IsPath}
use Rattle.svn_wcrows.specs.declared.work.Work.{Work}
use Rattle.svn_wcrows.specs.Laws.{WorkIsReadBack}
use Rattle.svn_wcrows.specs.Work.{place_of, work_bytes}
use Rattle.svn_wcrows.proofs.WorkLists.{same_items}

-- one more of a list was turned into one more of another, which is the same to the two functions
pub one_more : {X Y Z : Type 0} (f : X → Z) (g : Y → Z) (xs : List X) (i : ℕ) (x : X) (ys : List Y) (y : Y) → i < length xs
    → x ≡ get_or xs i x → map g ys ≡ map f (take i xs) → g y ≡ f x → map g (ys ++ y ∷ []) ≡ map f (take (i + 1) xs)
one_more f g xs i x ys y within is before same =
    map-append g ys (y ∷ []) ∙ ap₂ (λ a b. a ++ b ∷ []) before (same ∙ ap f is) ∙ sym (map_more f xs i x within)

abbrev list : Work → Option (List ℕ)
list work = Some (work_bytes work)

lists_same : (items others : List Work) → All (λ work. IsPath (place_of work)) items → All (λ work. IsPath (place_of work)) others
    → map list items ≡ map list others → items ≡ others
lists_same [] [] h k e = refl
lists_same [] (v ∷ vs) h k e = cc
lists_same (w ∷ ws) [] h k e = cc
lists_same (w ∷ ws) (v ∷ vs) h k e =
    let first : list w ≡ list v = cc in
    let rest : map list ws ≡ map list vs = cc in
    ap₂ (λ x xs. x ∷ xs)
    (same_items w v (All-head (λ work. IsPath (place_of work)) w ws h) (All-head (λ work. IsPath (place_of work)) v vs k)
    (same_Some (work_bytes w) (work_bytes v) first))
    (lists_same ws vs (All-tail (λ work. IsPath (place_of work)) w ws h) (All-tail (λ work. IsPath (place_of work)) v vs k) rest)

pub work_read : WorkIsReadBack
work_read rows items others h k first second = lists_same items others h k (sym first ∙ second)

-- numbers from one on, and the next
from_here : (a n j : ℕ) → a + n ≡ j → range_with_len a (suc n) ≡ range_with_len a n ++ j ∷ []
from_here a zero j e = let same : a ≡ j = omega (arith, e) in ap (λ (k : ℕ). k ∷ []) same
from_here a (suc n) j e = ap (λ (l : List ℕ). a ∷ l) (from_here (a + 1) n j (omega (arith, e)))

pub number_more : {X : Type 0} (number : X → ℕ) (xs : List X) (x : X) (a n : ℕ) → map number xs ≡ range_with_len a n → number x ≡ a + n
    → map number (xs ++ x ∷ []) ≡ range_with_len a (n + 1)
number_more number xs x a n before is =
    map-append number xs (x ∷ []) ∙ ap (λ (l : List ℕ). l ++ number x ∷ []) before ∙ sym (from_here a n (number x) (sym is))
    ∙ ap (range_with_len a) (sym (add-one n))
