-- The revisions of a log, found one after another, and the paths that they are about.
use Rattle.std.proofs.Common.{◌≡◌, ◌≢◌, ℕ, zero, suc, ◌+◌, ◌-◌, ◌<◌, ◌≤◌, Bool, true, false, cond, List, [], ◌∷◌, ◌++◌, length, get_or, take, drop, drop-cons, append_assoc, append-nil, length-append, arith, refl, sym, ap, subst, ◌∙◌}
use Rattle.std.specs.Prelude.{◌&&◌, nat_le, nat_lt, Result, Ok, Err, if◌then◌else◌}
use Rattle.std.specs.List.{filter, flat_map}
use Rattle.std.proofs.Math.Seq.{take-append_seam, take-nil}
use Rattle.std.proofs.Math.Bool.{and-false, true-and}
use Rattle.std.proofs.Math.Dec.{leb-suc-zero}
use Rattle.std.proofs.lemmas.Bool.{leb-false, leb-true, lt-ltb}
use Rattle.std.proofs.lemmas.List.Elements.{filter-append}
use Rattle.svn_types.specs.Names.{Path}
use Rattle.svn_repo.specs.History.{History}
use Rattle.svn_wire.specs.declared.token.Token.{Token}
use Rattle.svn_replies.specs.declared.served.Served.{Served}
use Rattle.svn_replies.specs.Refusals.{Reason, ◌>>=◌}
use Rattle.svn_commands.specs.declared.history.Segment.{Segment}
use Rattle.svn_commands.specs.Log.{path_of_token, paths_there, followed, AreTraced, revs_from, limited, is_full}
use Rattle.svn_commands.specs.Segments.{AreSegments}

-- ---- lists that are gone through

pub at_front : {X : Type 0} (xs : List X) (i : ℕ) (x : X) → i < length xs → x ≡ get_or xs i x → drop i xs ≡ x ∷ drop (i + 1) xs
at_front xs i x within is =
    let next : suc i ≡ i + 1 = omega arith in
    drop-cons xs i x within ∙ ap (λ y. y ∷ drop (suc i) xs) (sym is) ∙ ap (λ j. x ∷ drop j xs) next

pub one_more_written : {X : Type 0} (f : X → List ℕ) (old before new : List ℕ) (all left rest : List X) (x : X)
    → before ++ flat_map f left ≡ old ++ flat_map f all → left ≡ x ∷ rest → new ≡ before ++ f x → new ++ flat_map f rest ≡ old ++ flat_map f all
one_more_written {X} f old before new all left rest x written front is =
    ap (λ (l : List ℕ). l ++ flat_map f rest) is ∙ append_assoc before (f x) (flat_map f rest)
    ∙ ap (λ (l : List X). before ++ flat_map f l) (sym front) ∙ written

-- ---- paths

-- paths before those that reading gives
abbrev pub put_before : List Path → Result (List Path) Reason → Result (List Path) Reason
put_before done (Ok paths) = Ok (done ++ paths)
put_before done (Err e) = Err e

pub one_path_more : (done : List Path) (p : Path) (read : Result (List Path) Reason)
    → put_before done (read >>= λ paths. Ok (p ∷ paths)) ≡ put_before (done ++ p ∷ []) read
one_path_more done p (Ok paths) = ap (λ (l : List Path). Ok l) (sym (append_assoc done (p ∷ []) paths))
one_path_more done p (Err e) = refl

-- one more path was read
pub path_read : (h : History) (at : Path) (r : ℕ) (all left rest : List Token) (token : Token) (p : Path) (done new : List Path)
    → paths_there h at r all ≡ put_before done (paths_there h at r left) → left ≡ token ∷ rest → path_of_token h at r token ≡ Ok p
    → new ≡ done ++ p ∷ [] → paths_there h at r all ≡ put_before new (paths_there h at r rest)
path_read h at r all left rest token p done new before front found is =
    before ∙ ap (λ (l : List Token). put_before done (paths_there h at r l)) front
    ∙ ap (λ (read : Result Path Reason). put_before done (read >>= λ q. paths_there h at r rest >>= λ paths. Ok (q ∷ paths))) found
    ∙ one_path_more done p (paths_there h at r rest)
    ∙ ap (λ (l : List Path). put_before l (paths_there h at r rest)) (sym is)

-- ---- where the nodes were

pub one_traced : (s : Served) (strict : Bool) (r : ℕ) (p : Path) (front left all : List Path) (done new one : List Segment)
    → ((rest : List Segment) → AreTraced s strict r front rest → AreTraced s strict r all (done ++ rest)) → front ≡ p ∷ left
    → AreSegments s r p one → new ≡ done ++ followed strict one
    → (rest : List Segment) → AreTraced s strict r left rest → AreTraced s strict r all (new ++ rest)
one_traced s strict r p front left all done new one goes next segments is rest more =
    let joined : new ++ rest ≡ done ++ (followed strict one ++ rest) = ap (λ (l : List Segment). l ++ rest) is ∙ append_assoc done (followed strict one) rest in
    let here : AreTraced s strict r (p ∷ left) (followed strict one ++ rest) = (one, rest, segments, more, refl) in
    subst (AreTraced s strict r all) (sym joined)
    (goes (followed strict one ++ rest) (subst (λ (l : List Path). AreTraced s strict r l (followed strict one ++ rest)) (sym next) here))

pub all_traced : (s : Served) (strict : Bool) (r : ℕ) (front all : List Path) (done : List Segment)
    → ((rest : List Segment) → AreTraced s strict r front rest → AreTraced s strict r all (done ++ rest)) → front ≡ [] → AreTraced s strict r all done
all_traced s strict r front all done goes none =
    let here : AreTraced s strict r [] [] = refl in
    subst (AreTraced s strict r all) (append-nil done) (goes [] (subst (λ (l : List Path). AreTraced s strict r l []) (sym none) here))

-- ---- which revisions

module _ (test : ℕ → Bool) where
  -- one revision more
  pub one_rev_more : (found : List ℕ) (r : ℕ) (left : List ℕ)
      → found ++ filter test (r ∷ left) ≡ (found ++ filter test (r ∷ [])) ++ filter test left
  one_rev_more found r left =
      ap (λ (l : List ℕ). found ++ l) (filter-append test (r ∷ []) left) ∙ sym (append_assoc found (filter test (r ∷ [])) (filter test left))

  one_at_most : (r : ℕ) → length (filter test (r ∷ [])) ≤ 1
  one_at_most r = elim (test r) as (λ b. length (cond b (r ∷ []) []) ≤ 1) [ true ↦ omega arith | false ↦ omega arith ]

  pub grown : (found : List ℕ) (r : ℕ) → length (found ++ filter test (r ∷ [])) ≤ length found + 1
  grown found r =
      let most = one_at_most r in
      let sum = length-append found (filter test (r ∷ [])) in
      omega (arith, most, sum)

-- ---- how many

above_none : (n : ℕ) → nat_lt 0 (suc n) ≡ true
above_none n = lt-ltb 0 (suc n) (omega arith)

-- a limit that is one decides by the number alone
by_number : (n k : ℕ) (b : Bool) → is_full (suc n) k ≡ b → nat_le (suc n) k ≡ b
by_number n k b full = sym (true-and (nat_le (suc n) k)) ∙ ap (λ t. t && nat_le (suc n) k) (sym (above_none n)) ∙ full

-- there is room for one more
pub has_room : (n k : ℕ) → is_full (suc n) k ≡ false → k < suc n
has_room n k room = leb-false (suc n) k (by_number n k false room)

pub room_at_first : (limit : ℕ) → is_full limit 0 ≡ false
room_at_first zero = refl
room_at_first (suc n) = ap (λ t. nat_lt 0 (suc n) && t) (leb-suc-zero n) ∙ and-false (nat_lt 0 (suc n))

all_of : (n : ℕ) (found : List ℕ) → length found ≤ n → take n found ≡ found
all_of n [] le = take-nil n
all_of zero (r ∷ found) le = absurd (omega arith)
all_of (suc n) (r ∷ found) le = ap (λ (l : List ℕ). r ∷ l) (all_of n found (omega arith))

-- all of them
pub none_left : (limit k : ℕ) (found : List ℕ) → is_full limit k ≡ false → length found ≤ k + 1 → limited limit found ≡ found
none_left zero k found room le = refl
none_left (suc n) k found room le =
    let less = has_room n k room in
    all_of (suc n) found (omega (arith, less, le))

-- as many as are wanted
pub enough : (limit k : ℕ) (found left : List ℕ) → is_full limit k ≡ false → length found ≤ k + 1 → is_full limit (length found) ≡ true
    → limited limit (found ++ left) ≡ found
enough zero k found left room le full = cc
enough (suc n) k found left room le full =
    let less = has_room n k room in
    let more = leb-true (suc n) (length found) (by_number n (length found) true full) in
    let count : suc n ≡ length found = omega (arith, less, more, le) in
    ap (λ m. take m (found ++ left)) count ∙ take-append_seam found left

-- ---- on the way from one revision to another

-- the next one is one nearer to the end
pub record IsNearer (younger : Bool) (r end next : ℕ) : Type 0 where
  pub nearer : (end - r) + (r - end) ≡ suc ((end - next) + (next - end))
  pub up : younger ≡ true → next ≤ end
  pub down : younger ≡ false → end ≤ next

pub one_nearer : (younger : Bool) (r end next : ℕ) → r ≢ end → (younger ≡ true → r ≤ end) → (younger ≡ false → end ≤ r)
    → next ≡ (if younger then r + 1 else r - 1) → IsNearer younger r end next
one_nearer true r end next other up down is =
    let le = up refl in
    record { nearer = omega (arith, le, other, is); up = λ e. omega (arith, le, other, is); down = λ e. cc }
one_nearer false r end next other up down is =
    let le = down refl in
    record { nearer = omega (arith, le, other, is); up = λ e. cc; down = λ e. omega (arith, le, other, is) }

-- the revisions from here on are this one and those from the next one on
pub revs_on : (younger : Bool) (r end next : ℕ) → next ≡ (if younger then r + 1 else r - 1) → IsNearer younger r end next
    → revs_from younger r (suc ((end - r) + (r - end))) ≡ r ∷ revs_from younger next (suc ((end - next) + (next - end)))
revs_on younger r end next is step =
    ap (λ d. r ∷ revs_from younger (if younger then r + 1 else r - 1) d) step.nearer
    ∙ ap (λ q. r ∷ revs_from younger q (suc ((end - next) + (next - end)))) (sym is)

-- the last one
pub last_rev : (younger : Bool) (r end : ℕ) → r ≡ end → revs_from younger r (suc ((end - r) + (r - end))) ≡ r ∷ []
last_rev younger r end is =
    let none : (end - r) + (r - end) ≡ 0 = omega (arith, is) in
    ap (λ d. r ∷ revs_from younger (if younger then r + 1 else r - 1) d) none

-- ---- what was found so far

module _ (test : ℕ → Bool) (limit : ℕ) (younger : Bool) (r end : ℕ) (found new : List ℕ) (room : is_full limit (length found) ≡ false)
    (is : new ≡ found ++ filter test (r ∷ [])) where
  -- nothing is left after the last revision
  pub last_found : r ≡ end → limited limit (found ++ filter test (revs_from younger r (suc ((end - r) + (r - end))))) ≡ new
  last_found last =
      ap (λ (l : List ℕ). limited limit (found ++ filter test l)) (last_rev younger r end last)
      ∙ none_left limit (length found) (found ++ filter test (r ∷ [])) room (grown test found r) ∙ sym is

  -- nothing more is wanted
  pub enough_found : is_full limit (length new) ≡ true → limited limit (found ++ filter test (revs_from younger r (suc ((end - r) + (r - end))))) ≡ new
  enough_found full =
      let left = revs_from younger (if younger then r + 1 else r - 1) ((end - r) + (r - end)) in
      let is_enough : is_full limit (length (found ++ filter test (r ∷ []))) ≡ true = ap (λ (l : List ℕ). is_full limit (length l)) (sym is) ∙ full in
      ap (limited limit) (one_rev_more test found r left)
      ∙ enough limit (length found) (found ++ filter test (r ∷ [])) (filter test left) room (grown test found r) is_enough ∙ sym is

  -- the same are all with those from the next revision on
  pub more_found : (next : ℕ) → next ≡ (if younger then r + 1 else r - 1) → IsNearer younger r end next
      → limited limit (found ++ filter test (revs_from younger r (suc ((end - r) + (r - end)))))
      ≡ limited limit (new ++ filter test (revs_from younger next (suc ((end - next) + (next - end)))))
  more_found next step nearer =
      let left = revs_from younger next (suc ((end - next) + (next - end))) in
      ap (λ (l : List ℕ). limited limit (found ++ filter test l)) (revs_on younger r end next step nearer)
      ∙ ap (limited limit) (one_rev_more test found r left)
      ∙ ap (λ (l : List ℕ). limited limit (l ++ filter test left)) (sym is)
