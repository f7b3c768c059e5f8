-- The directories that are open in a list of calls that are in order: each in the one opened before it.
use Rattle.std.proofs.Common.{◌≡◌, ℕ, suc, zero, ◌+◌, ◌<◌, ◌≤◌, Bool, true, false, ◌&&◌, ◌||◌, not, cond, List, [], ◌∷◌, ◌++◌, length, refl}
use Rattle.std.proofs.Common.{sym, ◌∙◌, ap, true≢false, arith}
use Rattle.std.specs.Prelude.{Option, Some, None, slice_get, filter, fold}
use Rattle.std.specs.List.{list_any}
use Rattle.std.proofs.lemmas.Option.{none-some, same_Some}
use Rattle.std.proofs.Math.Bool.{and-false}
use Rattle.std.proofs.lemmas.Bool.{eq-eqb, false_from_ne_true, eqb-true}
use Rattle.svn_types.specs.declared.kind.Kind.TheVariants.{Directory}
use Rattle.svn_editor.specs.declared.call.Call.{Call}
use Rattle.svn_editor.specs.Calls.{Given, kind_eq, number_eq, later_open, is_open_directory, opens_below}

-- the token of the last, or what was found before
abbrev pub last_token : Option ℕ → List Given → Option ℕ
last_token found [] = found
last_token found (g ∷ gs) = last_token (Some g.token) gs

-- the directories have numbers from n on, and depths from k on, and each is in the one before
abbrev pub IsNested : ℕ → ℕ → Option ℕ → List Given → Type 0
IsNested n k above [] = Unit {0}
IsNested n k above (g ∷ gs) =
    (n ≤ g.token) × (length g.path ≡ k) × (g.parent ≡ above) × (kind_eq g.kind Directory ≡ true)
    × IsNested (suc g.token) (suc k) (Some g.token) gs

pub same_number : (o : Option ℕ) (t : ℕ) → number_eq o (Some t) ≡ true → o ≡ Some t
same_number None t h = absurd (true≢false (sym h))
same_number (Some m) t h = ap Some (eqb-true m t h)

pub number_same : (o : Option ℕ) (t : ℕ) → o ≡ Some t → number_eq o (Some t) ≡ true
number_same o t e = ap (λ x. number_eq x (Some t)) e ∙ eq-eqb t t refl

-- ---- numbers and depths

pub nested_above : (gs : List Given) (n k : ℕ) (above : Option ℕ) (i : ℕ) (g : Given) → IsNested n k above gs → slice_get gs i ≡ Some g
    → n ≤ g.token
nested_above [] n k above i g h e = absurd (none-some g e)
nested_above (x ∷ gs) n k above zero g h e = let s : x.token ≡ g.token = ap (λ y. y.token) (same_Some x g e) in omega (arith, h.0)
nested_above (x ∷ gs) n k above (suc i) g h e =
    let l : suc x.token ≤ g.token = nested_above gs (suc x.token) (suc k) (Some x.token) i g h.4 e in omega (arith, h.0)

pub nested_depth : (gs : List Given) (n k : ℕ) (above : Option ℕ) (i : ℕ) (g : Given) → IsNested n k above gs → slice_get gs i ≡ Some g
    → length g.path ≡ k + i
nested_depth [] n k above i g h e = absurd (none-some g e)
nested_depth (x ∷ gs) n k above zero g h e =
    let s : length x.path ≡ length g.path = ap (λ y. length y.path) (same_Some x g e) in omega (arith, h.1)
nested_depth (x ∷ gs) n k above (suc i) g h e =
    let l : length g.path ≡ suc k + i = nested_depth gs (suc x.token) (suc k) (Some x.token) i g h.4 e in omega arith

-- the last of some directories has a number from n on
last_above : (y : Given) (gs : List Given) (n k : ℕ) (above q : Option ℕ) (t : ℕ) → IsNested n k above (y ∷ gs)
    → last_token q (y ∷ gs) ≡ Some t → n ≤ t
last_above y [] n k above q t h e = let s : y.token ≡ t = same_Some y.token t e in omega (arith, h.0)
last_above y (z ∷ gs) n k above q t h e =
    let l : suc y.token ≤ t = last_above z gs (suc y.token) (suc k) (Some y.token) (Some y.token) t h.4 e in omega (arith, h.0)

pub nested_last : (gs : List Given) (n k : ℕ) (above : Option ℕ) (i : ℕ) (g : Given) → IsNested n k above gs → slice_get gs i ≡ Some g
    → last_token above gs ≡ Some g.token → suc i ≡ length gs
nested_last [] n k above i g h e l = absurd (none-some g e)
nested_last (x ∷ []) n k above zero g h e l = refl
nested_last (x ∷ y ∷ gs) n k above zero g h e l =
    let s : x.token ≡ g.token = ap (λ z. z.token) (same_Some x g e) in
    let b : suc x.token ≤ g.token = last_above y gs (suc x.token) (suc k) (Some x.token) (Some x.token) g.token h.4 l in
    absurd (omega arith)
nested_last (x ∷ gs) n k above (suc i) g h e l = ap suc (nested_last gs (suc x.token) (suc k) (Some x.token) i g h.4 e l)

-- ---- one more

pub nested_more : (gs : List Given) (n k : ℕ) (above : Option ℕ) (g : Given) → IsNested n k above gs → n ≤ g.token
    → ((i : ℕ) (x : Given) → slice_get gs i ≡ Some x → x.token < g.token) → length g.path ≡ k + length gs → last_token above gs ≡ g.parent
    → kind_eq g.kind Directory ≡ true → IsNested n k above (gs ++ g ∷ [])
nested_more [] n k above g h low below depth l kind = (low, depth ∙ omega arith, sym l, kind, tt)
nested_more (x ∷ gs) n k above g h low below depth l kind = (
  h.0,
  h.1,
  h.2,
  h.3,
  nested_more gs (suc x.token) (suc k) (Some x.token) g h.4 (below 0 x refl) (λ i y e. below (suc i) y e)
      (depth ∙ omega arith) l kind,
)

-- ---- without the last

pub nested_front : (gs : List Given) (n k : ℕ) (above : Option ℕ) (g : Given) → IsNested n k above (gs ++ g ∷ []) → IsNested n k above gs
nested_front [] n k above g h = tt
nested_front (x ∷ gs) n k above g h = (h.0, h.1, h.2, h.3, nested_front gs (suc x.token) (suc k) (Some x.token) g h.4)

-- ---- what is in a directory

not_in : (above : Option ℕ) (x g : Given) → x.parent ≡ above → (above ≡ Some g.token → ⊥) → opens_below g.token x ≡ false
not_in above x g p out =
    ap (λ o. kind_eq x.kind Directory && number_eq o (Some g.token)) p
    ∙ ap (λ b. kind_eq x.kind Directory && b) (false_from_ne_true (number_eq above (Some g.token)) (λ q. out (same_number above g.token q)))
    ∙ and-false (kind_eq x.kind Directory)

-- what comes after a directory is in it
under : (gs : List Given) (g : Given) (t k : ℕ) → t ≡ g.token → IsNested (suc t) k (Some t) gs
    → list_any (opens_below g.token) gs ≡ not (number_eq (last_token (Some t) gs) (Some g.token))
under [] g t k e h = sym (ap not (eq-eqb t g.token e))
under (y ∷ gs) g t k e h =
    ap (λ b. b || list_any (opens_below g.token) gs)
    (ap (λ b. b && number_eq y.parent (Some g.token)) h.3 ∙ number_same y.parent g.token (h.2 ∙ ap Some e))
    ∙ sym (ap not (false_from_ne_true (number_eq (last_token (Some t) (y ∷ gs)) (Some g.token))
    (λ q. let l : suc t ≤ g.token =
    last_above y gs (suc t) k (Some t) (Some t) g.token h (same_number (last_token (Some t) (y ∷ gs)) g.token q) in
    omega arith)))

-- a directory is open in one of them exactly where that isn't the last
pub open_below_last : (gs : List Given) (n k : ℕ) (above : Option ℕ) (i : ℕ) (g : Given) → IsNested n k above gs
    → (above ≡ Some g.token → ⊥) → slice_get gs i ≡ Some g
    → list_any (opens_below g.token) gs ≡ not (number_eq (last_token above gs) (Some g.token))
open_below_last [] n k above i g h out e = absurd (none-some g e)
open_below_last (x ∷ gs) n k above zero g h out e =
    ap (λ b. b || list_any (opens_below g.token) gs) (not_in above x g h.2 out)
    ∙ under gs g x.token (suc k) (ap (λ z. z.token) (same_Some x g e)) h.4
open_below_last (x ∷ gs) n k above (suc i) g h out e =
    ap (λ b. b || list_any (opens_below g.token) gs) (not_in above x g h.2 out)
    ∙ open_below_last gs (suc x.token) (suc k) (Some x.token) i g h.4
    (λ q. let s : x.token ≡ g.token = same_Some x.token g.token q in
    let l : suc x.token ≤ g.token = nested_above gs (suc x.token) (suc k) (Some x.token) i g h.4 e in
    omega arith)
    e

pub innermost_last : (calls : List Call) (found : Option ℕ) (xs : List Given)
    → fold (later_open calls) found xs ≡ last_token found (filter (is_open_directory calls) xs)
innermost_last calls found [] = refl
innermost_last calls found (x ∷ xs) = by (is_open_directory calls x) (λ o. innermost_last calls o xs)
  where
    by : (b : Bool) → ((o : Option ℕ) → fold (later_open calls) o xs ≡ last_token o (filter (is_open_directory calls) xs))
        → fold (later_open calls) (cond b (Some x.token) found) xs
        ≡ last_token found (cond b (x ∷ filter (is_open_directory calls) xs) (filter (is_open_directory calls) xs))
    by true ih = ih (Some x.token)
    by false ih = ih found
