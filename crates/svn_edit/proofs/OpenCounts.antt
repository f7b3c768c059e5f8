-- How many tokens are open after one more call.
use Rattle.std.proofs.Common.{◌≡◌, ◌≢◌, ℕ, zero, suc, ◌+◌, Bool, true, false, cond, ◌&&◌, ◌||◌, not, List, [], ◌∷◌, ◌++◌, refl, sym, ◌∙◌}
use Rattle.std.proofs.Common.{ap, arith}
use Rattle.std.specs.Prelude.{Some, None, slice_get, count_by}
use Rattle.std.specs.List.{list_any}
use Rattle.std.proofs.lemmas.List.Sums.{sum_by-append}
use Rattle.std.proofs.Math.Bool.{or-true}
use Rattle.std.proofs.lemmas.Bool.{or_parts}
use Rattle.svn_lists.proofs.Somewhere.{any_push, any_still}
use Rattle.svn_types.specs.declared.kind.Kind.{Kind}
use Rattle.svn_types.specs.declared.kind.Kind.TheVariants.{File, Directory}
use Rattle.svn_editor.specs.declared.call.Call.{Call}
use Rattle.svn_editor.specs.declared.call.Call.TheVariants.{CloseEdit}
use Rattle.svn_editor.specs.Calls.{Given, kind_eq, given_by, closes, all_given, given, is_closed, is_open_directory, is_open_file}
use Rattle.svn_editor.specs.Calls.{a_directory_is_open, a_file_is_open}
use Rattle.svn_editor.specs.Order.{order_fault}
use Rattle.svn_editor.proofs.OneMore.{given_none, given_one}
use Rattle.svn_editor.proofs.Accepted.{accepted}
use Rattle.svn_order.proofs.Sound.{IsSound, given_closes}
use Rattle.svn_edit.specs.Applying.{open_count}

abbrev one_if : Bool → ℕ
one_if b = cond b 1 0

count_cons : (p : Given → Bool) (x : Given) (xs : List Given) → count_by p (x ∷ xs) ≡ one_if (p x) + count_by p xs
count_cons p x xs = let e : count_by p (x ∷ xs) ≡ (0 + one_if (p x)) + count_by p xs =
    sum_by-append (λ (y : Given). one_if (p y)) (x ∷ []) xs in omega arith

count_same : (p q : Given → Bool) (xs : List Given) → ((j : ℕ) (h : Given) → slice_get xs j ≡ Some h → q h ≡ p h)
    → count_by p xs ≡ count_by q xs
count_same p q [] same = refl
count_same p q (x ∷ xs) same =
    count_cons p x xs ∙ (λ i. one_if (sym (same 0 x refl) i) + count_same p q xs (λ j h e. same (suc j) h e) i) ∙ sym (count_cons q x xs)

-- the tests differ at one of them
one_fewer : (p q : Given → Bool) (xs : List Given) (k : ℕ) (g : Given) → slice_get xs k ≡ Some g → p g ≡ true → q g ≡ false
    → ((j : ℕ) (h : Given) → j ≢ k → slice_get xs j ≡ Some h → q h ≡ p h) → count_by p xs ≡ count_by q xs + 1
one_fewer p q [] k g there passes fails same = cc
one_fewer p q (x ∷ xs) zero g there passes fails same =
    let head : x ≡ g = cc in
    let a : count_by p (x ∷ xs) ≡ 1 + count_by p xs = count_cons p x xs ∙ ap (λ b. one_if b + count_by p xs) (ap p head ∙ passes) in
    let b : count_by q (x ∷ xs) ≡ 0 + count_by q xs = count_cons q x xs ∙ ap (λ b. one_if b + count_by q xs) (ap q head ∙ fails) in
    let c : count_by p xs ≡ count_by q xs = count_same p q xs (λ j h e. same (suc j) h (λ z. absurd (omega arith)) e) in
    omega arith
one_fewer p q (x ∷ xs) (suc k) g there passes fails same =
    let a : count_by p (x ∷ xs) ≡ one_if (p x) + count_by p xs = count_cons p x xs in
    let b : count_by q (x ∷ xs) ≡ one_if (q x) + count_by q xs = count_cons q x xs in
    let c : count_by p xs ≡ count_by q xs + 1 = one_fewer p q xs k g there passes fails
    (λ j h n e. same (suc j) h (λ z. n (omega arith)) e) in
    let d : one_if (q x) ≡ one_if (p x) = ap one_if (same 0 x (λ z. absurd (omega arith)) refl) in
    omega arith

pub open_same : (calls : List Call) (c : Call) → given_by c ≡ None → ((t : ℕ) → closes t c ≡ false)
    → open_count (calls ++ c ∷ []) ≡ open_count calls
open_same calls c none shut =
    ap (λ (gs : List Given). count_by (λ x. not (is_closed (calls ++ c ∷ []) x.token)) gs) (given_none calls c none)
    ∙ ap (λ (f : ℕ → Bool). count_by (λ (x : Given). not (f x.token)) (all_given calls)) (λ i t. any_still (closes t) calls c (shut t) i)

pub open_more : (calls : List Call) (c : Call) (g : Given) → given_by c ≡ Some g → is_closed calls g.token ≡ false
    → open_count (calls ++ c ∷ []) ≡ open_count calls + 1
open_more calls c g gives unclosed =
    let first : open_count (calls ++ c ∷ []) ≡ count_by (λ x. not (is_closed calls x.token)) (all_given calls ++ g ∷ []) =
    ap (λ (gs : List Given). count_by (λ x. not (is_closed (calls ++ c ∷ []) x.token)) gs) (given_one calls c g gives)
    ∙ ap (λ (f : ℕ → Bool). count_by (λ (x : Given). not (f x.token)) (all_given calls ++ g ∷ []))
    (λ i t. any_still (closes t) calls c (given_closes t c g gives) i) in
    let last : count_by (λ x. not (is_closed calls x.token)) (all_given calls ++ g ∷ []) ≡ open_count calls +
    (0 + one_if (not (is_closed calls g.token))) =
    sum_by-append (λ (x : Given). one_if (not (is_closed calls x.token))) (all_given calls) (g ∷ []) in
    let one : one_if (not (is_closed calls g.token)) ≡ 1 = ap (λ b. one_if (not b)) unclosed in
    omega arith

pub open_fewer : (calls : List Call) (c : Call) (m : ℕ) → IsSound calls → given_by c ≡ None
    → (g : Given) × (given calls m ≡ Some g) × (is_closed calls m ≡ false) → closes m c ≡ true
    → ((t : ℕ) → t ≢ m → closes t c ≡ false) → open_count calls ≡ open_count (calls ++ c ∷ []) + 1
open_fewer calls c m s none is shut others =
    one_fewer (λ x. not (is_closed calls x.token)) (λ x. not (is_closed (calls ++ c ∷ []) x.token)) (all_given calls) m is.0 is.1
    (ap (λ t. not (is_closed calls t)) (s.numbered m is.0 is.1) ∙ ap not is.2)
    (ap (λ t. not (is_closed (calls ++ c ∷ []) t)) (s.numbered m is.0 is.1) ∙ ap not (any_push (closes m) calls c
    ∙ ap (λ b. is_closed calls m || b) shut ∙ or-true (is_closed calls m)))
    (λ j h n e. ap (λ t. not (is_closed (calls ++ c ∷ []) t)) (s.numbered j h e) ∙ ap not (any_still (closes j) calls c (others j n))
    ∙ sym (ap (λ t. not (is_closed calls t)) (s.numbered j h e)))
    ∙ ap (λ (gs : List Given). count_by (λ x. not (is_closed (calls ++ c ∷ []) x.token)) gs + 1) (sym (given_none calls c none))

-- ---- at the end none is open

none_counted : (p a b : Given → Bool) (xs : List Given) → list_any a xs ≡ false → list_any b xs ≡ false
    → ((x : Given) → a x ≡ false → b x ≡ false → p x ≡ false) → count_by p xs ≡ 0
none_counted p a b [] h k each = refl
none_counted p a b (x ∷ xs) h k each =
    let h2 = or_parts (a x) (list_any a xs) h in
    let k2 = or_parts (b x) (list_any b xs) k in
    count_cons p x xs ∙ (λ i. one_if (each x h2.0 k2.0 i) + none_counted p a b xs h2.1 k2.1 each i)

closed_kind : (calls : List Call) (x : Given) → is_open_directory calls x ≡ false → is_open_file calls x ≡ false
    → not (is_closed calls x.token) ≡ false
closed_kind calls x = by x.kind
  where
    by : (k : Kind) → (kind_eq k Directory && not (is_closed calls x.token)) ≡ false
        → (kind_eq k File && not (is_closed calls x.token)) ≡ false → not (is_closed calls x.token) ≡ false
    by File d f = f
    by Directory d f = d

pub none_open : (calls : List Call) → order_fault calls CloseEdit ≡ None → open_count calls ≡ 0
none_open calls h =
    let root = (accepted calls CloseEdit refl h).root_closed in
    let parts = or_parts _ (a_file_is_open calls) root in
    let first = or_parts _ (a_directory_is_open calls) parts.0 in
    none_counted (λ x. not (is_closed calls x.token)) (is_open_directory calls) (is_open_file calls) (all_given calls) first.1 parts.1
    (closed_kind calls)
