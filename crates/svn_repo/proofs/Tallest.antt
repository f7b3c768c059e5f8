-- The height of a node from those of its children.
use Rattle.std.proofs.Common.{◌≡◌, ◌≢◌, ℕ, zero, suc, ◌+◌, ◌<◌, ◌≤◌, Bool, ◌||◌, List, [], ◌∷◌, length}
use Rattle.std.proofs.Common.{max, refl, arith, Option, Some, None, subst, sym, ap, ◌∙◌, ◌⊎◌, inl, inr}
use Rattle.std.specs.Prelude.{nat_le}
use Rattle.std.specs.List.{All, list_any, slice_get, slice_set}
use Rattle.std.specs.Map.{values_of}
use Rattle.std.specs.Option.{option_map}
use Rattle.std.proofs.Math.Bool.{or-false, or_assoc}
use Rattle.std.proofs.Math.Dec.{leb-zero, leb-suc-zero}
use Rattle.std.proofs.lemmas.Bool.{cases_lt, cases_eq, lt-ltb, le-ltb, le-leb, lt-leb}
use Rattle.std.proofs.lemmas.List.Elements.{All-head, All-tail}
use Rattle.std.proofs.lemmas.Option.{slice_get_within}
use Rattle.svn_lists.proofs.Places.{slice_get-set_other, slice_get-set_same, slice_get_in}
use Rattle.svn_lists.proofs.Tests.{nat_le-max}
use Rattle.svn_repo.specs.declared.store.Node.{Node}
use Rattle.svn_repo.specs.History.{Nodes, entries_at, reaches}
use Rattle.svn_types.specs.Limits.{path_limit}
use Rattle.svn_repo.specs.Stored.{row_of, rows, IsHeight, AreHeights}
use Rattle.svn_repo.specs.Heights.{height_above, height_from, IsOrdered}
use Rattle.svn_repo.specs.Drafts.{IsDraft, KeepsOld}
use Rattle.svn_name_map.proofs.Pairs.{all_values}
use Rattle.svn_repo.proofs.Entering.{children_found}

-- ---- the numbers

above_bounded : (o : Option ℕ) → height_above o ≤ path_limit
above_bounded None = omega arith
above_bounded (Some k) = elim (cases_lt k 64) [
  | inl h ↦ rw (lt-ltb k 64 h) (omega arith)
  | inr h ↦ rw (le-ltb k 64 h) (omega arith)
]

from_bounded : (hs : List ℕ) (height : ℕ) (es : List (List ℕ × ℕ)) → height ≤ path_limit → height_from hs height es ≤ path_limit
from_bounded hs height [] h = h
from_bounded hs height (e ∷ es) h = from_bounded hs (max height (height_above (slice_get hs e.1))) es
    (omega (arith, above_bounded (slice_get hs e.1)))

above_is : (k j : ℕ) → j + 1 ≤ path_limit → k ≤ path_limit → nat_le (suc j) (height_above (Some k)) ≡ nat_le j k
above_is k j h b = elim (cases_lt k 64) [
  | inl below ↦ rw (lt-ltb k 64 below) (one_more k j)
  | inr past ↦ rw (le-ltb k 64 past) (le-leb (suc j) 64 (omega arith) ∙ sym (le-leb j k (omega arith)))
]
  where
    one_more : (k j : ℕ) → nat_le (suc j) (k + 1) ≡ nat_le j k
    one_more k j = elim (cases_lt k j) [
      | inl below ↦ lt-leb (suc j) (k + 1) (omega arith) ∙ sym (lt-leb j k below)
      | inr past ↦ le-leb (suc j) (k + 1) (omega arith) ∙ sym (le-leb j k past)
    ]

-- ---- a node

-- the height of the child is known
abbrev pub IsKnown : List ℕ → Nodes → ℕ → Type 0
IsKnown hs f m = (k : ℕ) × (slice_get hs m ≡ Some k) × IsHeight f m k

any_height : (hs : List ℕ) (f : Nodes) (j height : ℕ) (es : List (List ℕ × ℕ)) → j + 1 ≤ path_limit → All (IsKnown hs f) (values_of es)
    → nat_le (suc j) (height_from hs height es) ≡ (nat_le (suc j) height || list_any (λ e. reaches f j e.1) es)
any_height hs f j height [] h known = sym (or-false (nat_le (suc j) height))
any_height hs f j height (e ∷ es) h known =
    let first : IsKnown hs f e.1 = All-head (IsKnown hs f) e.1 (values_of es) known in
    let rest : All (IsKnown hs f) (values_of es) = All-tail (IsKnown hs f) e.1 (values_of es) known in
    let here : nat_le (suc j) (height_above (slice_get hs e.1)) ≡ reaches f j e.1 =
    ap (λ o. nat_le (suc j) (height_above o)) first.1 ∙ above_is first.0 j h first.2.bounded ∙ sym (first.2.exact j (omega arith)) in
    any_height hs f j (max height (height_above (slice_get hs e.1))) es h rest
    ∙ ap (λ b. b || list_any (λ e. reaches f j e.1) es) (nat_le-max (suc j) height (height_above (slice_get hs e.1))
    ∙ ap (λ b. nat_le (suc j) height || b) here)
    ∙ or_assoc (nat_le (suc j) height) (reaches f j e.1) (list_any (λ e. reaches f j e.1) es)

pub height_of_node : (hs : List ℕ) (f : Nodes) (n : ℕ) → All (IsKnown hs f) (values_of (entries_at (f n)))
    → IsHeight f n (height_from hs 0 (entries_at (f n)))
height_of_node hs f n known = record {
  bounded = from_bounded hs 0 (entries_at (f n)) (omega arith);
  exact = by;
}
  where
    by : (j : ℕ) → j ≤ path_limit → reaches f j n ≡ nat_le j (height_from hs 0 (entries_at (f n)))
    by zero h = sym (leb-zero (height_from hs 0 (entries_at (f n))))
    by (suc j) h = sym (any_height hs f j 0 (entries_at (f n)) (omega arith) known
        ∙ ap (λ b. b || list_any (λ e. reaches f j e.1) (entries_at (f n))) (leb-suc-zero j))

-- ---- old nodes

any_same : (es : List (List ℕ × ℕ)) (u v : ℕ → Bool) → All (λ m. u m ≡ v m) (values_of es)
    → list_any (λ e. u e.1) es ≡ list_any (λ e. v e.1) es
any_same [] u v all = refl
any_same (e ∷ es) u v all =
    ap (λ b. b || list_any (λ e. u e.1) es) (All-head (λ m. u m ≡ v m) e.1 (values_of es) all)
    ∙ ap (λ b. v e.1 || b) (any_same es u v (All-tail (λ m. u m ≡ v m) e.1 (values_of es) all))

pub reaches_same : (base : ℕ) (f g : Nodes) → ((n : ℕ) → n < base → g n ≡ f n)
    → ((n : ℕ) → n < base → All (λ m. m < base) (values_of (entries_at (f n)))) → (j n : ℕ) → n < base → reaches g j n ≡ reaches f j n
reaches_same base f g same closed zero n h = refl
reaches_same base f g same closed (suc j) n h =
    ap (λ o. list_any (λ e. reaches g j e.1) (entries_at o)) (same n h)
    ∙ any_same (entries_at (f n)) (reaches g j) (reaches f j) (λ k d l. reaches_same base f g same closed j _ (closed n h k d l))

-- ---- the nodes from n on are done, and those before the base were

abbrev pub AreDone : ℕ → ℕ → List ℕ → Nodes → Type 0
AreDone base n hs f = (m k : ℕ) → (m < base) ⊎ (n ≤ m) → slice_get hs m ≡ Some k → IsHeight f m k

pub children_known : (base : ℕ) (nodes : List Node) (hs : List ℕ) (n : ℕ) → IsOrdered nodes base → base ≤ n → length hs ≡ length nodes
    → AreDone base (n + 1) hs (rows nodes) → All (IsKnown hs (rows nodes)) (values_of (entries_at (rows nodes n)))
children_known base nodes hs n ordered fresh size done = λ k d l. known _ (ordered.children n fresh k d l)
  where
    known : (m : ℕ) → (m < base) ⊎ ((n < m) × (m < length nodes)) → IsKnown hs (rows nodes) m
    known m (inl h) =
        let inside : base ≤ length nodes = ordered.inside in
        let s = slice_get_in hs m (omega arith) in (s.0, s.1, done m s.0 (inl h) s.1)
    known m (inr h) =
        let s = slice_get_in hs m (let b : m < length nodes = h.1 in omega arith) in
        (s.0, s.1, done m s.0 (inr (let b : n < m = h.0 in omega arith)) s.1)

pub done_more : (base : ℕ) (nodes : List Node) (hs : List ℕ) (n v : ℕ) → IsOrdered nodes base → base ≤ n → n < length nodes
    → length hs ≡ length nodes → AreDone base (n + 1) hs (rows nodes) → v ≡ height_from hs 0 (entries_at (rows nodes n))
    → AreDone base n (slice_set hs n v) (rows nodes)
done_more base nodes hs n v ordered fresh inside size done is m k h e = elim (cases_eq m n) [
  | inl same ↦
      let was = slice_get_in hs n (omega arith) in
      let now : slice_get (slice_set hs n v) m ≡ Some v = ap (slice_get (slice_set hs n v)) same
      ∙ slice_get-set_same hs n v (slice_get_within hs n was.0 was.1) in
      let value : Some v ≡ Some k = sym now ∙ e in
      let k_is : v ≡ k = cc in
      let height : IsHeight (rows nodes) n (height_from hs 0 (entries_at (rows nodes n))) =
      height_of_node hs (rows nodes) n (children_known base nodes hs n ordered fresh size done) in
      subst (λ i. IsHeight (rows nodes) i k) (sym same) (subst (IsHeight (rows nodes) n) (sym is ∙ k_is) height)
  | inr ne ↦ done m k (later h ne) (sym (slice_get-set_other hs n v m ne) ∙ e)
]
  where
    later : (m < base) ⊎ (n ≤ m) → m ≢ n → (m < base) ⊎ (n + 1 ≤ m)
    later (inl b) ne = inl b
    later (inr b) ne = inr (omega arith)

pub done_none : (base : ℕ) (nodes : List Node) (old hs : List ℕ) → base ≡ length old → length hs ≡ length nodes
    → ((m : ℕ) → m < length old → slice_get hs m ≡ slice_get old m) → ((m k : ℕ) → slice_get old m ≡ Some k → IsHeight (rows nodes) m k)
    → AreDone base (length nodes) hs (rows nodes)
done_none base nodes old hs base_is size same known m k (inl h) e = known m k (sym (same m (omega arith)) ∙ e)
done_none base nodes old hs base_is size same known m k (inr h) e = let b : m < length hs = slice_get_within hs m k e in
    absurd (omega arith)

pub all_done : (base n : ℕ) (nodes : List Node) (hs : List ℕ) → n ≤ base → length hs ≡ length nodes → AreDone base n hs (rows nodes)
    → AreHeights nodes hs
all_done base n nodes hs h size done = record { size = size; each = λ m k e. done m k (any m) e }
  where
    any : (m : ℕ) → (m < base) ⊎ (n ≤ m)
    any m = elim (cases_lt m base) [ inl b ↦ inl b | inr b ↦ inr (omega arith) ]

-- ---- a draft

-- the old nodes' entries lead to old nodes
pub old_children : (base : ℕ) (nodes : List Node) (root : ℕ) → IsDraft base nodes root → (n : ℕ) → n < base
    → All (λ m. m < base) (values_of (entries_at (rows nodes n)))
old_children base nodes root draft n h = all_values (λ m. m < base) (entries_at (rows nodes n)) (draft.each n).in_order
    (λ name m e. draft.old_closed n m name h (sym (children_found (rows nodes n) name) ∙ e))

pub draft_ordered : (base : ℕ) (nodes : List Node) (root : ℕ) → IsDraft base nodes root → IsOrdered nodes base
draft_ordered base nodes root draft = record {
  inside = draft.base_in;
  children = λ n fresh k d l. both n _ ((draft.each n).later fresh k d l)
      (all_values (λ m. m < length nodes) (entries_at (rows nodes n)) (draft.each n).in_order
      (λ name m e. draft.closed n m name (sym (children_found (rows nodes n) name) ∙ e)) k d l);
}
  where
    both : (n m : ℕ) → (m < base) ⊎ (n < m) → m < length nodes → (m < base) ⊎ ((n < m) × (m < length nodes))
    both n m (inl h) b = inl h
    both n m (inr h) b = inr (h, b)

pub heights_kept : (old new : List Node) (hs : List ℕ) (root : ℕ) → AreHeights old hs → IsDraft (length old) new root
    → KeepsOld (length old) old new → (n k : ℕ) → slice_get hs n ≡ Some k → n < length old → IsHeight (rows new) n k
heights_kept old new hs root known draft kept n k e h =
    let was : IsHeight (rows old) n k = known.each n k e in
    record {
      bounded = was.bounded;
      exact = λ j b. reaches_same (length old) (rows old) (rows new) (λ m l. ap (option_map row_of) (kept.same m l)) closed j n h
          ∙ was.exact j b;
    }
  where
    closed : (m : ℕ) → m < length old → All (λ c. c < length old) (values_of (entries_at (rows old m)))
    closed m l = subst (λ o. All (λ c. c < length old) (values_of (entries_at o))) (ap (option_map row_of) (kept.same m l))
        (old_children (length old) new root draft m l)
