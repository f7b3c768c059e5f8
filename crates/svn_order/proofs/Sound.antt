-- What holds of each list of calls that are in order.
use Rattle.std.proofs.Common.{◌≡◌, ℕ, suc, zero, ◌<◌, ◌≤◌, Bool, true, false, ◌||◌, not, List, [], ◌∷◌, ◌++◌, length, refl, sym, ◌∙◌, ap}
use Rattle.std.proofs.Common.{inl, inr, true≢false, arith}
use Rattle.std.specs.Prelude.{Option, Some, None, ◌⊎◌, slice_get, nat_eq}
use Rattle.std.specs.List.{list_any, cons_option}
use Rattle.std.proofs.lemmas.List.{length-append}
use Rattle.std.proofs.lemmas.Option.{same_Some, slice_get_within}
use Rattle.std.proofs.lemmas.Bool.Decides.{nat_tests}
use Rattle.std.proofs.Math.Bool.{or-true}
use Rattle.std.proofs.lemmas.Bool.{false_from_ne_true, not-false, or_parts, eqb-true}
use Rattle.svn_lists.proofs.Options.{some-none}
use Rattle.svn_lists.proofs.Places.{slice_get_push_cases}
use Rattle.svn_lists.proofs.Somewhere.{any_push, any_still}
use Rattle.svn_types.specs.declared.kind.Kind.{Kind}
use Rattle.svn_types.specs.declared.kind.Kind.TheVariants.{File, Directory}
use Rattle.svn_types.specs.Names.{Path}
use Rattle.svn_types.specs.Paths.{path_eq, parent, is_root, child}
use Rattle.svn_editor.specs.declared.call.Call.{Call}
use Rattle.svn_editor.specs.declared.call.Call.TheVariants.{OpenRoot, DeleteEntry, AddDirectory, OpenDirectory, CloseDirectory, AddFile}
use Rattle.svn_editor.specs.declared.call.Call.TheVariants.{OpenFile, CloseFile}
use Rattle.svn_editor.specs.Calls.{Given, kind_eq, given_by, named_by, entry_of, is_given_at, opens_entry, closes, all_given, given}
use Rattle.svn_editor.specs.Calls.{is_closed, given_path, path_of, is_of_kind}
use Rattle.svn_editor.specs.Order.{is_unknown, is_named_closed, is_misnumbered, is_outside}
use Rattle.svn_order.specs.StandsAfter.{open_directories}
use Rattle.svn_types.proofs.PathLemmas.{same_path, path_eq_from, parent-child}
use Rattle.svn_editor.proofs.Accepted.{IsAccepted}
use Rattle.svn_editor.proofs.OneMore.{given_none, given_one}
use Rattle.svn_editor.proofs.Nested.{IsNested}

abbrev pub is_named : ℕ → Option (ℕ × Kind) → Bool
is_named t None = false
is_named t (Some n) = nat_eq n.0 t

-- the call is about the token
abbrev pub names : ℕ → Call → Bool
names t c = is_named t (named_by c)

abbrev pub is_at : Path → Option Path → Bool
is_at p None = false
is_at p (Some q) = path_eq q p

-- the call opens, adds or deletes the entry
abbrev pub touches : Path → Call → Bool
touches p c = is_at p (entry_of c)

-- what opens an entry below the root is about that entry
pub opens_touches : (p : Path) (n : List ℕ) (c : Call) → opens_entry (child p n) c ≡ true → touches (child p n) c ≡ true
opens_touches p n (OpenRoot base token) h = absurd (true≢false (sym h ∙ not_root p))
  where
    not_root : (p : Path) → path_eq [] (child p n) ≡ false
    not_root [] = refl
    not_root (m ∷ p) = refl
opens_touches p n (AddDirectory path parent token) h = h
opens_touches p n (OpenDirectory path parent base token) h = h
opens_touches p n (AddFile path parent token) h = h
opens_touches p n (OpenFile path parent base token) h = h
opens_touches p n _ h = absurd (true≢false (sym h))

pub record IsSound (calls : List Call) : Type 0 where
  pub numbered : (t : ℕ) (g : Given) → given calls t ≡ Some g → g.token ≡ t
  pub named_given : (t : ℕ) → length (all_given calls) ≤ t → list_any (names t) calls ≡ false
  pub entries_in : (p : Path) (n : List ℕ) → list_any (opens_entry p) calls ≡ false → list_any (touches (child p n)) calls ≡ false
  pub root : list_any (opens_entry []) calls ≡ not (nat_eq (length (all_given calls)) 0)
  pub nested : IsNested 0 0 None (open_directories calls)

-- ---- what a call names

pub closes_named : (t : ℕ) (c : Call) → closes t c ≡ true → names t c ≡ true
closes_named t (CloseDirectory token) h = h
closes_named t (CloseFile token text_md5) h = h
closes_named t _ h = absurd (true≢false (sym h))

pub given_closes : (t : ℕ) (c : Call) (g : Given) → given_by c ≡ Some g → closes t c ≡ false
given_closes t (CloseDirectory token) g h = absurd (some-none g (sym h))
given_closes t (CloseFile token text_md5) g h = absurd (some-none g (sym h))
given_closes t _ g h = refl

pub entry_named : (c : Call) (q : Path) → entry_of c ≡ Some q → (m : ℕ) × (named_by c ≡ Some (m, Directory))
entry_named (DeleteEntry path rev parent) q h = (parent, refl)
entry_named (AddDirectory path parent token) q h = (parent, refl)
entry_named (OpenDirectory path parent base token) q h = (parent, refl)
entry_named (AddFile path parent token) q h = (parent, refl)
entry_named (OpenFile path parent base token) q h = (parent, refl)
entry_named _ q h = absurd (some-none q (sym h))

-- what is given below no other is the root
root_only : (c : Call) (g : Given) → given_by c ≡ Some g → named_by c ≡ None → g.path ≡ []
root_only (OpenRoot base token) g h k = ap (λ x. x.path) (sym (same_Some _ g h))
root_only (AddDirectory path parent token) g h k = absurd (some-none _ k)
root_only (OpenDirectory path parent base token) g h k = absurd (some-none _ k)
root_only (AddFile path parent token) g h k = absurd (some-none _ k)
root_only (OpenFile path parent base token) g h k = absurd (some-none _ k)
root_only _ g h k = absurd (some-none g (sym h))

pub record IsKnown (calls : List Call) (m : ℕ) (k : Kind) : Type 0 where
  pub given_as : Given
  pub is : given calls m ≡ Some given_as
  pub kind : kind_eq given_as.kind k ≡ true
  pub unclosed : is_closed calls m ≡ false

-- what is of one kind is of no other
pub other_kind : (k l m : Kind) → kind_eq k l ≡ true → kind_eq l m ≡ false → kind_eq k m ≡ false
other_kind File File m one other = other
other_kind Directory Directory m one other = other
other_kind File Directory m one other = absurd (true≢false (sym one))
other_kind Directory File m one other = absurd (true≢false (sym one))

pub known_open : (calls : List Call) (m : ℕ) (k : Kind) → is_unknown calls (Some (m, k)) ≡ false
    → is_named_closed calls (Some (m, k)) ≡ false → IsKnown calls m k
known_open calls m k h o = by (given calls m) refl (not-false (is_of_kind k (given calls m)) h)
  where
    by : (x : Option Given) → given calls m ≡ x → is_of_kind k (given calls m) ≡ true → IsKnown calls m k
    by None e s = absurd (true≢false (sym (sym (ap (is_of_kind k) e) ∙ s)))
    by (Some g) e s = record { given_as = g; is = e; kind = sym (ap (is_of_kind k) e) ∙ s; unclosed = o }

-- a named token was given, to a node of its kind, and is open
pub known : (calls : List Call) (c : Call) (m : ℕ) (k : Kind) → IsAccepted calls c → named_by c ≡ Some (m, k) → IsKnown calls m k
known calls c m k a h =
    known_open calls m k (sym (ap (is_unknown calls) h) ∙ a.token_known) (sym (ap (is_named_closed calls) h) ∙ a.token_open)

-- ---- tokens

length_more : (calls : List Call) (c : Call) → length (all_given calls) ≤ length (all_given (calls ++ c ∷ []))
length_more calls c = by (given_by c) refl
  where
    by : (o : Option Given) → given_by c ≡ o → length (all_given calls) ≤ length (all_given (calls ++ c ∷ []))
    by None e = omega (arith, ap length (given_none calls c e))
    by (Some g) e = omega (arith, ap length (given_one calls c g e), length-append (all_given calls) (g ∷ []))

pub numbered_next : (calls : List Call) (c : Call) (g : Given) → IsAccepted calls c → given_by c ≡ Some g
    → g.token ≡ length (all_given calls)
numbered_next calls c g a e =
    eqb-true g.token (length (all_given calls))
    (not-false (nat_eq g.token (length (all_given calls))) (sym (ap (is_misnumbered calls) e) ∙ a.numbered))

pub numbered_more : (calls : List Call) (c : Call) → IsSound calls → IsAccepted calls c → (t : ℕ) (g : Given)
    → given (calls ++ c ∷ []) t ≡ Some g → g.token ≡ t
numbered_more calls c s a t g h = by (given_by c) refl
  where
    by : (o : Option Given) → given_by c ≡ o → g.token ≡ t
    by None e = s.numbered t g (ap (λ gs. slice_get gs t) (sym (given_none calls c e)) ∙ h)
    by (Some x) e = at (slice_get_push_cases (all_given calls) x t g (ap (λ gs. slice_get gs t) (sym (given_one calls c x e)) ∙ h))
      where
        at : (slice_get (all_given calls) t ≡ Some g) ⊎ ((t ≡ length (all_given calls)) × (x ≡ g)) → g.token ≡ t
        at (inl old) = s.numbered t g old
        at (inr new) = ap (λ y. y.token) (sym new.1) ∙ numbered_next calls c x a e ∙ sym new.0

pub named_more : (calls : List Call) (c : Call) → IsSound calls → IsAccepted calls c
    → (t : ℕ) → length (all_given (calls ++ c ∷ [])) ≤ t → list_any (names t) (calls ++ c ∷ []) ≡ false
named_more calls c s a t h =
    any_push (names t) calls c
    ∙ ap (λ b. b || names t c) (s.named_given t (let l = length_more calls c in omega arith))
    ∙ false_from_ne_true (names t c) (λ n. by (named_by c) refl n)
  where
    by : (o : Option (ℕ × Kind)) → named_by c ≡ o → is_named t o ≡ true → ⊥
    by None e n = true≢false (sym n)
    by (Some x) e n =
        let k = known calls c x.0 x.1 a e in
        let l : x.0 < length (all_given calls) = slice_get_within (all_given calls) x.0 k.given_as k.is in
        let m = length_more calls c in
        let q : x.0 ≡ t = eqb-true x.0 t n in
        absurd (omega arith)

-- ---- entries

pub member_of : (calls : List Call) (t : ℕ) (g : Given) → given calls t ≡ Some g → list_any (opens_entry g.path) calls ≡ true
member_of [] t g h = absurd (some-none g (sym h))
member_of (c ∷ calls) t g h = by (given_by c) refl t h (member_of calls)
  where
    by : (o : Option Given) → given_by c ≡ o → (t : ℕ) → slice_get (cons_option o (all_given calls)) t ≡ Some g
        → ((t : ℕ) (g : Given) → given calls t ≡ Some g → list_any (opens_entry g.path) calls ≡ true)
        → list_any (opens_entry g.path) (c ∷ calls) ≡ true
    by None e t h ih = ap (λ b. opens_entry g.path c || b) (ih t g h) ∙ or-true (opens_entry g.path c)
    by (Some x) e zero h ih =
        ap (λ b. b || list_any (opens_entry g.path) calls)
        (ap (is_given_at g.path) e ∙ path_eq_from x.path g.path (ap (λ y. y.path) (same_Some x g h)))
    by (Some x) e (suc t) h ih = ap (λ b. opens_entry g.path c || b) (ih t g h) ∙ or-true (opens_entry g.path c)

-- the parent of a path that an entry is in, is the path of its token
pub parent_is : (calls : List Call) (c : Call) (m : ℕ) (q : Path) → IsAccepted calls c → named_by c ≡ Some (m, Directory)
    → entry_of c ≡ Some q → (is_root q ≡ false) × (parent q ≡ path_of calls m)
parent_is calls c m q a n e =
    let outside : is_outside calls (Some (m, Directory)) (Some q) ≡ false =
    sym (ap (λ o. is_outside calls o (entry_of c)) n ∙ ap (is_outside calls (Some (m, Directory))) e) ∙ a.path in
    let parts = or_parts (is_root q) (not (path_eq (parent q) (path_of calls m))) outside in
    (parts.0, same_path (parent q) (path_of calls m) (not-false (path_eq (parent q) (path_of calls m)) parts.1))

pub entries_more : (calls : List Call) (c : Call) → IsSound calls → IsAccepted calls c → (p : Path) (n : List ℕ)
    → list_any (opens_entry p) (calls ++ c ∷ []) ≡ false → list_any (touches (child p n)) (calls ++ c ∷ []) ≡ false
entries_more calls c s a p n h =
    any_push (touches (child p n)) calls c ∙ ap (λ b. b || touches (child p n) c) (s.entries_in p n before)
    ∙ false_from_ne_true (touches (child p n) c) (λ t. by (entry_of c) refl t)
  where
    before : list_any (opens_entry p) calls ≡ false
    before = (or_parts (list_any (opens_entry p) calls) (opens_entry p c) (sym (any_push (opens_entry p) calls c) ∙ h)).0

    by : (o : Option Path) → entry_of c ≡ o → is_at (child p n) o ≡ true → ⊥
    by None e t = true≢false (sym t)
    by (Some q) e t =
        let m = entry_named c q e in
        let k = known calls c m.0 Directory a m.1 in
        let there : parent q ≡ p = ap parent (same_path q (child p n) t) ∙ parent-child p n in
        let is : p ≡ k.given_as.path = sym there ∙ (parent_is calls c m.0 q a m.1 e).1 ∙ ap given_path k.is in
        true≢false (sym (member_of calls m.0 k.given_as k.is) ∙ ap (λ (r : Path). list_any (opens_entry r) calls) (sym is) ∙ before)

-- ---- the root

eq_zero : (n : ℕ) → not (nat_eq n 0) ≡ false → n ≡ 0
eq_zero n h = eqb-true n 0 (not-false (nat_eq n 0) h)

positive : (n : ℕ) → 0 < n → not (nat_eq n 0) ≡ true
positive n h = grind (arith, nat_tests)

pub root_more : (calls : List Call) (c : Call) → IsSound calls → IsAccepted calls c
    → list_any (opens_entry []) (calls ++ c ∷ []) ≡ not (nat_eq (length (all_given (calls ++ c ∷ []))) 0)
root_more calls c s a = by (given_by c) refl
  where
    by : (o : Option Given) → given_by c ≡ o
        → list_any (opens_entry []) (calls ++ c ∷ []) ≡ not (nat_eq (length (all_given (calls ++ c ∷ []))) 0)
    by None e =
        any_still (opens_entry []) calls c (ap (is_given_at []) e) ∙ s.root
        ∙ ap (λ (gs : List Given). not (nat_eq (length gs) 0)) (sym (given_none calls c e))
    by (Some g) e =
        any_push (opens_entry []) calls c ∙ opened (list_any (opens_entry []) calls) refl
        ∙ sym (positive (length (all_given (calls ++ c ∷ [])))
        (omega (arith, ap length (given_one calls c g e), length-append (all_given calls) (g ∷ []))))
      where
        opened : (b : Bool) → list_any (opens_entry []) calls ≡ b → (b || opens_entry [] c) ≡ true
        opened true k = refl
        opened false k = at (named_by c) refl
          where
            none : length (all_given calls) ≡ 0
            none = eq_zero (length (all_given calls)) (sym s.root ∙ k)

            at : (n : Option (ℕ × Kind)) → named_by c ≡ n → opens_entry [] c ≡ true
            at None q = ap (is_given_at []) e ∙ path_eq_from g.path [] (root_only c g e q)
            at (Some x) q =
                let w = known calls c x.0 x.1 a q in
                let l : x.0 < length (all_given calls) = slice_get_within (all_given calls) x.0 w.given_as w.is in
                absurd (omega (arith, none))
