-- The directories that are open after one more call.
use Rattle.std.proofs.Common.{◌≡◌, ℕ, suc, zero, ◌+◌, ◌<◌, ◌≤◌, Bool, true, false, ◌&&◌, ◌||◌, not, cond, List, [], ◌∷◌, ◌++◌, length, refl}
use Rattle.std.proofs.Common.{sym, ◌∙◌, ap, subst, true≢false, arith}
use Rattle.std.specs.Prelude.{Option, Some, None, slice_get, nat_eq, filter}
use Rattle.std.specs.List.{list_any}
use Rattle.std.proofs.lemmas.List.{append-nil, nil_from_length}
use Rattle.std.proofs.lemmas.List.Elements.{filter-append}
use Rattle.std.proofs.lemmas.Option.{same_Some, slice_get_within}
use Rattle.std.proofs.Math.Bool.{or-false}
use Rattle.std.proofs.lemmas.Bool.{eq-eqb, false_from_ne_true, not-false, eqb-true}
use Rattle.svn_lists.proofs.Filters.{any_both, filter_all, filter_both, filter_keeps, filter_member, filter_same}
use Rattle.svn_lists.proofs.Options.{some-none}
use Rattle.svn_lists.proofs.Somewhere.{any_push, any_still, any_weaker}
use Rattle.svn_types.specs.declared.kind.Kind.TheVariants.{File, Directory}
use Rattle.svn_types.specs.Paths.{parent}
use Rattle.svn_editor.specs.declared.call.Call.{Call}
use Rattle.svn_editor.specs.declared.call.Call.TheVariants.{AddDirectory, OpenDirectory, CloseDirectory, ApplyText, CloseFile}
use Rattle.svn_editor.specs.Calls.{Given, kind_eq, number_eq, given_by, named_by, entry_of, opens_entry, closes, applies_text}
use Rattle.svn_editor.specs.Calls.{opens_subdirectory, all_given, given, is_closed, given_path, innermost, is_open_directory, opens_below}
use Rattle.svn_editor.specs.Calls.{a_subdirectory_is_open}
use Rattle.svn_order.specs.StandsAfter.{open_directories}
use Rattle.svn_editor.proofs.Accepted.{IsAccepted}
use Rattle.svn_editor.proofs.OneMore.{given_none, given_one}
use Rattle.svn_editor.proofs.Nested.{last_token, IsNested, same_number, nested_above, nested_depth, nested_last}
use Rattle.svn_editor.proofs.Nested.{nested_more, open_below_last, innermost_last}
use Rattle.svn_order.proofs.Sound.{IsSound, IsKnown, other_kind, names, closes_named, given_closes, known, parent_is, numbered_next}
use Rattle.svn_types.proofs.PathLemmas.{length_parent}

-- ---- closed tokens

pub closed_still : (calls : List Call) (c : Call) (t : ℕ) → closes t c ≡ false → is_closed (calls ++ c ∷ []) t ≡ is_closed calls t
closed_still calls c t h = any_still (closes t) calls c h

-- a token that wasn't given wasn't closed
pub new_unclosed : (calls : List Call) (t : ℕ) → IsSound calls → length (all_given calls) ≤ t → is_closed calls t ≡ false
new_unclosed calls t s h = any_weaker (closes t) (names t) calls (closes_named t) (s.named_given t h)

texts_named : (t : ℕ) (c : Call) → applies_text t c ≡ true → names t c ≡ true
texts_named t (ApplyText token base_md5 text) h = h
texts_named t _ h = absurd (true≢false (sym h))

-- and had no text
pub new_textless : (calls : List Call) (t : ℕ) → IsSound calls → length (all_given calls) ≤ t → list_any (applies_text t) calls ≡ false
new_textless calls t s h = any_weaker (applies_text t) (names t) calls (texts_named t) (s.named_given t h)

subdirectories_named : (t : ℕ) (c : Call) → opens_subdirectory t c ≡ true → names t c ≡ true
subdirectories_named t (AddDirectory path parent token) h = h
subdirectories_named t (OpenDirectory path parent base token) h = h
subdirectories_named t _ h = absurd (true≢false (sym h))

-- and no directory was opened in it
pub new_childless : (calls : List Call) (t : ℕ) → IsSound calls → length (all_given calls) ≤ t
    → list_any (opens_subdirectory t) calls ≡ false
new_childless calls t s h = any_weaker (opens_subdirectory t) (names t) calls (subdirectories_named t) (s.named_given t h)

-- ---- a call that closes nothing

-- a call that gives nothing and closes nothing
pub open_still : (calls : List Call) (c : Call) → given_by c ≡ None → ((t : ℕ) → closes t c ≡ false)
    → open_directories (calls ++ c ∷ []) ≡ open_directories calls
open_still calls c e n =
    ap (filter (is_open_directory (calls ++ c ∷ []))) (given_none calls c e)
    ∙ filter_same (is_open_directory (calls ++ c ∷ [])) (is_open_directory calls) (all_given calls)
    (λ i x h. ap (λ b. kind_eq x.kind Directory && not b) (closed_still calls c x.token (n x.token)))

pub open_given : (calls : List Call) (c : Call) (g : Given) → IsSound calls → IsAccepted calls c → given_by c ≡ Some g
    → open_directories (calls ++ c ∷ []) ≡ cond (kind_eq g.kind Directory) (open_directories calls ++ g ∷ []) (open_directories calls)
open_given calls c g s a e =
    ap (filter after) (given_one calls c g e) ∙ filter-append after (all_given calls) (g ∷ [])
    ∙ ap (λ gs. gs ++ cond (after g) (g ∷ []) []) (filter_same after (is_open_directory calls) (all_given calls) (λ i x h. still x))
    ∙ ap (λ b. open_directories calls ++ cond b (g ∷ []) []) (still g ∙ ap (λ b. kind_eq g.kind Directory && not b) unclosed)
    ∙ by (kind_eq g.kind Directory)
  where
    after : Given → Bool
    after = is_open_directory (calls ++ c ∷ [])

    still : (x : Given) → is_open_directory (calls ++ c ∷ []) x ≡ is_open_directory calls x
    still x = ap (λ b. kind_eq x.kind Directory && not b) (closed_still calls c x.token (given_closes x.token c g e))

    unclosed : is_closed calls g.token ≡ false
    unclosed = new_unclosed calls g.token s (omega (arith, numbered_next calls c g a e))

    by : (b : Bool)
        → open_directories calls ++ cond (b && true) (g ∷ []) [] ≡ cond b (open_directories calls ++ g ∷ []) (open_directories calls)
    by true = refl
    by false = append-nil (open_directories calls)

-- ---- the place of an open directory

pub record IsPlaced (calls : List Call) (m : ℕ) (g : Given) : Type 0 where
  pub place : ℕ
  pub is : slice_get (open_directories calls) place ≡ Some g
  pub token : g.token ≡ m
  pub depth : length g.path ≡ place

pub placed : (calls : List Call) (m : ℕ) → IsSound calls → (k : IsKnown calls m Directory) → IsPlaced calls m k.given_as
placed calls m s k =
    record {
      place = at.0;
      is = at.1;
      token = number;
      depth = nested_depth (open_directories calls) 0 0 None at.0 k.given_as s.nested at.1 ∙ omega arith;
    }
  where
    number : k.given_as.token ≡ m
    number = s.numbered m k.given_as k.is

    passes : is_open_directory calls k.given_as ≡ true
    passes =
        ap (λ b. b && not (is_closed calls k.given_as.token)) k.kind ∙ ap (λ t. not (is_closed calls t)) number ∙ ap not k.unclosed

    at : (i : ℕ) × (slice_get (open_directories calls) i ≡ Some k.given_as)
    at = filter_keeps (is_open_directory calls) (all_given calls) m k.given_as k.is passes

-- ---- a directory more

pub innermost_is : (calls : List Call) → innermost calls ≡ last_token None (open_directories calls)
innermost_is calls = innermost_last calls None (all_given calls)

opened_below : (calls : List Call) (i : ℕ) (x : Given) → IsSound calls → slice_get (open_directories calls) i ≡ Some x
    → x.token < length (all_given calls)
opened_below calls i x s h =
    let m = filter_member (is_open_directory calls) (all_given calls) i x h in
    let l : m.0 < length (all_given calls) = slice_get_within (all_given calls) m.0 x m.1 in
    let n : x.token ≡ m.0 = s.numbered m.0 x m.1 in
    omega arith

-- a directory that is opened in the innermost one
pub nested_in : (calls : List Call) (c : Call) (g : Given) (m : ℕ) → IsSound calls → IsAccepted calls c → given_by c ≡ Some g
    → kind_eq g.kind Directory ≡ true → named_by c ≡ Some (m, Directory) → entry_of c ≡ Some g.path → g.parent ≡ Some m
    → number_eq (innermost calls) (Some m) ≡ true → IsNested 0 0 None (open_directories calls ++ g ∷ [])
nested_in calls c g m s a e kind n q p inner =
    nested_more (open_directories calls) 0 0 None g s.nested (omega arith)
    (λ i x h. let l = opened_below calls i x s h in let t = numbered_next calls c g a e in omega arith)
    depth (last ∙ sym p) kind
  where
    last : last_token None (open_directories calls) ≡ Some m
    last = sym (innermost_is calls) ∙ same_number (innermost calls) m inner

    k : IsKnown calls m Directory
    k = known calls c m Directory a n

    at : IsPlaced calls m k.given_as
    at = placed calls m s k

    depth : length g.path ≡ 0 + length (open_directories calls)
    depth =
        let up = parent_is calls c m g.path a n q in
        let above : length (parent g.path) ≡ at.place = ap length (up.1 ∙ ap given_path k.is) ∙ at.depth in
        let whole : suc at.place ≡ length (open_directories calls) =
        nested_last (open_directories calls) 0 0 None at.place k.given_as s.nested at.is (last ∙ ap Some (sym at.token)) in
        let all = length_parent g.path up.0 in
        omega arith

-- the root, which is opened first
pub nested_root : (calls : List Call) (g : Given) → IsSound calls → list_any (opens_entry []) calls ≡ false → g.path ≡ [] → g.parent ≡ None
    → kind_eq g.kind Directory ≡ true → IsNested 0 0 None (open_directories calls ++ g ∷ [])
nested_root calls g s h path up kind =
    subst (λ (gs : List Given). IsNested 0 0 None (gs ++ g ∷ [])) (sym none) (omega arith, ap length path, up, kind, tt)
  where
    none : open_directories calls ≡ []
    none =
        ap (filter (is_open_directory calls)) (nil_from_length (all_given calls)
        (eqb-true (length (all_given calls)) 0 (not-false (nat_eq (length (all_given calls)) 0) (sym s.root ∙ h))))

-- ---- a directory less

pub record IsLast (xs : List Given) (x : Given) : Type 0 where
  pub front : List Given
  pub is : xs ≡ front ++ x ∷ []

last_of : (xs : List Given) (i : ℕ) (x : Given) → slice_get xs i ≡ Some x → suc i ≡ length xs → IsLast xs x
last_of [] i x h l = absurd (some-none x (sym h))
last_of (y ∷ []) zero x h l = record { front = []; is = ap (λ z. z ∷ []) (same_Some y x h) }
last_of (y ∷ z ∷ xs) zero x h l = absurd (omega arith)
last_of (y ∷ xs) (suc i) x h l = let r = last_of xs i x h (omega arith) in record { front = y ∷ r.front; is = ap (λ zs. y ∷ zs) r.is }

get_last : (xs : List Given) (x : Given) → slice_get (xs ++ x ∷ []) (length xs) ≡ Some x
get_last [] x = refl
get_last (y ∷ xs) x = get_last xs x

front_below : (front : List Given) (n k : ℕ) (above : Option ℕ) (g : Given) → IsNested n k above (front ++ g ∷ []) → (i : ℕ) (x : Given)
    → slice_get front i ≡ Some x → x.token < g.token
front_below [] n k above g h i x e = absurd (some-none x (sym e))
front_below (y ∷ front) n k above g h zero x e =
    let s : y.token ≡ x.token = ap (λ z. z.token) (same_Some y x e) in
    let l : suc y.token ≤ g.token =
    nested_above (front ++ g ∷ []) (suc y.token) (suc k) (Some y.token) (length front) g h.4 (get_last front g) in
    omega arith
front_below (y ∷ front) n k above g h (suc i) x e = front_below front (suc y.token) (suc k) (Some y.token) g h.4 i x e

-- what a close of the innermost directory leaves open
pub record IsClosedLast (calls : List Call) (t : ℕ) (after : List Given) : Type 0 where
  pub closed : Given
  pub token : closed.token ≡ t
  pub before : open_directories calls ≡ after ++ closed ∷ []

pub open_closed : (calls : List Call) (t : ℕ) → IsSound calls → IsAccepted calls (CloseDirectory t)
    → IsClosedLast calls t (open_directories (calls ++ CloseDirectory t ∷ []))
open_closed calls t s a = record {
  closed = k.given_as;
  token = at.token;
  before = last.is ∙ ap (λ gs. gs ++ k.given_as ∷ []) (sym left);
}
  where
    k : IsKnown calls t Directory
    k = known calls (CloseDirectory t) t Directory a refl

    at : IsPlaced calls t k.given_as
    at = placed calls t s k

    inner : last_token None (open_directories calls) ≡ Some k.given_as.token
    inner =
        let below : a_subdirectory_is_open calls k.given_as.token ≡ false = ap (a_subdirectory_is_open calls) at.token ∙ a.none_below in
        let kept = any_both (opens_below k.given_as.token) (is_open_directory calls) (all_given calls) in
        let tested = open_below_last (open_directories calls) 0 0 None at.place k.given_as s.nested (λ e. some-none _ (sym e)) at.is in
        same_number (last_token None (open_directories calls)) k.given_as.token
        (not-false (number_eq (last_token None (open_directories calls)) (Some k.given_as.token)) (sym tested ∙ sym kept ∙ below))

    last : IsLast (open_directories calls) k.given_as
    last =
        last_of (open_directories calls) at.place k.given_as at.is
        (nested_last (open_directories calls) 0 0 None at.place k.given_as s.nested at.is inner)

    other : Given → Bool
    other x = not (nat_eq t x.token)

    below : (i : ℕ) (x : Given) → slice_get last.front i ≡ Some x → x.token < k.given_as.token
    below = front_below last.front 0 0 None k.given_as (subst (IsNested 0 0 None) last.is s.nested)

    left : open_directories (calls ++ CloseDirectory t ∷ []) ≡ last.front
    left =
        ap (filter (is_open_directory (calls ++ CloseDirectory t ∷ []))) (given_none calls (CloseDirectory t) refl)
        ∙ filter_same (is_open_directory (calls ++ CloseDirectory t ∷ [])) (λ x. is_open_directory calls x && other x) (all_given calls)
        (λ i x h. ap (λ b. kind_eq x.kind Directory && not b) (any_push (closes x.token) calls (CloseDirectory t))
        ∙ split (kind_eq x.kind Directory) (is_closed calls x.token) (nat_eq t x.token))
        ∙ filter_both (is_open_directory calls) other (all_given calls)
        ∙ ap (filter other) last.is
        ∙ filter-append other last.front (k.given_as ∷ [])
        ∙ ap (λ b. filter other last.front ++ cond b (k.given_as ∷ []) []) (ap not (eq-eqb t k.given_as.token (sym at.token)))
        ∙ append-nil (filter other last.front)
        ∙ filter_all other last.front (λ i x h. ap not
        (false_from_ne_true (nat_eq t x.token) (λ e. let l = below i x h in let q = eqb-true t x.token e in let r =
        at.token in omega arith)))
      where
        split : (p b d : Bool) → (p && not (b || d)) ≡ ((p && not b) && not d)
        split true true d = refl
        split true false d = refl
        split false b d = refl

-- a close of a file leaves the directories as they are
pub open_file_closed : (calls : List Call) (t : ℕ) (md5 : Option (List ℕ)) → IsSound calls → IsAccepted calls (CloseFile t md5)
    → open_directories (calls ++ CloseFile t md5 ∷ []) ≡ open_directories calls
open_file_closed calls t md5 s a =
    ap (filter (is_open_directory (calls ++ CloseFile t md5 ∷ []))) (given_none calls (CloseFile t md5) refl)
    ∙ filter_same (is_open_directory (calls ++ CloseFile t md5 ∷ [])) (is_open_directory calls) (all_given calls)
    (λ i x h. ap (λ b. kind_eq x.kind Directory && not b) (any_push (closes x.token) calls (CloseFile t md5))
    ∙ by x i h (nat_eq t x.token) refl)
  where
    k : IsKnown calls t File
    k = known calls (CloseFile t md5) t File a refl

    by : (x : Given) (i : ℕ) → given calls i ≡ Some x → (b : Bool) → nat_eq t x.token ≡ b
        → (kind_eq x.kind Directory && not (is_closed calls x.token || b)) ≡ (kind_eq x.kind Directory && not (is_closed calls x.token))
    by x i h false e = ap (λ b. kind_eq x.kind Directory && not b) (or-false (is_closed calls x.token))
    by x i h true e =
        let q : t ≡ x.token = eqb-true t x.token e in
        let here : x ≡ k.given_as = same_Some x k.given_as (sym h ∙ ap (given calls) (sym (s.numbered i x h) ∙ sym q) ∙ k.is) in
        let none : kind_eq x.kind Directory ≡ false =
        ap (λ y. kind_eq y.kind Directory) here ∙ other_kind k.given_as.kind File Directory k.kind refl in
        ap (λ b. b && not (is_closed calls x.token || true)) none ∙ sym (ap (λ b. b && not (is_closed calls x.token)) none)
