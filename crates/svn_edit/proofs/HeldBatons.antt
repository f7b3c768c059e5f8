-- The batons after one more call.
use Rattle.std.proofs.Common.{◌≡◌, ◌≢◌, ℕ, zero, suc, ◌+◌, ◌<◌, ◌≤◌, Bool, true, false, ◌&&◌, ◌||◌, not, List, [], ◌∷◌, ◌++◌, length, map}
use Rattle.std.proofs.Common.{refl, sym, ◌∙◌, ap, subst, true≢false, inl, inr, arith, append-nil}
use Rattle.std.specs.Prelude.{Option, Some, None, is_some, ◌⊎◌, slice_get, filter_map}
use Rattle.std.specs.FinMap as map_of
use Rattle.std.specs.List.{flat_map}
use Rattle.std.proofs.lemmas.Bool.{cases_eq}
use Rattle.std.proofs.lemmas.Option.{slice_get_past, same_Some, slice_get_within}
use Rattle.std.proofs.Math.Bool.{and-false, or-true}
use Rattle.svn_lists.proofs.Options.{some-none}
use Rattle.svn_lists.proofs.Somewhere.{any_push, any_still}
use Rattle.svn_types.specs.declared.kind.Kind.{Kind}
use Rattle.svn_types.specs.declared.kind.Kind.TheVariants.{File, Directory}
use Rattle.svn_types.specs.Names.{Path}
use Rattle.svn_types.specs.PathKeys.{path_key}
use Rattle.svn_pool.specs.Pools.{Entry, Pools, pool_at, parent_of, strings_of_pool, strings_at}
use Rattle.svn_pool.specs.Ancestry.{IsAbove, IsBeneath}
use Rattle.svn_editor.specs.declared.call.Call.{Call}
use Rattle.svn_editor.specs.Calls.{Given, given_by, closes, all_given, given, given_path, path_of, is_closed, is_of_kind}
use Rattle.svn_editor.specs.Steps.{Action, steps_of}
use Rattle.svn_editor.proofs.OneMore.{given_one}
use Rattle.svn_editor.proofs.Accepted.{IsAccepted}
use Rattle.svn_order.proofs.Sound.{IsSound, given_closes, numbered_next, known}
use Rattle.svn_edit.specs.declared.baton.Baton.{Baton}
use Rattle.svn_edit.specs.declared.baton.Note.{Note}
use Rattle.law_copy.specs.Laws.{IsPathed}
use Rattle.svn_model.specs.Said.{says, said_at}
use Rattle.svn_model.specs.Effects.{text_in}
use Rattle.svn_nodes.specs.NodeTests.{first_of}
use Rattle.svn_edit.specs.Noted.{note_of, strings_of}
use Rattle.svn_edit.specs.declared.baton.NotedText.{NotedText}
use Rattle.svn_edit.specs.Applying.{Batons, is_open, open_count, IsTextAt, NotesText, pool_or, pool_of_parent, pool_of_kind, pool_above}
use Rattle.svn_edit.specs.Applying.{pool_entry, IsBaton, HoldsBatons, BatonMade, BatonNoted, BatonGone, IsLeaf}
use Rattle.std.proofs.lemmas.List.{map-append}
use Rattle.std.proofs.lemmas.List.Concat.{flat_map-append}
use Rattle.svn_order.proofs.OpenDirectories.{new_unclosed}
use Rattle.svn_order.proofs.HoldingTokens.{given_now, given_still}
use Rattle.svn_edit.proofs.Saying.{text_more, noted_says}
use Rattle.svn_edit.proofs.OpenCounts.{open_same, open_more, open_fewer}
use Rattle.law_copy.proofs.OnePath.{noted, said-quiet, said-own, said-other, parent_named, opened_first}

-- ---- tokens

-- all but the new token are as they were
pub given_other : (calls : List Call) (c : Call) (g : Given) (t : ℕ) → given_by c ≡ Some g → t ≢ length (all_given calls)
    → given (calls ++ c ∷ []) t ≡ given calls t
given_other calls c g t e n = ap (λ (gs : List Given). slice_get gs t) (given_one calls c g e) ∙ by (all_given calls) t n
  where
    by : (xs : List Given) (i : ℕ) → i ≢ length xs → slice_get (xs ++ g ∷ []) i ≡ slice_get xs i
    by [] zero n = absurd (n refl)
    by [] (suc i) n = refl
    by (x ∷ xs) zero n = refl
    by (x ∷ xs) (suc i) n = by xs i (λ h. n (ap suc h))

within : (calls : List Call) (m : ℕ) → is_of_kind Directory (given calls m) ≡ true → m < length (all_given calls)
within calls m h = by (given calls m) refl h
  where
    by : (o : Option Given) → given calls m ≡ o → is_of_kind Directory o ≡ true → m < length (all_given calls)
    by None e k = absurd (true≢false (sym k))
    by (Some g) e k = slice_get_within (all_given calls) m g e

-- a token that wasn't given isn't open
pub unopened : (calls : List Call) (t : ℕ) → length (all_given calls) ≤ t → is_open calls t ≡ false
unopened calls t h = ap (λ (o : Option Given). is_some o && not (is_closed calls t)) (slice_get_past (all_given calls) t h)

pub open_given : (calls : List Call) (t : ℕ) → is_open calls t ≡ true → (g : Given) × (given calls t ≡ Some g) × (is_closed calls t ≡ false)
open_given calls t h = by (given calls t) refl (is_closed calls t) refl h
  where
    by : (o : Option Given) → given calls t ≡ o → (b : Bool) → is_closed calls t ≡ b → (is_some o && not b) ≡ true
        → (g : Given) × (given calls t ≡ Some g) × (is_closed calls t ≡ false)
    by None e b f k = absurd (true≢false (sym k))
    by (Some g) e true f k = absurd (true≢false (sym k))
    by (Some g) e false f k = (g, e, f)

-- what a baton says, where its token, what is said of its path and the pools are as before
carried : (pools pools2 : Pools) (at at2 : Batons) (calls calls2 : List Call) (t : ℕ) (b : Baton) → IsBaton pools at calls t b
    → given calls2 t ≡ given calls t
    → said_at (path_of calls t) (steps_of calls2) ≡ said_at (path_of calls t) (steps_of calls) → pools2.root ≡ pools.root
    → pool_above pools.root at2 (given calls t) ≡ pool_above pools.root at (given calls t)
    → pool_at pools2 b.pool.0 ≡ pool_at pools b.pool.0 → IsBaton pools2 at2 calls2 t b
carried pools pools2 at at2 calls calls2 t b h same said root above pool = record {
  path = h.path ∙ sym (ap given_path same);
  notes = h.notes ∙ sym (ap (λ (l : List Action). map note_of l) says_same);
  pool = pool ∙ h.pool
      ∙ (λ i. Some (pool_entry (sym above_same i) (path_key (given_path (sym same i)) ∷ flat_map strings_of (sym says_same i))));
  text =
      let said2 = said_at (path_of calls2 t) (steps_of calls2) in
      subst (λ (p : Path). IsTextAt b.text (path_key p ∷ flat_map strings_of said2) (first_of (filter_map text_in said2)))
      (sym (ap given_path same))
      (subst (λ (l : List Action). IsTextAt b.text (path_key (path_of calls t) ∷ flat_map strings_of l) (first_of (filter_map text_in l)))
      (sym says_same) h.text);
}
  where
    says_same : said_at (path_of calls2 t) (steps_of calls2) ≡ said_at (path_of calls t) (steps_of calls)
    says_same = ap (λ (o : Option Given). said_at (given_path o) (steps_of calls2)) same ∙ said

    above_same : pool_above pools2.root at2 (given calls2 t) ≡ pool_above pools.root at (given calls t)
    above_same = (λ i. pool_above (root i) at2 (same i)) ∙ above

-- the pool of the edit is no baton's
pub root_apart : (pools : Pools) (at : Batons) (calls : List Call) → HoldsBatons pools at calls → (t : ℕ) (b : Baton) → at t ≡ Some b
    → pools.root ≢ b.pool.0
root_apart pools at calls h t b there same =
    some-none _ (sym (ap parent_of (sym h.root ∙ ap (pool_at pools) same ∙ (h.each t b there).pool)))

-- where all but a token, its baton and its pool are as before, each other pool is a baton's still
only_others : (pools pools2 : Pools) (at at2 : Batons) (calls : List Call) (m : ℕ) (b : Baton) → HoldsBatons pools at calls → at m ≡ Some b
    → ((s : ℕ) → s ≢ b.pool.0 → pool_at pools2 s ≡ pool_at pools s) → pools2.root ≡ pools.root → ((u : ℕ) → u ≢ m → at2 u ≡ at u)
    → (s : ℕ) (e : Entry) → pool_at pools2 s ≡ Some e → s ≢ pools2.root → s ≢ b.pool.0
    → (t : ℕ) × (d : Baton) × (at2 t ≡ Some d) × (d.pool.0 ≡ s)
only_others pools pools2 at at2 calls m b h there others root tokens s e f r away =
    let x = h.only s e (sym (others s away) ∙ f) (λ y. r (y ∙ sym root)) in
    let other : x.0 ≢ m = λ y. away (sym x.3 ∙ ap (λ (z : Baton). z.pool.0) (same_Some x.1 b (sym x.2 ∙ ap at y ∙ there))) in
    (x.0, x.1, tokens x.0 other ∙ x.2, x.3)

-- ---- a call that gives, says and closes nothing

pub held_still : (pools : Pools) (at : Batons) (calls : List Call) (c : Call) → HoldsBatons pools at calls → given_by c ≡ None
    → noted c ≡ None → ((t : ℕ) → closes t c ≡ false)
    → HoldsBatons pools at (calls ++ c ∷ [])
held_still pools at calls c h none says shut = record {
  opened = λ t. h.opened t ∙ (λ i. is_some (sym (given_still calls c t none) i) && not (sym (any_still (closes t) calls c (shut t)) i));
  each = λ t b e. carried pools pools at at calls (calls ++ c ∷ []) t b (h.each t b e) (given_still calls c t none)
      (said-quiet calls c (path_of calls t) says) refl refl refl;
  apart = h.apart;
  root = h.root;
  only = h.only;
  beneath = h.beneath;
  count = h.count ∙ ap (λ n. n + 1) (sym (open_same calls c none shut));
}

-- ---- the pool above

above_by : (root : ℕ) (at at2 : Batons) (above : Option ℕ) (k : Kind) → ((m : ℕ) → k ≡ Directory → above ≡ Some m
    → pool_or root (at2 m) ≡ pool_or root (at m))
    → pool_of_kind root at2 above k ≡ pool_of_kind root at above k
above_by root at at2 above File h = refl
above_by root at at2 None Directory h = refl
above_by root at at2 (Some m) Directory h = h m refl refl

pub above_same : (root : ℕ) (at at2 : Batons) (o : Option Given) → ((g : Given) (m : ℕ) → o ≡ Some g → g.kind ≡ Directory
    → g.parent ≡ Some m
    → pool_or root (at2 m) ≡ pool_or root (at m))
    → pool_above root at2 o ≡ pool_above root at o
above_same root at at2 None h = refl
above_same root at at2 (Some g) h = above_by root at at2 g.parent g.kind (λ m k e. h g m refl k e)

-- ---- pools below the first

pub beneath_kept : (f f2 : ℕ → Option Entry) (r : ℕ) → ((q p : ℕ) → parent_of (f q) ≡ Some p → parent_of (f2 q) ≡ Some p) → (n q : ℕ)
    → IsAbove f r n q → IsAbove f2 r n q
beneath_kept f f2 r keep zero q h = keep q r h
beneath_kept f f2 r keep (suc n) q h = (h.0, keep q h.0 h.1, beneath_kept f f2 r keep n h.0 h.2)

-- without a pool that has none below it
beneath_without : (f f2 : ℕ → Option Entry) (r s : ℕ) → ((q : ℕ) → parent_of (f q) ≢ Some s) → ((q : ℕ) → q ≢ s → f2 q ≡ f q) → (n q : ℕ)
    → q ≢ s → IsAbove f r n q → IsAbove f2 r n q
beneath_without f f2 r s leaf same zero q away h = ap parent_of (same q away) ∙ h
beneath_without f f2 r s leaf same (suc n) q away h =
    (h.0, ap parent_of (same q away) ∙ h.1, beneath_without f f2 r s leaf same n h.0 (λ e. leaf q (h.1 ∙ ap Some e)) h.2)

-- the pool below which a token's is made
above_beneath : (pools : Pools) (at : Batons) (calls : List Call) → HoldsBatons pools at calls → (k : Kind) (above : Option ℕ)
    → pool_of_kind pools.root at above k ≢ pools.root
    → IsBeneath (pool_at pools) pools.root (pool_of_kind pools.root at above k)
above_beneath pools at calls h File above n = absurd (n refl)
above_beneath pools at calls h Directory None n = absurd (n refl)
above_beneath pools at calls h Directory (Some m) n = by (at m) refl n
  where
    by : (o : Option Baton) → at m ≡ o → pool_or pools.root o ≢ pools.root → IsBeneath (pool_at pools) pools.root (pool_or pools.root o)
    by None e k = absurd (k refl)
    by (Some b) e k = h.beneath b.pool.0 _ (h.each m b e).pool k

-- ---- a call that gives a token

module _ (pools : Pools) (at : Batons) (calls : List Call) (c : Call) (g : Given) (h : HoldsBatons pools at calls) (s : IsSound calls)
    (q : IsPathed calls) (a : IsAccepted calls c)
    (gives : given_by c ≡ Some g) (says : noted c ≡ None) (pools2 : Pools) (at2 : Batons)
    (made : BatonMade (pool_above pools.root at (Some g)) g.path g.token pools at pools2 at2) where
  new : List Call
  new = calls ++ c ∷ []

  next : g.token ≡ length (all_given calls)
  next = numbered_next calls c g a gives

  given_here : given (calls ++ c ∷ []) g.token ≡ Some g
  given_here = given_now calls c g g.token gives next

  given_before : (t : ℕ) → t ≢ g.token → given (calls ++ c ∷ []) t ≡ given calls t
  given_before t n = given_other calls c g t gives (λ e. n (e ∙ sym next))

  closed_same : (t : ℕ) → is_closed (calls ++ c ∷ []) t ≡ is_closed calls t
  closed_same t = any_still (closes t) calls c (given_closes t c g gives)

  unclosed : is_closed calls g.token ≡ false
  unclosed = new_unclosed calls g.token s (omega (arith, next))

  parent_other : (o : Option Given) (t m : ℕ) (x : Given) → given calls t ≡ o → o ≡ Some x → x.parent ≡ Some m → at2 m ≡ at m
  parent_other o t m x is e p =
      let w : m < length (all_given calls) = within calls m (q.parents t m x (is ∙ e) p) in
      made.tokens m (λ same. absurd (omega (arith, w, same, next)))

  own_above : pool_above pools.root at2 (Some g) ≡ pool_above pools.root at (Some g)
  own_above = above_same pools.root at at2 (Some g) (λ x m e k p.
      let n = parent_named c m g gives (ap (λ (y : Given). y.parent) (same_Some g x e) ∙ p) in
      let known_parent = known calls c m Directory a n in
      let w : m < length (all_given calls) = slice_get_within (all_given calls) m known_parent.given_as known_parent.is in
      ap (pool_or pools.root) (made.tokens m (λ same. absurd (omega (arith, w, same, next)))))

  nothing_said : said_at g.path (steps_of (calls ++ c ∷ [])) ≡ []
  nothing_said = said-quiet calls c g.path says ∙ q.untouched g.path (opened_first calls c g a gives)

  not_fresh : (s : ℕ) (e : Entry) → pool_at pools s ≡ Some e → s ≢ made.baton.pool.0
  not_fresh s e there same = some-none e (sym there ∙ ap (pool_at pools) same ∙ made.begun.fresh)

  own_baton : IsBaton pools2 at2 (calls ++ c ∷ []) g.token made.baton
  own_baton = record {
    path = made.begun.path ∙ sym (ap given_path given_here);
    notes = made.begun.notes ∙ sym (ap (λ (l : List Action). map note_of l) said_own);
    pool = made.begun.made ∙ (λ i. Some (pool_entry (sym above_now i) (path_key (given_path (sym given_here i)) ∷ flat_map strings_of
        (sym said_own i))));
    text = subst (λ (o : Option NotedText). IsTextAt o _
        (first_of (filter_map text_in (said_at (path_of (calls ++ c ∷ []) g.token) (steps_of (calls ++ c ∷ [])))))) (sym made.begun.text)
        (ap (λ (l : List Action). first_of (filter_map text_in l)) said_own);
  }
    where
      said_own : said_at (path_of (calls ++ c ∷ []) g.token) (steps_of (calls ++ c ∷ [])) ≡ []
      said_own = ap (λ (o : Option Given). said_at (given_path o) (steps_of (calls ++ c ∷ []))) given_here ∙ nothing_said

      above_now : pool_above pools2.root at2 (given (calls ++ c ∷ []) g.token) ≡ pool_above pools.root at (Some g)
      above_now = (λ i. pool_above (made.begun.root i) at2 (given_here i)) ∙ own_above

  old_baton : (t : ℕ) (b : Baton) → t ≢ g.token → at t ≡ Some b → IsBaton pools2 at2 (calls ++ c ∷ []) t b
  old_baton t b n e =
      let is = h.each t b e in
      carried pools pools2 at at2 calls (calls ++ c ∷ []) t b is (given_before t n) (said-quiet calls c (path_of calls t) says)
      made.begun.root
      (above_same pools.root at at2 (given calls t) (λ x m f k p. ap (pool_or pools.root) (parent_other (given calls t) t m x refl f p)))
      (made.begun.others b.pool.0 (not_fresh b.pool.0 _ is.pool))

  pub held_made : HoldsBatons pools2 at2 (calls ++ c ∷ [])
  held_made = record {
    opened = λ t. open_by t (cases_eq t g.token);
    each = λ t b e. each_by t b e (cases_eq t g.token);
    apart = λ t u b d e f same. apart_by t u b d e f same (cases_eq t g.token) (cases_eq u g.token);
    root = ap (pool_at pools2) made.begun.root ∙ made.begun.others pools.root (not_fresh pools.root _ h.root) ∙ h.root;
    only = λ s e there n. only_by s e there n (cases_eq s made.baton.pool.0);
    beneath = λ s e there n. subst (λ r. IsBeneath (pool_at pools2) r s) (sym made.begun.root)
        (beneath_by s e there n (cases_eq s made.baton.pool.0));
    count = made.begun.count ∙ ap (λ n. n + 1) (h.count ∙ sym (open_more calls c g gives unclosed));
  }
    where
      still : (q p : ℕ) → parent_of (pool_at pools q) ≡ Some p → parent_of (pool_at pools2 q) ≡ Some p
      still q p e =
          let away : q ≢ made.baton.pool.0 = λ same. some-none p (sym e ∙ ap parent_of (ap (pool_at pools) same ∙ made.begun.fresh)) in
          ap parent_of (made.begun.others q away) ∙ e

      above : ℕ
      above = pool_above pools.root at (Some g)

      beneath_by : (s : ℕ) (e : Entry) → pool_at pools2 s ≡ Some e → s ≢ pools2.root → (s ≡ made.baton.pool.0) ⊎ (s ≢ made.baton.pool.0)
          → IsBeneath (pool_at pools2) pools.root s
      beneath_by s e there n (inl same) = at_new (cases_eq above pools.root)
        where
          parent_is : parent_of (pool_at pools2 s) ≡ Some above
          parent_is = ap (λ q. parent_of (pool_at pools2 q)) same ∙ ap parent_of made.begun.made

          at_new : (above ≡ pools.root) ⊎ (above ≢ pools.root) → IsBeneath (pool_at pools2) pools.root s
          at_new (inl x) = (0, parent_is ∙ ap Some x)
          at_new (inr x) =
              let up = above_beneath pools at calls h g.kind g.parent x in
              (suc up.0, (above, parent_is, beneath_kept (pool_at pools) (pool_at pools2) pools.root still up.0 above up.1))
      beneath_by s e there n (inr other) =
          let up = h.beneath s e (sym (made.begun.others s other) ∙ there) (λ x. n (x ∙ sym made.begun.root)) in
          (up.0, beneath_kept (pool_at pools) (pool_at pools2) pools.root still up.0 s up.1)

      open_by : (t : ℕ) → (t ≡ g.token) ⊎ (t ≢ g.token) → is_some (at2 t) ≡ is_open (calls ++ c ∷ []) t
      open_by t (inl e) =
          ap (λ u. is_some (at2 u)) e ∙ ap is_some made.token
          ∙ sym (ap (is_open (calls ++ c ∷ [])) e ∙ (λ i. is_some (given_here i) && not (closed_same g.token i)) ∙ ap not unclosed)
      open_by t (inr n) = ap is_some (made.tokens t n) ∙ h.opened t ∙ sym (λ i. is_some (given_before t n i) && not (closed_same t i))

      each_by : (t : ℕ) (b : Baton) → at2 t ≡ Some b → (t ≡ g.token) ⊎ (t ≢ g.token) → IsBaton pools2 at2 (calls ++ c ∷ []) t b
      each_by t b e (inl same) =
          subst (λ (x : Baton). IsBaton pools2 at2 (calls ++ c ∷ []) t x) (same_Some made.baton b (sym made.token ∙ ap at2 (sym same) ∙ e))
          (subst (λ u. IsBaton pools2 at2 (calls ++ c ∷ []) u made.baton) (sym same) own_baton)
      each_by t b e (inr n) = old_baton t b n (sym (made.tokens t n) ∙ e)

      alone : (t : ℕ) (b d : Baton) → t ≢ g.token → at2 t ≡ Some b → at2 g.token ≡ Some d → b.pool.0 ≡ d.pool.0 → ⊥
      alone t b d n e f same =
          not_fresh b.pool.0 _ (h.each t b (sym (made.tokens t n) ∙ e)).pool (same
          ∙ ap (λ (x : Baton). x.pool.0) (sym (same_Some made.baton d (sym made.token ∙ f))))

      apart_by : (t u : ℕ) (b d : Baton) → at2 t ≡ Some b → at2 u ≡ Some d → b.pool.0 ≡ d.pool.0 → (t ≡ g.token) ⊎ (t ≢ g.token)
          → (u ≡ g.token) ⊎ (u ≢ g.token) → t ≡ u
      apart_by t u b d e f same (inl x) (inl y) = x ∙ sym y
      apart_by t u b d e f same (inl x) (inr y) = absurd (alone u d b y f (ap at2 (sym x) ∙ e) (sym same))
      apart_by t u b d e f same (inr x) (inl y) = absurd (alone t b d x e (ap at2 (sym y) ∙ f) same)
      apart_by t u b d e f same (inr x) (inr y) = h.apart t u b d (sym (made.tokens t x) ∙ e) (sym (made.tokens u y) ∙ f) same

      only_by : (s : ℕ) (e : Entry) → pool_at pools2 s ≡ Some e → s ≢ pools2.root → (s ≡ made.baton.pool.0) ⊎ (s ≢ made.baton.pool.0)
          → (t : ℕ) × (b : Baton) × (at2 t ≡ Some b) × (b.pool.0 ≡ s)
      only_by s e there n (inl same) = (g.token, made.baton, made.token, sym same)
      only_by s e there n (inr other) =
          let r = h.only s e (sym (made.begun.others s other) ∙ there) (λ x. n (x ∙ sym made.begun.root)) in
          let away : r.0 ≢ g.token = λ x. true≢false (sym (sym (h.opened g.token) ∙ ap is_some (ap at (sym x) ∙ r.2))
          ∙ unopened calls g.token (omega (arith, next))) in
          (r.0, r.1, made.tokens r.0 away ∙ r.2, r.3)

-- ---- a call that says something

module _ (pools : Pools) (at : Batons) (calls : List Call) (c : Call) (m : ℕ) (act : Action) (b : Baton) (h : HoldsBatons pools at calls)
    (q : IsPathed calls)
    (gives : given_by c ≡ None) (says : noted c ≡ Some (m, act)) (shut : (t : ℕ) → closes t c ≡ false) (there : at m ≡ Some b)
    (pools2 : Pools) (at2 : Batons) (n : BatonNoted m b (note_of act) (strings_of act) pools at pools2 at2) where
  own : IsBaton pools at calls m b
  own = h.each m b there

  is_given : (t : ℕ) (d : Baton) → at t ≡ Some d → (g : Given) × (given calls t ≡ Some g) × (is_closed calls t ≡ false)
  is_given t d e = open_given calls t (sym (h.opened t) ∙ ap is_some e)

  above_kept : (o : Option Given) → pool_above pools.root at2 o ≡ pool_above pools.root at o
  above_kept o = above_same pools.root at at2 o (λ g k e f p. by k (cases_eq k m))
    where
      by : (k : ℕ) → (k ≡ m) ⊎ (k ≢ m) → pool_or pools.root (at2 k) ≡ pool_or pools.root (at k)
      by k (inl e) = ap (λ u. pool_or pools.root (at2 u)) e ∙ ap (pool_or pools.root) n.token ∙ n.said.same_pool
          ∙ sym (ap (λ u. pool_or pools.root (at u)) e ∙ ap (pool_or pools.root) there)
      by k (inr e) = ap (pool_or pools.root) (n.tokens k e)

  said_now : said_at (path_of (calls ++ c ∷ []) m) (steps_of (calls ++ c ∷ [])) ≡ said_at (path_of calls m) (steps_of calls) ++ act ∷ []
  said_now = ap (λ (o : Option Given). said_at (given_path o) (steps_of (calls ++ c ∷ []))) (given_still calls c m gives)
      ∙ said-own calls c m act says

  noted_baton : IsBaton pools2 at2 (calls ++ c ∷ []) m n.baton
  noted_baton = record {
    path = n.said.path ∙ own.path ∙ sym (ap given_path (given_still calls c m gives));
    notes = n.said.notes ∙ ap (λ (l : List Note). l ++ note_of act ∷ []) own.notes
        ∙ sym (map-append note_of (said_at (path_of calls m) (steps_of calls)) (act ∷ []))
        ∙ sym (ap (λ (l : List Action). map note_of l) said_now);
    pool = ap (pool_at pools2) n.said.same_pool ∙ n.said.own ∙ (λ i. Some (record { parent = parent_now i; strings = strings_now i }));
    text =
        let texts = first_of (filter_map text_in (said_at (path_of (calls ++ c ∷ []) m) (steps_of (calls ++ c ∷ [])))) in
        subst (λ (l : List (List ℕ)). IsTextAt n.baton.text l texts) more
        (subst (λ (l : List Action). IsTextAt n.baton.text (before ++ strings_of act) (first_of (filter_map text_in l))) (sym said_now)
        (text_more b.text n.baton.text before (said_at (path_of calls m) (steps_of calls)) act (noted_says c m act says) own.text
        (subst (λ (o : Option Entry). NotesText (note_of act) (length (strings_of_pool o)) b.text n.baton.text) own.pool
        n.said.text)));
  }
    where
      before : List (List ℕ)
      before = path_key (path_of calls m) ∷ flat_map strings_of (said_at (path_of calls m) (steps_of calls))

      more : before ++ strings_of act ≡ path_key (path_of (calls ++ c ∷ []) m) ∷ flat_map strings_of
          (said_at (path_of (calls ++ c ∷ []) m) (steps_of (calls ++ c ∷ [])))
      more =
          let said = said_at (path_of calls m) (steps_of calls) in
          ap (λ (l : List (List ℕ)). path_key (path_of calls m) ∷ l)
          (sym (flat_map-append strings_of said (act ∷ []) ∙ ap (λ (l : List (List ℕ)). flat_map strings_of said ++ l)
          (append-nil (strings_of act))))
          ∙ (λ i. path_key (given_path (sym (given_still calls c m gives) i)) ∷ flat_map strings_of (sym said_now i))

      parent_now : parent_of (pool_at pools b.pool.0) ≡ Some (pool_above pools2.root at2 (given (calls ++ c ∷ []) m))
      parent_now = ap parent_of own.pool ∙ ap Some
          (sym ((λ i. pool_above (n.said.root i) at2 (given_still calls c m gives i)) ∙ above_kept (given calls m)))

      strings_now : strings_at pools b.pool.0 ++ strings_of act
          ≡ path_key (path_of (calls ++ c ∷ []) m) ∷ flat_map strings_of
          (said_at (path_of (calls ++ c ∷ []) m) (steps_of (calls ++ c ∷ [])))
      strings_now = ap (λ (o : Option Entry). strings_of_pool o ++ strings_of act) own.pool ∙ more

  other_baton : (t : ℕ) (d : Baton) → t ≢ m → at t ≡ Some d → IsBaton pools2 at2 (calls ++ c ∷ []) t d
  other_baton t d away e =
      let x = is_given t d e in
      let y = is_given m b there in
      let apart : path_of calls m ≡ path_of calls t
      → ⊥ = λ same. away (q.once t m x.0 y.0 x.1 y.1 (sym (ap given_path x.1) ∙ sym same ∙ ap given_path y.1)) in
      carried pools pools2 at at2 calls (calls ++ c ∷ []) t d (h.each t d e) (given_still calls c t gives)
      (said-other calls c m act says (path_of calls t) apart) n.said.root (above_kept (given calls t))
      (n.said.others d.pool.0 (λ same. away (h.apart t m d b e there same)))

  pub held_noted : HoldsBatons pools2 at2 (calls ++ c ∷ [])
  held_noted = record {
    opened = λ t. opened_by t (cases_eq t m) ∙ h.opened t
        ∙ (λ i. is_some (sym (given_still calls c t gives) i) && not (sym (any_still (closes t) calls c (shut t)) i));
    each = λ t d e. each_by t d e (cases_eq t m);
    apart = λ t u d f e g same. h.apart t u (before t d e).0 (before u f g).0 (before t d e).1 (before u f g).1 (sym (before t d e).2 ∙ same
        ∙ (before u f g).2);
    root = ap (pool_at pools2) n.said.root ∙ n.said.others pools.root root_away ∙ h.root;
    only = λ s e f r. only_by s e f r (cases_eq s b.pool.0);
    beneath = λ s e f r. subst (λ x. IsBeneath (pool_at pools2) x s) (sym n.said.root) (beneath_by s e f r (cases_eq s b.pool.0));
    count = n.said.count _ own.pool ∙ h.count ∙ ap (λ k. k + 1) (sym (open_same calls c gives shut));
  }
    where
      root_away : pools.root ≢ b.pool.0
      root_away = root_apart pools at calls h m b there

      still : (q p : ℕ) → parent_of (pool_at pools q) ≡ Some p → parent_of (pool_at pools2 q) ≡ Some p
      still q p e = by (cases_eq q b.pool.0)
        where
          by : (q ≡ b.pool.0) ⊎ (q ≢ b.pool.0) → parent_of (pool_at pools2 q) ≡ Some p
          by (inl same) = ap (λ s. parent_of (pool_at pools2 s)) same ∙ ap parent_of n.said.own
              ∙ ap (λ s. parent_of (pool_at pools s)) (sym same) ∙ e
          by (inr away) = ap parent_of (n.said.others q away) ∙ e

      beneath_by : (s : ℕ) (e : Entry) → pool_at pools2 s ≡ Some e → s ≢ pools2.root → (s ≡ b.pool.0) ⊎ (s ≢ b.pool.0)
          → IsBeneath (pool_at pools2) pools.root s
      beneath_by s e f r (inl same) =
          let up = h.beneath b.pool.0 _ own.pool (λ x. root_away (sym x)) in
          subst (λ q. IsBeneath (pool_at pools2) pools.root q) (sym same) (
            up.0,
            beneath_kept (pool_at pools)
                (pool_at pools2) pools.root still up.0 b.pool.0 up.1,
          )
      beneath_by s e f r (inr away) =
          let up = h.beneath s e (sym (n.said.others s away) ∙ f) (λ x. r (x ∙ sym n.said.root)) in
          (up.0, beneath_kept (pool_at pools) (pool_at pools2) pools.root still up.0 s up.1)

      opened_by : (t : ℕ) → (t ≡ m) ⊎ (t ≢ m) → is_some (at2 t) ≡ is_some (at t)
      opened_by t (inl e) = ap (λ u. is_some (at2 u)) e ∙ ap is_some n.token ∙ sym (ap (λ u. is_some (at u)) e ∙ ap is_some there)
      opened_by t (inr e) = ap is_some (n.tokens t e)

      each_by : (t : ℕ) (d : Baton) → at2 t ≡ Some d → (t ≡ m) ⊎ (t ≢ m) → IsBaton pools2 at2 (calls ++ c ∷ []) t d
      each_by t d e (inl same) =
          subst (λ (x : Baton). IsBaton pools2 at2 (calls ++ c ∷ []) t x) (same_Some n.baton d (sym n.token ∙ ap at2 (sym same) ∙ e))
          (subst (λ u. IsBaton pools2 at2 (calls ++ c ∷ []) u n.baton) (sym same) noted_baton)
      each_by t d e (inr away) = other_baton t d away (sym (n.tokens t away) ∙ e)

      -- the baton before, whose pool is the same
      before : (t : ℕ) (d : Baton) → at2 t ≡ Some d → (x : Baton) × (at t ≡ Some x) × (d.pool.0 ≡ x.pool.0)
      before t d e = by (cases_eq t m)
        where
          by : (t ≡ m) ⊎ (t ≢ m) → (x : Baton) × (at t ≡ Some x) × (d.pool.0 ≡ x.pool.0)
          by (inl same) = (
            b,
            ap at same ∙ there,
            ap (λ (x : Baton). x.pool.0)
                (sym (same_Some n.baton d (sym n.token ∙ ap at2 (sym same) ∙ e))) ∙ n.said.same_pool,
          )
          by (inr away) = (d, sym (n.tokens t away) ∙ e, refl)

      only_by : (s : ℕ) (e : Entry) → pool_at pools2 s ≡ Some e → s ≢ pools2.root → (s ≡ b.pool.0) ⊎ (s ≢ b.pool.0)
          → (t : ℕ) × (d : Baton) × (at2 t ≡ Some d) × (d.pool.0 ≡ s)
      only_by s e f r (inl same) = (m, n.baton, n.token, n.said.same_pool ∙ sym same)
      only_by s e f r (inr away) =
          only_others pools pools2 at at2 calls m b h there n.said.others n.said.root n.tokens s e f r away

-- ---- a call that closes a token

module _ (pools : Pools) (at : Batons) (calls : List Call) (c : Call) (m : ℕ) (b : Baton) (h : HoldsBatons pools at calls)
    (no_subdirectory : (t : ℕ) (g : Given) → is_open calls t ≡ true → given calls t ≡ Some g → g.kind ≡ Directory → g.parent ≡ Some m → ⊥)
    (there : at m ≡ Some b) where
  root_away : pools.root ≢ b.pool.0
  root_away = root_apart pools at calls h m b there

  -- no other pool lies below its pool
  pub held_leaf : IsLeaf pools b.pool.0
  held_leaf s beneath = by (cases_eq s pools.root)
    where
      not_above : (t : ℕ) (d : Baton) → at t ≡ Some d → (o : Option Given) → given calls t ≡ o → pool_above pools.root at o ≡ b.pool.0 → ⊥
      not_above t d e None f p = root_away p
      not_above t d e (Some g) f p = kinds g.kind refl p
        where
          kinds : (k : Kind) → g.kind ≡ k → pool_of_kind pools.root at g.parent k ≡ b.pool.0 → ⊥
          kinds File x y = root_away y
          kinds Directory x y = parents g.parent refl y
            where
              parents : (o : Option ℕ) → g.parent ≡ o → pool_of_parent pools.root at o ≡ b.pool.0 → ⊥
              parents None z w = root_away w
              parents (Some u) z w = batons (at u) refl w
                where
                  batons : (o : Option Baton) → at u ≡ o → pool_or pools.root o ≡ b.pool.0 → ⊥
                  batons None v k = root_away k
                  batons (Some x2) v k = no_subdirectory t g (sym (h.opened t) ∙ ap is_some e) f x (z
                      ∙ ap Some (h.apart u m x2 b v there k))

      above_is : (t : ℕ) (d : Baton) → at t ≡ Some d → d.pool.0 ≡ s → ⊥
      above_is t d e same =
          not_above t d e (given calls t) refl (same_Some _ b.pool.0 (sym (ap parent_of (h.each t d e).pool)
          ∙ ap (λ x. parent_of (pool_at pools x)) same ∙ beneath))

      by : (s ≡ pools.root) ⊎ (s ≢ pools.root) → ⊥
      by (inl e) = some-none _ (sym (sym (ap parent_of h.root) ∙ sym (ap (λ x. parent_of (pool_at pools x)) e) ∙ beneath))
      by (inr away) = at_pool (pool_at pools s) refl
        where
          at_pool : (o : Option Entry) → pool_at pools s ≡ o → ⊥
          at_pool None f = some-none _ (sym (sym (ap parent_of f) ∙ beneath))
          at_pool (Some x) f = let r = h.only s x f away in above_is r.0 r.1 r.2 r.3

  module _ (sound : IsSound calls) (gives : given_by c ≡ None) (says : noted c ≡ None) (shut : closes m c ≡ true) (others_open : (t : ℕ)
      → t ≢ m → closes t c ≡ false)
      (pools2 : Pools) (at2 : Batons) (n : BatonGone m b pools at pools2 at2) where
    kept_baton : (t : ℕ) (d : Baton) → t ≢ m → at t ≡ Some d → IsBaton pools2 at2 (calls ++ c ∷ []) t d
    kept_baton t d away e =
        carried pools pools2 at at2 calls (calls ++ c ∷ []) t d (h.each t d e) (given_still calls c t gives)
        (said-quiet calls c (path_of calls t) says) n.pool.root
        (above_same pools.root at at2 (given calls t) (λ g k f x p. ap (pool_or pools.root)
        (n.tokens k (λ y. no_subdirectory t g (sym (h.opened t) ∙ ap is_some e) f x (p ∙ ap Some y)))))
        (n.pool.others d.pool.0 (λ same. away (h.apart t m d b e there same)))

    away_from : (t : ℕ) (d : Baton) → at2 t ≡ Some d → t ≢ m
    away_from t d e same = some-none d (sym e ∙ ap at2 same ∙ n.token)

    pub held_gone : HoldsBatons pools2 at2 (calls ++ c ∷ [])
    held_gone = record {
      opened = λ t. opened_by t (cases_eq t m);
      each = λ t d e. let away = away_from t d e in kept_baton t d away (sym (n.tokens t away) ∙ e);
      apart = λ t u d f e g same. h.apart t u d f (sym (n.tokens t (away_from t d e)) ∙ e) (sym (n.tokens u (away_from u f g)) ∙ g) same;
      root = ap (pool_at pools2) n.pool.root ∙ n.pool.others pools.root root_away ∙ h.root;
      only = λ s e f r. only_by s e f r (cases_eq s b.pool.0);
      beneath = λ s e f r. subst (λ x. IsBeneath (pool_at pools2) x s) (sym n.pool.root) (beneath_by s e f r);
      count =
          let was : map_of.len pools.live ≡ open_count calls + 1 = h.count in
          let less : map_of.len pools.live ≡ map_of.len pools2.live + 1 = n.pool.count in
          let fewer : open_count calls ≡ open_count (calls ++ c ∷ []) + 1 = open_fewer calls c m sound gives
          (open_given calls m (sym (h.opened m) ∙ ap is_some there)) shut others_open in
          omega arith;
    }
      where
        beneath_by : (s : ℕ) (e : Entry) → pool_at pools2 s ≡ Some e → s ≢ pools2.root → IsBeneath (pool_at pools2) pools.root s
        beneath_by s e f r =
            let away : s ≢ b.pool.0 = λ same. some-none e (sym f ∙ ap (pool_at pools2) same ∙ n.pool.gone) in
            let up = h.beneath s e (sym (n.pool.others s away) ∙ f) (λ x. r (x ∙ sym n.pool.root)) in
            (up.0, beneath_without (pool_at pools) (pool_at pools2) pools.root b.pool.0 held_leaf n.pool.others up.0 s away up.1)

        opened_by : (t : ℕ) → (t ≡ m) ⊎ (t ≢ m) → is_some (at2 t) ≡ is_open (calls ++ c ∷ []) t
        opened_by t (inl e) =
            ap (λ u. is_some (at2 u)) e ∙ ap is_some n.token
            ∙ sym (ap (is_open (calls ++ c ∷ [])) e ∙ ap (λ x. is_some (given (calls ++ c ∷ []) m) && not x) (any_push (closes m) calls c
            ∙ ap (λ x. is_closed calls m || x) shut ∙ or-true (is_closed calls m)) ∙ and-false (is_some (given (calls ++ c ∷ []) m)))
        opened_by t (inr away) = ap is_some (n.tokens t away) ∙ h.opened t
            ∙ (λ i. is_some (sym (given_still calls c t gives) i) && not (sym (any_still (closes t) calls c (others_open t away)) i))

        only_by : (s : ℕ) (e : Entry) → pool_at pools2 s ≡ Some e → s ≢ pools2.root → (s ≡ b.pool.0) ⊎ (s ≢ b.pool.0)
            → (t : ℕ) × (d : Baton) × (at2 t ≡ Some d) × (d.pool.0 ≡ s)
        only_by s e f r (inl same) = absurd (some-none e (sym f ∙ ap (pool_at pools2) same ∙ n.pool.gone))
        only_by s e f r (inr away) =
            only_others pools pools2 at at2 calls m b h there n.pool.others n.pool.root n.tokens s e f r away
