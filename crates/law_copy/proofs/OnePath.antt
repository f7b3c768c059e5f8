-- In a list of calls that are in order each token has a path of its own, and nothing is said of a path that wasn't opened.
use Rattle.std.proofs.Common.{◌≡◌, ℕ, zero, suc, Bool, true, false, cond, ◌&&◌, List, [], ◌∷◌, ◌++◌, length, refl, sym, ◌∙◌, ap}
use Rattle.std.proofs.Common.{subst, true≢false, inl, inr, append_assoc, append-nil}
use Rattle.std.specs.Prelude.{Option, Some, None, ◌⊎◌, slice_get}
use Rattle.std.specs.List.{cons_option, list_any}
use Rattle.std.proofs.lemmas.Option.{same_Some}
use Rattle.std.proofs.lemmas.Bool.{or_parts}
use Rattle.svn_lists.proofs.Options.{some-none}
use Rattle.svn_lists.proofs.Places.{slice_get_push_cases}
use Rattle.svn_lists.proofs.Somewhere.{any_push}
use Rattle.svn_types.specs.declared.kind.Kind.{Kind}
use Rattle.svn_types.specs.declared.kind.Kind.TheVariants.{File, Directory}
use Rattle.svn_types.specs.Names.{Path}
use Rattle.svn_types.specs.Paths.{path_eq}
use Rattle.svn_editor.specs.declared.call.Call.{Call}
use Rattle.svn_editor.specs.declared.call.Call.TheVariants.{OpenRoot, AddDirectory, OpenDirectory, ChangeDirProp, AddFile, OpenFile}
use Rattle.svn_editor.specs.declared.call.Call.TheVariants.{ChangeFileProp, ApplyText, CloseDirectory, CloseFile, DeleteEntry, AbortEdit}
use Rattle.svn_editor.specs.Calls.{Given, given_by, named_by, opens_entry, deletes, all_given, given, given_path, path_of, is_of_kind}
use Rattle.svn_editor.specs.Order.{order_fault, IsLawfulAfter, IsLawful}
use Rattle.svn_editor.specs.Steps.{Action, Delete, Open, Add, Change, Text, Close, step_of, steps_of}
use Rattle.svn_types.proofs.PathLemmas.{same_path, path_eq-same}
use Rattle.svn_editor.proofs.OneMore.{given_none, given_one}
use Rattle.svn_editor.proofs.Accepted.{IsAccepted, accepted}
use Rattle.svn_order.proofs.Sound.{IsSound, known, member_of}
use Rattle.svn_order.proofs.Lawful.{sound, lawful_more}
use Rattle.svn_model.specs.Said.{says, said_at}
use Rattle.law_copy.specs.Laws.{IsPathed}
use Rattle.law_copy.proofs.Appending.{steps-more, said-append}

-- ---- the call about something: its token, and what it says

abbrev pub noted : Call → Option (ℕ × Action)
noted (ChangeDirProp token name value) = Some (token, Change Directory (name, value))
noted (ChangeFileProp token name value) = Some (token, Change File (name, value))
noted (ApplyText token base_md5 text) = Some (token, Text base_md5 text)
noted _ = None

quiet : (p q : Path) (a : Action) → says a ≡ false → said_at p (record { path = q; action = a } ∷ []) ≡ []
quiet p q a h = ap (λ b. cond (path_eq q p && b) (a ∷ []) []) h ∙ by (path_eq q p)
  where
    by : (b : Bool) → cond (b && false) (a ∷ []) [] ≡ []
    by true = refl
    by false = refl

-- what one call says of a path
pub said_by-quiet : (calls : List Call) (c : Call) (p : Path) → noted c ≡ None → said_at p (cons_option (step_of calls c) []) ≡ []
said_by-quiet calls (OpenRoot base token) p h = quiet p [] (Open Directory base) refl
said_by-quiet calls (DeleteEntry path rev parent) p h = quiet p path (Delete rev) refl
said_by-quiet calls (AddDirectory path parent token) p h = quiet p path (Add Directory) refl
said_by-quiet calls (OpenDirectory path parent base token) p h = quiet p path (Open Directory base) refl
said_by-quiet calls (CloseDirectory token) p h = quiet p (path_of calls token) (Close Directory None) refl
said_by-quiet calls (AddFile path parent token) p h = quiet p path (Add File) refl
said_by-quiet calls (OpenFile path parent base token) p h = quiet p path (Open File base) refl
said_by-quiet calls (CloseFile token text_md5) p h = quiet p (path_of calls token) (Close File text_md5) refl
said_by-quiet calls (ChangeDirProp token name value) p h = absurd (some-none _ h)
said_by-quiet calls (ChangeFileProp token name value) p h = absurd (some-none _ h)
said_by-quiet calls (ApplyText token base_md5 text) p h = absurd (some-none _ h)
said_by-quiet calls _ p h = refl

pub said_by-noted : (calls : List Call) (c : Call) (p : Path) (m : ℕ) (a : Action) → noted c ≡ Some (m, a)
    → said_at p (cons_option (step_of calls c) []) ≡ cond (path_eq (path_of calls m) p && true) (a ∷ []) []
said_by-noted calls (ChangeDirProp token name value) p m a h =
    let e =
    same_Some (token, Change Directory (name, value)) (m, a) h in λ i. cond (path_eq (path_of calls (e i).0) p && true) ((e i).1 ∷ []) []
said_by-noted calls (ChangeFileProp token name value) p m a h =
    let e = same_Some (token, Change File (name, value)) (m, a) h in λ i. cond (path_eq (path_of calls (e i).0) p && true) ((e i).1 ∷ []) []
said_by-noted calls (ApplyText token base_md5 text) p m a h =
    let e = same_Some (token, Text base_md5 text) (m, a) h in λ i. cond (path_eq (path_of calls (e i).0) p && true) ((e i).1 ∷ []) []
said_by-noted calls _ p m a h = absurd (some-none (m, a) (sym h))

pub noted_kind : Action → Kind
noted_kind (Change k x) = k
noted_kind _ = File

pub noted_named : (c : Call) (m : ℕ) (a : Action) → noted c ≡ Some (m, a) → (k : Kind) × (named_by c ≡ Some (m, k))
noted_named (ChangeDirProp token name value) m a h =
    (Directory, ap (λ t. Some (t, Directory)) (ap (λ (x : ℕ × Action). x.0) (same_Some (token, Change Directory (name, value)) (m, a) h)))
noted_named (ChangeFileProp token name value) m a h =
    (File, ap (λ t. Some (t, File)) (ap (λ (x : ℕ × Action). x.0) (same_Some (token, Change File (name, value)) (m, a) h)))
noted_named (ApplyText token base_md5 text) m a h =
    (File, ap (λ t. Some (t, File)) (ap (λ (x : ℕ × Action). x.0) (same_Some (token, Text base_md5 text) (m, a) h)))
noted_named _ m a h = absurd (some-none (m, a) (sym h))

pub said-more : (calls : List Call) (c : Call) (p : Path)
    → said_at p (steps_of (calls ++ c ∷ [])) ≡ said_at p (steps_of calls) ++ said_at p (cons_option (step_of calls c) [])
said-more calls c p = ap (said_at p) (steps-more calls c) ∙ said-append p (steps_of calls) (cons_option (step_of calls c) [])

pub said-quiet : (calls : List Call) (c : Call) (p : Path) → noted c ≡ None
    → said_at p (steps_of (calls ++ c ∷ [])) ≡ said_at p (steps_of calls)
said-quiet calls c p h =
    said-more calls c p ∙ ap (λ (l : List Action). said_at p (steps_of calls) ++ l) (said_by-quiet calls c p h)
    ∙ append-nil (said_at p (steps_of calls))

-- ---- tokens and paths

-- a path that is opened was not opened before
pub opened_first : (calls : List Call) (c : Call) (x : Given) → IsAccepted calls c → given_by c ≡ Some x
    → list_any (opens_entry x.path) calls ≡ false
opened_first calls (OpenRoot base token) x a e = ap (λ (g : Given). list_any (opens_entry g.path) calls) (sym (same_Some _ x e)) ∙ a.entry
opened_first calls (AddDirectory path parent token) x a e =
    ap (λ (g : Given). list_any (opens_entry g.path) calls) (sym (same_Some _ x e)) ∙ a.entry
opened_first calls (AddFile path parent token) x a e =
    ap (λ (g : Given). list_any (opens_entry g.path) calls) (sym (same_Some _ x e)) ∙ a.entry
opened_first calls (OpenDirectory path parent base token) x a e =
    ap (λ (g : Given). list_any (opens_entry g.path) calls) (sym (same_Some _ x e))
    ∙ (or_parts (list_any (opens_entry path) calls) (list_any (deletes path) calls) a.entry).0
opened_first calls (OpenFile path parent base token) x a e =
    ap (λ (g : Given). list_any (opens_entry g.path) calls) (sym (same_Some _ x e))
    ∙ (or_parts (list_any (opens_entry path) calls) (list_any (deletes path) calls) a.entry).0
opened_first calls _ x a e = absurd (some-none x (sym e))

-- a token that was given is old, or the new one
pub given_cases : (calls : List Call) (c : Call) (t : ℕ) (g : Given) → given (calls ++ c ∷ []) t ≡ Some g
    → (given calls t ≡ Some g) ⊎ (given_by c ≡ Some g)
given_cases calls c t g h = by (given_by c) refl
  where
    by : (o : Option Given) → given_by c ≡ o → (given calls t ≡ Some g) ⊎ (given_by c ≡ Some g)
    by None e = inl (ap (λ gs. slice_get gs t) (sym (given_none calls c e)) ∙ h)
    by (Some x) e = at (slice_get_push_cases (all_given calls) x t g (ap (λ gs. slice_get gs t) (sym (given_one calls c x e)) ∙ h))
      where
        at : (slice_get (all_given calls) t ≡ Some g) ⊎ ((t ≡ length (all_given calls)) × (x ≡ g))
            → (given calls t ≡ Some g) ⊎ (given_by c ≡ Some g)
        at (inl old) = inl old
        at (inr new) = inr (e ∙ ap Some new.1)

-- the new one has the next number
new_number : (calls : List Call) (c : Call) (t : ℕ) (x : Given) → given_by c ≡ Some x → given (calls ++ c ∷ []) t ≡ Some x
    → list_any (opens_entry x.path) calls ≡ false → t ≡ length (all_given calls)
new_number calls c t x e h fresh =
    at (slice_get_push_cases (all_given calls) x t x (ap (λ gs. slice_get gs t) (sym (given_one calls c x e)) ∙ h))
  where
    at : (slice_get (all_given calls) t ≡ Some x) ⊎ ((t ≡ length (all_given calls)) × (x ≡ x)) → t ≡ length (all_given calls)
    at (inl old) = absurd (true≢false (sym (member_of calls t x old) ∙ fresh))
    at (inr new) = new.0

-- a token that was given stays so
pub given_stays : (calls : List Call) (c : Call) (t : ℕ) (g : Given) → given calls t ≡ Some g → given (calls ++ c ∷ []) t ≡ Some g
given_stays calls c t g h = by (given_by c) refl
  where
    front : (xs ys : List Given) (i : ℕ) → slice_get xs i ≡ Some g → slice_get (xs ++ ys) i ≡ Some g
    front [] ys i e = absurd (some-none g (sym e))
    front (x ∷ xs) ys zero e = e
    front (x ∷ xs) ys (suc i) e = front xs ys i e

    by : (o : Option Given) → given_by c ≡ o → given (calls ++ c ∷ []) t ≡ Some g
    by None e = ap (λ (gs : List Given). slice_get gs t) (given_none calls c e) ∙ h
    by (Some x) e = ap (λ (gs : List Given). slice_get gs t) (given_one calls c x e) ∙ front (all_given calls) (x ∷ []) t h

kind_stays : (calls : List Call) (c : Call) (m : ℕ) → is_of_kind Directory (given calls m) ≡ true
    → is_of_kind Directory (given (calls ++ c ∷ []) m) ≡ true
kind_stays calls c m h = by (given calls m) refl h
  where
    by : (o : Option Given) → given calls m ≡ o → is_of_kind Directory o ≡ true → is_of_kind Directory (given (calls ++ c ∷ []) m) ≡ true
    by None e k = absurd (true≢false (sym k))
    by (Some g) e k = ap (is_of_kind Directory) (given_stays calls c m g e) ∙ k

-- the parent of a new token is the one that the call names
pub parent_named : (c : Call) (m : ℕ) (g : Given) → given_by c ≡ Some g → g.parent ≡ Some m → named_by c ≡ Some (m, Directory)
parent_named (OpenRoot base token) m g e f = absurd (some-none m (sym (ap (λ (x : Given). x.parent) (same_Some _ g e) ∙ f)))
parent_named (AddDirectory path parent token) m g e f =
    ap (λ t. Some (t, Directory)) (same_Some parent m (ap (λ (x : Given). x.parent) (same_Some _ g e) ∙ f))
parent_named (OpenDirectory path parent base token) m g e f =
    ap (λ t. Some (t, Directory)) (same_Some parent m (ap (λ (x : Given). x.parent) (same_Some _ g e) ∙ f))
parent_named (AddFile path parent token) m g e f =
    ap (λ t. Some (t, Directory)) (same_Some parent m (ap (λ (x : Given). x.parent) (same_Some _ g e) ∙ f))
parent_named (OpenFile path parent base token) m g e f =
    ap (λ t. Some (t, Directory)) (same_Some parent m (ap (λ (x : Given). x.parent) (same_Some _ g e) ∙ f))
parent_named _ m g e f = absurd (some-none g (sym e))

module _ (calls : List Call) (c : Call) (s : IsSound calls) (q : IsPathed calls) (a : IsAccepted calls c) where
  once_more : (t u : ℕ) (g h : Given) → given (calls ++ c ∷ []) t ≡ Some g → given (calls ++ c ∷ []) u ≡ Some h → g.path ≡ h.path → t ≡ u
  once_more t u g h e f same = by (given_cases calls c t g e) (given_cases calls c u h f)
    where
      apart : (x y : Given) (v : ℕ) → given_by c ≡ Some x → given calls v ≡ Some y → x.path ≡ y.path → ⊥
      apart x y v new old p =
          true≢false
          (sym (member_of calls v y old) ∙ ap (λ (r : Path). list_any (opens_entry r) calls) (sym p) ∙ opened_first calls c x a new)

      by : (given calls t ≡ Some g) ⊎ (given_by c ≡ Some g) → (given calls u ≡ Some h) ⊎ (given_by c ≡ Some h) → t ≡ u
      by (inl x) (inl y) = q.once t u g h x y same
      by (inl x) (inr y) = absurd (apart h g t y x (sym same))
      by (inr x) (inl y) = absurd (apart g h u x y same)
      by (inr x) (inr y) =
          new_number calls c t g x e (opened_first calls c g a x) ∙ sym (new_number calls c u h y f (opened_first calls c h a y))

  untouched_more : (p : Path) → list_any (opens_entry p) (calls ++ c ∷ []) ≡ false → said_at p (steps_of (calls ++ c ∷ [])) ≡ []
  untouched_more p h = said-more calls c p ∙ (λ i. before i ++ now i)
    where
      parts : (list_any (opens_entry p) calls ≡ false) × (opens_entry p c ≡ false)
      parts = or_parts (list_any (opens_entry p) calls) (opens_entry p c) (sym (any_push (opens_entry p) calls c) ∙ h)

      before : said_at p (steps_of calls) ≡ []
      before = q.untouched p parts.0

      now : said_at p (cons_option (step_of calls c) []) ≡ []
      now = by (noted c) refl
        where
          by : (o : Option (ℕ × Action)) → noted c ≡ o → said_at p (cons_option (step_of calls c) []) ≡ []
          by None e = said_by-quiet calls c p e
          by (Some x) e = said_by-noted calls c p x.0 x.1 e ∙ at (path_eq (path_of calls x.0) p) refl
            where
              at : (b : Bool) → path_eq (path_of calls x.0) p ≡ b → cond (b && true) (x.1 ∷ []) [] ≡ []
              at false f = refl
              at true f =
                  let n = noted_named c x.0 x.1 e in
                  let k = known calls c x.0 n.0 a n.1 in
                  let is : k.given_as.path ≡ p = sym (ap given_path k.is) ∙ same_path (path_of calls x.0) p f in
                  absurd (true≢false
                  (sym (member_of calls x.0 k.given_as k.is) ∙ ap (λ (r : Path). list_any (opens_entry r) calls) is ∙ parts.0))

  parents_more : (t m : ℕ) (g : Given) → given (calls ++ c ∷ []) t ≡ Some g → g.parent ≡ Some m
      → is_of_kind Directory (given (calls ++ c ∷ []) m) ≡ true
  parents_more t m g e f = by (given_cases calls c t g e)
    where
      by : (given calls t ≡ Some g) ⊎ (given_by c ≡ Some g) → is_of_kind Directory (given (calls ++ c ∷ []) m) ≡ true
      by (inl x) = kind_stays calls c m (q.parents t m g x f)
      by (inr x) =
          let k = known calls c m Directory a (parent_named c m g x f) in
          kind_stays calls c m (ap (is_of_kind Directory) k.is ∙ k.kind)

  pathed_accepted : IsPathed (calls ++ c ∷ [])
  pathed_accepted = record { once = once_more; untouched = untouched_more; parents = parents_more }

pathed_abort : (calls : List Call) → IsPathed calls → IsPathed (calls ++ AbortEdit ∷ [])
pathed_abort calls q = record {
  parents =
      λ t m g e f. ap (λ (gs : List Given). is_of_kind Directory (slice_get gs m)) same
      ∙ q.parents t m g (ap (λ (gs : List Given). slice_get gs t) (sym same) ∙ e) f;
  once =
      λ t u g h e f. q.once t u g h (ap (λ (gs : List Given). slice_get gs t) (sym same) ∙ e)
      (ap (λ (gs : List Given). slice_get gs u) (sym same) ∙ f);
  untouched =
      λ p h. said-quiet calls AbortEdit p refl
      ∙ q.untouched p (or_parts (list_any (opens_entry p) calls) false (sym (any_push (opens_entry p) calls AbortEdit) ∙ h)).0;
}
  where
    same : all_given (calls ++ AbortEdit ∷ []) ≡ all_given calls
    same = given_none calls AbortEdit refl

pub pathed_more : (calls : List Call) (c : Call) → IsLawful calls → IsPathed calls → order_fault calls c ≡ None → IsPathed (calls ++ c ∷ [])
pathed_more calls AbortEdit l q h = pathed_abort calls q
pathed_more calls c l q h = pathed_accepted calls c (sound calls l) q (accepted calls c refl h)

pathed_none : IsPathed []
pathed_none =
    record {
      once = λ t u g h e f same. absurd (some-none g (sym e));
      untouched = λ p h. refl;
      parents = λ t m g e f. absurd (some-none g (sym e));
    }

pathed_after : (earlier calls : List Call) → IsLawful earlier → IsPathed earlier → IsLawfulAfter earlier calls → IsPathed (earlier ++ calls)
pathed_after earlier [] l q h = subst IsPathed (sym (append-nil earlier)) q
pathed_after earlier (c ∷ calls) l q h =
    subst IsPathed (append_assoc earlier (c ∷ []) calls)
    (pathed_after (earlier ++ c ∷ []) calls (lawful_more earlier c l h.0) (pathed_more earlier c l q h.0) h.1)

pub pathed : (calls : List Call) → IsLawful calls → IsPathed calls
pathed calls h = pathed_after [] calls tt pathed_none h

-- ---- what is said of the token of one call, and of another

module _ (calls : List Call) (c : Call) (m : ℕ) (act : Action) (is : noted c ≡ Some (m, act)) where
  pub said-own : said_at (path_of calls m) (steps_of (calls ++ c ∷ [])) ≡ said_at (path_of calls m) (steps_of calls) ++ act ∷ []
  said-own =
      said-more calls c (path_of calls m)
      ∙ ap (λ (l : List Action). said_at (path_of calls m) (steps_of calls) ++ l)
      (said_by-noted calls c (path_of calls m) m act is
      ∙ ap (λ b. cond (b && true) (act ∷ []) []) (path_eq-same (path_of calls m)))

  pub said-other : (p : Path) → (path_of calls m ≡ p → ⊥) → said_at p (steps_of (calls ++ c ∷ [])) ≡ said_at p (steps_of calls)
  said-other p other =
      said-more calls c p
      ∙ ap (λ (l : List Action). said_at p (steps_of calls) ++ l)
      (said_by-noted calls c p m act is ∙ by (path_eq (path_of calls m) p) refl)
      ∙ append-nil (said_at p (steps_of calls))
    where
      by : (b : Bool) → path_eq (path_of calls m) p ≡ b → cond (b && true) (act ∷ []) [] ≡ []
      by true e = absurd (other (same_path (path_of calls m) p e))
      by false e = refl
