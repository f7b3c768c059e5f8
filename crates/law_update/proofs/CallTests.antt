-- What the calls of some steps say: each test on earlier calls as a test on the steps.
use Rattle.std.proofs.Common.{◌≡◌, ℕ, suc, Bool, true, false, ◌&&◌, ◌||◌, not, List, [], ◌∷◌, ◌++◌, refl, sym, ◌∙◌, ap, true≢false}
use Rattle.std.specs.Prelude.{Option, Some, None, cond, map, length, slice_get, nat_eq, filter_map, fold}
use Rattle.std.specs.List.{list_any, cons_option, AllByRecursion}
use Rattle.std.proofs.Math.Bool.{and-false, and-true}
use Rattle.std.proofs.lemmas.Bool.{or_right}
use Rattle.std.proofs.lemmas.List.{map-append}
use Rattle.std.proofs.lemmas.List.Elements.{filter_map-append}
use Rattle.svn_types.specs.Names.{Path}
use Rattle.svn_types.specs.Paths.{path_eq, parent, is_root}
use Rattle.svn_types.specs.declared.kind.Kind.{Kind}
use Rattle.svn_types.specs.declared.kind.Kind.TheVariants.{File, Directory}
use Rattle.svn_types.proofs.PathLemmas.{same_path}
use Rattle.svn_editor.specs.Calls.{kind_eq, Given, given_by, closes, is_closed, deletes, opens_below, applies_text, changes_dir}
use Rattle.svn_editor.specs.Calls.{opens_entry, opens_subdirectory, is_last}
use Rattle.svn_editor.specs.Steps.{Action, Delete, Open, Add, Change, Text, Close, Step}
use Rattle.svn_editor.specs.declared.call.Call.{Call}
use Rattle.svn_editor.specs.declared.call.Call.TheVariants.{OpenRoot, OpenDirectory}
use Rattle.svn_model.specs.Steps.{is_text}
use Rattle.law_drive.proofs.Courses.{is_delete, is_entry, is_entry_of, is_close}
use Rattle.law_drive.proofs.Tokens.{entered}
use Rattle.law_update.proofs.StepOrder.{has}
use Rattle.law_update.proofs.TokenNumbers.{call_by, call_at, Tells, is_root_action}

-- the test on what a call gives, if it gives a token
abbrev pub on_given : (Given → Bool) → Option Given → Bool
on_given f None = false
on_given f (Some g) = f g

abbrev pub is_change_of : Kind → Action → Bool
is_change_of k (Change l c) = kind_eq k l
is_change_of k _ = false

-- a directory that is opened or added right below the path
pub record IsSubdirectory (p : Path) (x : Step) : Type 0 where
  pub entry : is_entry_of Directory x.action ≡ true
  pub above : parent x.path ≡ p
  pub not_root : is_root_action x.action ≡ true → is_root x.path ≡ false

-- either call, where both read alike
pub either_call : {X : Type 0} (f : Call → X) (x : X) (b : Bool) (c e : Call) → f c ≡ x → f e ≡ x → f (cond b c e) ≡ x
either_call f x true c e h k = h
either_call f x false c e h k = k

module _ (T : Path → ℕ) where
  -- a test that no call of the steps passes, and one that some call passes
  pub none_in : (f : Call → Bool) (xs : List Step) → AllByRecursion (λ x. f (call_at T x) ≡ false) xs
      → list_any f (map (call_at T) xs) ≡ false
  none_in f [] h = refl
  none_in f (x ∷ xs) h = ap (λ b. b || list_any f (map (call_at T) xs)) h.0 ∙ none_in f xs h.1

  pub some_in : (f : Call → Bool) (g : Step → Bool) → ((x : Step) → g x ≡ true → f (call_at T x) ≡ true) → (xs : List Step)
      → list_any g xs ≡ true → list_any f (map (call_at T) xs) ≡ true
  some_in f g e [] h = h
  some_in f g e (x ∷ xs) h = by (g x) refl h (some_in f g e xs)
    where
      by : (b : Bool) → g x ≡ b → (b || list_any g xs) ≡ true → (list_any g xs ≡ true → list_any f (map (call_at T) xs) ≡ true)
          → (f (call_at T x) || list_any f (map (call_at T) xs)) ≡ true
      by true q h ih = ap (λ b. b || list_any f (map (call_at T) xs)) (e x q)
      by false q h ih = or_right (f (call_at T x)) (list_any f (map (call_at T) xs)) (ih h)

  abbrev pub gives : List Step → List Given
  gives xs = filter_map given_by (map (call_at T) xs)

  -- what two lists give, one after the other
  pub gives-append : (xs ys : List Step) → gives (xs ++ ys) ≡ gives xs ++ gives ys
  gives-append xs ys =
      ap (filter_map given_by) (map-append (call_at T) xs ys)
      ∙ filter_map-append given_by (map (call_at T) xs) (map (call_at T) ys)

  -- a test that nothing given passes
  pub none_given : (f : Given → Bool) (xs : List Step) → AllByRecursion (λ x. on_given f (given_by (call_at T x)) ≡ false) xs
      → list_any f (gives xs) ≡ false
  none_given f [] h = refl
  none_given f (x ∷ xs) h = by (given_by (call_at T x)) h.0 (none_given f xs h.1)
    where
      by : (o : Option Given) → on_given f o ≡ false → list_any f (gives xs) ≡ false → list_any f (cons_option o (gives xs)) ≡ false
      by None q ih = ih
      by (Some g) q ih = ap (λ b. b || list_any f (gives xs)) q ∙ ih

  -- as many are given as paths are opened
  pub length-gives : (xs : List Step) → length (gives xs) ≡ length (entered xs)
  length-gives [] = refl
  length-gives (x ∷ xs) = by x.action (length-gives xs)
    where
      root : (b : Bool) (r t : ℕ)
          → length (cons_option (given_by (cond b (OpenRoot r t) (OpenDirectory x.path (T (parent x.path)) r t))) (gives xs))
          ≡ suc (length (gives xs))
      root true r t = refl
      root false r t = refl

      by : (a : Action) → length (gives xs) ≡ length (entered xs)
          → length (cons_option (given_by (call_by T x.path a)) (gives xs)) ≡ length (entered (record { path = x.path; action = a } ∷ xs))
      by (Delete r) ih = ih
      by (Open Directory r) ih = root (is_root x.path) r (T x.path) ∙ ap suc ih
      by (Open File r) ih = ap suc ih
      by (Add Directory) ih = ap suc ih
      by (Add File) ih = ap suc ih
      by (Change Directory c) ih = ih
      by (Change File c) ih = ih
      by (Text s t) ih = ih
      by (Close Directory c) ih = ih
      by (Close File c) ih = ih

  -- what an open or an add gives
  pub record GivesAt (k : Kind) (p : Path) (o : Option Given) : Type 0 where
    pub found : Given
    pub is_found : o ≡ Some found
    pub kind : found.kind ≡ k
    pub path : found.path ≡ p
    pub token : found.token ≡ T p

  -- each open and each add gives its path, kind and token
  pub gives_at : (k : Kind) (x : Step) → is_entry_of k x.action ≡ true → GivesAt k x.path (given_by (call_at T x))
  gives_at k x h = by x.action h
    where
      root : (p : Path) (r : ℕ) → GivesAt Directory p (given_by (call_by T p (Open Directory r)))
      root [] r = record { found = _; is_found = refl; kind = refl; path = refl; token = refl }
      root (n ∷ p) r = record { found = _; is_found = refl; kind = refl; path = refl; token = refl }

      opens : (k l : Kind) (r : ℕ) → kind_eq k l ≡ true → GivesAt k x.path (given_by (call_by T x.path (Open l r)))
      opens File File r e = record { found = _; is_found = refl; kind = refl; path = refl; token = refl }
      opens Directory Directory r e = root x.path r
      opens File Directory r e = absurd (true≢false (sym e))
      opens Directory File r e = absurd (true≢false (sym e))

      adds : (k l : Kind) → kind_eq k l ≡ true → GivesAt k x.path (given_by (call_by T x.path (Add l)))
      adds File File e = record { found = _; is_found = refl; kind = refl; path = refl; token = refl }
      adds Directory Directory e = record { found = _; is_found = refl; kind = refl; path = refl; token = refl }
      adds File Directory e = absurd (true≢false (sym e))
      adds Directory File e = absurd (true≢false (sym e))

      by : (a : Action) → is_entry_of k a ≡ true → GivesAt k x.path (given_by (call_by T x.path a))
      by (Open l r) e = opens k l r e
      by (Add l) e = adds k l e
      by a e = absurd (true≢false (sym e))

  -- the token with that number is the one given there
  pub given_here : (front : List Step) (x : Step) (back : List Step) (g : Given) → given_by (call_at T x) ≡ Some g
      → slice_get (gives (front ++ x ∷ back)) (length (entered front)) ≡ Some g
  given_here front x back g e =
      ap (λ l. slice_get l (length (entered front))) (gives-append front (x ∷ back) ∙ ap (λ o. gives front ++ cons_option o (gives back)) e)
      ∙ ap (slice_get (gives front ++ g ∷ gives back)) (sym (length-gives front)) ∙ past (gives front)
    where
      past : (gs : List Given) → slice_get (gs ++ g ∷ gives back) (length gs) ≡ Some g
      past [] = refl
      past (y ∷ gs) = past gs

  -- what is closed isn't open
  pub open-call : (k : Kind) (earlier : List Call) (x : Step) → (is_entry_of k x.action ≡ true → is_closed earlier (T x.path) ≡ true)
      → on_given (λ g. kind_eq g.kind k && not (is_closed earlier g.token)) (given_by (call_at T x)) ≡ false
  open-call k earlier x h = by (is_entry_of k x.action) refl
    where
      root : (k : Kind) (b : Bool) (r t : ℕ) → kind_eq k Directory ≡ false
          → on_given (λ g. kind_eq g.kind k && not (is_closed earlier g.token))
          (given_by (cond b (OpenRoot r t) (OpenDirectory x.path (T (parent x.path)) r t))) ≡ false
      root File true r t e = refl
      root File false r t e = refl
      root Directory b r t e = absurd (true≢false e)

      other : (k l : Kind) → kind_eq k l ≡ false → kind_eq l k ≡ false
      other File File e = e
      other File Directory e = refl
      other Directory File e = refl
      other Directory Directory e = e

      none : (a : Action) → is_entry_of k a ≡ false
          → on_given (λ g. kind_eq g.kind k && not (is_closed earlier g.token)) (given_by (call_by T x.path a)) ≡ false
      none (Delete r) e = refl
      none (Open Directory r) e = root k (is_root x.path) r (T x.path) e
      none (Open File r) e = ap (λ b. b && not (is_closed earlier (T x.path))) (other k File e)
      none (Add Directory) e = ap (λ b. b && not (is_closed earlier (T x.path))) (other k Directory e)
      none (Add File) e = ap (λ b. b && not (is_closed earlier (T x.path))) (other k File e)
      none (Change Directory c) e = refl
      none (Change File c) e = refl
      none (Text s t) e = refl
      none (Close Directory c) e = refl
      none (Close File c) e = refl

      by : (b : Bool) → is_entry_of k x.action ≡ b
          → on_given (λ g. kind_eq g.kind k && not (is_closed earlier g.token)) (given_by (call_at T x)) ≡ false
      by true e =
          let g = gives_at k x e in
          ap (on_given (λ g. kind_eq g.kind k && not (is_closed earlier g.token))) g.is_found
          ∙ ap (λ t. kind_eq g.found.kind k && not (is_closed earlier t)) g.token
          ∙ ap (λ b. kind_eq g.found.kind k && not b) (h e) ∙ and-false (kind_eq g.found.kind k)
      by false e = none x.action e

  -- ---- tests on one step's call

  -- what asks for a path says nothing of another call, and of a call that it asks for whether that has the path
  no : (p q : Path) → false ≡ (path_eq q p && false)
  no p q = sym (and-false (path_eq q p))

  yes : (p q : Path) → path_eq q p ≡ (path_eq q p && true)
  yes p q = sym (and-true (path_eq q p))

  module _ (p : Path) (tells : Tells T p) where
    -- a close, a text and a change of a directory, each of the token
    token_tests : (q : Path) (a : Action)
        → (closes (T p) (call_by T q a) ≡ (path_eq q p && is_close a))
        × (applies_text (T p) (call_by T q a) ≡ (path_eq q p && is_text a))
        × (changes_dir (T p) (call_by T q a) ≡ (path_eq q p && is_change_of Directory a))
    token_tests q (Delete r) = (no p q, no p q, no p q)
    token_tests [] (Open Directory r) = (no p [], no p [], no p [])
    token_tests (n ∷ q) (Open Directory r) = (no p (n ∷ q), no p (n ∷ q), no p (n ∷ q))
    token_tests q (Open File r) = (no p q, no p q, no p q)
    token_tests q (Add Directory) = (no p q, no p q, no p q)
    token_tests q (Add File) = (no p q, no p q, no p q)
    token_tests q (Change Directory c) = (no p q, no p q, tells q ∙ yes p q)
    token_tests q (Change File c) = (no p q, no p q, no p q)
    token_tests q (Text s t) = (no p q, tells q ∙ yes p q, no p q)
    token_tests q (Close Directory c) = (tells q ∙ yes p q, no p q, no p q)
    token_tests q (Close File c) = (tells q ∙ yes p q, no p q, no p q)

    pub closes-call : (x : Step) → closes (T p) (call_at T x) ≡ has is_close p x
    closes-call x = (token_tests x.path x.action).0

    pub applies_text-call : (x : Step) → applies_text (T p) (call_at T x) ≡ has is_text p x
    applies_text-call x = (token_tests x.path x.action).1

    pub changes_dir-call : (x : Step) → changes_dir (T p) (call_at T x) ≡ has (is_change_of Directory) p x
    changes_dir-call x = (token_tests x.path x.action).2

    -- what is opened below the token is a subdirectory of the path
    pub sub-given : (x : Step) → on_given (opens_below (T p)) (given_by (call_at T x)) ≡ true → IsSubdirectory p x
    sub-given x h = by x.action refl h
      where
        above : nat_eq (T (parent x.path)) (T p) ≡ true → parent x.path ≡ p
        above e = same_path (parent x.path) p (sym (tells (parent x.path)) ∙ e)

        by : (a : Action) → x.action ≡ a → on_given (opens_below (T p)) (given_by (call_by T x.path a)) ≡ true → IsSubdirectory p x
        by (Delete r) e h = absurd (true≢false (sym h))
        by (Open Directory r) e h = root (is_root x.path) refl h
          where
            root : (b : Bool) → is_root x.path ≡ b
                → on_given (opens_below (T p))
                (given_by (cond b (OpenRoot r (T x.path)) (OpenDirectory x.path (T (parent x.path)) r (T x.path)))) ≡ true
                → IsSubdirectory p x
            root true q h = absurd (true≢false (sym h))
            root false q h = record { entry = ap (is_entry_of Directory) e; above = above h; not_root = λ z. q }
        by (Open File r) e h = absurd (true≢false (sym h))
        by (Add Directory) e h =
            record
            { entry = ap (is_entry_of Directory) e; above = above h; not_root = λ z. absurd (true≢false (sym z ∙ ap is_root_action e)) }
        by (Add File) e h = absurd (true≢false (sym h))
        by (Change Directory c) e h = absurd (true≢false (sym h))
        by (Change File c) e h = absurd (true≢false (sym h))
        by (Text s t) e h = absurd (true≢false (sym h))
        by (Close Directory c) e h = absurd (true≢false (sym h))
        by (Close File c) e h = absurd (true≢false (sym h))

    -- the test on a given, and a second one where it holds
    pub open_below-call : (f : Given → Bool) (x : Step) → (IsSubdirectory p x → on_given f (given_by (call_at T x)) ≡ false)
        → on_given (λ g. opens_below (T p) g && f g) (given_by (call_at T x)) ≡ false
    open_below-call f x n = by (given_by (call_at T x)) (λ e. n (sub-given x e))
      where
        by : (o : Option Given) → (on_given (opens_below (T p)) o ≡ true → on_given f o ≡ false)
            → on_given (λ g. opens_below (T p) g && f g) o ≡ false
        by None k = refl
        by (Some g) k = each (opens_below (T p) g) (f g) k
          where
            each : (a b : Bool) → (a ≡ true → b ≡ false) → (a && b) ≡ false
            each true b k = k refl
            each false b k = refl

    -- so says the other test of it
    pub opens_subdirectory-call : (x : Step)
        → opens_subdirectory (T p) (call_at T x) ≡ on_given (opens_below (T p)) (given_by (call_at T x))
    opens_subdirectory-call x = refl

  -- a delete and an entry, each of the path; no step's call is the last
  path_tests : (p q : Path) (a : Action)
      → (deletes p (call_by T q a) ≡ (path_eq q p && is_delete a))
      × (opens_entry p (call_by T q a) ≡ (path_eq q p && is_entry a))
      × (is_last (call_by T q a) ≡ false)
  path_tests p q (Delete r) = (yes p q, no p q, refl)
  path_tests p [] (Open Directory r) = (no p [], yes p [], refl)
  path_tests p (n ∷ q) (Open Directory r) = (no p (n ∷ q), yes p (n ∷ q), refl)
  path_tests p q (Open File r) = (no p q, yes p q, refl)
  path_tests p q (Add Directory) = (no p q, yes p q, refl)
  path_tests p q (Add File) = (no p q, yes p q, refl)
  path_tests p q (Change Directory c) = (no p q, no p q, refl)
  path_tests p q (Change File c) = (no p q, no p q, refl)
  path_tests p q (Text s t) = (no p q, no p q, refl)
  path_tests p q (Close Directory c) = (no p q, no p q, refl)
  path_tests p q (Close File c) = (no p q, no p q, refl)

  pub deletes-call : (p : Path) (x : Step) → deletes p (call_at T x) ≡ has is_delete p x
  deletes-call p x = (path_tests p x.path x.action).0

  pub opens_entry-call : (p : Path) (x : Step) → opens_entry p (call_at T x) ≡ has is_entry p x
  opens_entry-call p x = (path_tests p x.path x.action).1

  pub is_last-call : (x : Step) → is_last (call_at T x) ≡ false
  is_last-call x = (path_tests x.path x.path x.action).2

-- the last that passes the test is the one picked
pub last_pick : (f : Given → Bool) (acc : Option ℕ) (xs : List Given) (g : Given) (ys : List Given) → f g ≡ true → list_any f ys ≡ false
    → fold (λ t x. cond (f x) (Some x.token) t) acc (xs ++ g ∷ ys) ≡ Some g.token
last_pick f acc (x ∷ xs) g ys h k = last_pick f (cond (f x) (Some x.token) acc) xs g ys h k
last_pick f acc [] g ys h k =
    ap (λ b. fold (λ t x. cond (f x) (Some x.token) t) (cond b (Some g.token) acc) ys) h ∙ rest ys (Some g.token) k
  where
    rest : (ys : List Given) (o : Option ℕ) → list_any f ys ≡ false → fold (λ t x. cond (f x) (Some x.token) t) o ys ≡ o
    rest [] o k = refl
    rest (y ∷ ys) o k = by (f y) refl k (rest ys o)
      where
        by : (b : Bool) → f y ≡ b → (b || list_any f ys) ≡ false
            → (list_any f ys ≡ false → fold (λ t x. cond (f x) (Some x.token) t) o ys ≡ o)
            → fold (λ t x. cond (f x) (Some x.token) t) (cond b (Some y.token) o) ys ≡ o
        by true e k ih = absurd (true≢false k)
        by false e k ih = ih k
