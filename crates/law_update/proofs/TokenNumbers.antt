-- The calls of a drive, each by itself: a path's token is its place among all paths that the drive opens.
use Rattle.std.proofs.Common.{◌≡◌, ℕ, suc, Bool, true, false, ◌&&◌, ◌||◌, ◌⊎◌, List, [], ◌∷◌, ◌++◌, refl, sym, ◌∙◌, ap, subst, true≢false}
use Rattle.std.proofs.Common.{append_assoc, append-nil, inl, inr}
use Rattle.std.specs.Prelude.{cond, map, length, nat_eq, if◌then◌else◌}
use Rattle.std.specs.List.{list_any, AllByRecursion}
use Rattle.std.proofs.lemmas.Bool.{and_parts}
use Rattle.std.proofs.Math.Bool.{and-false, and-true, or-false}
use Rattle.std.proofs.lemmas.List.Folds.{list_any-append}
use Rattle.std.proofs.Math.Dec.{eqb-suc-zero, eqb-suc-suc, eqb-zero-suc}
use Rattle.svn_lists.proofs.Every.{all_map, all_right}
use Rattle.svn_lists.proofs.Somewhere.{any_implied, in_whole, none_any}
use Rattle.svn_types.specs.Names.{Path}
use Rattle.svn_types.specs.Paths.{path_eq, child, parent, is_root}
use Rattle.svn_types.specs.declared.kind.Kind.{Kind}
use Rattle.svn_types.specs.declared.kind.Kind.TheVariants.{File, Directory}
use Rattle.svn_types.proofs.NameLemmas.{Name}
use Rattle.svn_types.proofs.PathLemmas.{same_path, path_eq-same, path_eq-symm, path_cases, parent-child}
use Rattle.svn_editor.specs.Steps.{Action, Delete, Open, Add, Change, Text, Close, Step}
use Rattle.svn_editor.specs.declared.call.Call.{Call}
use Rattle.svn_editor.specs.declared.call.Call.TheVariants.{OpenRoot, DeleteEntry, AddDirectory, OpenDirectory, ChangeDirProp}
use Rattle.svn_editor.specs.declared.call.Call.TheVariants.{CloseDirectory, AddFile, OpenFile, ChangeFileProp, ApplyText, CloseFile}
use Rattle.svn_model.specs.Follow.{DriveInput}
use Rattle.svn_model.specs.Steps.{IsDriveOf, path_actions}
use Rattle.svn_model.specs.Drive.{token_of, call_of, opened_after, numbered}
use Rattle.svn_model.specs.Nodes.{WorkingCopy}
use Rattle.law_update.proofs.Described.{Setting}
use Rattle.law_update.proofs.AfterSteps.{same_kind}
use Rattle.law_update.proofs.States.{actions_at-drive}
use Rattle.law_drive.proofs.Courses.{is_entry, is_entry_of, entry_of_is_entry, is_inner, inner_of, precedes, AllOf, Course, nothing}
use Rattle.law_drive.proofs.Courses.{gone_only, touched, added, replaced, course_of}
use Rattle.law_update.proofs.StepOrder.{has_not, at_steps, has, Before, before_step, own_entry, root_entered, parent_done}
use Rattle.law_drive.proofs.Tokens.{is_opened, entered, entered-append, opened_more, token_first, token_stays}

-- ---- calls with tokens for paths

abbrev pub call_by : (Path → ℕ) → Path → Action → Call
call_by T p (Delete r) = DeleteEntry p r (T (parent p))
call_by T p (Open Directory base) = if is_root p then OpenRoot base (T p) else OpenDirectory p (T (parent p)) base (T p)
call_by T p (Open File base) = OpenFile p (T (parent p)) base (T p)
call_by T p (Add Directory) = AddDirectory p (T (parent p)) (T p)
call_by T p (Add File) = AddFile p (T (parent p)) (T p)
call_by T p (Change Directory change) = ChangeDirProp (T p) change.0 change.1
call_by T p (Change File change) = ChangeFileProp (T p) change.0 change.1
call_by T p (Text base_checksum text) = ApplyText (T p) base_checksum text
call_by T p (Close Directory checksum) = CloseDirectory (T p)
call_by T p (Close File checksum) = CloseFile (T p) checksum

abbrev pub call_at : (Path → ℕ) → Step → Call
call_at T s = call_by T s.path s.action

-- by what the next step opens
entered_next : (done : List Step) (s : Step) → opened_after (entered done) s.path s.action ≡ entered (done ++ s ∷ [])
entered_next done s =
    opened_more (entered done) s.path s.action ∙ ap (λ l. entered done ++ l) (sym (append-nil (opened_after [] s.path s.action)))
    ∙ sym (entered-append done (s ∷ []))

-- an entry opens its path
entered_entry : (s : Step) (steps : List Step) → is_entry s.action ≡ true → entered (s ∷ steps) ≡ s.path ∷ entered steps
entered_entry s steps h = each s.action h
  where
    each : (a : Action) → is_entry a ≡ true → opened_after [] s.path a ++ entered steps ≡ s.path ∷ entered steps
    each (Open k r) e = refl
    each (Add k) e = refl
    each a e = absurd (true≢false (sym e))

-- ---- tokens

-- a path is opened where it has an entry
pub is_opened-entered : (steps : List Step) (p : Path) → is_opened (entered steps) p ≡ list_any (has is_entry p) steps
is_opened-entered [] p = refl
is_opened-entered (s ∷ steps) p =
    list_any-append (path_eq p) (opened_after [] s.path s.action) (entered steps) ∙ each s.action
    ∙ ap (λ b. has is_entry p s || b) (is_opened-entered steps p)
  where
    opens : (path_eq p s.path || false) ≡ (path_eq s.path p && true)
    opens = or-false (path_eq p s.path) ∙ path_eq-symm p s.path ∙ sym (and-true (path_eq s.path p))

    each : (a : Action)
        → (list_any (path_eq p) (opened_after [] s.path a) || is_opened (entered steps) p)
        ≡ ((path_eq s.path p && is_entry a) || is_opened (entered steps) p)
    each (Delete r) = ap (λ b. b || is_opened (entered steps) p) (sym (and-false (path_eq s.path p)))
    each (Open k r) = ap (λ b. b || is_opened (entered steps) p) opens
    each (Add k) = ap (λ b. b || is_opened (entered steps) p) opens
    each (Change k x) = ap (λ b. b || is_opened (entered steps) p) (sym (and-false (path_eq s.path p)))
    each (Text b t) = ap (λ b. b || is_opened (entered steps) p) (sym (and-false (path_eq s.path p)))
    each (Close k x) = ap (λ b. b || is_opened (entered steps) p) (sym (and-false (path_eq s.path p)))

-- the token of a path is no other path's
abbrev pub Tells : (Path → ℕ) → Path → Type 0
Tells T p = (q : Path) → nat_eq (T q) (T p) ≡ path_eq q p

-- its token distinguishes an opened path from all others
pub tells_opened : (opened : List Path) (p : Path) → is_opened opened p ≡ true → Tells (token_of opened) p
tells_opened [] p h q = absurd (true≢false (sym h))
tells_opened (o ∷ opened) p h q = by (path_eq p o) (path_eq q o) refl refl h (λ k. tells_opened opened p k q)
  where
    by : (a b : Bool) → path_eq p o ≡ a → path_eq q o ≡ b → (a || is_opened opened p) ≡ true
        → (is_opened opened p ≡ true → nat_eq (token_of opened q) (token_of opened p) ≡ path_eq q p)
        → nat_eq (cond b 0 (suc (token_of opened q))) (cond a 0 (suc (token_of opened p))) ≡ path_eq q p
    by true true e f h ih = sym (ap (λ x. path_eq x p) (same_path q o f ∙ sym (same_path p o e)) ∙ path_eq-same p)
    by true false e f h ih = eqb-suc-zero (token_of opened q) ∙ sym (ap (path_eq q) (same_path p o e) ∙ f)
    by false true e f h ih = eqb-zero-suc (token_of opened p) ∙ sym (ap (λ x. path_eq x p) (same_path q o f) ∙ path_eq-symm o p ∙ e)
    by false false e f h ih = eqb-suc-suc (token_of opened q) (token_of opened p) ∙ ih h

-- ---- the calls of a drive

-- at the root a directory is opened, and nothing is deleted or added
abbrev pub is_root_action : Action → Bool
is_root_action (Delete r) = false
is_root_action (Open Directory r) = true
is_root_action (Open File r) = false
is_root_action (Add k) = false
is_root_action a = true

-- inner actions may be at the root
inner_at_root : (k : Kind) (a : Action) → inner_of k a ≡ true → is_root_action a ≡ true
inner_at_root k (Change l c) e = refl
inner_at_root k (Text s t) e = refl
inner_at_root k (Close l c) e = refl
inner_at_root k a e = absurd (true≢false (sym e))

-- steps whose entry is earlier come with that entry's token
any_entry : (k : Kind) (p : Path) (steps : List Step) → list_any (has (is_entry_of k) p) steps ≡ true
    → list_any (has is_entry p) steps ≡ true
any_entry k p =
    any_implied (has (is_entry_of k) p) (has is_entry p)
    (λ s h. let parts = and_parts (path_eq s.path p) (is_entry_of k s.action) h in
    ap (λ b. b && is_entry s.action) parts.0 ∙ entry_of_is_entry k s.action parts.1)

-- before an open or an add at a path there is none
pub none_twice : (d : DriveInput) (late : Bool) (t s : Step) → is_entry s.action ≡ true → Before d late t s → has is_entry s.path t ≡ false
none_twice d late t s h b = has_not is_entry s.path t (λ e. each t.action s.action h (b.1 e))
  where
    each : (x a : Action) → is_entry a ≡ true → precedes x a ≡ true → is_entry x ≡ false
    each (Delete r) a e q = refl
    each (Change k c) a e q = refl
    each (Text x y) a e q = refl
    each (Close k c) a e q = refl
    each (Open k r) (Open l v) e q = absurd (true≢false (sym q))
    each (Open k r) (Add l) e q = absurd (true≢false (sym q))
    each (Add k) (Delete v) e q = absurd (true≢false (sym e))
    each (Add k) (Open l v) e q = absurd (true≢false (sym q))
    each (Add k) (Add l) e q = absurd (true≢false (sym q))
    each (Add k) (Change l c) e q = absurd (true≢false (sym e))
    each (Add k) (Text x y) e q = absurd (true≢false (sym e))
    each (Add k) (Close l c) e q = absurd (true≢false (sym e))
    each (Open k r) a e q = absurd (true≢false (sym e))

module _ (d : DriveInput) (w : WorkingCopy) (setting : Setting d w) (late : Bool) where
  -- no other is at the root
  root_course : (l : List Action) → Course d [] l → AllOf is_root_action l
  root_course l nothing = tt
  root_course l (gone_only r f) = absurd (true≢false f)
  root_course l (touched k r {inner} z e b) = (
    by k (same_kind d w setting [] k z (root_entered d w setting)),
    all_map (λ a. inner_of k a ≡ true) (λ a. is_root_action a ≡ true) (inner_at_root k) inner b.of_kind,
  )
    where
      by : (k : Kind) → k ≡ Directory → is_root_action (Open k r) ≡ true
      by Directory q = refl
      by File q = absurd (differ q)
        where
          differ : File ≡ Directory → ⊥
          differ z = cc
  root_course l (added k z e b) = absurd (true≢false e)
  root_course l (replaced r k z e b) = absurd (true≢false e)

  -- so at each step of a drive
  pub root_actions : (all : List Step) → IsDriveOf d late all
      → AllByRecursion (λ x. is_root x.path ≡ true → is_root_action x.action ≡ true) all
  root_actions all drive =
      all_map (λ (x : Step). x.path ≡ [] → is_root_action x.action ≡ true) (λ x. is_root x.path ≡ true → is_root_action x.action ≡ true)
      (λ x h e. h (no_names x.path e)) all
      (at_steps is_root_action [] all
      (subst (AllOf is_root_action) (sym (actions_at-drive d late all drive [])) (root_course (path_actions d []) (course_of d []))))
    where
      no_names : (p : Path) → is_root p ≡ true → p ≡ []
      no_names [] e = refl
      no_names (n ∷ p) e = absurd (true≢false (sym e))

  module _ (done : List Step) (s : Step) (rest : List Step) (drive : IsDriveOf d late (done ++ s ∷ rest)) where
    abbrev all : List Step
    all = done ++ s ∷ rest

    abbrev T : Path → ℕ
    T = token_of (entered all)

    -- and at the next one
    pub at_root : is_root s.path ≡ true → is_root_action s.action ≡ true
    at_root =
        (all_right (λ x. is_root x.path ≡ true → is_root_action x.action ≡ true) done (s ∷ rest) (root_actions (done ++ s ∷ rest) drive)).0

    -- the directory above has been entered
    pub above_done : is_root s.path ≡ false → list_any (has (is_entry_of Directory) (parent s.path)) done ≡ true
    above_done h = by (path_cases s.path)
      where
        by : (s.path ≡ []) ⊎ ((q : Path) × (name : Name) × (s.path ≡ child q name))
            → list_any (has (is_entry_of Directory) (parent s.path)) done ≡ true
        by (inl r) = absurd (true≢false (sym (ap is_root r) ∙ h))
        by (inr c) =
            ap (λ q. list_any (has (is_entry_of Directory) q) done) (ap parent c.2 ∙ parent-child c.0 c.1)
            ∙ parent_done d w setting late done s rest drive c.0 c.1 c.2

    -- an entry among the steps done has its token, and it is known which path that is for
    token_done : (k : Kind) (p : Path) → list_any (has (is_entry_of k) p) done ≡ true → token_of (entered done) p ≡ T p
    token_done k p h =
        sym (token_stays (entered done) p (entered (s ∷ rest)) (is_opened-entered done p ∙ any_entry k p done h))
        ∙ ap (λ l. token_of l p) (sym (entered-append done (s ∷ rest)))

    -- what has been entered is distinguished from all others
    pub tells_done : (k : Kind) (p : Path) → list_any (has (is_entry_of k) p) done ≡ true → Tells T p
    tells_done k p h =
        tells_opened (entered all) p (is_opened-entered all p ∙ in_whole (has is_entry p) done (s ∷ rest) (any_entry k p done h))

    -- a step that opens or adds gives the next token
    pub token_next : is_entry s.action ≡ true → T s.path ≡ length (entered done)
    token_next h =
        ap (λ l. token_of l s.path) (entered-append done (s ∷ rest) ∙ ap (λ l. entered done ++ l) (entered_entry s rest h))
        ∙ token_first (entered done) s.path (entered rest)
        (is_opened-entered done s.path
        ∙ none_any (has is_entry s.path) done
        (all_map (λ (t : Step). Before d late t s) (λ t. has is_entry s.path t ≡ false) (λ t. none_twice d late t s h) done
        (before_step d late done s rest drive)))

    -- the token of the own path, and of the path above
    own_token : is_inner s.action ≡ true → token_of (entered done) s.path ≡ T s.path
    own_token i = let e = own_entry d late done s rest drive i in token_done e.kind s.path e.entered

    above_token : is_root_action s.action ≡ false → token_of (entered done) (parent s.path) ≡ T (parent s.path)
    above_token h = by (is_root s.path) refl
      where
        by : (b : Bool) → is_root s.path ≡ b → token_of (entered done) (parent s.path) ≡ T (parent s.path)
        by true e = absurd (true≢false (sym (at_root e) ∙ h))
        by false e = token_done Directory (parent s.path) (above_done e)

    -- the call of a step is the same with the numbers so far and with those of the whole
    pub one_call : call_of (entered done) s.path s.action ≡ call_by T s.path s.action
    one_call = each s.action refl
      where
        each : (a : Action) → s.action ≡ a → call_of (entered done) s.path a ≡ call_by T s.path a
        each (Delete r) e = ap (DeleteEntry s.path r) (above_token (ap is_root_action e))
        each (Open Directory r) e = by (is_root s.path) refl
          where
            by : (b : Bool) → is_root s.path ≡ b
                → cond b (OpenRoot r (length (entered done)))
                (OpenDirectory s.path (token_of (entered done) (parent s.path)) r (length (entered done)))
                ≡ cond b (OpenRoot r (T s.path)) (OpenDirectory s.path (T (parent s.path)) r (T s.path))
            by true q = ap (OpenRoot r) (sym (token_next (ap is_entry e)))
            by false q =
                λ i. OpenDirectory s.path (token_done Directory (parent s.path) (above_done q) i) r (sym (token_next (ap is_entry e)) i)
        each (Open File r) e = λ i. OpenFile s.path (above_token (ap is_root_action e) i) r (sym (token_next (ap is_entry e)) i)
        each (Add Directory) e = λ i. AddDirectory s.path (above_token (ap is_root_action e) i) (sym (token_next (ap is_entry e)) i)
        each (Add File) e = λ i. AddFile s.path (above_token (ap is_root_action e) i) (sym (token_next (ap is_entry e)) i)
        each (Change Directory c) e = ap (λ t. ChangeDirProp t c.0 c.1) (own_token (ap is_inner e))
        each (Change File c) e = ap (λ t. ChangeFileProp t c.0 c.1) (own_token (ap is_inner e))
        each (Text x t) e = ap (λ n. ApplyText n x t) (own_token (ap is_inner e))
        each (Close Directory c) e = ap CloseDirectory (own_token (ap is_inner e))
        each (Close File c) e = ap (λ n. CloseFile n c) (own_token (ap is_inner e))

  -- the calls of a drive are those of its steps, each by itself
  pub calls_apart : (done steps : List Step) → IsDriveOf d late (done ++ steps)
      → numbered (entered done) steps ≡ map (call_at (token_of (entered (done ++ steps)))) steps
  calls_apart done [] drive = refl
  calls_apart done (s ∷ steps) drive =
      let longer = append_assoc done (s ∷ []) steps in
      let more = calls_apart (done ++ s ∷ []) steps (subst (IsDriveOf d late) (sym longer) drive) in
      λ i. one_call done s steps drive i
      ∷ (ap (λ o. numbered o steps) (entered_next done s) ∙ more ∙ ap (λ l. map (call_at (token_of (entered l))) steps) longer) i
