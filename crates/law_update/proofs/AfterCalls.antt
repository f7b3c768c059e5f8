-- Calls and steps: a drive's calls, read with paths in the place of tokens, are its steps. So after its first calls each path is as its
-- own actions say.
use Rattle.std.proofs.Common.{◌≡◌, ℕ, suc, Bool, true, false, ◌||◌, List, [], ◌∷◌, ◌++◌, refl, sym, ◌∙◌, ap, true≢false}
use Rattle.std.proofs.Common.{append_assoc, append-nil, subst}
use Rattle.std.specs.Prelude.{Option, Some, None, cond, map, slice_get, option_map, length, filter}
use Rattle.std.specs.List.{list_any, cons_option}
use Rattle.std.proofs.lemmas.List.{map-append}
use Rattle.std.proofs.lemmas.Option.{none-some, same_Some, slice_get-map}
use Rattle.std.proofs.lemmas.List.Elements.{filter_map-append}
use Rattle.svn_lists.proofs.Every.{all_part}
use Rattle.svn_lists.proofs.Somewhere.{any_implied}
use Rattle.svn_types.specs.Names.{Path}
use Rattle.svn_types.specs.Paths.{path_eq, parent, is_root}
use Rattle.svn_types.specs.declared.kind.Kind.TheVariants.{File, Directory}
use Rattle.svn_types.proofs.PathLemmas.{same_path}
use Rattle.svn_editor.specs.declared.mode.Mode.{Mode}
use Rattle.svn_editor.specs.Steps.{Action, Delete, Open, Add, Change, Text, Close, Step, step_of, steps_after, steps_of, target_of}
use Rattle.svn_editor.specs.declared.call.Call.{Call}
use Rattle.svn_editor.specs.Calls.{Given, given_by, all_given, given, given_path, path_of}
use Rattle.svn_editor.specs.declared.call.Call.TheVariants.{OpenRoot, OpenDirectory, CloseEdit, SetTargetRevision}
use Rattle.svn_model.specs.Follow.{DriveInput}
use Rattle.svn_model.specs.Drive.{token_of, call_of, opened_after, numbered}
use Rattle.svn_model.specs.Nodes.{WorkingCopy}
use Rattle.svn_model.specs.Effects.{step_effect, read_effect, effect, after_from, after}
use Rattle.law_drive.proofs.Courses.{is_inner, is_plain, is_entry, is_entry_of, entry_of_is_entry, AllOf, course_of, course_plain}
use Rattle.law_drive.proofs.Courses.{begun_entry, Place, deleting, entering, adding, inside, place_of}
use Rattle.law_update.proofs.AfterSteps.{after_steps, stands_after}
use Rattle.std.proofs.Math.Bool.{or-false}
use Rattle.std.proofs.lemmas.Bool.{or_left, or_right}
use Rattle.std.proofs.lemmas.List.Folds.{list_any-append}
use Rattle.svn_model.specs.Steps.{IsDriveOf, path_actions}
use Rattle.law_update.proofs.Described.{Setting}
use Rattle.law_update.proofs.States.{is_at, actions_at, state, step_cut}
use Rattle.law_drive.proofs.Tokens.{is_opened, opened_last}

-- ---- the paths of the tokens

abbrev pub opened_from : List Path → List Step → List Path
opened_from opened [] = opened
opened_from opened (s ∷ steps) = opened_from (opened_after opened s.path s.action) steps

-- the earlier calls have given the tokens of these paths
abbrev pub GivesPaths : List Call → List Path → Type 0
GivesPaths earlier opened = map (λ (g : Given). g.path) (all_given earlier) ≡ opened

find_path : (opened : List Path) (p : Path) → is_opened opened p ≡ true → slice_get opened (token_of opened p) ≡ Some p
find_path [] p h = absurd (true≢false (sym h))
find_path (q ∷ opened) p h = by (path_eq p q) refl h (find_path opened p)
  where
    by : (b : Bool) → path_eq p q ≡ b → (b || is_opened opened p) ≡ true
        → (is_opened opened p ≡ true → slice_get opened (token_of opened p) ≡ Some p)
        → slice_get (q ∷ opened) (cond b 0 (suc (token_of opened p))) ≡ Some p
    by true e h ih = ap Some (sym (same_path p q e))
    by false e h ih = ih h

-- the path of a token
pub path_of-token : (earlier : List Call) (opened : List Path) → GivesPaths earlier opened → (p : Path) → is_opened opened p ≡ true
    → path_of earlier (token_of opened p) ≡ p
path_of-token earlier opened g p h =
    by (given earlier (token_of opened p))
    (sym (slice_get-map (λ (g : Given). g.path) (all_given earlier) (token_of opened p)) ∙ ap (λ l. slice_get l (token_of opened p)) g
    ∙ find_path opened p h)
  where
    by : (o : Option Given) → option_map (λ (g : Given). g.path) o ≡ Some p → given_path o ≡ p
    by None e = absurd (none-some p e)
    by (Some k) e = same_Some k.path p e

-- ---- one call read

gives_more : (earlier : List Call) (opened : List Path) (c : Call) (p : Path) (a : Action) → GivesPaths earlier opened
    → map (λ (g : Given). g.path) (cons_option (given_by c) []) ≡ opened_after [] p a
    → GivesPaths (earlier ++ c ∷ []) (opened_after opened p a)
gives_more earlier opened c p a g e =
    ap (map (λ (x : Given). x.path)) (filter_map-append given_by earlier (c ∷ []))
    ∙ map-append (λ (x : Given). x.path) (all_given earlier) (cons_option (given_by c) [])
    ∙ (λ i. g i ++ e i) ∙ after a
  where
    after : (a : Action) → opened ++ opened_after [] p a ≡ opened_after opened p a
    after (Delete r) = append-nil opened
    after (Open k r) = refl
    after (Add k) = refl
    after (Change k x) = append-nil opened
    after (Text s t) = append-nil opened
    after (Close k x) = append-nil opened

pub gives_call : (earlier : List Call) (opened : List Path) (p : Path) (a : Action) → GivesPaths earlier opened
    → GivesPaths (earlier ++ call_of opened p a ∷ []) (opened_after opened p a)
gives_call earlier opened p a g = gives_more earlier opened (call_of opened p a) p a g (given_path_is a)
  where
    root : (p : Path) (n : ℕ)
        → map (λ (g : Given). g.path)
        (cons_option
        (given_by (cond (is_root p) (OpenRoot n (length opened)) (OpenDirectory p (token_of opened (parent p)) n (length opened))))
        []) ≡ p ∷ []
    root [] n = refl
    root (m ∷ p) n = refl

    given_path_is : (a : Action) → map (λ (g : Given). g.path) (cons_option (given_by (call_of opened p a)) []) ≡ opened_after [] p a
    given_path_is (Delete r) = refl
    given_path_is (Open Directory r) = root p r
    given_path_is (Open File r) = refl
    given_path_is (Add Directory) = refl
    given_path_is (Add File) = refl
    given_path_is (Change Directory x) = refl
    given_path_is (Change File x) = refl
    given_path_is (Text s t) = refl
    given_path_is (Close Directory x) = refl
    given_path_is (Close File x) = refl

pub step_of-call : (earlier : List Call) (opened : List Path) (p : Path) (a : Action) → GivesPaths earlier opened → is_plain a ≡ true
    → (is_inner a ≡ true → is_opened opened p ≡ true)
    → step_of earlier (call_of opened p a) ≡ Some (record { path = p; action = a })
step_of-call earlier opened p (Delete r) g i o = refl
step_of-call earlier opened [] (Open Directory r) g i o = refl
step_of-call earlier opened (m ∷ p) (Open Directory r) g i o = refl
step_of-call earlier opened p (Open File r) g i o = refl
step_of-call earlier opened p (Add Directory) g i o = refl
step_of-call earlier opened p (Add File) g i o = refl
step_of-call earlier opened p (Change Directory x) g i o =
    ap (λ q. Some (record { path = q; action = Change Directory x })) (path_of-token earlier opened g p (o refl))
step_of-call earlier opened p (Change File x) g i o =
    ap (λ q. Some (record { path = q; action = Change File x })) (path_of-token earlier opened g p (o refl))
step_of-call earlier opened p (Text s t) g i o =
    ap (λ q. Some (record { path = q; action = Text s t })) (path_of-token earlier opened g p (o refl))
step_of-call earlier opened p (Close Directory (Some c)) g i o = absurd (true≢false (sym i))
step_of-call earlier opened p (Close Directory None) g i o =
    ap (λ q. Some (record { path = q; action = Close Directory None })) (path_of-token earlier opened g p (o refl))
step_of-call earlier opened p (Close File x) g i o =
    ap (λ q. Some (record { path = q; action = Close File x })) (path_of-token earlier opened g p (o refl))

-- ---- a list of calls read

-- each step on an opened path comes after its opening
abbrev pub Ready : List Path → List Step → Type 0
Ready opened [] = Unit {0}
Ready opened (s ∷ steps) =
    (is_plain s.action ≡ true) × (is_inner s.action ≡ true → is_opened opened s.path ≡ true)
    × Ready (opened_after opened s.path s.action) steps

pub steps_after-append : (earlier xs ys : List Call)
    → steps_after earlier (xs ++ ys) ≡ steps_after earlier xs ++ steps_after (earlier ++ xs) ys
steps_after-append earlier [] ys = ap (λ e. steps_after e ys) (sym (append-nil earlier))
steps_after-append earlier (c ∷ xs) ys =
    by (step_of earlier c)
    (steps_after-append (earlier ++ c ∷ []) xs ys
    ∙ ap (λ e. steps_after (earlier ++ c ∷ []) xs ++ steps_after e ys) (append_assoc earlier (c ∷ []) xs))
  where
    by : (o : Option Step)
        → steps_after (earlier ++ c ∷ []) (xs ++ ys) ≡ steps_after (earlier ++ c ∷ []) xs ++ steps_after (earlier ++ c ∷ xs) ys
        → cons_option o (steps_after (earlier ++ c ∷ []) (xs ++ ys)) ≡ cons_option o (steps_after (earlier ++ c ∷ []) xs)
        ++ steps_after (earlier ++ c ∷ xs) ys
    by None e = e
    by (Some s) e = ap (λ (l : List Step). s ∷ l) e

pub effect-read : (mode : Mode) (earlier : List Call) (c : Call) (w : WorkingCopy) (x : Step) → step_of earlier c ≡ Some x
    → effect mode earlier c w ≡ step_effect mode (target_of earlier) (steps_of earlier) x w
effect-read mode earlier CloseEdit w x e = absurd (none-some x e)
effect-read mode earlier c w x e = ap (λ o. read_effect mode (target_of earlier) (steps_of earlier) o w) e

-- the earlier calls are those of the steps done, and have given the tokens of the opened paths
pub record ReadAs (d : DriveInput) (earlier : List Call) (opened : List Path) (done : List Step) : Type 0 where
  pub gives : GivesPaths earlier opened
  pub target : (more : List Call) → target_of (earlier ++ more) ≡ d.target
  pub steps : steps_of earlier ≡ done

-- the first call is no step's
pub read_begun : (d : DriveInput) → ReadAs d (SetTargetRevision d.target ∷ []) [] []
read_begun d = record { gives = refl; target = λ more. refl; steps = refl }

module _ (d : DriveInput) (earlier : List Call) (opened : List Path) (done : List Step) (x : Step) (steps : List Step)
    (r : ReadAs d earlier opened done) (ready : Ready opened (x ∷ steps)) where
  abbrev pub next_call : Call
  next_call = call_of opened x.path x.action

  -- the call of the next step is read as that step, does what it does, and may be added
  pub next_read : step_of earlier next_call ≡ Some x
  next_read = step_of-call earlier opened x.path x.action r.gives ready.0 ready.1

  pub next_effect : (w : WorkingCopy) → effect d.mode earlier next_call w ≡ step_effect d.mode d.target done x w
  next_effect w =
      effect-read d.mode earlier next_call w x next_read
      ∙ ap (λ n. step_effect d.mode n (steps_of earlier) x w) (sym (ap target_of (append-nil earlier)) ∙ r.target [])
      ∙ ap (λ e. step_effect d.mode d.target e x w) r.steps

  pub next_added : ReadAs d (earlier ++ next_call ∷ []) (opened_after opened x.path x.action) (done ++ x ∷ [])
  next_added = record {
    gives = gives_call earlier opened x.path x.action r.gives;
    target = λ more. ap target_of (append_assoc earlier (next_call ∷ []) more) ∙ r.target (next_call ∷ more);
    steps = steps_after-append [] earlier (next_call ∷ []) ∙ (λ i. r.steps i ++ cons_option (next_read i) []);
  }

-- the copy after the calls of some steps is the copy after the steps
pub after-numbered : (d : DriveInput) (earlier : List Call) (opened : List Path) (done steps : List Step) (w : WorkingCopy)
    → ReadAs d earlier opened done → Ready opened steps
    → after_from d.mode earlier w (numbered opened steps) ≡ after_steps d done w steps
after-numbered d earlier opened done [] w r ready = refl
after-numbered d earlier opened done (x ∷ steps) w r ready =
    let c = call_of opened x.path x.action in
    ap (λ v. after_from d.mode (earlier ++ c ∷ []) v (numbered (opened_after opened x.path x.action) steps))
    (next_effect d earlier opened done x steps r ready w)
    ∙ after-numbered d (earlier ++ c ∷ []) (opened_after opened x.path x.action) (done ++ x ∷ []) steps
    (step_effect d.mode d.target done x w)
    (next_added d earlier opened done x steps r ready) ready.2

-- ---- what is opened

still_opened : (opened : List Path) (q : Path) (a : Action) (p : Path) → is_opened opened p ≡ true
    → is_opened (opened_after opened q a) p ≡ true
still_opened opened q (Open k r) p h = list_any-append (path_eq p) opened (q ∷ []) ∙ ap (λ b. b || is_opened (q ∷ []) p) h
still_opened opened q (Add k) p h = list_any-append (path_eq p) opened (q ∷ []) ∙ ap (λ b. b || is_opened (q ∷ []) p) h
still_opened opened q a p h = h

entry_opens : (opened : List Path) (p : Path) (a : Action) → is_entry a ≡ true → is_opened (opened_after opened p a) p ≡ true
entry_opens opened p (Open k r) h = opened_last opened p
entry_opens opened p (Add k) h = opened_last opened p
entry_opens opened p a h = absurd (true≢false (sym h))

opened_done : (opened : List Path) (done : List Step) (p : Path) → (is_opened opened p || list_any is_entry (actions_at p done)) ≡ true
    → is_opened (opened_from opened done) p ≡ true
opened_done opened [] p h = sym (or-false (is_opened opened p)) ∙ h
opened_done opened (s ∷ done) p h =
    opened_done (opened_after opened s.path s.action) done p (by (is_opened opened p) (is_at p s) (is_entry s.action) refl refl refl h)
  where
    now : List Path
    now = opened_after opened s.path s.action

    by : (o x e : Bool) → is_opened opened p ≡ o → is_at p s ≡ x → is_entry s.action ≡ e
        → (o || list_any is_entry (map (λ (t : Step). t.action) (cond x (s ∷ filter (is_at p) done) (filter (is_at p) done)))) ≡ true
        → (is_opened now p || list_any is_entry (actions_at p done)) ≡ true
    by true x e q r u h = or_left (is_opened now p) (list_any is_entry (actions_at p done)) (still_opened opened s.path s.action p q)
    by false true true q r u h =
        or_left (is_opened now p) (list_any is_entry (actions_at p done))
        (ap (is_opened now) (sym (same_path s.path p r)) ∙ entry_opens opened s.path s.action u)
    by false true false q r u h =
        or_right (is_opened now p) (list_any is_entry (actions_at p done))
        (sym (ap (λ b. b || list_any is_entry (actions_at p done)) u) ∙ h)
    by false false e q r u h = or_right (is_opened now p) (list_any is_entry (actions_at p done)) h

-- ---- a drive's calls

module _ (d : DriveInput) (w : WorkingCopy) (setting : Setting d w) (late : Bool) where
  opened_before : (p : Path) (xs : List Action) (a : Action) → Place d p xs a → is_inner a ≡ true → list_any is_entry xs ≡ true
  opened_before p xs a (deleting r f e q) i = absurd (true≢false (sym i ∙ ap is_inner q))
  opened_before p xs a (adding k f e q) i = absurd (true≢false (sym i ∙ ap is_inner q))
  opened_before p xs a (entering k r f e q) i = absurd (true≢false (sym i ∙ ap is_inner q))
  opened_before p xs a (inside k z b q) i = any_implied (is_entry_of k) is_entry (entry_of_is_entry k) xs (begun_entry d p k xs b)

  opened_from-append : (opened : List Path) (xs ys : List Step) → opened_from opened (xs ++ ys) ≡ opened_from (opened_from opened xs) ys
  opened_from-append opened [] ys = refl
  opened_from-append opened (x ∷ xs) ys = opened_from-append (opened_after opened x.path x.action) xs ys

  pub ready : (done steps rest : List Step) → IsDriveOf d late (done ++ (steps ++ rest)) → Ready (opened_from [] done) steps
  ready done [] rest drive = tt
  ready done (s ∷ steps) rest drive = (
    all_part (λ a. is_plain a ≡ true) (actions_at s.path done) s.action (actions_at s.path (steps ++ rest))
        (subst (AllOf is_plain) (sym own) (course_plain d s.path (path_actions d s.path) (course_of d s.path))),
    λ i. opened_done [] done s.path
        (opened_before s.path (actions_at s.path done) s.action
        (place_of d s.path (path_actions d s.path) (course_of d s.path) (actions_at s.path done) s.action
        (actions_at s.path (steps ++ rest)) own) i),
    subst (λ o. Ready o steps) (opened_from-append [] done (s ∷ []))
        (ready (done ++ s ∷ []) steps rest (subst (IsDriveOf d late) (sym (append_assoc done (s ∷ []) (steps ++ rest))) drive)),
  )
    where
      own : actions_at s.path done ++ s.action ∷ actions_at s.path (steps ++ rest) ≡ path_actions d s.path
      own = step_cut d late done s (steps ++ rest) drive

  -- the copy after the calls of the first steps of a drive, path by path
  pub after-first : (steps rest : List Step) → IsDriveOf d late (steps ++ rest) → (p : Path)
      → after d.mode w (SetTargetRevision d.target ∷ numbered [] steps) p ≡ state d w steps p
  after-first steps rest drive p =
      ap (λ v. v p) (after-numbered d (SetTargetRevision d.target ∷ []) [] [] steps w (read_begun d) (ready [] steps rest drive))
      ∙ stands_after d w setting late [] steps rest drive w (λ q. refl) p
