-- The current file at a step of a drive: the step's own, where the step is inside a file and isn't late, and no other that has its text.
use Rattle.std.proofs.Common.{◌≡◌, ℕ, Bool, true, false, ◌&&◌, ◌||◌, List, [], ◌∷◌, ◌++◌, refl, sym, ◌∙◌, ap, subst, true≢false, eq-eqb}
use Rattle.std.specs.Prelude.{Option, Some, None, cond, map, nat_eq, fold}
use Rattle.std.proofs.Math.Bool.{and-true, or-true}
use Rattle.std.specs.List.{list_any, AllByRecursion}
use Rattle.std.proofs.lemmas.List.Folds.{list_any-append}
use Rattle.std.specs.Ordering.{is_gt}
use Rattle.std.specs.Cmp.Lexicographic.{slice_cmp}
use Rattle.std.proofs.lemmas.Bool.{eqb-true}
use Rattle.std.proofs.lemmas.Cmp.{tied_itself}
use Rattle.svn_lists.proofs.Every.{all_map, all_right}
use Rattle.svn_lists.proofs.Somewhere.{in_whole}
use Rattle.svn_lists.proofs.Tests.{false_from_clash}
use Rattle.svn_types.specs.Names.{Path}
use Rattle.svn_types.specs.Paths.{path_eq, parent, is_root}
use Rattle.svn_types.specs.declared.kind.Kind.TheVariants.{File, Directory}
use Rattle.svn_types.proofs.PathLemmas.{path_eq-same}
use Rattle.svn_editor.specs.Steps.{Action, Delete, Open, Add, Change, Text, Close, Step}
use Rattle.svn_editor.specs.declared.call.Call.{Call}
use Rattle.svn_editor.specs.declared.call.Call.TheVariants.{SetTargetRevision, OpenRoot, OpenDirectory}
use Rattle.svn_editor.specs.Calls.{current_after, current_file, applies_text, has_its_text}
use Rattle.svn_model.specs.Steps.{Named, End, mark_cmp, key_of, comes_after, has_text, is_text, IsDriveOf}
use Rattle.svn_editor.specs.Calls.{number_eq}
use Rattle.svn_model.specs.Follow.{DriveInput}
use Rattle.svn_model.specs.Drive.{token_of}
use Rattle.svn_model.specs.Nodes.{WorkingCopy}
use Rattle.law_drive.proofs.Keys.{keys_total, same_place}
use Rattle.law_update.proofs.Described.{Setting}
use Rattle.law_update.proofs.FirstSteps.{main_key, entry_is_main}
use Rattle.law_drive.proofs.Courses.{is_entry_of, entry_of_is_entry, is_close_of, is_inner, inner_of, precedes}
use Rattle.law_update.proofs.StepOrder.{has_not, has, has_parts, Found, find, any_path_actions, Before, before_step, after_step}
use Rattle.law_update.proofs.StepOrder.{own_entry, Within, is_text_closed}
use Rattle.law_update.proofs.TokenNumbers.{call_by, call_at, Tells, tells_done}
use Rattle.law_update.proofs.CallTests.{either_call}
use Rattle.law_update.proofs.OpenDirectories.{drive_there, between}
use Rattle.law_drive.proofs.Tokens.{entered}

-- ---- the fold over the steps' calls

-- a change of a file or its text
abbrev keeps_file : Action → Bool
keeps_file (Change File c) = true
keeps_file (Text s t) = true
keeps_file _ = false

module _ (T : Path → ℕ) where
  abbrev current_by : Option ℕ → List Step → Option ℕ
  current_by cur xs = fold current_after cur (map (call_at T) xs)

  -- from a step on that leaves one file current, whatever was
  current_from : (o : Option ℕ) (e : Step) (back : List Step) → ((cur : Option ℕ) → current_after cur (call_at T e) ≡ o)
      → (front : List Step) (cur : Option ℕ) → current_by cur (front ++ e ∷ back) ≡ current_by o back
  current_from o e back h [] cur = ap (λ c. current_by c back) (h cur)
  current_from o e back h (x ∷ front) cur = current_from o e back h front (current_after cur (call_at T x))

  -- an entry of a file makes it current, and a close leaves none
  entry_current : (e : Step) → is_entry_of File e.action ≡ true → (cur : Option ℕ) → current_after cur (call_at T e) ≡ Some (T e.path)
  entry_current e h cur = by e.action h
    where
      by : (a : Action) → is_entry_of File a ≡ true → current_after cur (call_by T e.path a) ≡ Some (T e.path)
      by (Open File r) h = refl
      by (Add File) h = refl
      by a h = absurd (true≢false (sym h))

  close_current : (e : Step) → is_close_of File e.action ≡ true → (cur : Option ℕ) → current_after cur (call_at T e) ≡ None
  close_current e h cur = by e.action h
    where
      by : (a : Action) → is_close_of File a ≡ true → current_after cur (call_by T e.path a) ≡ None
      by (Close File c) h = refl
      by a h = absurd (true≢false (sym h))

  -- changes and the text of the current file leave it current
  stays_current : (p : Path) (ys : List Step) → AllByRecursion (λ y. (y.path ≡ p) × (keeps_file y.action ≡ true)) ys
      → current_by (Some (T p)) ys ≡ Some (T p)
  stays_current p [] h = refl
  stays_current p (y ∷ ys) h = ap (λ c. current_by c ys) (by y.action h.0.1) ∙ stays_current p ys h.1
    where
      kept : cond (nat_eq (T p) (T y.path)) (Some (T p)) None ≡ Some (T p)
      kept = ap (λ b. cond b (Some (T p)) None) (eq-eqb (T p) (T y.path) (ap T (sym h.0.0)))

      by : (a : Action) → keeps_file a ≡ true → current_after (Some (T p)) (call_by T y.path a) ≡ Some (T p)
      by (Change File c) k = kept
      by (Text s t) k = kept
      by a k = absurd (true≢false (sym k))

  -- a file that isn't current becomes so by its opening alone
  not_current : (q : Path) → Tells T q → (ys : List Step) → AllByRecursion (λ y. has (is_entry_of File) q y ≡ false) ys → (cur : Option ℕ)
      → number_eq cur (Some (T q)) ≡ false
      → number_eq (current_by cur ys) (Some (T q)) ≡ false
  not_current q tells [] h cur k = k
  not_current q tells (y ∷ ys) h cur k = not_current q tells ys h.1 (current_after cur (call_at T y)) (by y.action h.0)
    where
      other : (path_eq y.path q && true) ≡ false → nat_eq (T y.path) (T q) ≡ false
      other e = tells y.path ∙ sym (and-true (path_eq y.path q)) ∙ e

      kept : (b : Bool) → number_eq (cond b cur None) (Some (T q)) ≡ false
      kept true = k
      kept false = refl

      by : (a : Action) → (path_eq y.path q && is_entry_of File a) ≡ false
          → number_eq (current_after cur (call_by T y.path a)) (Some (T q)) ≡ false
      by (Delete r) e = refl
      by (Open Directory r) e =
          either_call (λ c. number_eq (current_after cur c) (Some (T q))) false (is_root y.path) (OpenRoot r (T y.path))
          (OpenDirectory y.path (T (parent y.path)) r (T y.path)) refl refl
      by (Open File r) e = other e
      by (Add Directory) e = refl
      by (Add File) e = other e
      by (Change Directory c) e = refl
      by (Change File c) e = kept (number_eq cur (Some (T y.path)))
      by (Text s t) e = kept (number_eq cur (Some (T y.path)))
      by (Close Directory c) e = refl
      by (Close File c) e = refl

  -- a test on the calls of steps, as one on the steps
  any-map : (f : Call → Bool) (xs : List Step) → list_any f (map (call_at T) xs) ≡ list_any (λ x. f (call_at T x)) xs
  any-map f [] = refl
  any-map f (x ∷ xs) = ap (λ b. f (call_at T x) || b) (any-map f xs)

  -- a call that gives a token its text is a text's
  text_given : (t : ℕ) (x : Step) → applies_text t (call_at T x) ≡ true → (T x.path ≡ t) × (is_text x.action ≡ true)
  text_given t x h = by x.action h
    where
      by : (a : Action) → applies_text t (call_by T x.path a) ≡ true → (T x.path ≡ t) × (is_text a ≡ true)
      by (Text s y) h = (eqb-true (T x.path) t h, refl)
      by (Open Directory r) h =
          absurd (true≢false
          (sym h ∙ either_call (applies_text t) false (is_root x.path) (OpenRoot r (T x.path))
          (OpenDirectory x.path (T (parent x.path)) r (T x.path)) refl refl))
      by (Delete r) h = absurd (true≢false (sym h))
      by (Open File r) h = absurd (true≢false (sym h))
      by (Add Directory) h = absurd (true≢false (sym h))
      by (Add File) h = absurd (true≢false (sym h))
      by (Change Directory c) h = absurd (true≢false (sym h))
      by (Change File c) h = absurd (true≢false (sym h))
      by (Close Directory c) h = absurd (true≢false (sym h))
      by (Close File c) h = absurd (true≢false (sym h))

-- ---- at a step of a drive

-- the close of a file that has a text is where the text does
text_key : (d : DriveInput) (late : Bool) (x u : Step) → is_text x.action ≡ true → is_close_of File u.action ≡ true → u.path ≡ x.path
    → has_text d x.path ≡ true → key_of d late u ≡ key_of d late x
text_key d late x u h k e t =
    ap (λ a. key_of d late (record { path = u.path; action = a })) (close_is u.action k).1
    ∙ ap (λ p. cond (late && has_text d p) (End ∷ map Named p) (map Named p)) e
    ∙ ap (λ b. cond (late && b) (End ∷ map Named x.path) (map Named x.path)) t ∙ both late ∙ sym (text_is x.action h)
  where
    close_is : (a : Action) → is_close_of File a ≡ true → (c : Option (List ℕ)) × (a ≡ Close File c)
    close_is (Close File c) q = (c, refl)
    close_is a q = absurd (true≢false (sym q))

    both : (b : Bool) → cond (b && true) (End ∷ map Named x.path) (map Named x.path) ≡ cond b (End ∷ map Named x.path) (map Named x.path)
    both true = refl
    both false = refl

    text_is : (a : Action) → is_text a ≡ true
        → key_of d late (record { path = x.path; action = a }) ≡ cond late (End ∷ map Named x.path) (map Named x.path)
    text_is (Text s y) q = refl
    text_is a q = absurd (true≢false (sym q))

module _ (d : DriveInput) (w : WorkingCopy) (setting : Setting d w) (late : Bool) (done : List Step) (s : Step) (rest : List Step)
    (drive : IsDriveOf d late (done ++ s ∷ rest)) where
  abbrev T : Path → ℕ
  T = token_of (entered (done ++ s ∷ rest))

  abbrev earlier : List Call
  earlier = SetTargetRevision d.target ∷ map (call_at T) done

  -- the file of a step that isn't late is the current one
  pub current_here : is_inner s.action ≡ true → key_of d late s ≡ map Named s.path → list_any (has (is_entry_of File) s.path) done ≡ true
      → current_file earlier ≡ Some (T s.path)
  current_here i k h = by (find (has (is_entry_of File) s.path) done h)
    where
      by : Found (has (is_entry_of File) s.path) done → current_file earlier ≡ Some (T s.path)
      by f =
          ap (current_by T None) (sym f.cut)
          ∙ current_from T (Some (T f.here.path)) f.here f.back (entry_current T f.here parts.1) f.front None
          ∙ ap (λ p. current_by T (Some (T p)) f.back) parts.0
          ∙ stays_current T s.path f.back
          (all_map (λ (y : Step). Before d late f.here y × Before d late y s)
          (λ y. (y.path ≡ s.path) × (keeps_file y.action ≡ true)) each f.back
          (between d late done s rest drive f.front f.here f.back f.cut))
        where
          parts : (f.here.path ≡ s.path) × (is_entry_of File f.here.action ≡ true)
          parts = has_parts (is_entry_of File) s.path f.here f.passes

          same_key : key_of d late f.here ≡ key_of d late s
          same_key =
              main_key d late f.here.path f.here.action (entry_is_main f.here.action (entry_of_is_entry File f.here.action parts.1))
              ∙ ap (map Named) parts.0 ∙ sym k

          each : (y : Step) → Before d late f.here y × Before d late y s → (y.path ≡ s.path) × (keeps_file y.action ≡ true)
          each y b = (place, kept f.here.action y.action parts.1 (b.0.1 (parts.0 ∙ sym place)) (b.1.1 place))
            where
              place : y.path ≡ s.path
              place = same_place d late y s b.1.0 (ap (λ x. is_gt (slice_cmp mark_cmp x (key_of d late y))) (sym same_key) ∙ b.0.0)

              inner_kept : (a : Action) → inner_of File a ≡ true → precedes a s.action ≡ true → keeps_file a ≡ true
              inner_kept (Change File c) q r = refl
              inner_kept (Text x t) q r = refl
              inner_kept (Close l c) q r = absurd (true≢false (sym r))
              inner_kept a q r = absurd (true≢false (sym q))

              kept : (e a : Action) → is_entry_of File e ≡ true → precedes e a ≡ true → precedes a s.action ≡ true → keeps_file a ≡ true
              kept (Open File v) a q r t = inner_kept a r t
              kept (Add File) a q r t = inner_kept a r t
              kept b a q r t = absurd (true≢false (sym q))

  -- a file that is closed isn't current
  closed_not_current : (q : Path) → Tells T q → list_any (has (is_close_of File) q) done ≡ true
      → number_eq (current_file earlier) (Some (T q)) ≡ false
  closed_not_current q tells h = by (find (has (is_close_of File) q) done h)
    where
      by : Found (has (is_close_of File) q) done → number_eq (current_file earlier) (Some (T q)) ≡ false
      by f =
          ap (λ c. number_eq c (Some (T q)))
          (ap (current_by T None) (sym f.cut) ∙ current_from T None f.here f.back (close_current T f.here parts.1) f.front None)
          ∙ not_current T q tells f.back
          (all_map (λ (y : Step). Before d late f.here y × Before d late y s) (λ y. has (is_entry_of File) q y ≡ false) each f.back
          (between d late done s rest drive f.front f.here f.back f.cut)) None refl
        where
          parts : (f.here.path ≡ q) × (is_close_of File f.here.action ≡ true)
          parts = has_parts (is_close_of File) q f.here f.passes

          last : (a b : Action) → is_close_of File a ≡ true → precedes a b ≡ true → ⊥
          last (Close l c) b e k = true≢false (sym k)
          last a b e k = true≢false (sym e)

          each : (y : Step) → Before d late f.here y × Before d late y s → has (is_entry_of File) q y ≡ false
          each y b = has_not (is_entry_of File) q y (λ e. absurd (last f.here.action y.action parts.1 (b.0.1 (parts.0 ∙ sym e))))

  -- where the current file has its text, the step closes it
  pub record TextOpen : Type 0 where
    pub current : current_file earlier ≡ Some (T s.path)
    pub closes : is_close_of File s.action ≡ true

  -- of the files with a text only the one that the step closes can be current
  pub text_open : has_its_text earlier (current_file earlier) ≡ true → TextOpen
  text_open h = by (current_file earlier) refl h
    where
      by : (o : Option ℕ) → current_file earlier ≡ o → has_its_text earlier o ≡ true → TextOpen
      by None e h = absurd (true≢false (sym h))
      by (Some t) e h = at (find (λ x. applies_text t (call_at T x)) done (sym (any-map T (applies_text t) done) ∙ h))
        where
          at : Found (λ x. applies_text t (call_at T x)) done → TextOpen
          at f = record {
            current = e ∙ ap Some (sym text.0) ∙ ap (λ p. Some (T p)) place;
            closes = after_text f.here.action s.action text.1 (next.1 place);
          }
            where
              x : Step
              x = f.here

              text : (T f.here.path ≡ t) × (is_text f.here.action ≡ true)
              text = text_given T t f.here f.passes

              inner : (a : Action) → is_text a ≡ true → is_inner a ≡ true
              inner (Text y z) q = refl
              inner a q = absurd (true≢false (sym q))

              after_text : (a b : Action) → is_text a ≡ true → precedes a b ≡ true → is_close_of File b ≡ true
              after_text (Text y z) (Close l c) q r = r
              after_text (Delete v) b q r = absurd (true≢false (sym q))
              after_text (Open l v) b q r = absurd (true≢false (sym q))
              after_text (Add l) b q r = absurd (true≢false (sym q))
              after_text (Change l c) b q r = absurd (true≢false (sym q))
              after_text (Close l c) b q r = absurd (true≢false (sym q))
              after_text (Text y z) a q r = absurd (true≢false (sym r))

              entry : Within d late f.front f.here (f.back ++ s ∷ rest) (drive_there d late done s rest drive f.front f.here f.back f.cut)
              entry =
                  own_entry d late f.front f.here (f.back ++ s ∷ rest) (drive_there d late done s rest drive f.front f.here f.back f.cut)
                  (inner f.here.action text.1)

              entry_done : list_any (has (is_entry_of entry.kind) f.here.path) done ≡ true
              entry_done =
                  ap (list_any (has (is_entry_of entry.kind) f.here.path)) (sym f.cut)
                  ∙ in_whole (has (is_entry_of entry.kind) f.here.path) f.front (f.here ∷ f.back) entry.entered

              tells : Tells T f.here.path
              tells = tells_done d w setting late done s rest drive entry.kind f.here.path entry_done

              next : Before d late f.here s
              next =
                  (all_right (λ y. Before d late y s) f.front (f.here ∷ f.back)
                  (subst (AllByRecursion (λ y. Before d late y s)) (sym f.cut) (before_step d late done s rest drive))).0

              has_one : list_any (has is_text f.here.path) (done ++ s ∷ rest) ≡ true
              has_one =
                  in_whole (has is_text f.here.path) done (s ∷ rest)
                  (ap (list_any (has is_text f.here.path)) (sym f.cut) ∙ list_any-append (has is_text f.here.path) f.front (f.here ∷ f.back)
                  ∙ ap (λ b. list_any (has is_text f.here.path) f.front || (b || list_any (has is_text f.here.path) f.back))
                  (ap (λ b. b && is_text f.here.action) (path_eq-same f.here.path) ∙ text.1)
                  ∙ or-true (list_any (has is_text f.here.path) f.front))

              open_yet : list_any (has (is_close_of File) f.here.path) done ≡ false
              open_yet =
                  false_from_clash (list_any (has (is_close_of File) f.here.path) done)
                  (λ q. sym (sym (closed_not_current f.here.path tells q) ∙ ap (λ o. number_eq o (Some (T f.here.path))) e
                  ∙ eq-eqb t (T f.here.path) (sym text.0)))

              in_back : (g : Step → Bool) (xs ys : List Step) → list_any g (xs ++ ys) ≡ true → list_any g xs ≡ false → list_any g ys ≡ true
              in_back g xs ys m n = sym (list_any-append g xs ys ∙ ap (λ b. b || list_any g ys) n) ∙ m

              closing : Found (has (is_close_of File) f.here.path) (s ∷ rest)
              closing = find (has (is_close_of File) f.here.path) (s ∷ rest)
                  (in_back (has (is_close_of File) f.here.path) done (s ∷ rest)
                  (is_text_closed d late (done ++ s ∷ rest) drive f.here.path has_one) open_yet)

              later : AllByRecursion (λ u. comes_after d late s u ≡ false) (s ∷ rest)
              later = (
                ap is_gt (tied_itself keys_total (key_of d late s)),
                all_map (λ (u : Step). Before d late s u) (λ u. comes_after d late s u ≡ false) (λ u b. b.0) rest
                    (after_step d late done s rest drive),
              )

              ends : comes_after d late s closing.here ≡ false
              ends =
                  (all_right (λ u. comes_after d late s u ≡ false) closing.front (closing.here ∷ closing.back)
                  (subst (AllByRecursion (λ u. comes_after d late s u ≡ false)) (sym closing.cut) later)).0

              close_parts : (closing.here.path ≡ f.here.path) × (is_close_of File closing.here.action ≡ true)
              close_parts = has_parts (is_close_of File) f.here.path closing.here closing.passes

              same_key : key_of d late closing.here ≡ key_of d late f.here
              same_key =
                  text_key d late f.here closing.here text.1 close_parts.1 close_parts.0
                  (sym (any_path_actions d late (done ++ s ∷ rest) drive is_text f.here.path) ∙ has_one)

              place : f.here.path ≡ s.path
              place = same_place d late f.here s next.0 (ap (λ k. is_gt (slice_cmp mark_cmp (key_of d late s) k)) (sym same_key) ∙ ends)
