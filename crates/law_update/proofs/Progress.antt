-- How far the first steps of a drive have come at each path: what is done above a path that is done, and what is left of the old copy.
use Rattle.std.proofs.Common.{◌≡◌, ◌≢◌, Bool, true, false, ◌&&◌, ◌||◌, ◌⊎◌, not, List, [], ◌∷◌, ◌++◌, refl, sym, ◌∙◌, ap, subst}
use Rattle.std.proofs.Common.{true≢false, inl, inr}
use Rattle.std.specs.Prelude.{Some, None, is_some, cond, map, filter}
use Rattle.std.specs.List.{list_any, AllByRecursion}
use Rattle.std.proofs.lemmas.Bool.{false_from_ne_true, or_parts, and_parts}
use Rattle.std.proofs.lemmas.List.Folds.{list_any-append}
use Rattle.svn_lists.proofs.Every.{all_left}
use Rattle.svn_lists.proofs.Somewhere.{each_fails}
use Rattle.svn_lists.proofs.Tests.{or_first}
use Rattle.law_copy.proofs.OneNode.{dir_present}
use Rattle.law_update.proofs.Described.{Setting}
use Rattle.svn_types.specs.Names.{Path}
use Rattle.svn_types.specs.Paths.{path_eq, is_within, is_below, child}
use Rattle.svn_types.specs.declared.kind.Kind.{Kind}
use Rattle.svn_types.proofs.NameLemmas.{Name}
use Rattle.svn_types.proofs.PathLemmas.{same_path, is_below-child, is_within-longer, below_child, within_shorter}
use Rattle.svn_model.specs.Sources.{governing_revision}
use Rattle.svn_editor.specs.Steps.{Action, Delete, Open, Add, Step}
use Rattle.svn_model.specs.Follow.{DriveInput, follow, is_kept, target_path, target_node}
use Rattle.svn_model.specs.Steps.{InKeyOrder, IsDriveOf, comes_after, is_gone, entered_actions, path_actions}
use Rattle.svn_model.specs.Nodes.{WorkingCopy, is_present, is_dir}
use Rattle.svn_model.specs.Effects.{added_node}
use Rattle.law_drive.proofs.Classes.{EnteredDirectory, entered_below}
use Rattle.law_drive.proofs.Courses.{is_delete, is_entry, AllOf, course_of, Begun, begun_open, begun_add}
use Rattle.law_update.proofs.States.{is_at, actions_at, acted, acted-append, is_deleted_above, base, state, path_cut}
use Rattle.law_update.proofs.FirstSteps.{NoneMain, none_main_left, none_left, delete_is_main, entry_is_main}
use Rattle.law_update.proofs.Deletes.{deleted_by, deleter, gone_above, kept_base}
use Rattle.law_update.proofs.Keeping.{leaves, inner_leaves, kept_leaves, keep_dir, keep_present, keep_some, present_some}
use Rattle.law_update.proofs.AfterSteps.{has_entry, kept_present, begun_before, begun_directory}

-- ---- tests on lists of steps

-- a step among the first ones whose action passes a test, which no step that is left is before
pub record Taken (d : DriveInput) (late : Bool) (f : Action → Bool) (q : Path) (rest : List Step) : Type 0 where
  pub taken : Step
  pub at_path : taken.path ≡ q
  pub passes : f taken.action ≡ true
  pub not_before : AllByRecursion (λ u. comes_after d late taken u ≡ false) rest

pub taken_at : (d : DriveInput) (late : Bool) (f : Action → Bool) (q : Path) (steps rest : List Step) → InKeyOrder d late (steps ++ rest)
    → list_any f (actions_at q steps) ≡ true → Taken d late f q rest
taken_at d late f q [] rest o h = absurd (true≢false (sym h))
taken_at d late f q (s ∷ steps) rest o h = by (is_at q s) (f s.action) refl refl h (taken_at d late f q steps rest o.1)
  where
    by : (a b : Bool) → is_at q s ≡ a → f s.action ≡ b
        → list_any f (map (λ (t : Step). t.action) (cond a (s ∷ filter (is_at q) steps) (filter (is_at q) steps))) ≡ true
        → (list_any f (actions_at q steps) ≡ true → Taken d late f q rest) → Taken d late f q rest
    by true true e u k ih = record {
      taken = s;
      at_path = same_path s.path q e;
      passes = u;
      not_before =
          each_fails (comes_after d late s) rest
          (or_parts (list_any (comes_after d late s) steps) (list_any (comes_after d late s) rest)
          (sym (list_any-append (comes_after d late s) steps rest) ∙ o.0)).1;
    }
    by true false e u k ih = ih (sym (ap (λ b. b || list_any f (actions_at q steps)) u) ∙ k)
    by false b e u k ih = ih k

-- what is above a path is above its children
pub below_deeper : (q p : Path) (name : Name) → is_below q p ≡ true → is_below q (child p name) ≡ true
below_deeper q p name h =
    let parts = and_parts (is_within q p) (not (path_eq q p)) h in
    ap (λ b. b && not (path_eq q (child p name))) (is_within-longer q p name parts.0) ∙ ap not (other parts.0)
  where
    other : is_within q p ≡ true → path_eq q (child p name) ≡ false
    other i =
        false_from_ne_true (path_eq q (child p name))
        (λ e. true≢false (sym i ∙ ap (λ x. is_within x p) (same_path q (child p name) e) ∙ within_shorter p name []))

-- where a path is taken away its children are
still_deleted : (p : Path) (name : Name) (steps : List Step) → is_deleted_above steps p ≡ true
    → is_deleted_above steps (child p name) ≡ true
still_deleted p name steps h =
    let x = deleter p steps h in deleted_by x.path (child p name) steps x.deletes (below_deeper x.path p name x.above)

-- what is deleted above a child is deleted above the path, or there
deleted_from : (p : Path) (name : Name) (steps : List Step) → is_deleted_above steps p ≡ false
    → list_any is_delete (actions_at p steps) ≡ false → is_deleted_above steps (child p name) ≡ false
deleted_from p name steps h k =
    false_from_ne_true (is_deleted_above steps (child p name))
    (λ e. let x = deleter (child p name) steps e in by x.path x.deletes (below_child x.path p name x.above))
  where
    by : (q : Path) → list_any is_delete (actions_at q steps) ≡ true → (q ≡ p) ⊎ (is_below q p ≡ true) → ⊥
    by q e (inl same) = true≢false (sym e ∙ ap (λ x. list_any is_delete (actions_at x steps)) same ∙ k)
    by q e (inr below) = true≢false (sym (deleted_by q p steps e below) ∙ h)

-- ---- the first steps of a drive

module _ (d : DriveInput) (w : WorkingCopy) (setting : Setting d w) (late : Bool) (steps rest : List Step)
    (drive : IsDriveOf d late (steps ++ rest)) where
  cut : (p : Path) → actions_at p steps ++ actions_at p rest ≡ path_actions d p
  cut = path_cut d late steps rest drive

  -- where something is done at a path, the main actions above are done
  pub above_done : (g q : Path) → list_any (λ (a : Action). true) (actions_at q steps) ≡ true → is_below g q ≡ true
      → NoneMain (actions_at g rest)
  above_done g q h b =
      let t = taken_at d late (λ a. true) q steps rest drive.in_order h in
      none_main_left d late t.taken rest g (ap (is_below g) t.at_path ∙ b) t.not_before

  some_done : (q : Path) → actions_at q steps ≢ [] → list_any (λ (a : Action). true) (actions_at q steps) ≡ true
  some_done q n = by (actions_at q steps) n
    where
      by : (l : List Action) → l ≢ [] → list_any (λ (a : Action). true) l ≡ true
      by [] m = absurd (m refl)
      by (a ∷ l) m = refl

  pub has_actions : (q : Path) → actions_at q steps ≢ [] → path_actions d q ≢ []
  has_actions q n z = by (actions_at q steps) n (cut q ∙ z)
    where
      by : (l : List Action) → l ≢ [] → l ++ actions_at q rest ≡ [] → ⊥
      by [] m e = m refl
      by (a ∷ l) m e = cc

  -- where something is done at a child, the path is a directory that is entered, and has been
  pub entered_done : (p : Path) (name : Name) → actions_at (child p name) steps ≢ [] → EnteredDirectory d setting.served p
  entered_done p name n = entered_below d setting.served p name (has_actions (child p name) n)

  pub main_done : (p : Path) (name : Name) → actions_at (child p name) steps ≢ [] → NoneMain (actions_at p rest)
  main_done p name n = above_done p (child p name) (some_done (child p name) n) (is_below-child p name)

  pub entry_done : (p : Path) → EnteredDirectory d setting.served p → NoneMain (actions_at p rest)
      → list_any is_entry (actions_at p steps) ≡ true
  entry_done p e n =
      or_first (list_any is_entry (actions_at p steps)) (list_any is_entry (actions_at p rest))
      (sym (list_any-append is_entry (actions_at p steps) (actions_at p rest)) ∙ ap (list_any is_entry) (cut p) ∙ has_entry d w setting p e)
      (none_left is_entry entry_is_main (actions_at p rest) n)

  -- an old node that is there, with nothing deleted there or above, is kept, or nothing is done there
  pub kept_or_old : (p : Path) → is_present (w p) ≡ true → is_deleted_above steps p ≡ false
      → list_any is_delete (actions_at p steps) ≡ false → (is_kept d p ≡ true) ⊎ (actions_at p steps ≡ [])
  kept_or_old p present h k = by (is_kept d p) (actions_at p steps) refl refl
    where
      delete_first : (g : Path) → is_gone d g ≡ true
          → path_actions d g ≡ Delete (governing_revision (follow d g).here) ∷ entered_actions d g (target_node d g)
      delete_first g e = ap (λ b. cond b (Delete (governing_revision (follow d g).here) ∷ []) [] ++ entered_actions d g (target_node d g)) e

      by_gone : (a : Action) (l : List Action) → actions_at p steps ≡ a ∷ l → (g : Path) → is_within g p ≡ true → is_gone d g ≡ true
          → (b : Bool) → path_eq g p ≡ b → ⊥
      by_gone a l e g i u true q =
          true≢false (ap is_delete (heads whole) ∙ (or_parts (is_delete a) (list_any is_delete l) (sym (ap (list_any is_delete) e) ∙ k)).0)
        where
          whole : Delete (governing_revision (follow d p).here) ∷ entered_actions d p (target_node d p) ≡ a ∷ (l ++ actions_at p rest)
          whole = sym (delete_first p (ap (is_gone d) (sym (same_path g p q)) ∙ u)) ∙ sym (cut p) ∙ ap (λ x. x ++ actions_at p rest) e

          heads : Delete (governing_revision (follow d p).here) ∷ entered_actions d p (target_node d p) ≡ a ∷ (l ++ actions_at p rest)
              → Delete (governing_revision (follow d p).here) ≡ a
          heads z = cc
      by_gone a l e g i u false q =
          let lower : is_below g p ≡ true = ap (λ b. b && not (path_eq g p)) i ∙ ap not q in
          let none = above_done g p (ap (list_any (λ (a : Action). true)) e) lower in
          let done = or_first (list_any is_delete (actions_at g steps)) (list_any is_delete (actions_at g rest))
          (sym (list_any-append is_delete (actions_at g steps) (actions_at g rest)) ∙ ap (list_any is_delete) (cut g ∙ delete_first g u))
          (none_left is_delete delete_is_main (actions_at g rest) none) in
          true≢false (sym (deleted_by g p steps done lower) ∙ h)

      by : (b : Bool) (l : List Action) → is_kept d p ≡ b → actions_at p steps ≡ l → (b ≡ true) ⊎ (l ≡ [])
      by true l e u = inl refl
      by false [] e u = inr refl
      by false (a ∷ l) e u = let g = gone_above d w setting p present e in absurd (by_gone a l u g.0 g.1 g.2 (path_eq g.0 p) refl)

  -- ---- directories that are there

  -- an entered directory is there, once its main actions are done
  pub entered_is_dir : (p : Path) → EnteredDirectory d setting.served p → NoneMain (actions_at p rest) → is_dir (state d w steps p) ≡ true
  entered_is_dir p e n =
      let b =
      begun_before d p (path_actions d p) (course_of d p) (has_entry d w setting p e) (actions_at p steps) (actions_at p rest)
      (cut p) n in
      (begun_directory d w setting p e b.0 b.1 (actions_at p steps) b.2 (base w steps p) (kept_base d w late steps rest drive p)).0

  -- nothing that was done at a kept path takes its node away
  kept_done : (p : Path) → is_kept d p ≡ true → AllOf leaves (actions_at p steps)
  kept_done p k =
      all_left (λ a. leaves a ≡ true) (actions_at p steps) (actions_at p rest)
      (subst (AllOf leaves) (sym (cut p)) (kept_leaves d p (path_actions d p) (course_of d p) k))

  -- a kept directory is there
  pub kept_is_dir : (p : Path) → is_kept d p ≡ true → is_dir (w p) ≡ true → is_dir (state d w steps p) ≡ true
  kept_is_dir p k dir =
      keep_dir d p [] (actions_at p steps) (base w steps p) (kept_done p k) (ap is_dir (kept_base d w late steps rest drive p k) ∙ dir)

  -- a kept node stays present
  pub kept_stays : (p : Path) → is_kept d p ≡ true → is_present (state d w steps p) ≡ true
  kept_stays p k =
      keep_present d p [] (actions_at p steps) (base w steps p) (kept_done p k)
      (ap is_present (kept_base d w late steps rest drive p k) ∙ kept_present d w setting p k)

  -- once a path is opened or added something is there
  pub entered_some : (p : Path) → list_any is_entry (path_actions d p) ≡ true → NoneMain (actions_at p rest)
      → is_some (state d w steps p) ≡ true
  entered_some p any n =
      let b = begun_before d p (path_actions d p) (course_of d p) any (actions_at p steps) (actions_at p rest) (cut p) n in
      by b.0 (actions_at p steps) b.2
    where
      by : (k : Kind) (xs : List Action) → Begun d p k xs → is_some (acted d p [] (base w steps p) xs) ≡ true
      by k xs (begun_open r inner f e h) =
          ap (λ l. is_some (acted d p [] (base w steps p) l)) e
          ∙ keep_some d p [] (Open k r ∷ inner) (base w steps p) (refl, inner_leaves k inner h)
          (present_some (base w steps p) (ap is_present (kept_base d w late steps rest drive p f) ∙ kept_present d w setting p f))
      by k xs (begun_add before inner f e h) =
          ap (λ l. is_some (acted d p [] (base w steps p) l)) e ∙ ap is_some (acted-append d p [] before (Add k ∷ inner) (base w steps p))
          ∙ keep_some d p (before ++ Add k ∷ []) inner (Some (added_node k d.target (target_path d p))) (inner_leaves k inner h) refl

  -- an old directory with nothing deleted there or above is there
  pub old_is_dir : (p : Path) → is_dir (w p) ≡ true → is_deleted_above steps p ≡ false → list_any is_delete (actions_at p steps) ≡ false
      → is_dir (state d w steps p) ≡ true
  old_is_dir p dir h k = by (kept_or_old p (dir_present (w p) dir) h k)
    where
      by : (is_kept d p ≡ true) ⊎ (actions_at p steps ≡ []) → is_dir (state d w steps p) ≡ true
      by (inl kept) = kept_is_dir p kept dir
      by (inr none) = ap (λ l. is_dir (acted d p [] (base w steps p) l)) none ∙ ap (λ b. is_dir (cond b None (w p))) h ∙ dir

  -- ---- the parent of what is there

  pub none_deleted : (p : Path) (name : Name) → is_deleted_above steps (child p name) ≡ false
      → (is_deleted_above steps p ≡ false) × (list_any is_delete (actions_at p steps) ≡ false)
  none_deleted p name h = (
    false_from_ne_true (is_deleted_above steps p) (λ e. true≢false (sym (still_deleted p name steps e) ∙ h)),
    false_from_ne_true (list_any is_delete (actions_at p steps))
        (λ e. true≢false (sym (deleted_by p (child p name) steps e (is_below-child p name)) ∙ h)),
  )

  -- where nothing is done at a path, nor deleted above, what was below it is there
  pub old_below : (p : Path) (name : Name) → actions_at p steps ≡ [] → is_deleted_above steps p ≡ false
      → state d w steps (child p name) ≡ w (child p name)
  old_below p name none h = by (actions_at (child p name) steps) refl
    where
      by : (l : List Action) → actions_at (child p name) steps ≡ l
          → acted d (child p name) [] (base w steps (child p name)) l ≡ w (child p name)
      by [] e = ap (λ b. cond b None (w (child p name))) (deleted_from p name steps h (ap (list_any is_delete) none))
      by (a ∷ l) e =
          let n : actions_at (child p name) steps ≢ [] = λ z. cons (sym e ∙ z) in
          absurd (true≢false (sym (entry_done p (entered_done p name n) (main_done p name n)) ∙ ap (list_any is_entry) none))
        where
          cons : a ∷ l ≡ [] → ⊥
          cons q = cc

  pub stands_below : (p : Path) (name : Name) → state d w steps (child p name) ≢ None → is_dir (state d w steps p) ≡ true
  stands_below p name some = by (actions_at (child p name) steps) refl
    where
      old : (b : Bool) → is_deleted_above steps (child p name) ≡ b → cond b None (w (child p name)) ≢ None
          → is_dir (state d w steps p) ≡ true
      old true e n = absurd (n refl)
      old false e n = let up = none_deleted p name e in old_is_dir p (setting.shape.parents p name n) up.0 up.1

      by : (l : List Action) → actions_at (child p name) steps ≡ l → is_dir (state d w steps p) ≡ true
      by [] e =
          old (is_deleted_above steps (child p name)) refl (λ z. some (ap (acted d (child p name) [] (base w steps (child p name))) e ∙ z))
      by (a ∷ l) e =
          let n : actions_at (child p name) steps ≢ [] = λ z. cons (sym e ∙ z) in
          entered_is_dir p (entered_done p name n) (main_done p name n)
        where
          cons : a ∷ l ≡ [] → ⊥
          cons q = cc
