-- What is at each path after the first steps of a drive: what was there before, a node that is begun, or the target's node.
use Rattle.std.proofs.Common.{◌≡◌, ℕ, Bool, true, false, ◌||◌, List, [], ◌∷◌, ◌++◌, refl, sym, ◌∙◌, ap, subst, true≢false, append-nil}
use Rattle.std.proofs.lemmas.Bool.{or_parts}
use Rattle.std.specs.Prelude.{Option, Some, None, cond, map, filter}
use Rattle.std.specs.List.{list_any, AllByRecursion}
use Rattle.std.specs.Ordering.{is_gt}
use Rattle.std.specs.Cmp.Lexicographic.{slice_cmp}
use Rattle.std.proofs.lemmas.List.Folds.{list_any-append}
use Rattle.svn_types.specs.Names.{Path}
use Rattle.svn_types.specs.Paths.{child}
use Rattle.svn_types.specs.declared.kind.Kind.{Kind}
use Rattle.svn_types.specs.declared.kind.Kind.TheVariants.{File, Directory}
use Rattle.svn_types.proofs.NameLemmas.{Name}
use Rattle.svn_types.proofs.PathLemmas.{same_path}
use Rattle.svn_repo.specs.Readings.{kind_of}
use Rattle.svn_model.specs.Sources.{governing_revision}
use Rattle.svn_editor.specs.Steps.{Action, Delete, Open, Add, Change, Text, Close, Step}
use Rattle.svn_model.specs.Follow.{DriveInput, follow, is_kept, target_path, target_node}
use Rattle.svn_model.specs.Steps.{Named, End, mark_cmp, comes_after, IsDriveOf, is_touched, is_new, is_gone, touched_actions, new_actions}
use Rattle.svn_model.specs.Steps.{entered_actions, path_actions}
use Rattle.svn_model.specs.declared.base_node.BaseNode.{BaseNode}
use Rattle.svn_model.specs.declared.base_node.BaseNode.TheVariants.{File as FileNode, Dir as DirNode, NotPresent}
use Rattle.svn_model.specs.Nodes.{WorkingCopy, base_node}
use Rattle.svn_model.specs.Effects.{added_node}
use Rattle.law_update.proofs.Described.{Setting}
use Rattle.law_drive.proofs.Courses.{is_delete, is_close, is_close_of, inner_of, AllOf, InTurn, none_closed, TargetKind, course_of}
use Rattle.law_drive.proofs.Courses.{course_in_turn, begun_open, begun_add, Place, deleting, entering, adding, inside, place_of}
use Rattle.law_update.proofs.States.{is_at, actions_at, acted, acted-append, act, is_deleted_above, base, state, path_cut}
use Rattle.law_update.proofs.FirstSteps.{is_main, main_key, NoneMain}
use Rattle.law_update.proofs.Deletes.{kept_base}
use Rattle.law_update.proofs.AfterAllSteps.{is_quiet, acted_quiet, KeptAs, kept_as, entered_end}
use Rattle.law_update.proofs.EndsAsResult.{state_all}
use Rattle.law_update.proofs.OpenDirectories.{close_key, end_after}
use Rattle.law_update.proofs.Progress.{taken_at}

-- ---- without a close

-- inner actions without a close are quiet
quiet_inner : (k : Kind) (acts : List Action) → AllOf (inner_of k) acts → list_any is_close acts ≡ false → AllOf is_quiet acts
quiet_inner k [] h c = tt
quiet_inner k (Change l x ∷ acts) h c = (refl, quiet_inner k acts h.1 c)
quiet_inner k (Text s t ∷ acts) h c = (refl, quiet_inner k acts h.1 c)
quiet_inner k (Close l x ∷ acts) h c = absurd (true≢false c)
quiet_inner k (a ∷ acts) h c = absurd (true≢false (sym h.0))

-- deletes leave nothing
all_deleted : (d : DriveInput) (p : Path) (before : List Action) (a : Action) (acts : List Action) (found : Option BaseNode)
    → AllOf is_delete (a ∷ acts) → acted d p before found (a ∷ acts) ≡ None
all_deleted d p before (Delete r) [] found h = refl
all_deleted d p before (Delete r) (b ∷ acts) found h = all_deleted d p (before ++ Delete r ∷ []) b acts None h.1
all_deleted d p before a acts found h = absurd (true≢false (sym h.0))

-- ---- the close of a directory comes after the main steps of its children

none_main_after : (d : DriveInput) (late : Bool) (s : Step) (rest : List Step) (p : Path) (name : Name) → s.path ≡ p
    → is_close_of Directory s.action ≡ true
    → AllByRecursion (λ u. comes_after d late s u ≡ false) rest → NoneMain (actions_at (child p name) rest)
none_main_after d late s [] p name at c h = tt
none_main_after d late s (u ∷ rest) p name at c h = by (is_at (child p name) u) refl (none_main_after d late s rest p name at c h.1)
  where
    by_main : (x : Bool) → is_at (child p name) u ≡ true → is_main u.action ≡ x → is_main u.action ≡ false
    by_main true e m =
        let after : comes_after d late s u ≡ true =
        (λ i. is_gt (slice_cmp mark_cmp (close_key d late s p at c i) (main_key d late u.path u.action m i)))
        ∙ ap (λ q. is_gt (slice_cmp mark_cmp (map Named p ++ (End ∷ [])) (map Named q))) (same_path u.path (child p name) e)
        ∙ end_after p name in
        absurd (true≢false (sym after ∙ h.0))
    by_main false e m = m

    by : (x : Bool) → is_at (child p name) u ≡ x → NoneMain (actions_at (child p name) rest)
        → NoneMain (map (λ (s : Step). s.action) (cond x (u ∷ filter (is_at (child p name)) rest) (filter (is_at (child p name)) rest)))
    by true e ih = (by_main (is_main u.action) e refl, ih)
    by false e ih = ih

-- ---- what is there

module _ (d : DriveInput) (w : WorkingCopy) (setting : Setting d w) (late : Bool) (steps rest : List Step)
    (drive : IsDriveOf d late (steps ++ rest)) where
  -- what is at a path after the first steps
  pub data Stands (p : Path) : Option BaseNode → Type 0 where
    absent : Stands p None
    not_present : Stands p (Some NotPresent)
    old : {found : Option BaseNode} → w p ≡ found → is_deleted_above steps p ≡ false → actions_at p steps ≡ [] → Stands p found
    opened_file : {r : ℕ} {q : Path} {text : List ℕ} {props : List (List ℕ × List ℕ)} → w p ≡ Some (FileNode r q text props)
        → is_kept d p ≡ true → Stands p (Some (FileNode r q text props))
    open_directory : {props : List (List ℕ × List ℕ)} → TargetKind d p Directory
        → Stands p (Some (DirNode d.target (target_path d p) false props))
    finished : (n : ℕ) → target_node d p ≡ Some n → (is_touched d p || is_new d p) ≡ true → actions_at p steps ≡ path_actions d p
        → Stands p (Some (base_node d.history d.target (target_path d p) n))

  nothing_done : (p : Path) → actions_at p steps ≡ [] → Stands p (state d w steps p)
  nothing_done p e = subst (Stands p) (sym (ap (acted d p [] (base w steps p)) e)) (by (is_deleted_above steps p) refl)
    where
      by : (b : Bool) → is_deleted_above steps p ≡ b → Stands p (cond b None (w p))
      by true q = absent
      by false q = old refl q e

  all_done : (p : Path) (a : Action) (l : List Action) → actions_at p steps ≡ a ∷ l → actions_at p steps ≡ path_actions d p
      → Stands p (state d w steps p)
  all_done p a l e whole =
      subst (Stands p) (sym (state_all d w setting late steps rest drive p whole))
      (by (target_node d p) (is_gone d p) (is_touched d p) (is_new d p) refl refl refl refl)
    where
      none : path_actions d p ≡ [] → ⊥
      none z = cons (sym e ∙ whole ∙ z)
        where
          cons : a ∷ l ≡ [] → ⊥
          cons q = cc

      no_entered : (n : ℕ) → is_touched d p ≡ false → is_new d p ≡ false → entered_actions d p (Some n) ≡ []
      no_entered n t v =
          ap (λ b. cond b (touched_actions d p n (kind_of d.history n)) (cond (is_new d p) (new_actions d n (kind_of d.history n)) [])) t
          ∙ ap (λ b. cond b (new_actions d n (kind_of d.history n)) []) v

      nothing_here : is_gone d p ≡ false → entered_actions d p (target_node d p) ≡ [] → path_actions d p ≡ []
      nothing_here g z =
          ap (λ b. cond b (Delete (governing_revision (follow d p).here) ∷ []) [] ++ entered_actions d p (target_node d p)) g ∙ z

      by : (o : Option ℕ) (g t v : Bool) → target_node d p ≡ o → is_gone d p ≡ g → is_touched d p ≡ t → is_new d p ≡ v
          → Stands p (entered_end d w setting p o (cond (is_gone d p) None (base w steps p)))
      by None true t v z u x y = subst (λ b. Stands p (cond b None (base w steps p))) (sym u) absent
      by None false t v z u x y = absurd (none (nothing_here u (ap (entered_actions d p) z)))
      by (Some n) g true v z u x y =
          let one : (is_touched d p || is_new d p) ≡ true = ap (λ b. b || is_new d p) x in
          subst
          (λ b. Stands p (cond b (Some (base_node d.history d.target (target_path d p) n)) (cond (is_gone d p) None (base w steps p))))
          (sym one) (finished n z one whole)
      by (Some n) g false true z u x y =
          let one : (is_touched d p || is_new d p) ≡ true = ap (λ b. b || is_new d p) x ∙ y in
          subst
          (λ b. Stands p (cond b (Some (base_node d.history d.target (target_path d p) n)) (cond (is_gone d p) None (base w steps p))))
          (sym one) (finished n z one whole)
      by (Some n) true false false z u x y =
          subst
          (λ b. Stands p (cond b (Some (base_node d.history d.target (target_path d p) n)) (cond (is_gone d p) None (base w steps p))))
          (sym (ap (λ b. b || is_new d p) x ∙ y))
          (subst (λ b. Stands p (cond b None (base w steps p))) (sym u) absent)
      by (Some n) false false false z u x y = absurd (none (nothing_here u (ap (entered_actions d p) z ∙ no_entered n x y)))

  -- what an open or an add leaves, until the close
  opened : (p : Path) (k : Kind) (r : ℕ) → TargetKind d p k → is_kept d p ≡ true → Stands p (act d p [] (Open k r) (w p))
  opened p k r z kept = by k z (subst (KeptAs d w setting p) z.2 (kept_as d w setting p z.0 kept z.1))
    where
      by : (k : Kind) → TargetKind d p k → KeptAs d w setting p k → Stands p (act d p [] (Open k r) (w p))
      by File z f = subst (Stands p) (sym f.is) (opened_file f.is kept)
      by Directory z f = subst (λ o. Stands p (act d p [] (Open Directory r) o)) (sym f.is) (open_directory z)

  begun : (p : Path) (k : Kind) → TargetKind d p k → Stands p (Some (added_node k d.target (target_path d p)))
  begun p File z = not_present
  begun p Directory z = open_directory z

  -- what is before an action of the path
  some_left : (p : Path) (x : Action) (xs : List Action) (y : Action) → Place d p (x ∷ xs) y → list_any is_close (x ∷ xs) ≡ false
      → (found : Option BaseNode) → (is_kept d p ≡ true → found ≡ w p) → Stands p (acted d p [] found (x ∷ xs))
  some_left p x xs y place c found b = by place
    where
      none : x ∷ xs ≡ [] → ⊥
      none q = cc

      by : Place d p (x ∷ xs) y → Stands p (acted d p [] found (x ∷ xs))
      by (deleting r f e q) = absurd (none e)
      by (entering k r f e q) = absurd (none e)
      by (adding k f o q) = subst (Stands p) (sym (all_deleted d p [] x xs found o)) absent
      by (inside k z (begun_open r inner f e h) q) =
          subst (Stands p)
          (sym (ap (acted d p [] found) e
          ∙ acted_quiet d p (Open k r ∷ []) inner (act d p [] (Open k r) found) (quiet_inner k inner h (sym (ap (list_any is_close) e) ∙ c))
          ∙ ap (act d p [] (Open k r)) (b f)))
          (opened p k r z f)
      by (inside k z (begun_add before inner f e h) q) =
          let quiet =
          (or_parts (list_any is_close before) (list_any is_close inner)
          (sym (ap (list_any is_close) e ∙ list_any-append is_close before (Add k ∷ inner)) ∙ c)).1 in
          subst (Stands p)
          (sym (ap (acted d p [] found) e ∙ acted-append d p [] before (Add k ∷ inner) found
          ∙ acted_quiet d p (before ++ Add k ∷ []) inner (Some (added_node k d.target (target_path d p))) (quiet_inner k inner h quiet)))
          (begun p k z)

  pub stands : (p : Path) → Stands p (state d w steps p)
  stands p = by (actions_at p steps) (actions_at p rest) refl refl
    where
      by : (xs ys : List Action) → actions_at p steps ≡ xs → actions_at p rest ≡ ys → Stands p (state d w steps p)
      by [] ys e u = nothing_done p e
      by (x ∷ xs) [] e u =
          all_done p x xs e
          (sym (append-nil (actions_at p steps)) ∙ ap (λ l. actions_at p steps ++ l) (sym u) ∙ path_cut d late steps rest drive p)
      by (x ∷ xs) (y ∷ ys) e u =
          let whole : x ∷ xs ++ y ∷ ys ≡ path_actions d p = (λ i. sym e i ++ sym u i) ∙ path_cut d late steps rest drive p in
          subst (Stands p) (sym (ap (acted d p [] (base w steps p)) e))
          (some_left p x xs y (place_of d p (path_actions d p) (course_of d p) (x ∷ xs) y ys whole)
          (none_closed (x ∷ xs) y ys (subst InTurn (sym whole) (course_in_turn d p (path_actions d p) (course_of d p)))) (base w steps p)
          (kept_base d w late steps rest drive p))

  -- once a directory is closed the main actions of its children are done
  pub children_done : (p : Path) (name : Name) → list_any (is_close_of Directory) (actions_at p steps) ≡ true
      → NoneMain (actions_at (child p name) rest)
  children_done p name h =
      let t = taken_at d late (is_close_of Directory) p steps rest drive.in_order h in
      none_main_after d late t.taken rest p name t.at_path t.passes t.not_before
