-- What a drive deletes: never a kept path nor one with only kept paths above it; of what isn't kept, the path or one above.
use Rattle.std.proofs.Common.{◌≡◌, Bool, true, false, ◌&&◌, ◌||◌, ◌⊎◌, not, List, [], ◌∷◌, ◌++◌, refl, sym, ◌∙◌, ap, true≢false, inl, inr}
use Rattle.std.specs.Prelude.{None, is_some, cond, map, filter}
use Rattle.std.specs.List.{list_any}
use Rattle.std.proofs.lemmas.Bool.{or_left, or_right, false_from_ne_true, and_parts}
use Rattle.std.proofs.lemmas.List.Folds.{list_any-append}
use Rattle.law_copy.proofs.OneNode.{dir_present}
use Rattle.law_update.proofs.Described.{Setting}
use Rattle.svn_types.specs.Names.{Path}
use Rattle.svn_types.specs.Paths.{is_within, is_below, child}
use Rattle.svn_types.proofs.NameLemmas.{Name}
use Rattle.svn_types.proofs.PathLemmas.{same_path, path_eq-same, path_ind, is_within-same, is_within-longer, below_child}
use Rattle.svn_editor.specs.Steps.{Delete, Step}
use Rattle.svn_model.specs.Sources.{source, governing_revision}
use Rattle.svn_model.specs.Follow.{DriveInput, follow, is_kept, source_node, target_node}
use Rattle.svn_model.specs.Steps.{IsDriveOf, is_gone, entered_actions, path_actions}
use Rattle.svn_model.specs.Nodes.{WorkingCopy, is_present}
use Rattle.svn_model.proofs.Children.{follow-here, parent_is_kept-child}
use Rattle.law_drive.proofs.Classes.{is_kept-child}
use Rattle.law_drive.proofs.Courses.{is_delete, course_of, course_kept}
use Rattle.law_update.proofs.States.{is_at, actions_at, is_deleted_above, base, path_cut}

-- ---- deletes above

-- a delete among the steps of a path above takes the path away
pub deleted_by : (q p : Path) (steps : List Step) → list_any is_delete (actions_at q steps) ≡ true → is_below q p ≡ true
    → is_deleted_above steps p ≡ true
deleted_by q p [] h b = absurd (true≢false (sym h))
deleted_by q p (s ∷ steps) h b = by (is_at q s) (is_delete s.action) refl refl h (λ k. deleted_by q p steps k b)
  where
    by : (a x : Bool) → is_at q s ≡ a → is_delete s.action ≡ x
        → list_any is_delete (map (λ (t : Step). t.action) (cond a (s ∷ filter (is_at q) steps) (filter (is_at q) steps))) ≡ true
        → (list_any is_delete (actions_at q steps) ≡ true → is_deleted_above steps p ≡ true)
        → ((is_delete s.action && is_below s.path p) || is_deleted_above steps p) ≡ true
    by true true e u k ih =
        ap (λ z. (z && is_below s.path p) || is_deleted_above steps p) u
        ∙ ap (λ z. z || is_deleted_above steps p) (ap (λ z. is_below z p) (same_path s.path q e) ∙ b)
    by true false e u k ih =
        or_right (is_delete s.action && is_below s.path p) (is_deleted_above steps p)
        (ih (sym (ap (λ z. z || list_any is_delete (actions_at q steps)) u) ∙ k))
    by false x e u k ih = or_right (is_delete s.action && is_below s.path p) (is_deleted_above steps p) (ih k)

-- and what is taken away is so by one
pub record Deleter (p : Path) (steps : List Step) : Type 0 where
  pub path : Path
  pub above : is_below path p ≡ true
  pub deletes : list_any is_delete (actions_at path steps) ≡ true

pub deleter : (p : Path) (steps : List Step) → is_deleted_above steps p ≡ true → Deleter p steps
deleter p [] h = absurd (true≢false (sym h))
deleter p (s ∷ steps) h = by (is_delete s.action) (is_below s.path p) refl refl h (deleter p steps)
  where
    longer : (q : Path) (b : Bool) → list_any is_delete (actions_at q steps) ≡ true
        → list_any is_delete (map (λ (t : Step). t.action) (cond b (s ∷ filter (is_at q) steps) (filter (is_at q) steps))) ≡ true
    longer q true k = or_right (is_delete s.action) (list_any is_delete (actions_at q steps)) k
    longer q false k = k

    later : Deleter p steps → Deleter p (s ∷ steps)
    later r = record { path = r.path; above = r.above; deletes = longer r.path (is_at r.path s) r.deletes }

    by : (a b : Bool) → is_delete s.action ≡ a → is_below s.path p ≡ b → ((a && b) || is_deleted_above steps p) ≡ true
        → (is_deleted_above steps p ≡ true → Deleter p steps) → Deleter p (s ∷ steps)
    by true true e u k ih = record {
      path = s.path;
      above = u;
      deletes =
          ap
          (λ b. list_any is_delete (map (λ (t : Step). t.action) (cond b (s ∷ filter (is_at s.path) steps) (filter (is_at s.path) steps))))
          (path_eq-same s.path)
          ∙ ap (λ b. b || list_any is_delete (actions_at s.path steps)) e;
    }
    by true false e u k ih = later (ih k)
    by false b e u k ih = later (ih k)

-- a path that is gone has a delete
pub gone_deletes : (d : DriveInput) (q : Path) → is_gone d q ≡ true → list_any is_delete (path_actions d q) ≡ true
gone_deletes d q g =
    ap (λ b. list_any is_delete (cond b (Delete (governing_revision (follow d q).here) ∷ []) [] ++ entered_actions d q (target_node d q))) g

-- ---- what is kept is never deleted

-- what is above a kept path is kept
pub kept_above : (d : DriveInput) (q p : Path) → is_below q p ≡ true → is_kept d p ≡ true → is_kept d q ≡ true
kept_above d q = path_ind (λ p. is_below q p ≡ true → is_kept d p ≡ true → is_kept d q ≡ true) (λ h k. root_case q h) more
  where
    root_case : (q : Path) → is_below q [] ≡ true → is_kept d q ≡ true
    root_case [] h = absurd (true≢false (sym h))
    root_case (m ∷ q) h = absurd (true≢false (sym h))

    more : (p : Path) (name : Name) → (is_below q p ≡ true → is_kept d p ≡ true → is_kept d q ≡ true) → is_below q (child p name) ≡ true
        → is_kept d (child p name) ≡ true → is_kept d q ≡ true
    more p name ih h k = by (below_child q p name h)
      where
        up : is_kept d p ≡ true
        up = (and_parts (is_kept d p) _ (sym (is_kept-child d p name) ∙ k)).0

        by : (q ≡ p) ⊎ (is_below q p ≡ true) → is_kept d q ≡ true
        by (inl e) = ap (is_kept d) e ∙ up
        by (inr b) = ih b up

-- and what is above a child of one
pub kept_above_child : (d : DriveInput) (q p : Path) (name : Name) → is_below q (child p name) ≡ true → is_kept d p ≡ true → is_kept d q ≡ true
kept_above_child d q p name h k = by (below_child q p name h)
  where
    by : (q ≡ p) ⊎ (is_below q p ≡ true) → is_kept d q ≡ true
    by (inl e) = ap (is_kept d) e ∙ k
    by (inr b) = kept_above d q p b k

-- no step of a drive takes away what has only kept paths above
pub none_deleted_above : (d : DriveInput) (late : Bool) (done rest : List Step) → IsDriveOf d late (done ++ rest) → (p : Path)
    → ((q : Path) → is_below q p ≡ true → is_kept d q ≡ true) → is_deleted_above done p ≡ false
none_deleted_above d late done rest drive p kept =
    false_from_ne_true (is_deleted_above done p)
    (λ e. let x = deleter p done e in
    let deletes =
    sym (ap (list_any is_delete) (path_cut d late done rest drive x.path))
    ∙ list_any-append is_delete (actions_at x.path done) (actions_at x.path rest)
    ∙ or_left (list_any is_delete (actions_at x.path done)) (list_any is_delete (actions_at x.path rest)) x.deletes in
    true≢false (sym deletes ∙ course_kept d x.path (path_actions d x.path) (course_of d x.path) (kept x.path x.above)))

-- so a kept path keeps what it had until its own actions
pub kept_base : (d : DriveInput) (w : WorkingCopy) (late : Bool) (done rest : List Step) → IsDriveOf d late (done ++ rest) → (p : Path)
    → is_kept d p ≡ true → base w done p ≡ w p
kept_base d w late done rest drive p k =
    ap (λ b. cond b None (w p)) (none_deleted_above d late done rest drive p (λ q b. kept_above d q p b k))

-- ---- what isn't kept is

module _ (d : DriveInput) (w : WorkingCopy) (setting : Setting d w) where
  abbrev GoneAbove : Path → Type 0
  GoneAbove p = is_present (w p) ≡ true → is_kept d p ≡ false → (q : Path) × (is_within q p ≡ true) × (is_gone d q ≡ true)

  gone_child : (p : Path) (name : Name) → GoneAbove p → GoneAbove (child p name)
  gone_child p name ih present k = by (is_kept d p) refl
    where
      here : is_some (source_node d (child p name)) ≡ true
      here =
          ap (λ s. is_some (source d.history s)) (follow-here d (child p name)) ∙ sym (setting.describes (child p name)).present ∙ present

      above : is_present (w p) ≡ true
      above = dir_present (w p) (setting.shape.parents p name (λ q. true≢false (sym present ∙ ap is_present q)))

      by : (b : Bool) → is_kept d p ≡ b → (q : Path) × (is_within q (child p name) ≡ true) × (is_gone d q ≡ true)
      by true e = (
        child p name,
        is_within-same (child p name),
        ap (λ b. b && not (is_kept d (child p name)) && (follow d (child p name)).parent_is_kept) here
            ∙ ap (λ b. not b && (follow d (child p name)).parent_is_kept) k ∙ parent_is_kept-child d p name ∙ e,
      )
      by false e = let r = ih above e in (r.0, is_within-longer r.0 p name r.1, r.2)

  -- of a present node that isn't kept, the path or one above is gone
  pub gone_above : (p : Path) → GoneAbove p
  gone_above = path_ind GoneAbove (λ present k. absurd (true≢false k)) gone_child
