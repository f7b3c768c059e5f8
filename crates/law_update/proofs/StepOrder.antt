-- The steps of a drive: which come before and after one of them, and which there are.
use Rattle.std.proofs.Common.{◌≡◌, ℕ, Bool, true, false, ◌&&◌, ◌||◌, List, [], ◌∷◌, ◌++◌, refl, sym, ◌∙◌, ap, subst, true≢false}
use Rattle.std.proofs.Math.Bool.{or-true}
use Rattle.std.specs.Prelude.{Option, Some, None, cond, map, filter}
use Rattle.std.specs.List.{list_any, AllByRecursion}
use Rattle.svn_lists.proofs.Every.{all_both, all_map, all_part}
use Rattle.svn_lists.proofs.Somewhere.{in_front}
use Rattle.svn_lists.proofs.Tests.{false_from_clash}
use Rattle.law_copy.proofs.OneNode.{dir_present}
use Rattle.law_update.proofs.Described.{Setting, source_from_copy}
use Rattle.svn_types.specs.Names.{Path}
use Rattle.svn_types.specs.Paths.{path_eq, child}
use Rattle.svn_types.specs.declared.kind.Kind.{Kind}
use Rattle.svn_types.specs.declared.kind.Kind.TheVariants.{File, Directory}
use Rattle.svn_types.proofs.NameLemmas.{Name}
use Rattle.svn_types.proofs.PathLemmas.{same_path, path_eq-same}
use Rattle.svn_repo.specs.Readings.{are_related, kind_of}
use Rattle.svn_editor.specs.Steps.{Action, Step}
use Rattle.svn_model.specs.Follow.{DriveInput, source_node, target_node}
use Rattle.svn_model.specs.Steps.{IsDriveOf, is_text, path_actions, comes_after}
use Rattle.svn_model.specs.Nodes.{WorkingCopy, is_dir}
use Rattle.law_drive.proofs.Classes.{none_related, EnteredDirectory, kept_directory}
use Rattle.law_drive.proofs.Courses.{is_entry_of, entry_of_is_entry, is_close_of, is_inner, inner_of, fits_kind, precedes, AllOf}
use Rattle.law_drive.proofs.Courses.{InTurn, course_of, course_in_turn, course_closed, course_kind, text_closed, begun_entry, Place}
use Rattle.law_drive.proofs.Courses.{deleting, entering, adding, inside, place_of}
use Rattle.law_update.proofs.States.{is_at, actions_at, actions_at-drive, path_cut, step_cut}
use Rattle.law_update.proofs.FirstSteps.{before_next, after_next, none_left, entry_is_main}
use Rattle.law_update.proofs.AfterSteps.{directory_entered, entered_above, none_left_above}

-- ---- lists of steps

-- a step of the list that passes the test, with what is before it and after it
pub record Found (f : Step → Bool) (l : List Step) : Type 0 where
  pub front : List Step
  pub here : Step
  pub back : List Step
  pub cut : front ++ here ∷ back ≡ l
  pub passes : f here ≡ true

-- what passes a test somewhere is somewhere in the list
pub find : (f : Step → Bool) (l : List Step) → list_any f l ≡ true → Found f l
find f [] h = absurd (true≢false (sym h))
find f (x ∷ l) h = by (f x) refl h (find f l)
  where
    by : (b : Bool) → f x ≡ b → (b || list_any f l) ≡ true → (list_any f l ≡ true → Found f l) → Found f (x ∷ l)
    by true e h ih = record { front = []; here = x; back = l; cut = refl; passes = e }
    by false e h ih =
        let r = ih h in
        record { front = x ∷ r.front; here = r.here; back = r.back; cut = ap (λ (y : List Step). x ∷ y) r.cut; passes = r.passes }

-- a step with such an action at the path
abbrev pub has : (Action → Bool) → Path → Step → Bool
has f p t = path_eq t.path p && f t.action

-- what such a test says
pub has_parts : (f : Action → Bool) (p : Path) (t : Step) → has f p t ≡ true → (t.path ≡ p) × (f t.action ≡ true)
has_parts f p t h = by (path_eq t.path p) (f t.action) refl refl h
  where
    by : (a b : Bool) → path_eq t.path p ≡ a → f t.action ≡ b → (a && b) ≡ true → (t.path ≡ p) × (f t.action ≡ true)
    by true b e q h = (same_path t.path p e, q ∙ h)
    by false b e q h = absurd (true≢false (sym h))

-- and when it fails
pub has_not : (f : Action → Bool) (p : Path) (t : Step) → (t.path ≡ p → f t.action ≡ false) → has f p t ≡ false
has_not f p t h = false_from_clash (has f p t) (λ e. let parts = has_parts f p t e in sym parts.1 ∙ h parts.0)

-- a test on the actions of a path, as one on the steps
pub any-actions : (f : Action → Bool) (p : Path) (steps : List Step) → list_any f (actions_at p steps) ≡ list_any (has f p) steps
any-actions f p [] = refl
any-actions f p (t ∷ steps) = by (is_at p t) (any-actions f p steps)
  where
    by : (b : Bool) → list_any f (actions_at p steps) ≡ list_any (has f p) steps
        → list_any f (map (λ (s : Step). s.action) (cond b (t ∷ filter (is_at p) steps) (filter (is_at p) steps)))
        ≡ ((b && f t.action) || list_any (has f p) steps)
    by true ih = ap (λ b. f t.action || b) ih
    by false ih = ih

-- each step of a list is a member of it
abbrev pub Member : List Step → Step → Type 0
Member l x = (f : Step → Bool) → f x ≡ true → list_any f l ≡ true

-- the steps of a list are members of it
pub members : (xs : List Step) → AllByRecursion (Member xs) xs
members [] = tt
members (x ∷ xs) = (
  λ f e. ap (λ b. b || list_any f xs) e,
  all_map (Member xs) (Member (x ∷ xs)) (λ y m f e. ap (λ b. f x || b) (m f e) ∙ or-true (f x)) xs (members xs),
)

-- ---- before and after a step of a drive

-- how a step compares with a later one
abbrev pub Before : DriveInput → Bool → Step → Step → Type 0
Before d late t s = (comes_after d late t s ≡ false) × (t.path ≡ s.path → precedes t.action s.action ≡ true)

-- in a list in turn, each action has its turn after those before it
turn_split : (xs : List Action) (a : Action) (ys : List Action) → InTurn (xs ++ a ∷ ys)
    → AllOf (λ x. precedes x a) xs × AllOf (precedes a) ys
turn_split [] a ys h = (tt, h.0)
turn_split (x ∷ xs) a ys h = let r = turn_split xs a ys h.1 in ((all_part (λ a. precedes x a ≡ true) xs a ys h.0, r.0), r.1)

-- what holds of the actions of a path holds of its steps
pub at_steps : (f : Action → Bool) (p : Path) (steps : List Step) → AllOf f (actions_at p steps)
    → AllByRecursion (λ t. t.path ≡ p → f t.action ≡ true) steps
at_steps f p [] h = tt
at_steps f p (t ∷ steps) h = by (is_at p t) refl h (at_steps f p steps)
  where
    by : (b : Bool) → is_at p t ≡ b → AllOf f (map (λ (s : Step). s.action) (cond b (t ∷ filter (is_at p) steps) (filter (is_at p) steps)))
        → (AllOf f (actions_at p steps) → AllByRecursion (λ t. t.path ≡ p → f t.action ≡ true) steps)
        → (t.path ≡ p → f t.action ≡ true) × AllByRecursion (λ t. t.path ≡ p → f t.action ≡ true) steps
    by true e h ih = (λ q. h.0, ih h.1)
    by false e h ih = (λ q. absurd (true≢false (sym (ap (λ x. path_eq x p) q ∙ path_eq-same p) ∙ e)), ih h)

module _ (d : DriveInput) (late : Bool) (done : List Step) (s : Step) (rest : List Step) (drive : IsDriveOf d late (done ++ s ∷ rest)) where
  -- which have had their turn, and which have not
  turns : AllOf (λ x. precedes x s.action) (actions_at s.path done) × AllOf (precedes s.action) (actions_at s.path rest)
  turns =
      turn_split (actions_at s.path done) s.action (actions_at s.path rest)
      (subst InTurn (sym (step_cut d late done s rest drive)) (course_in_turn d s.path (path_actions d s.path) (course_of d s.path)))

  -- each step before the step is before it by key and by turn
  pub before_step : AllByRecursion (λ t. Before d late t s) done
  before_step =
      all_both (λ t. comes_after d late t s ≡ false) (λ t. t.path ≡ s.path → precedes t.action s.action ≡ true) done
      (before_next d late done s rest drive.in_order) (at_steps (λ x. precedes x s.action) s.path done turns.0)

  -- and each one after it after it
  pub after_step : AllByRecursion (λ u. Before d late s u) rest
  after_step =
      all_both (λ u. comes_after d late s u ≡ false) (λ u. s.path ≡ u.path → precedes s.action u.action ≡ true) rest
      (after_next d late done s rest drive.in_order)
      (all_map (λ (u : Step). u.path ≡ s.path → precedes s.action u.action ≡ true)
      (λ u. s.path ≡ u.path → precedes s.action u.action ≡ true) (λ u h e. h (sym e)) rest
      (at_steps (precedes s.action) s.path rest turns.1))

  -- an inner step comes after the opening of its path
  pub record Within : Type 0 where
    pub kind : Kind
    pub entered : list_any (has (is_entry_of kind) s.path) done ≡ true
    pub of_kind : inner_of kind s.action ≡ true

  -- that opening, with its kind
  pub own_entry : is_inner s.action ≡ true → Within
  own_entry i =
      by (place_of d s.path (path_actions d s.path) (course_of d s.path) (actions_at s.path done) s.action (actions_at s.path rest)
      (step_cut d late done s rest drive))
    where
      by : Place d s.path (actions_at s.path done) s.action → Within
      by (deleting r f e q) = absurd (true≢false (sym i ∙ ap is_inner q))
      by (entering k r f e q) = absurd (true≢false (sym i ∙ ap is_inner q))
      by (adding k f e q) = absurd (true≢false (sym i ∙ ap is_inner q))
      by (inside k z b q) =
          record {
            kind = k;
            entered = sym (any-actions (is_entry_of k) s.path done) ∙ begun_entry d s.path k (actions_at s.path done) b;
            of_kind = q;
          }

-- ---- which steps a drive has

module _ (d : DriveInput) (late : Bool) (all : List Step) (drive : IsDriveOf d late all) where
  -- a test on the steps of a path, as one on its actions
  pub any_path_actions : (f : Action → Bool) (p : Path) → list_any (has f p) all ≡ list_any f (path_actions d p)
  any_path_actions f p = sym (any-actions f p all) ∙ ap (list_any f) (actions_at-drive d late all drive p)

  -- what is done inside a path is for the kind of node that it is
  pub kinds_at : (k : Kind) (p : Path) → list_any (has (is_entry_of k) p) all ≡ true
      → AllByRecursion (λ t. t.path ≡ p → fits_kind k t.action ≡ true) all
  kinds_at k p h =
      at_steps (fits_kind k) p all
      (subst (AllOf (fits_kind k)) (sym (actions_at-drive d late all drive p))
      (course_kind d p (path_actions d p) (course_of d p) k (sym (any_path_actions (is_entry_of k) p) ∙ h)))

  -- what is opened is closed
  pub is_closed_later : (k : Kind) (p : Path) → list_any (has (is_entry_of k) p) all ≡ true → list_any (has (is_close_of k) p) all ≡ true
  is_closed_later k p h =
      any_path_actions (is_close_of k) p
      ∙ (course_closed d p (path_actions d p) (course_of d p) k (sym (any_path_actions (is_entry_of k) p) ∙ h)).0

  -- a file with a text is closed
  pub is_text_closed : (p : Path) → list_any (has is_text p) all ≡ true → list_any (has (is_close_of File) p) all ≡ true
  is_text_closed p h =
      any_path_actions (is_close_of File) p ∙ text_closed d p (path_actions d p) (course_of d p) (sym (any_path_actions is_text p) ∙ h)

-- ---- the directory above

module _ (d : DriveInput) (w : WorkingCopy) (setting : Setting d w) where
  -- the root is a directory that is opened
  pub root_entered : EnteredDirectory d setting.served []
  root_entered =
      by (target_node d []) refl (source_from_copy d w setting [] (w []) refl (setting.true_of []) (dir_present (w []) setting.shape.root))
    where
      by : (o : Option ℕ) → target_node d [] ≡ o
          → (m : ℕ) × (source_node d [] ≡ Some m) × (is_dir (w []) ≡ true → kind_of d.history m ≡ Directory)
          → EnteredDirectory d setting.served []
      by None e s =
          absurd
          (none_related d.history (source_node d []) (sym (ap (are_related d.history (source_node d [])) e) ∙ setting.served.has_target))
      by (Some n) e s =
          record
          { node = n; target = e; directory = kept_directory d setting.served [] s.0 n refl s.1 e ∙ s.2 setting.shape.root; entered = refl }

  -- the directory of a step's path has been opened or added before it
  pub parent_done : (late : Bool) (done : List Step) (s : Step) (rest : List Step) → IsDriveOf d late (done ++ s ∷ rest)
      → (q : Path) (name : Name) → s.path ≡ child q name
      → list_any (has (is_entry_of Directory) q) done ≡ true
  parent_done late done s rest drive q name e =
      sym (any-actions (is_entry_of Directory) q done)
      ∙ in_front (is_entry_of Directory) (actions_at q done) (actions_at q (s ∷ rest))
      (ap (list_any (is_entry_of Directory)) (path_cut d late done (s ∷ rest) drive q)
      ∙ directory_entered d w setting q (entered_above d w setting late done s rest drive q name e))
      (none_left (is_entry_of Directory) (λ a h. entry_is_main a (entry_of_is_entry Directory a h)) (actions_at q (s ∷ rest))
      (none_left_above d w setting late done s rest drive q name e))
