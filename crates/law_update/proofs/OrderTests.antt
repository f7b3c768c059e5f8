-- The tests of the order check, all together, and what passes them.
use Rattle.std.proofs.Common.{◌≡◌, ℕ, Bool, true, false, ◌&&◌, ◌||◌, ◌⊎◌, List, [], ◌∷◌, ◌++◌, refl, sym, ◌∙◌, ap, true≢false, eq-eqb, inl}
use Rattle.std.proofs.Common.{inr}
use Rattle.std.proofs.lemmas.Bool.{or_from}
use Rattle.std.specs.Prelude.{None, map}
use Rattle.std.specs.List.{list_any, AllByRecursion}
use Rattle.std.proofs.lemmas.List.Folds.{list_any-append}
use Rattle.std.specs.Ordering.{is_gt}
use Rattle.std.specs.Cmp.Lexicographic.{slice_cmp}
use Rattle.svn_lists.proofs.Every.{all_map}
use Rattle.svn_lists.proofs.Options.{cond_skipped}
use Rattle.svn_lists.proofs.Somewhere.{each_fails}
use Rattle.svn_lists.proofs.Tests.{false_from_clash}
use Rattle.svn_types.specs.Names.{Path}
use Rattle.svn_types.specs.Paths.{is_below, child, parent, is_root}
use Rattle.svn_types.specs.declared.kind.Kind.{Kind}
use Rattle.svn_types.specs.declared.kind.Kind.TheVariants.{File, Directory}
use Rattle.svn_types.proofs.NameLemmas.{Name}
use Rattle.svn_types.proofs.PathLemmas.{parent-child, path_cases, is_below-child}
use Rattle.svn_editor.specs.Calls.{given_by, closes, opens_below, changed_late, changes_dir, is_last}
use Rattle.svn_editor.specs.Steps.{Action, Delete, Open, Add, Change, Text, Close, Step}
use Rattle.svn_editor.specs.declared.call.Call.{Call}
use Rattle.svn_editor.specs.declared.call.Call.TheVariants.{AbortEdit}
use Rattle.svn_editor.specs.Order.{is_target_late, is_token_unknown, is_token_closed, is_token_misnumbered, is_path_wrong}
use Rattle.svn_editor.specs.Order.{is_file_unfinished, is_too_early, is_not_innermost, is_open_below, is_prop_late, is_delete_late}
use Rattle.svn_editor.specs.Order.{is_entry_again, is_text_again, is_root_unclosed, fault_in_order, order_fault}
use Rattle.svn_model.specs.Steps.{Named, mark_cmp, key_of, comes_after, InKeyOrder}
use Rattle.svn_model.specs.Follow.{DriveInput}
use Rattle.law_update.proofs.FirstSteps.{main_key, is_main, key_above}
use Rattle.law_drive.proofs.Courses.{is_close_of, precedes}
use Rattle.law_update.proofs.StepOrder.{has, has_parts}
use Rattle.law_update.proofs.TokenNumbers.{call_by, call_at, Tells, is_root_action}
use Rattle.law_update.proofs.CallTests.{on_given, is_change_of, IsSubdirectory, none_in, some_in, changes_dir-call, sub-given}
use Rattle.law_update.proofs.CallTests.{opens_subdirectory-call}

-- ---- all tests together

-- a call that passes all tests is in order
pub passes : (earlier : List Call) (c : Call) → list_any is_last earlier ≡ false → is_target_late earlier c ≡ false
    → is_token_unknown earlier c ≡ false → is_token_closed earlier c ≡ false
    → is_token_misnumbered earlier c ≡ false → is_path_wrong earlier c ≡ false → is_file_unfinished earlier c ≡ false
    → is_too_early earlier c ≡ false → is_not_innermost earlier c ≡ false
    → is_open_below earlier c ≡ false → is_prop_late earlier c ≡ false → is_delete_late earlier c ≡ false → is_entry_again earlier c ≡ false
    → is_text_again earlier c ≡ false
    → is_root_unclosed earlier c ≡ false → order_fault earlier c ≡ None
passes earlier c ended h1 h2 h3 h4 h5 h6 h7 h8 h9 h10 h11 h12 h13 h14 = by c all
  where
    all : fault_in_order earlier c ≡ None
    all =
        cond_skipped (is_target_late earlier c) _ _ h1
        (cond_skipped (is_token_unknown earlier c) _ _ h2
        (cond_skipped (is_token_closed earlier c) _ _ h3 (cond_skipped (is_token_misnumbered earlier c) _ _ h4
        (cond_skipped (is_path_wrong earlier c) _ _ h5
        (cond_skipped (is_file_unfinished earlier c) _ _ h6
        (cond_skipped (is_too_early earlier c) _ _ h7 (cond_skipped (is_not_innermost earlier c) _ _ h8
        (cond_skipped (is_open_below earlier c) _ _ h9
        (cond_skipped (is_prop_late earlier c) _ _ h10
        (cond_skipped (is_delete_late earlier c) _ _ h11 (cond_skipped (is_entry_again earlier c) _ _ h12
        (cond_skipped (is_text_again earlier c) _ _ h13 (cond_skipped (is_root_unclosed earlier c) _ _ h14 refl)))))))))))))

    by : (c : Call) → fault_in_order earlier c ≡ None → order_fault earlier c ≡ None
    by AbortEdit h = cond_skipped (list_any is_last earlier) _ _ ended refl
    by c h = cond_skipped (list_any is_last earlier) _ _ ended h

-- two tests that fail
-- nothing is done at a path before it is deleted or opened
abbrev pub is_first : Action → Bool
is_first (Delete r) = true
is_first (Open k r) = true
is_first _ = false

-- so no action comes before one of these
pub nothing_first : (x a : Action) → is_first a ≡ true → precedes x a ≡ false
nothing_first (Delete v) (Delete r) h = refl
nothing_first (Open l v) (Delete r) h = refl
nothing_first (Add l) (Delete r) h = refl
nothing_first (Change l c) (Delete r) h = refl
nothing_first (Text s t) (Delete r) h = refl
nothing_first (Close l c) (Delete r) h = refl
nothing_first (Delete v) (Open k r) h = refl
nothing_first (Open l v) (Open k r) h = refl
nothing_first (Add l) (Open k r) h = refl
nothing_first (Change l c) (Open k r) h = refl
nothing_first (Text s t) (Open k r) h = refl
nothing_first (Close l c) (Open k r) h = refl
nothing_first x a h = absurd (true≢false (sym h))

-- a path right below another
pub sub_child : (p : Path) (x : Step) → IsSubdirectory p x → (is_root x.path ≡ true → is_root_action x.action ≡ true)
    → (name : Name) × (x.path ≡ child p name)
sub_child p x sub h = by (path_cases x.path)
  where
    by : (x.path ≡ []) ⊎ ((q : Path) × (name : Name) × (x.path ≡ child q name)) → (name : Name) × (x.path ≡ child p name)
    by (inl r) = absurd (true≢false (sym (ap is_root r) ∙ sub.not_root (h (ap is_root r))))
    by (inr c) = (c.1, c.2 ∙ ap (λ q. child q c.1) (sym (parent-child c.0 c.1) ∙ ap parent (sym c.2) ∙ sub.above))

module _ (T : Path → ℕ) where
  -- what a step closes is closed
  pub shows_closed : (k : Kind) (r : Path) (xs : List Step) → list_any (has (is_close_of k) r) xs ≡ true
      → list_any (closes (T r)) (map (call_at T) xs) ≡ true
  shows_closed k r = some_in T (closes (T r)) (has (is_close_of k) r) each
    where
      each : (x : Step) → has (is_close_of k) r x ≡ true → closes (T r) (call_at T x) ≡ true
      each x h = let parts = has_parts (is_close_of k) r x h in by x.action parts.0 parts.1
        where
          by : (a : Action) → x.path ≡ r → is_close_of k a ≡ true → closes (T r) (call_by T x.path a) ≡ true
          by (Close Directory c) e q = eq-eqb (T x.path) (T r) (ap T e)
          by (Close File c) e q = eq-eqb (T x.path) (T r) (ap T e)
          by a e q = absurd (true≢false (sym q))

  -- where steps are in order, no directory's property is changed after a directory below it was entered
  pub none_changed_late : (d : DriveInput) (late : Bool) (q : Path) → Tells T q → (xs : List Step) → InKeyOrder d late xs
      → AllByRecursion (λ x. is_root x.path ≡ true → is_root_action x.action ≡ true) xs
      → changed_late (map (call_at T) xs) (T q) ≡ false
  none_changed_late d late q tells [] o r = refl
  none_changed_late d late q tells (y ∷ ys) o r =
      or_from _ _ (ap (λ b. b && list_any (changes_dir (T q)) (map (call_at T) ys)) (opens_subdirectory-call T q tells y)
      ∙ by (on_given (opens_below (T q)) (given_by (call_at T y))) refl)
      (none_changed_late d late q tells ys o.1 r.1)
    where
      by : (b : Bool) → on_given (opens_below (T q)) (given_by (call_at T y)) ≡ b
          → (b && list_any (changes_dir (T q)) (map (call_at T) ys)) ≡ false
      by false e = refl
      by true e =
          none_in T (changes_dir (T q)) ys
          (all_map (λ (u : Step). comes_after d late y u ≡ false) (λ u. changes_dir (T q) (call_at T u) ≡ false) each ys
          (each_fails (comes_after d late y) ys o.0))
        where
          sub : (name : Name) × (y.path ≡ child q name)
          sub = sub_child q y (sub-given T q tells y e) r.0

          change_main : (a : Action) → is_change_of Directory a ≡ true → is_main a ≡ true
          change_main (Change l c) h = refl
          change_main a h = absurd (true≢false (sym h))

          each : (u : Step) → comes_after d late y u ≡ false → changes_dir (T q) (call_at T u) ≡ false
          each u n = changes_dir-call T q tells u ∙ false_from_clash (has (is_change_of Directory) q u) contrary
            where
              contrary : has (is_change_of Directory) q u ≡ true → true ≡ false
              contrary h =
                  let parts = has_parts (is_change_of Directory) q u h in
                  sym (sym n ∙ ap (λ k. is_gt (slice_cmp mark_cmp (key_of d late y) k))
                  (main_key d late u.path u.action (change_main u.action parts.1) ∙ ap (map Named) parts.0)
                  ∙ key_above d late q y.path y.action (ap (is_below q) sub.1 ∙ is_below-child q sub.0))

-- the first steps are in order
pub front_in_order : (d : DriveInput) (late : Bool) (xs ys : List Step) → InKeyOrder d late (xs ++ ys) → InKeyOrder d late xs
front_in_order d late [] ys o = tt
front_in_order d late (x ∷ xs) ys o = (
  left (list_any (comes_after d late x) xs) (list_any (comes_after d late x) ys)
      (sym (list_any-append (comes_after d late x) xs ys) ∙ o.0),
  front_in_order d late xs ys o.1,
)
  where
    left : (a b : Bool) → (a || b) ≡ false → a ≡ false
    left true b e = e
    left false b e = refl
