-- Which directories are open at a step of a drive: those above its path.
use Rattle.std.proofs.Common.{◌≡◌, Bool, true, false, ◌&&◌, ◌||◌, not, List, [], ◌∷◌, ◌++◌, refl, sym, ◌∙◌, ap, subst, true≢false}
use Rattle.std.proofs.Common.{append_assoc, append-nil}
use Rattle.std.specs.Prelude.{map}
use Rattle.std.specs.List.{list_any, AllByRecursion}
use Rattle.std.proofs.lemmas.List.Folds.{list_any-append}
use Rattle.std.specs.declared.cmp.Ordering.{Ordering}
use Rattle.std.specs.declared.cmp.Ordering.TheVariants.{Less, Equal, Greater}
use Rattle.std.specs.Ordering.{is_gt, ordering_then, ordering_reverse}
use Rattle.std.specs.Cmp.Lexicographic.{slice_cmp, nat_list_cmp_total}
use Rattle.std.proofs.lemmas.Cmp.{tied_itself}
use Rattle.svn_lists.proofs.Every.{all_both, all_left, all_map, all_right}
use Rattle.svn_lists.proofs.Somewhere.{in_front, in_whole, none_any}
use Rattle.svn_lists.proofs.Tests.{false_from_clash}
use Rattle.svn_types.specs.Names.{Path, name_cmp}
use Rattle.svn_types.specs.Paths.{path_eq, is_within, is_below, child, is_root}
use Rattle.svn_types.specs.declared.kind.Kind.TheVariants.{File, Directory}
use Rattle.svn_types.proofs.NameLemmas.{Name}
use Rattle.svn_types.proofs.PathLemmas.{path_eq-same, path_eq-symm, within_child}
use Rattle.svn_editor.specs.Steps.{Action, Close, Step}
use Rattle.svn_model.specs.Steps.{Mark, Named, End, mark_cmp, key_of, comes_after, IsDriveOf}
use Rattle.svn_model.specs.Follow.{DriveInput}
use Rattle.law_drive.proofs.Keys.{keys_total, tied_keys, path_in, path_in-map}
use Rattle.law_update.proofs.FirstSteps.{key_above, apart_keys, main_key, is_main, entry_is_main}
use Rattle.law_drive.proofs.Courses.{is_entry, is_entry_of, entry_of_is_entry, is_close, is_close_of, precedes, fits_kind}
use Rattle.law_update.proofs.StepOrder.{has_not, Member, members, has, has_parts, kinds_at, Before, before_step, after_step}
use Rattle.law_update.proofs.StepOrder.{is_closed_later}
use Rattle.law_update.proofs.TokenNumbers.{none_twice}

-- ---- the order of keys

-- the keys of paths are ordered as the paths
named_cmp : (p q : Path) → slice_cmp mark_cmp (map Named p) (map Named q) ≡ slice_cmp name_cmp p q
named_cmp [] [] = refl
named_cmp [] (n ∷ q) = refl
named_cmp (m ∷ p) [] = refl
named_cmp (m ∷ p) (n ∷ q) = ap (ordering_then (name_cmp m n)) (named_cmp p q)

-- a path's end comes after all that is below it
pub before_end : (p : Path) (name : Name) (x : List Mark)
    → slice_cmp mark_cmp (map Named (child p name) ++ x) (map Named p ++ (End ∷ [])) ≡ Less
before_end [] name x = refl
before_end (m ∷ p) name x =
    ap (λ o. ordering_then o (slice_cmp mark_cmp (map Named (child p name) ++ x) (map Named p ++ (End ∷ []))))
    (tied_itself nat_list_cmp_total m)
    ∙ before_end p name x

-- and before all that comes late
pub before_late : (r p : Path) → is_root p ≡ false → slice_cmp mark_cmp (map Named r ++ (End ∷ [])) (End ∷ map Named p) ≡ Less
before_late [] [] h = absurd (true≢false h)
before_late [] (n ∷ p) h = refl
before_late (m ∷ r) p h = refl

-- what is smaller doesn't come after
less_not_after : (j k : List Mark) → slice_cmp mark_cmp j k ≡ Less → is_gt (slice_cmp mark_cmp k j) ≡ true
less_not_after j k h = let o = keys_total in ap is_gt (o.antisymm k j ∙ ap ordering_reverse h)

pub end_after : (p : Path) (name : Name) → is_gt (slice_cmp mark_cmp (map Named p ++ (End ∷ [])) (map Named (child p name))) ≡ true
end_after p name =
    ap (λ x. is_gt (slice_cmp mark_cmp (map Named p ++ (End ∷ [])) x)) (sym (append-nil (map Named (child p name))))
    ∙ less_not_after (map Named (child p name) ++ []) (map Named p ++ (End ∷ [])) (before_end p name [])

-- a smaller path, where it isn't the same
smaller_path : (p q : Path) → is_gt (slice_cmp mark_cmp (map Named p) (map Named q)) ≡ false → path_eq p q ≡ false
    → slice_cmp name_cmp p q ≡ Less
smaller_path p q h k = by (slice_cmp mark_cmp (map Named p) (map Named q)) refl h
  where
    by : (o : Ordering) → slice_cmp mark_cmp (map Named p) (map Named q) ≡ o → is_gt o ≡ false → slice_cmp name_cmp p q ≡ Less
    by Less e h = sym (named_cmp p q) ∙ e
    by Greater e h = absurd (true≢false h)
    by Equal e h =
        let same : p ≡ q = sym (path_in-map p) ∙ ap path_in (tied_keys (map Named p) (map Named q) e) ∙ path_in-map q in
        absurd (true≢false (sym (ap (λ x. path_eq x q) same ∙ path_eq-same q) ∙ k))

-- a directory's close has the end of its path for its key
pub close_key : (d : DriveInput) (late : Bool) (u : Step) (r : Path) → u.path ≡ r → is_close_of Directory u.action ≡ true
    → key_of d late u ≡ map Named r ++ (End ∷ [])
close_key d late u r q = each u.action refl
  where
    each : (a : Action) → u.action ≡ a → is_close_of Directory a ≡ true → key_of d late u ≡ map Named r ++ (End ∷ [])
    each (Close Directory v) e c = ap (λ a. key_of d late (record { path = u.path; action = a })) e ∙ ap (λ p. map Named p ++ (End ∷ [])) q
    each a e c = absurd (true≢false (sym c))

module _ (d : DriveInput) (late : Bool) (done : List Step) (s : Step) (rest : List Step) (drive : IsDriveOf d late (done ++ s ∷ rest)) where
  -- a directory whose end comes before the step has been closed
  pub closed_before : (r : Path) → list_any (has (is_entry_of Directory) r) (done ++ s ∷ rest) ≡ true
      → slice_cmp mark_cmp (map Named r ++ (End ∷ [])) (key_of d late s) ≡ Less
      → list_any (has (is_close_of Directory) r) done ≡ true
  closed_before r h less =
      in_front (has (is_close_of Directory) r) done (s ∷ rest) (is_closed_later d late (done ++ s ∷ rest) drive Directory r h) none
    where
      not_here : (u : Step) → comes_after d late s u ≡ false → has (is_close_of Directory) r u ≡ false
      not_here u k =
          false_from_clash (has (is_close_of Directory) r u)
          (λ e. let parts = has_parts (is_close_of Directory) r u e in
          sym (sym k ∙ ap (λ x. is_gt (slice_cmp mark_cmp (key_of d late s) x)) (close_key d late u r parts.0 parts.1)
          ∙ less_not_after (map Named r ++ (End ∷ [])) (key_of d late s) less))

      none : list_any (has (is_close_of Directory) r) (s ∷ rest) ≡ false
      none =
          none_any (has (is_close_of Directory) r) (s ∷ rest) (
            not_here s (ap is_gt (tied_itself keys_total (key_of d late s))),
            all_map (λ (u : Step). Before d late s u) (λ u. has (is_close_of Directory) r u ≡ false) (λ u b. not_here u b.0) rest
                (after_step d late done s rest drive),
          )

  -- the directory above a step that isn't late hasn't been closed
  pub open_above : (q : Path) (name : Name) → s.path ≡ child q name → is_main s.action ≡ true → (u : Step) → Before d late u s
      → has (is_close_of Directory) q u ≡ false
  open_above q name e m u b =
      false_from_clash (has (is_close_of Directory) q u)
      (λ h. let parts = has_parts (is_close_of Directory) q u h in
      sym (sym b.0 ∙ ap (λ x. is_gt (slice_cmp mark_cmp x (key_of d late s))) (close_key d late u q parts.0 parts.1)
      ∙ ap (λ x. is_gt (slice_cmp mark_cmp (map Named q ++ (End ∷ [])) x)) (main_key d late s.path s.action m ∙ ap (map Named) e)
      ∙ end_after q name))

  -- no step below the path has been taken before one whose key is the path
  pub none_below : is_main s.action ≡ true → (u : Step) → Before d late u s → is_below s.path u.path ≡ true → ⊥
  none_below m u b h =
      true≢false (sym
      (ap (λ x. is_gt (slice_cmp mark_cmp (key_of d late u) x)) (main_key d late s.path s.action m)
      ∙ key_above d late s.path u.path u.action h) ∙ b.0)

  -- what is closed isn't entered again, and nothing is done there any more
  pub own_open : AllByRecursion (λ u. has is_close s.path u ≡ false) done
  own_open = all_map (λ (u : Step). Before d late u s) (λ u. has is_close s.path u ≡ false) each done (before_step d late done s rest drive)
    where
      last : (a : Action) → precedes a s.action ≡ true → is_close a ≡ false
      last (Close l c) h = absurd (true≢false (sym h))
      last a h = refl

      each : (u : Step) → Before d late u s → has is_close s.path u ≡ false
      each u b = has_not is_close s.path u (λ e. last u.action (b.1 e))

  -- the directory above is still open
  pub above_open : (q : Path) (name : Name) → s.path ≡ child q name → is_main s.action ≡ true
      → list_any (has (is_entry_of Directory) q) done ≡ true → AllByRecursion (λ u. has is_close q u ≡ false) done
  above_open q name e m h =
      all_map (λ (u : Step). Before d late u s × (u.path ≡ q → fits_kind Directory u.action ≡ true))
      (λ u. has is_close q u ≡ false) each done
      (all_both (λ u. Before d late u s) (λ u. u.path ≡ q → fits_kind Directory u.action ≡ true) done (before_step d late done s rest drive)
      (all_left (λ u. u.path ≡ q → fits_kind Directory u.action ≡ true) done (s ∷ rest)
      (kinds_at d late (done ++ s ∷ rest) drive Directory q (in_whole (has (is_entry_of Directory) q) done (s ∷ rest) h))))
    where
      each : (u : Step) → Before d late u s × (u.path ≡ q → fits_kind Directory u.action ≡ true) → has is_close q u ≡ false
      each u b =
          has_not is_close q u
          (λ i. by u.action
          (sym (ap (λ p. path_eq p q && is_close_of Directory u.action) i
          ∙ ap (λ x. x && is_close_of Directory u.action) (path_eq-same q))
          ∙ open_above q name e m u b.0)
          (b.1 i))
        where
          by : (a : Action) → is_close_of Directory a ≡ false → fits_kind Directory a ≡ true → is_close a ≡ false
          by (Close Directory c) k f = absurd (true≢false k)
          by (Close File c) k f = absurd (true≢false (sym f))
          by a k f = refl

  -- ---- what is between a step and the next

  module _ (front : List Step) (e : Step) (back : List Step) (cut : front ++ e ∷ back ≡ done) where
    -- the drive, cut at the earlier step
    pub longer : front ++ e ∷ (back ++ s ∷ rest) ≡ done ++ s ∷ rest
    longer = sym (append_assoc front (e ∷ back) (s ∷ rest)) ∙ ap (λ l. l ++ s ∷ rest) cut

    pub drive_there : IsDriveOf d late (front ++ e ∷ (back ++ s ∷ rest))
    drive_there = subst (IsDriveOf d late) (sym longer) drive

    -- the steps between come after the one and before the other
    pub between : AllByRecursion (λ y. Before d late e y × Before d late y s) back
    between =
        all_both (λ y. Before d late e y) (λ y. Before d late y s) back
        (all_left (λ y. Before d late e y) back (s ∷ rest) (after_step d late front e (back ++ s ∷ rest) drive_there))
        (all_right (λ y. Before d late y s) front (e ∷ back)
        (subst (AllByRecursion (λ y. Before d late y s)) (sym cut) (before_step d late done s rest drive))).1

    -- the directories opened after the one above have been closed
    pub closed_between : (name : Name) → s.path ≡ child e.path name → is_entry s.action ≡ true → is_entry e.action ≡ true
        → AllByRecursion (λ y. is_entry_of Directory y.action ≡ true → list_any (has (is_close_of Directory) y.path) done ≡ true) back
    closed_between name child_of s_entry e_entry =
        all_map (λ (y : Step). (Before d late e y × Before d late y s) × Member back y)
        (λ y. is_entry_of Directory y.action ≡ true → list_any (has (is_close_of Directory) y.path) done ≡ true)
        each back (all_both (λ y. Before d late e y × Before d late y s) (Member back) back between (members back))
      where
        here : key_of d late s ≡ map Named s.path
        here = main_key d late s.path s.action (entry_is_main s.action s_entry)

        each : (y : Step) → (Before d late e y × Before d late y s) × Member back y → is_entry_of Directory y.action ≡ true
            → list_any (has (is_close_of Directory) y.path) done ≡ true
        each y b h =
            closed_before y.path somewhere
            (ap (slice_cmp mark_cmp (map Named y.path ++ (End ∷ []))) (here ∙ sym (append-nil (map Named s.path)))
            ∙ apart_keys y.path s.path (End ∷ []) [] smaller outside)
          where
            there : is_entry y.action ≡ true
            there = entry_of_is_entry Directory y.action h

            y_key : key_of d late y ≡ map Named y.path
            y_key = main_key d late y.path y.action (entry_is_main y.action there)

            itself : has (is_entry_of Directory) y.path y ≡ true
            itself = ap (λ x. x && is_entry_of Directory y.action) (path_eq-same y.path) ∙ h

            somewhere : list_any (has (is_entry_of Directory) y.path) (done ++ s ∷ rest) ≡ true
            somewhere =
                in_whole (has (is_entry_of Directory) y.path) done (s ∷ rest)
                (ap (list_any (has (is_entry_of Directory) y.path)) (sym cut)
                ∙ list_any-append (has (is_entry_of Directory) y.path) front (e ∷ back)
                ∙ ap (λ x. list_any (has (is_entry_of Directory) y.path) front || (has (is_entry_of Directory) y.path e || x))
                (b.1 (has (is_entry_of Directory) y.path) itself)
                ∙ both (list_any (has (is_entry_of Directory) y.path) front) (has (is_entry_of Directory) y.path e))
              where
                both : (x z : Bool) → (x || (z || true)) ≡ true
                both true z = refl
                both false true = refl
                both false false = refl

            with_entry : (x : Bool) (a : Action) → is_entry a ≡ true → (x && is_entry a) ≡ false → x ≡ false
            with_entry true a i k = absurd (true≢false (sym i ∙ k))
            with_entry false a i k = refl

            not_next : path_eq y.path s.path ≡ false
            not_next = with_entry (path_eq y.path s.path) y.action there (none_twice d late y s s_entry b.0.1)

            not_above : path_eq e.path y.path ≡ false
            not_above = with_entry (path_eq e.path y.path) e.action e_entry (none_twice d late e y there b.0.0)

            smaller : slice_cmp name_cmp y.path s.path ≡ Less
            smaller = smaller_path y.path s.path (ap is_gt (λ i. slice_cmp mark_cmp (sym y_key i) (sym here i)) ∙ b.0.1.0) not_next

            outside : is_within y.path s.path ≡ false
            outside = false_from_clash (is_within y.path s.path) above
              where
                above : is_within y.path s.path ≡ true → true ≡ false
                above z =
                    let inside =
                    within_child y.path e.path name (ap (is_within y.path) (sym child_of) ∙ z)
                    (ap (path_eq y.path) (sym child_of) ∙ not_next) in
                    let below : is_below y.path e.path ≡ true =
                    ap (λ x. x && not (path_eq y.path e.path)) inside ∙ ap not (path_eq-symm y.path e.path ∙ not_above) in
                    sym (sym b.0.0.0 ∙ ap (λ x. is_gt (slice_cmp mark_cmp (key_of d late e) x)) y_key
                    ∙ key_above d late y.path e.path e.action below)
