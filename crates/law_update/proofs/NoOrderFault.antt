-- No call of a drive is out of order.
use Rattle.std.proofs.Common.{◌≡◌, ℕ, Bool, true, false, ◌&&◌, ◌||◌, ◌⊎◌, not, List, [], ◌∷◌, ◌++◌, refl, sym, ◌∙◌, ap, true≢false}
use Rattle.std.proofs.Common.{eq-eqb, inl, inr}
use Rattle.std.proofs.lemmas.Bool.{or_from}
use Rattle.std.specs.Prelude.{Option, Some, None, cond, map, length, slice_get, nat_eq, fold}
use Rattle.std.specs.List.{list_any, cons_option, AllByRecursion}
use Rattle.std.specs.Cmp.Lexicographic.{slice_cmp}
use Rattle.std.proofs.Math.Bool.{and-false}
use Rattle.svn_lists.proofs.Every.{all_both, all_left, all_map, all_right}
use Rattle.svn_lists.proofs.Somewhere.{in_whole}
use Rattle.svn_lists.proofs.Tests.{false_from_clash}
use Rattle.svn_types.specs.Names.{Path}
use Rattle.svn_types.specs.Paths.{path_eq, is_below, child, parent, is_root}
use Rattle.svn_types.specs.declared.kind.Kind.{Kind}
use Rattle.svn_types.specs.declared.kind.Kind.TheVariants.{File, Directory}
use Rattle.svn_types.proofs.NameLemmas.{Name}
use Rattle.svn_types.proofs.PathLemmas.{path_eq-same, parent-child, path_cases, is_below-child}
use Rattle.svn_editor.specs.Calls.{kind_eq, Given, given_by, all_given, given, path_of, given_path, is_of_kind, closes, is_closed, deletes}
use Rattle.svn_editor.specs.Calls.{opens_entry, applies_text, has_its_text, current_file, is_current, innermost, is_open_directory}
use Rattle.svn_editor.specs.Calls.{a_directory_is_open, a_subdirectory_is_open, opens_below, changed_late, is_last}
use Rattle.svn_editor.specs.Steps.{Action, Delete, Open, Add, Change, Text, Close, Step}
use Rattle.svn_editor.specs.declared.call.Call.{Call}
use Rattle.svn_editor.specs.declared.call.Call.TheVariants.{SetTargetRevision, OpenRoot, DeleteEntry, AddDirectory, OpenDirectory}
use Rattle.svn_editor.specs.declared.call.Call.TheVariants.{ChangeDirProp, CloseDirectory, AddFile, OpenFile, ChangeFileProp, ApplyText}
use Rattle.svn_editor.specs.declared.call.Call.TheVariants.{CloseFile}
use Rattle.svn_editor.specs.Order.{order_fault}
use Rattle.svn_model.specs.Steps.{Mark, Named, End, mark_cmp, key_of, has_text, is_text, IsDriveOf}
use Rattle.svn_editor.specs.Calls.{number_eq}
use Rattle.svn_model.specs.Follow.{DriveInput}
use Rattle.svn_model.specs.Drive.{token_of}
use Rattle.svn_model.specs.Nodes.{WorkingCopy}
use Rattle.law_update.proofs.Described.{Setting}
use Rattle.law_update.proofs.FirstSteps.{is_main}
use Rattle.law_drive.proofs.Courses.{is_delete, is_entry, is_entry_of, entry_of_is_entry, is_inner, inner_of, is_close, is_close_of}
use Rattle.law_drive.proofs.Courses.{precedes, same_kinds, kind_eq-same, fits_kind}
use Rattle.law_update.proofs.StepOrder.{has_not, Member, members, has, has_parts, Found, find, Before, before_step, own_entry, Within}
use Rattle.law_update.proofs.StepOrder.{any_path_actions, kinds_at, root_entered}
use Rattle.law_update.proofs.AfterSteps.{directory_entered}
use Rattle.law_update.proofs.TokenNumbers.{call_by, call_at, Tells, is_root_action, none_twice, root_actions, at_root, above_done}
use Rattle.law_update.proofs.TokenNumbers.{tells_done, token_next}
use Rattle.law_update.proofs.CallTests.{on_given, none_in, gives, gives-append, none_given, length-gives, gives_at, GivesAt, given_here}
use Rattle.law_update.proofs.CallTests.{open-call, closes-call, applies_text-call, open_below-call, deletes-call, opens_entry-call}
use Rattle.law_update.proofs.CallTests.{is_last-call, last_pick}
use Rattle.law_update.proofs.OpenDirectories.{before_end, before_late, closed_before, none_below, own_open, above_open, longer, drive_there}
use Rattle.law_update.proofs.OpenDirectories.{closed_between}
use Rattle.law_update.proofs.CurrentFile.{current_here, text_open}
use Rattle.law_update.proofs.OrderTests.{passes, is_first, nothing_first, sub_child, shows_closed, none_changed_late, front_in_order}
use Rattle.law_drive.proofs.Tokens.{entered}

-- ---- at a step of a drive

module _ (d : DriveInput) (w : WorkingCopy) (setting : Setting d w) (late : Bool) (done : List Step) (s : Step) (rest : List Step)
    (drive : IsDriveOf d late (done ++ s ∷ rest)) where
  abbrev T : Path → ℕ
  T = token_of (entered (done ++ s ∷ rest))

  abbrev earlier : List Call
  earlier = SetTargetRevision d.target ∷ map (call_at T) done

  -- no step's call has ended the run
  not_ended : list_any is_last earlier ≡ false
  not_ended =
      none_in T is_last done (all_map (Member done) (λ x. is_last (call_at T x) ≡ false) (λ x m. is_last-call T x) done (members done))

  -- the token of what has been entered
  record Known (k : Kind) (p : Path) : Type 0 where
    found : Given
    is_found : given earlier (T p) ≡ Some found
    kind : found.kind ≡ k
    path : found.path ≡ p

  -- what has been entered is known, with its kind and its path
  known : (k : Kind) (p : Path) → list_any (has (is_entry_of k) p) done ≡ true → Known k p
  known k p h = by (find (has (is_entry_of k) p) done h)
    where
      by : Found (has (is_entry_of k) p) done → Known k p
      by f =
          let parts = has_parts (is_entry_of k) p f.here f.passes in
          let g = gives_at T k f.here parts.1 in
          let number : T f.here.path ≡ length (entered f.front) =
          ap (λ l. token_of (entered l) f.here.path) (sym (longer d late done s rest drive f.front f.here f.back f.cut))
          ∙ token_next d w setting late f.front f.here (f.back ++ s ∷ rest)
          (drive_there d late done s rest drive f.front f.here f.back f.cut) (entry_of_is_entry k f.here.action parts.1) in
          record {
            found = g.found;
            is_found = ap (λ q. slice_get (gives T done) (T q)) (sym parts.0) ∙ ap (slice_get (gives T done)) number
                ∙ ap (λ l. slice_get (gives T l) (length (entered f.front))) (sym f.cut)
                ∙ given_here T f.front f.here f.back g.found g.is_found;
            kind = g.kind;
            path = g.path ∙ parts.0;
          }

  -- the token is of that kind
  kind_known : (k : Kind) (p : Path) → list_any (has (is_entry_of k) p) done ≡ true → not (is_of_kind k (given earlier (T p))) ≡ false
  kind_known k p h =
      let n = known k p h in ap (λ o. not (is_of_kind k o)) n.is_found ∙ ap (λ l. not (kind_eq l k)) n.kind ∙ ap not (kind_eq-same k)

  -- the directory above
  module _ (not_root : is_root s.path ≡ false) where
    -- it has been entered, and its token is known and says which it is
    above_entered : list_any (has (is_entry_of Directory) (parent s.path)) done ≡ true
    above_entered = above_done d w setting late done s rest drive not_root

    above_known : not (is_of_kind Directory (given earlier (T (parent s.path)))) ≡ false
    above_known = kind_known Directory (parent s.path) above_entered

    above_tells : Tells T (parent s.path)
    above_tells = tells_done d w setting late done s rest drive Directory (parent s.path) above_entered

    -- the path is the one above with a name
    named : (name : Name) × (s.path ≡ child (parent s.path) name)
    named = by (path_cases s.path)
      where
        by : (s.path ≡ []) ⊎ ((q : Path) × (name : Name) × (s.path ≡ child q name)) → (name : Name) × (s.path ≡ child (parent s.path) name)
        by (inl r) = absurd (true≢false (sym (ap is_root r) ∙ not_root))
        by (inr c) = (c.1, c.2 ∙ ap (λ q. child q c.1) (sym (parent-child c.0 c.1) ∙ ap parent (sym c.2)))

    -- it hasn't been closed
    above_unclosed : is_main s.action ≡ true → is_closed earlier (T (parent s.path)) ≡ false
    above_unclosed m =
        none_in T (closes (T (parent s.path))) done
        (all_map (λ (u : Step). has is_close (parent s.path) u ≡ false) (λ u. closes (T (parent s.path)) (call_at T u) ≡ false)
        (λ u h. closes-call T (parent s.path) above_tells u ∙ h) done
        (above_open d late done s rest drive (parent s.path) named.0 named.1 m above_entered))

    -- the call names the right path
    right_path : (is_root s.path || not (path_eq (parent s.path) (path_of earlier (T (parent s.path))))) ≡ false
    right_path =
        let n = known Directory (parent s.path) above_entered in
        ap (λ b. b || not (path_eq (parent s.path) (path_of earlier (T (parent s.path))))) not_root
        ∙ ap (λ o. not (path_eq (parent s.path) (given_path o))) n.is_found ∙ ap (λ q. not (path_eq (parent s.path) q)) n.path
        ∙ ap not (path_eq-same (parent s.path))

    -- the directory above is the innermost that is open
    above_innermost : is_entry s.action ≡ true → is_main s.action ≡ true → innermost earlier ≡ Some (T (parent s.path))
    above_innermost i m = by (find (has (is_entry_of Directory) (parent s.path)) done above_entered)
      where
        by : Found (has (is_entry_of Directory) (parent s.path)) done → innermost earlier ≡ Some (T (parent s.path))
        by f =
            ap (picked None) all
            ∙ last_pick (is_open_directory earlier) None (gives T f.front) g.found (gives T f.back) open_there closed_behind
            ∙ ap Some (g.token ∙ ap T parts.0)
          where
            picked : Option ℕ → List Given → Option ℕ
            picked o gs = fold (λ t x. cond (is_open_directory earlier x) (Some x.token) t) o gs

            parts : (f.here.path ≡ parent s.path) × (is_entry_of Directory f.here.action ≡ true)
            parts = has_parts (is_entry_of Directory) (parent s.path) f.here f.passes

            g : GivesAt T Directory f.here.path (given_by (call_at T f.here))
            g = gives_at T Directory f.here parts.1

            all : gives T done ≡ gives T f.front ++ g.found ∷ gives T f.back
            all =
                ap (gives T) (sym f.cut) ∙ gives-append T f.front (f.here ∷ f.back)
                ∙ ap (λ o. gives T f.front ++ cons_option o (gives T f.back)) g.is_found

            open_there : is_open_directory earlier g.found ≡ true
            open_there =
                ap (λ k. kind_eq k Directory && not (is_closed earlier g.found.token)) g.kind
                ∙ ap (λ t. not (is_closed earlier t)) (g.token ∙ ap T parts.0) ∙ ap not (above_unclosed m)

            closed_behind : list_any (is_open_directory earlier) (gives T f.back) ≡ false
            closed_behind =
                none_given T (is_open_directory earlier) f.back
                (all_map (λ (y : Step). is_entry_of Directory y.action ≡ true → list_any (has (is_close_of Directory) y.path) done ≡ true)
                (λ y. on_given (is_open_directory earlier) (given_by (call_at T y)) ≡ false)
                (λ y c. open-call T Directory earlier y (λ e. shows_closed T Directory y.path done (c e))) f.back
                (closed_between d late done s rest drive f.front f.here f.back f.cut named.0
                (named.1 ∙ ap (λ q. child q named.0) (sym parts.0)) i (entry_of_is_entry Directory f.here.action parts.1)))

    -- its properties weren't changed after a subdirectory was entered
    above_unchanged : changed_late earlier (T (parent s.path)) ≡ false
    above_unchanged =
        none_changed_late T d late (parent s.path) above_tells done (front_in_order d late done (s ∷ rest) drive.in_order)
        (all_left (λ x. is_root x.path ≡ true → is_root_action x.action ≡ true) done (s ∷ rest)
        (root_actions d w setting late (done ++ s ∷ rest) drive))

  -- its own path
  module _ (i : is_inner s.action ≡ true) where
    -- its entry, and what its token says
    own : Within d late done s rest drive
    own = own_entry d late done s rest drive i

    own_tells : Tells T s.path
    own_tells = tells_done d w setting late done s rest drive own.kind s.path own.entered

    -- it hasn't been closed
    own_unclosed : is_closed earlier (T s.path) ≡ false
    own_unclosed =
        none_in T (closes (T s.path)) done
        (all_map (λ (u : Step). has is_close s.path u ≡ false) (λ u. closes (T s.path) (call_at T u) ≡ false)
        (λ u h. closes-call T s.path own_tells u ∙ h) done (own_open d late done s rest drive))

    -- its entry is for the kind of the action
    own_of_kind : (k : Kind) → kind_eq own.kind k ≡ true → list_any (has (is_entry_of k) s.path) done ≡ true
    own_of_kind k e = ap (λ l. list_any (has (is_entry_of l) s.path) done) (sym (same_kinds own.kind k e)) ∙ own.entered

    -- so its token is known for that kind
    own_known : (k : Kind) → kind_eq own.kind k ≡ true → not (is_of_kind k (given earlier (T s.path))) ≡ false
    own_known k e = kind_known k s.path (own_of_kind k e)

    -- no directory right below is open
    none_open_below : ((y : Step) → Before d late y s → (name : Name) → y.path ≡ child s.path name → is_entry_of Directory y.action ≡ true
        → Member done y → list_any (has (is_close_of Directory) y.path) done ≡ true)
        → a_subdirectory_is_open earlier (T s.path) ≡ false
    none_open_below c =
        none_given T (λ g. opens_below (T s.path) g && is_open_directory earlier g) done
        (all_map (λ (y : Step). (Before d late y s × (is_root y.path ≡ true → is_root_action y.action ≡ true)) × Member done y)
        (λ y. on_given (λ g. opens_below (T s.path) g && is_open_directory earlier g) (given_by (call_at T y)) ≡ false) each done
        (all_both (λ y. Before d late y s × (is_root y.path ≡ true → is_root_action y.action ≡ true)) (Member done) done
        (all_both (λ y. Before d late y s) (λ y. is_root y.path ≡ true → is_root_action y.action ≡ true) done
        (before_step d late done s rest drive)
        (all_left (λ x. is_root x.path ≡ true → is_root_action x.action ≡ true) done (s ∷ rest)
        (root_actions d w setting late (done ++ s ∷ rest) drive)))
        (members done)))
      where
        each : (y : Step) → (Before d late y s × (is_root y.path ≡ true → is_root_action y.action ≡ true)) × Member done y
            → on_given (λ g. opens_below (T s.path) g && is_open_directory earlier g) (given_by (call_at T y)) ≡ false
        each y b =
            open_below-call T s.path own_tells (is_open_directory earlier) y
            (λ sub. open-call T Directory earlier y
            (λ e. let name = sub_child s.path y sub b.0.1 in shows_closed T Directory y.path done (c y b.0.0 name.0 name.1 e b.1)))

  -- the next token
  right_number : is_entry s.action ≡ true → not (nat_eq (T s.path) (length (all_given earlier))) ≡ false
  right_number h =
      ap not (eq-eqb (T s.path) (length (gives T done)) (token_next d w setting late done s rest drive h ∙ sym (length-gives T done)))

  -- no file with its text is open, unless the step closes it
  none_unfinished : is_close_of File s.action ≡ false → has_its_text earlier (current_file earlier) ≡ false
  none_unfinished n =
      false_from_clash (has_its_text earlier (current_file earlier))
      (λ e. let t = text_open d w setting late done s rest drive e in sym (sym n ∙ t.closes))

  -- what is entered hasn't been entered before
  none_entered : is_entry s.action ≡ true → list_any (opens_entry s.path) earlier ≡ false
  none_entered h =
      none_in T (opens_entry s.path) done
      (all_map (λ (t : Step). Before d late t s) (λ t. opens_entry s.path (call_at T t) ≡ false)
      (λ t b. opens_entry-call T s.path t ∙ none_twice d late t s h b) done (before_step d late done s rest drive))

  -- nothing has been done at a path that is deleted or opened
  nothing_here : is_first s.action ≡ true → (f : Action → Bool) → AllByRecursion (λ t. has f s.path t ≡ false) done
  nothing_here h f =
      all_map (λ (t : Step). Before d late t s) (λ t. has f s.path t ≡ false) each done (before_step d late done s rest drive)
    where
      each : (t : Step) → Before d late t s → has f s.path t ≡ false
      each t b = has_not f s.path t (λ e. absurd (true≢false (sym (b.1 e) ∙ nothing_first t.action s.action h)))

  -- so it hasn't been deleted
  none_deleted : is_first s.action ≡ true → list_any (deletes s.path) earlier ≡ false
  none_deleted h =
      none_in T (deletes s.path) done
      (all_map (λ (t : Step). has is_delete s.path t ≡ false) (λ t. deletes s.path (call_at T t) ≡ false)
      (λ t e. deletes-call T s.path t ∙ e) done (nothing_here h is_delete))

  -- and not opened
  none_opened : is_first s.action ≡ true → list_any (opens_entry s.path) earlier ≡ false
  none_opened h =
      none_in T (opens_entry s.path) done
      (all_map (λ (t : Step). has is_entry s.path t ≡ false) (λ t. opens_entry s.path (call_at T t) ≡ false)
      (λ t e. opens_entry-call T s.path t ∙ e) done (nothing_here h is_entry))

  -- what is deleted or added is below the root, and a file that is opened
  below_root : is_root_action s.action ≡ false → is_root s.path ≡ false
  below_root h = false_from_clash (is_root s.path) (λ e. sym (sym h ∙ at_root d w setting late done s rest drive e))

  -- a text or a close of a file comes while the file is current, or when all directories are closed
  file_below_root : fits_kind Directory s.action ≡ false → is_root s.path ≡ false
  file_below_root n = by s.path refl
    where
      opened_root : list_any (has (is_entry_of Directory) []) (done ++ s ∷ rest) ≡ true
      opened_root =
          any_path_actions d late (done ++ s ∷ rest) drive (is_entry_of Directory) []
          ∙ directory_entered d w setting [] (root_entered d w setting)

      fits : s.path ≡ [] → fits_kind Directory s.action ≡ true
      fits =
          (all_right (λ t. t.path ≡ [] → fits_kind Directory t.action ≡ true) done (s ∷ rest)
          (kinds_at d late (done ++ s ∷ rest) drive Directory [] opened_root)).0

      by : (p : Path) → s.path ≡ p → is_root p ≡ false
      by [] e = sym (sym n ∙ fits e)
      by (m ∷ p) e = refl

  -- a step passes the test on its own path
  itself : (y : Step) → is_entry_of Directory y.action ≡ true → has (is_entry_of Directory) y.path y ≡ true
  itself y e = ap (λ x. x && is_entry_of Directory y.action) (path_eq-same y.path) ∙ e

  -- at a late step no directory is open
  none_open : key_of d late s ≡ End ∷ map Named s.path → is_root s.path ≡ false → a_directory_is_open earlier ≡ false
  none_open k n =
      none_given T (is_open_directory earlier) done
      (all_map (Member done) (λ y. on_given (is_open_directory earlier) (given_by (call_at T y)) ≡ false) each done (members done))
    where
      each : (y : Step) → Member done y → on_given (is_open_directory earlier) (given_by (call_at T y)) ≡ false
      each y m =
          open-call T Directory earlier y
          (λ e. shows_closed T Directory y.path done
          (closed_before d late done s rest drive y.path
          (in_whole (has (is_entry_of Directory) y.path) done (s ∷ rest) (m (has (is_entry_of Directory) y.path) (itself y e)))
          (ap (slice_cmp mark_cmp (map Named y.path ++ (End ∷ []))) k ∙ before_late y.path s.path n)))

  -- so a text and a close of a file come in time
  in_time : (i : is_inner s.action ≡ true) → kind_eq (own i).kind File ≡ true → fits_kind Directory s.action ≡ false
      → (key_of d late s ≡ map Named s.path) ⊎ (key_of d late s ≡ End ∷ map Named s.path)
      → (not (is_current earlier (T s.path)) && a_directory_is_open earlier) ≡ false
  in_time i k n (inl h) =
      ap (λ o. not (number_eq o (Some (T s.path))) && a_directory_is_open earlier)
      (current_here d w setting late done s rest drive i h (own_of_kind i File k))
      ∙ ap (λ b. not b && a_directory_is_open earlier) (eq-eqb (T s.path) (T s.path) refl)
  in_time i k n (inr h) =
      ap (λ b. not (is_current earlier (T s.path)) && b) (none_open h (file_below_root n)) ∙ and-false (not (is_current earlier (T s.path)))

  -- the two keys that these have
  either_key : (b : Bool)
      → (cond b (End ∷ map Named s.path) (map Named s.path) ≡ map Named s.path)
      ⊎ (cond b (End ∷ map Named s.path) (map Named s.path) ≡ End ∷ map Named s.path)
  either_key true = inr refl
  either_key false = inl refl

  with_key : (k : List Mark) → key_of d late s ≡ k → (k ≡ map Named s.path) ⊎ (k ≡ End ∷ map Named s.path)
      → (key_of d late s ≡ map Named s.path) ⊎ (key_of d late s ≡ End ∷ map Named s.path)
  with_key k e (inl h) = inl (e ∙ h)
  with_key k e (inr h) = inr (e ∙ h)

  -- no other file with its text is open
  finished : (x : Bool) → is_close_of File s.action ≡ false → (has_its_text earlier (current_file earlier) && x) ≡ false
  finished x n = ap (λ b. b && x) (none_unfinished n)

  -- and at the close of a file it is the file itself
  finished_close : (has_its_text earlier (current_file earlier) && not (is_current earlier (T s.path))) ≡ false
  finished_close = by (has_its_text earlier (current_file earlier)) refl
    where
      by : (b : Bool) → has_its_text earlier (current_file earlier) ≡ b → (b && not (is_current earlier (T s.path))) ≡ false
      by false e = refl
      by true e =
          let t = text_open d w setting late done s rest drive e in
          ap (λ o. not (number_eq o (Some (T s.path)))) t.current ∙ ap not (eq-eqb (T s.path) (T s.path) refl)

  -- a file has no text before its text
  none_texted : (i : is_inner s.action ≡ true) → is_text s.action ≡ true → list_any (applies_text (T s.path)) earlier ≡ false
  none_texted i h =
      none_in T (applies_text (T s.path)) done
      (all_map (λ (t : Step). Before d late t s) (λ t. applies_text (T s.path) (call_at T t) ≡ false)
      (λ t b. applies_text-call T s.path (own_tells i) t ∙ each t b) done (before_step d late done s rest drive))
    where
      twice : (x a : Action) → is_text a ≡ true → precedes x a ≡ true → is_text x ≡ false
      twice (Text y t) (Text z u) e q = absurd (true≢false (sym q))
      twice (Delete v) a e q = refl
      twice (Open l v) a e q = refl
      twice (Add l) a e q = refl
      twice (Change l c) a e q = refl
      twice (Close l c) a e q = refl
      twice (Text y t) a e q = absurd (true≢false (sym e))

      each : (t : Step) → Before d late t s → has is_text s.path t ≡ false
      each t b = has_not is_text s.path t (λ e. twice t.action s.action h (b.1 e))

  -- the test on the innermost directory
  innermost_above : (n : is_root s.path ≡ false) → is_entry s.action ≡ true → is_main s.action ≡ true
      → not (number_eq (innermost earlier) (Some (T (parent s.path)))) ≡ false
  innermost_above n i m =
      ap (λ o. not (number_eq o (Some (T (parent s.path))))) (above_innermost n i m)
      ∙ ap not (eq-eqb (T (parent s.path)) (T (parent s.path)) refl)

  -- ---- the call of the step

  -- the key of the step, where its action is known
  key_with : (a : Action) → s.action ≡ a → key_of d late s ≡ key_of d late (record { path = s.path; action = a })
  key_with a e = ap (λ b. key_of d late (record { path = s.path; action = b })) e

  -- the calls, one by one
  open_directory : (r : ℕ) → s.action ≡ Open Directory r → (b : Bool) → is_root s.path ≡ b
      → order_fault earlier (cond b (OpenRoot r (T s.path)) (OpenDirectory s.path (T (parent s.path)) r (T s.path))) ≡ None
  open_directory r e true q =
      passes earlier (OpenRoot r (T s.path)) not_ended refl refl refl (right_number (ap is_entry e)) refl
      (finished true (ap (is_close_of File) e)) refl refl refl refl refl
      (ap (λ p. list_any (opens_entry p) earlier) (sym (no_names s.path q)) ∙ none_opened (ap is_first e)) refl refl
    where
      no_names : (p : Path) → is_root p ≡ true → p ≡ []
      no_names [] e = refl
      no_names (n ∷ p) e = absurd (true≢false (sym e))
  open_directory r e false q =
      passes earlier (OpenDirectory s.path (T (parent s.path)) r (T s.path)) not_ended refl (above_known q)
      (above_unclosed q (ap is_main e)) (right_number (ap is_entry e)) (right_path q)
      (finished true (ap (is_close_of File) e)) refl (innermost_above q (ap is_entry e) (ap is_main e)) refl (above_unchanged q) refl
      (or_from _ _ (none_opened (ap is_first e)) (none_deleted (ap is_first e))) refl refl

  change_directory : (name : Name) (value : Option (List ℕ)) → s.action ≡ Change Directory (name, value)
      → order_fault earlier (ChangeDirProp (T s.path) name value) ≡ None
  change_directory name value e =
      let i = ap is_inner e in
      passes earlier (ChangeDirProp (T s.path) name value) not_ended refl
      (own_known i Directory (ap (inner_of (own i).kind) (sym e) ∙ (own i).of_kind)) (own_unclosed i) refl refl
      (finished true (ap (is_close_of File) e)) refl refl refl
      (none_open_below i
      (λ y b n child_of entry m. absurd
      (none_below d late done s rest drive (ap is_main e) y b (ap (is_below s.path) child_of ∙ is_below-child s.path n))))
      refl refl refl refl

  change_file : (name : Name) (value : Option (List ℕ)) → s.action ≡ Change File (name, value)
      → order_fault earlier (ChangeFileProp (T s.path) name value) ≡ None
  change_file name value e =
      let i = ap is_inner e in
      let k = ap (inner_of (own i).kind) (sym e) ∙ (own i).of_kind in
      passes earlier (ChangeFileProp (T s.path) name value) not_ended refl (own_known i File k) (own_unclosed i) refl refl
      (finished (not (is_current earlier (T s.path))) (ap (is_close_of File) e)) refl refl refl
      (ap (λ o. not (number_eq o (Some (T s.path))))
      (current_here d w setting late done s rest drive i (key_with (Change File (name, value)) e) (own_of_kind i File k))
      ∙ ap not (eq-eqb (T s.path) (T s.path) refl))
      refl refl refl refl

  close_directory : (c : Option (List ℕ)) → s.action ≡ Close Directory c → order_fault earlier (CloseDirectory (T s.path)) ≡ None
  close_directory c e =
      let i = ap is_inner e in
      passes earlier (CloseDirectory (T s.path)) not_ended refl
      (own_known i Directory (ap (inner_of (own i).kind) (sym e) ∙ (own i).of_kind)) (own_unclosed i) refl refl
      (finished true (ap (is_close_of File) e)) refl refl
      (none_open_below i (λ y b n child_of entry m. closed_before d late done s rest drive y.path
      (in_whole (has (is_entry_of Directory) y.path) done (s ∷ rest) (m (has (is_entry_of Directory) y.path) (itself y entry)))
      (ap (slice_cmp mark_cmp (map Named y.path ++ (End ∷ []))) (key_with (Close Directory c) e)
      ∙ ap (λ p. slice_cmp mark_cmp (map Named p ++ (End ∷ [])) (map Named s.path ++ (End ∷ []))) child_of
      ∙ before_end s.path n (End ∷ [])))) refl refl refl refl refl

  apply_text : (b : Option (List ℕ)) (t : List ℕ) → s.action ≡ Text b t → order_fault earlier (ApplyText (T s.path) b t) ≡ None
  apply_text b t e =
      let i = ap is_inner e in
      let k = ap (inner_of (own i).kind) (sym e) ∙ (own i).of_kind in
      passes earlier (ApplyText (T s.path) b t) not_ended refl (own_known i File k) (own_unclosed i) refl refl
      (finished (not (is_current earlier (T s.path))) (ap (is_close_of File) e))
      (in_time i k (ap (fits_kind Directory) e) (with_key _ (key_with (Text b t) e) (either_key late)))
      refl refl refl refl refl (none_texted i (ap is_text e)) refl

  close_file : (c : Option (List ℕ)) → s.action ≡ Close File c → order_fault earlier (CloseFile (T s.path) c) ≡ None
  close_file c e =
      let i = ap is_inner e in
      let k = ap (inner_of (own i).kind) (sym e) ∙ (own i).of_kind in
      passes earlier (CloseFile (T s.path) c) not_ended refl (own_known i File k) (own_unclosed i) refl refl
      finished_close
      (in_time i k (ap (fits_kind Directory) e) (with_key _ (key_with (Close File c) e) (either_key (late && has_text d s.path))))
      refl refl refl refl refl refl refl

  -- no step's call is out of order
  pub no_fault : order_fault earlier (call_at T s) ≡ None
  no_fault = by s.action refl
    where
      by : (a : Action) → s.action ≡ a → order_fault earlier (call_by T s.path a) ≡ None
      by (Delete r) e =
          let n = below_root (ap is_root_action e) in
          passes earlier (DeleteEntry s.path r (T (parent s.path))) not_ended refl (above_known n) (above_unclosed n (ap is_main e)) refl
          (right_path n)
          (finished true (ap (is_close_of File) e)) refl refl refl refl (none_opened (ap is_first e))
          (none_deleted (ap is_first e)) refl refl
      by (Open Directory r) e = open_directory r e (is_root s.path) refl
      by (Open File r) e =
          let n = below_root (ap is_root_action e) in
          passes earlier (OpenFile s.path (T (parent s.path)) r (T s.path)) not_ended refl (above_known n) (above_unclosed n (ap is_main e))
          (right_number (ap is_entry e)) (right_path n)
          (finished true (ap (is_close_of File) e)) refl refl refl refl refl
          (or_from _ _ (none_opened (ap is_first e)) (none_deleted (ap is_first e))) refl refl
      by (Add Directory) e =
          let n = below_root (ap is_root_action e) in
          passes earlier (AddDirectory s.path (T (parent s.path)) (T s.path)) not_ended refl (above_known n)
          (above_unclosed n (ap is_main e)) (right_number (ap is_entry e)) (right_path n)
          (finished true (ap (is_close_of File) e)) refl (innermost_above n (ap is_entry e) (ap is_main e)) refl (above_unchanged n) refl
          (none_entered (ap is_entry e)) refl refl
      by (Add File) e =
          let n = below_root (ap is_root_action e) in
          passes earlier (AddFile s.path (T (parent s.path)) (T s.path)) not_ended refl (above_known n) (above_unclosed n (ap is_main e))
          (right_number (ap is_entry e)) (right_path n)
          (finished true (ap (is_close_of File) e)) refl refl refl refl refl (none_entered (ap is_entry e)) refl refl
      by (Change Directory (name, value)) e = change_directory name value e
      by (Change File (name, value)) e = change_file name value e
      by (Text b t) e = apply_text b t e
      by (Close Directory c) e = close_directory c e
      by (Close File c) e = close_file c e
