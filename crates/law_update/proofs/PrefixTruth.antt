-- After the first steps of a drive, after its first calls and after the whole of it, the copy has the shape of a working copy and is true.
use Rattle.std.proofs.Common.{◌≡◌, ◌≢◌, ℕ, ◌+◌, ◌≤◌, Bool, true, false, ◌&&◌, ◌||◌, not, List, [], ◌∷◌, ◌++◌, length, refl, sym, ◌∙◌, ap}
use Rattle.std.proofs.Common.{subst, true≢false, zero, suc, take}
use Rattle.std.specs.Prelude.{Option, Some, None, is_some, option_map, cond}
use Rattle.std.specs.List.{list_any}
use Rattle.std.proofs.lemmas.Bool.{or_right, and_parts}
use Rattle.std.specs.Map.{keys_of}
use Rattle.svn_lists.proofs.Somewhere.{any_implied}
use Rattle.svn_types.specs.Names.{Path, IsName}
use Rattle.svn_types.specs.Paths.{child}
use Rattle.svn_types.specs.declared.kind.Kind.{Kind}
use Rattle.svn_types.specs.declared.kind.Kind.TheVariants.{File, Directory}
use Rattle.svn_types.specs.Pairs.{value_of}
use Rattle.svn_types.proofs.NameLemmas.{value_of_name, Name}
use Rattle.svn_repo.specs.Readings.{are_related, kind_of, text_of, props_of, entries_of}
use Rattle.svn_repo.specs.History.{History, look}
use Rattle.svn_model.specs.Sources.{reported}
use Rattle.svn_editor.specs.Steps.{Action, Step}
use Rattle.svn_model.specs.Steps.{IsDriveOf, is_touched, is_new, path_actions}
use Rattle.svn_model.specs.Follow.{DriveInput, candidate, is_kept, target_path, source_node, target_node}
use Rattle.svn_model.specs.declared.base_node.BaseNode.{BaseNode}
use Rattle.svn_model.specs.declared.base_node.BaseNode.TheVariants.{File as FileNode, Dir as DirNode, NotPresent}
use Rattle.svn_model.specs.Nodes.{WorkingCopy, IsWorkingCopy, is_present, is_dir, node_path, IsTrueNode, IsTrueOf, base_node_by, base_node}
use Rattle.svn_model.specs.Result.{result}
use Rattle.svn_model.proofs.Children.{entry_below, look-child}
use Rattle.law_update.proofs.Described.{Setting, setting_of, is_source_present}
use Rattle.law_drive.proofs.Classes.{is_kept-child, kept_related, target_path-child}
use Rattle.law_drive.proofs.Courses.{is_entry, is_entry_of, entry_of_is_entry, is_close_of, course_of, course_closed, entered_entry}
use Rattle.law_update.proofs.States.{actions_at, acted, is_deleted_above, base, state}
use Rattle.law_update.proofs.FirstSteps.{NoneMain}
use Rattle.law_update.proofs.AfterSteps.{kept_present}
use Rattle.law_drive.proofs.Ways.{new_path, has_either, near_target}
use Rattle.law_update.proofs.AfterAllSteps.{KeptAs, kept_as}
use Rattle.law_update.proofs.Progress.{has_actions, kept_is_dir, kept_stays, entered_some, old_below, stands_below}
use Rattle.law_update.proofs.PrefixStates.{children_done, Stands, absent, not_present, old, opened_file, open_directory, finished, stands}
use Rattle.svn_editor.specs.declared.call.Call.{Call}
use Rattle.svn_editor.specs.declared.call.Call.TheVariants.{SetTargetRevision, CloseEdit}
use Rattle.svn_model.specs.Drive.{call_of, opened_after, numbered, calls_of, IsDrive}
use Rattle.svn_model.specs.Effects.{after}
use Rattle.law_update.specs.Laws.{prefixes_stay_true}
use Rattle.law_update.proofs.AfterCalls.{after-first}
use Rattle.law_copy.proofs.Entries.{allowed_name, entries_stand, entries_kept}
use Rattle.law_copy.proofs.OneNode.{present_stands}
use Rattle.law_update.proofs.EndsAsResult.{ends}

-- ---- names and entries

some_not_none : (found : Option BaseNode) → is_some found ≡ true → found ≢ None
some_not_none found h e = true≢false (sym h ∙ ap is_some e)

-- a node that is kept as a directory is one, and no file is
kind_of_dir : (k : Kind) → (k ≡ File → ⊥) → k ≡ Directory
kind_of_dir File h = absurd (h refl)
kind_of_dir Directory h = refl

module _ (d : DriveInput) (w : WorkingCopy) (setting : Setting d w) where
  abbrev h : History
  h = d.history

  related_target : (o : Option ℕ) (a : Option ℕ) → are_related h a o ≡ true → (n : ℕ) × (o ≡ Some n)
  related_target None None e = absurd (true≢false (sym e))
  related_target None (Some m) e = absurd (true≢false (sym e))
  related_target (Some n) a e = (n, refl)

  pub kept_target : (p : Path) → is_kept d p ≡ true → (n : ℕ) × (target_node d p ≡ Some n)
  kept_target p k = related_target (target_node d p) (source_node d p) (kept_related d setting.served p k)

  -- a path that isn't kept is in the target below its parent
  placed_below : (p : Path) (name : Name) → is_kept d (child p name) ≡ false
      → target_node d (child p name) ≡ entry_below h (target_node d p) name
  placed_below p name k =
      ap (look h d.target)
      (target_path-child d p name
      ∙ ap (λ b. cond b (candidate d.mode (reported d.report (child p name)).repos_path (child (target_path d p) name))
      (child (target_path d p) name)) k)
      ∙ look-child h d.target (target_path d p) name

  -- where a child that isn't kept is in the target, the path is a directory there
  below_directory : (p : Path) (name : Name) (m : ℕ) → entry_below h (target_node d p) name ≡ Some m
      → (n : ℕ) × (target_node d p ≡ Some n) × (kind_of h n ≡ Directory)
  below_directory p name m e = by (target_node d p) refl e
    where
      none : None ≡ Some m → ⊥
      none q = cc

      by : (o : Option ℕ) → target_node d p ≡ o → entry_below h o name ≡ Some m → (n : ℕ) × (o ≡ Some n) × (kind_of h n ≡ Directory)
      by None t q = absurd (none q)
      by (Some n) t q = (
        n,
        refl,
        kind_of_dir (kind_of h n)
            (λ f. none (sym (ap (λ es. value_of es name) (setting.served.history.files_are_leaves d.target (target_path d p) n t f)) ∙ q)),
      )

  -- a path that has a node in the target, or actions, has an allowed name
  new_name : (p : Path) (name : Name) (n : ℕ) → entry_below h (target_node d p) name ≡ Some n → IsName name
  new_name p name n e = by (target_node d p) refl e
    where
      none : None ≡ Some n → ⊥
      none q = cc

      by : (o : Option ℕ) → target_node d p ≡ o → entry_below h o name ≡ Some n → IsName name
      by None t q = absurd (none q)
      by (Some m) t q = allowed_name (entries_of h m) name n (setting.served.history.entries_named d.target (target_path d p) m t) q

  source_name : (p : Path) (name : Name) (n : ℕ) → source_node d (child p name) ≡ Some n → IsName name
  source_name p name n s =
      setting.shape.names p name (present_stands (w (child p name)) (is_source_present d w setting (child p name) n s))

  target_name : (p : Path) (name : Name) (n : ℕ) → target_node d (child p name) ≡ Some n → IsName name
  target_name p name n t = by (source_node d (child p name)) refl
    where
      by : (o : Option ℕ) → source_node d (child p name) ≡ o → IsName name
      by (Some m) s = source_name p name m s
      by None s =
          new_name p name n
          (sym (ap (look h d.target) (new_path d setting.served p name s) ∙ look-child h d.target (target_path d p) name) ∙ t)

  actions_name : (p : Path) (name : Name) → path_actions d (child p name) ≢ [] → IsName name
  actions_name p name some = by (source_node d (child p name)) refl
    where
      by : (o : Option ℕ) → source_node d (child p name) ≡ o → IsName name
      by (Some m) s = source_name p name m s
      by None s = let t = has_either d setting.served (child p name) some s in target_name p name t.0 t.1

  -- a kept path whose copy is a directory is one in the target
  kept_dir_target : (p : Path) (n : ℕ) → is_kept d p ≡ true → target_node d p ≡ Some n → is_dir (w p) ≡ true → kind_of h n ≡ Directory
  kept_dir_target p n k t dir = kind_of_dir (kind_of h n) (λ f. by (subst (KeptAs d w setting p) f (kept_as d w setting p n k t)))
    where
      by : KeptAs d w setting p File → ⊥
      by f = true≢false (sym dir ∙ ap is_dir f.is)

  -- a true node's repository path is short
  true_short : (v : WorkingCopy) (p : Path) (found : Option BaseNode) → IsTrueNode h v p found → is_present found ≡ true
      → length (node_path found) ≤ 64
  true_short v p None t k = absurd (true≢false (sym k))
  true_short v p (Some NotPresent) t k = absurd (true≢false (sym k))
  true_short v p (Some (FileNode r q x ps)) t k = setting.served.history.paths_short r q t.0 t.1
  true_short v p (Some (DirNode r q c ps)) t k = setting.served.history.paths_short r q t.0 t.1

  -- the target's node is true where its entries are
  true_base : (v : WorkingCopy) (p : Path) (n : ℕ) → target_node d p ≡ Some n
      → ((name : Name) (m : ℕ) → kind_of h n ≡ Directory → value_of (entries_of h n) name ≡ Some m → v (child p name) ≢ None)
      → IsTrueNode h v p (Some (base_node h d.target (target_path d p) n))
  true_base v p n t some = by (kind_of h n) refl
    where
      by : (k : Kind) → kind_of h n ≡ k → IsTrueNode h v p (Some (base_node_by k d.target (target_path d p) (text_of h n) (props_of h n)))
      by File k = (n, t, record { kind = k; same_text = refl; same_props = refl })
      by Directory k = (
        n,
        t,
        record {
          kind = k;
          same_props = λ z. refl;
          has_entries = λ z. entries_stand v p (keys_of (entries_of h n))
              (λ name e. let m = value_of_name (entries_of h n) name e in some name m.0 k m.1);
        },
      )

  base_path : (k : Kind) (q : Path) (x : List ℕ) (ps : List (List ℕ × List ℕ)) → node_path (Some (base_node_by k d.target q x ps)) ≡ q
  base_path File q x ps = refl
  base_path Directory q x ps = refl

  -- ---- the result

  result_some : (p : Path) → result d p ≢ None → (n : ℕ) × (target_node d p ≡ Some n)
  result_some p some = by (target_node d p) some
    where
      by : (o : Option ℕ) → option_map (base_node h d.target (target_path d p)) o ≢ None → (n : ℕ) × (o ≡ Some n)
      by None s = absurd (s refl)
      by (Some n) s = (n, refl)

  result_is : (p : Path) (n : ℕ) → target_node d p ≡ Some n → result d p ≡ Some (base_node h d.target (target_path d p) n)
  result_is p n t = ap (option_map (base_node h d.target (target_path d p))) t

  result_dir : (p : Path) (n : ℕ) → target_node d p ≡ Some n → kind_of h n ≡ Directory → is_dir (result d p) ≡ true
  result_dir p n t k =
      ap is_dir (result_is p n t) ∙ ap (λ x. is_dir (Some (base_node_by x d.target (target_path d p) (text_of h n) (props_of h n)))) k

  result_present : (p : Path) → is_present (result d p) ≡ true → (n : ℕ) × (target_node d p ≡ Some n)
  result_present p k = result_some p (present_stands (result d p) k)

  -- each entry of the target's node is in the result
  result_below : (p : Path) (n : ℕ) → target_node d p ≡ Some n → (name : Name) (m : ℕ) → value_of (entries_of h n) name ≡ Some m
      → result d (child p name) ≢ None
  result_below p n t name m e = by (is_kept d (child p name)) refl
    where
      there : (k : ℕ) → target_node d (child p name) ≡ Some k → result d (child p name) ≢ None
      there k z = some_not_none (result d (child p name)) (ap is_some (result_is (child p name) k z))

      by : (b : Bool) → is_kept d (child p name) ≡ b → result d (child p name) ≢ None
      by true k = let z = kept_target (child p name) k in there z.0 z.1
      by false k = there m (placed_below p name k ∙ ap (λ o. entry_below h o name) t ∙ e)

  pub result_true : IsTrueOf h (result d)
  result_true p = by (target_node d p) refl
    where
      by : (o : Option ℕ) → target_node d p ≡ o → IsTrueNode h (result d) p (option_map (base_node h d.target (target_path d p)) o)
      by None t = tt
      by (Some n) t = true_base (result d) p n t (λ name m k e. result_below p n t name m e)

  pub result_shape : IsWorkingCopy (result d)
  result_shape = record {
    root = let z = kept_target [] refl in result_dir [] z.0 z.1 (kept_dir_target [] z.0 refl z.1 setting.shape.root);
    parents = parents;
    names = λ p name some. let z = result_some (child p name) some in target_name p name z.0 z.1;
    repos_paths = λ p k. true_short (result d) p (result d p) (result_true p) k;
    paths = λ p k. let z = result_present p k in
        subst (λ q. length p ≤ 64 + length q)
        (sym (ap node_path (result_is p z.0 z.1) ∙ base_path (kind_of h z.0) (target_path d p) (text_of h z.0) (props_of h z.0)))
        (near_target d setting.served p z.0 z.1);
  }
    where
      parents : (p : Path) (name : Name) → result d (child p name) ≢ None → is_dir (result d p) ≡ true
      parents p name some = by (is_kept d (child p name)) refl
        where
          z : (n : ℕ) × (target_node d (child p name) ≡ Some n)
          z = result_some (child p name) some

          by : (b : Bool) → is_kept d (child p name) ≡ b → is_dir (result d p) ≡ true
          by false k = let up = below_directory p name z.0 (sym (placed_below p name k) ∙ z.1) in result_dir p up.0 up.1 up.2
          by true k =
              let kept : is_kept d p ≡ true = kept_up k in
              let t = kept_target p kept in
              let dir = setting.shape.parents p name (present_stands (w (child p name)) (kept_present d w setting (child p name) k)) in
              result_dir p t.0 t.1 (kept_dir_target p t.0 kept t.1 dir)
            where
              kept_up : is_kept d (child p name) ≡ true → is_kept d p ≡ true
              kept_up e = (and_parts (is_kept d p) _ (sym (is_kept-child d p name) ∙ e)).0

  -- ---- the first steps

  module _ (late : Bool) (steps rest : List Step) (drive : IsDriveOf d late (steps ++ rest)) where
    abbrev now : WorkingCopy
    now = state d w steps

    abbrev standing : (p : Path) → Stands d w setting late steps rest drive p (now p)
    standing p = stands d w setting late steps rest drive p

    -- each entry of a closed directory is there
    closed_below : (p : Path) (n : ℕ) → target_node d p ≡ Some n → (is_touched d p || is_new d p) ≡ true
        → actions_at p steps ≡ path_actions d p
        → (name : Name) (m : ℕ) → kind_of h n ≡ Directory → value_of (entries_of h n) name ≡ Some m → now (child p name) ≢ None
    closed_below p n t entered whole name m k e = by (is_kept d (child p name)) refl
      where
        c : Path
        c = child p name

        closed : list_any (is_close_of Directory) (actions_at p steps) ≡ true
        closed =
            ap (list_any (is_close_of Directory)) whole
            ∙ (course_closed d p (path_actions d p) (course_of d p) Directory (entered_entry d p n Directory t k entered)).0

        main : NoneMain (actions_at (child p name) rest)
        main = children_done d w setting late steps rest drive p name closed

        by : (b : Bool) → is_kept d (child p name) ≡ b → now (child p name) ≢ None
        by true q = present_stands (now c) (kept_stays d w setting late steps rest drive c q)
        by false q =
            let there : target_node d c ≡ Some m = placed_below p name q ∙ ap (λ o. entry_below h o name) t ∙ e in
            some_not_none (now c) (entered_some d w setting late steps rest drive c (added_entry there) main)
          where
            added_entry : target_node d c ≡ Some m → list_any is_entry (path_actions d c) ≡ true
            added_entry z =
                let new = ap (λ b. not b && is_some (target_node d c)) q ∙ ap is_some z in
                any_implied (is_entry_of (kind_of h m)) is_entry (entry_of_is_entry (kind_of h m)) (path_actions d c)
                (entered_entry d c m (kind_of h m) z refl (or_right (is_touched d c) (is_new d c) new))

    -- what was true and is untouched is true
    still_true : (p : Path) → actions_at p steps ≡ [] → is_deleted_above steps p ≡ false → (found : Option BaseNode)
        → IsTrueNode h w p found → IsTrueNode h now p found
    still_true p none above None t = tt
    still_true p none above (Some NotPresent) t = tt
    still_true p none above (Some (FileNode r q x ps)) t = t
    still_true p none above (Some (DirNode r q c ps)) t = (
      t.0,
      t.1,
      record {
        kind = t.2.kind;
        same_props = t.2.same_props;
        has_entries =
            λ z. entries_kept now w p (keys_of (entries_of h t.0))
            (λ name some none_now. some (sym (old_below d w setting late steps rest drive p name none above) ∙ none_now))
            (t.2.has_entries z);
      },
    )

    pub prefix_true : IsTrueOf h now
    prefix_true p = by (now p) (standing p)
      where
        by : (found : Option BaseNode) → Stands d w setting late steps rest drive p found → IsTrueNode h now p found
        by found absent = tt
        by found not_present = tt
        by found (old e above none) = still_true p none above found (subst (IsTrueNode h w p) e (setting.true_of p))
        by found (opened_file e k) = subst (IsTrueNode h w p) e (setting.true_of p)
        by found (open_directory z) =
            (z.0, z.1, record { kind = z.2; same_props = λ q. absurd (true≢false (sym q)); has_entries = λ q. absurd (true≢false (sym q)) })
        by found (finished n t entered whole) = true_base now p n t (closed_below p n t entered whole)

    pub prefix_shape : IsWorkingCopy now
    prefix_shape = record {
      root = kept_is_dir d w setting late steps rest drive [] refl setting.shape.root;
      parents = stands_below d w setting late steps rest drive;
      names = names;
      repos_paths = λ p k. true_short now p (now p) (prefix_true p) k;
      paths = λ p k. short p (now p) (standing p) k;
    }
      where
        names : (p : Path) (name : Name) → now (child p name) ≢ None → IsName name
        names p name some = by (actions_at (child p name) steps) refl
          where
            before : (b : Bool) → cond b None (w (child p name)) ≢ None → IsName name
            before true s = absurd (s refl)
            before false s = setting.shape.names p name s

            by : (l : List Action) → actions_at (child p name) steps ≡ l → IsName name
            by [] e =
                before (is_deleted_above steps (child p name))
                (λ z. some (ap (acted d (child p name) [] (base w steps (child p name))) e ∙ z))
            by (a ∷ l) e = actions_name p name (has_actions d w setting late steps rest drive (child p name) (λ z. cons (sym e ∙ z)))
              where
                cons : a ∷ l ≡ [] → ⊥
                cons q = cc

        short : (p : Path) (found : Option BaseNode) → Stands d w setting late steps rest drive p found → is_present found ≡ true
            → length p ≤ 64 + length (node_path found)
        short p found absent k = absurd (true≢false (sym k))
        short p found not_present k = absurd (true≢false (sym k))
        short p found (old e above none) k =
            subst (λ o. length p ≤ 64 + length (node_path o)) e (setting.shape.paths p (ap is_present e ∙ k))
        short p found (opened_file e kept) k = subst (λ o. length p ≤ 64 + length (node_path o)) e (setting.shape.paths p (ap is_present e))
        short p found (open_directory z) k = near_target d setting.served p z.0 z.1
        short p found (finished n t entered whole) k =
            subst (λ q. length p ≤ 64 + length q) (sym (base_path (kind_of h n) (target_path d p) (text_of h n) (props_of h n)))
            (near_target d setting.served p n t)

-- ---- the first calls

-- the first calls of some steps and a last call: those of the first steps, or all
pub data FirstCalls (opened : List Path) (steps : List Step) (last : Call) (calls : List Call) : Type 0 where
  first_steps : (xs ys : List Step) → xs ++ ys ≡ steps → calls ≡ numbered opened xs → FirstCalls opened steps last calls
  all_calls : calls ≡ numbered opened steps ++ last ∷ [] → FirstCalls opened steps last calls

take_none : (n : ℕ) → take {A = Call} n [] ≡ []
take_none zero = refl
take_none (suc n) = refl

first_calls : (opened : List Path) (steps : List Step) (last : Call) (n : ℕ)
    → FirstCalls opened steps last (take n (numbered opened steps ++ last ∷ []))
first_calls opened steps last zero = first_steps [] steps refl refl
first_calls opened [] last (suc n) = all_calls (ap (λ (l : List Call). last ∷ l) (take_none n))
first_calls opened (s ∷ steps) last (suc n) = more (first_calls (opened_after opened s.path s.action) steps last n)
  where
    next : List Path
    next = opened_after opened s.path s.action

    more : FirstCalls (opened_after opened s.path s.action) steps last
        (take n (numbered (opened_after opened s.path s.action) steps ++ last ∷ []))
        → FirstCalls opened (s ∷ steps) last
        (call_of opened s.path s.action ∷ take n (numbered (opened_after opened s.path s.action) steps ++ last ∷ []))
    more (first_steps xs ys e c) =
        first_steps (s ∷ xs) ys (ap (λ (l : List Step). s ∷ l) e) (ap (λ (l : List Call). call_of opened s.path s.action ∷ l) c)
    more (all_calls c) = all_calls (ap (λ (l : List Call). call_of opened s.path s.action ∷ l) c)

-- what the copy is after the first calls of a drive: as after the first steps, or the result
pub data Reached (d : DriveInput) (w : WorkingCopy) (late : Bool) (v : WorkingCopy) : Type 0 where
  under_way : (xs ys : List Step) → IsDriveOf d late (xs ++ ys) → v ≡ state d w xs → Reached d w late v
  at_end : v ≡ result d → Reached d w late v

module _ (d : DriveInput) (w : WorkingCopy) (setting : Setting d w) (late : Bool) where
  pub reached : (calls : List Call) → IsDrive d late calls → (n : ℕ) → Reached d w late (after d.mode w (take n calls))
  reached calls drive n = subst (λ l. Reached d w late (after d.mode w (take n l))) (sym drive.numbered_calls) (by n)
    where
      by_first : (n : ℕ) → FirstCalls [] drive.steps CloseEdit (take n (numbered [] drive.steps ++ CloseEdit ∷ []))
          → Reached d w late (after d.mode w (SetTargetRevision d.target ∷ take n (numbered [] drive.steps ++ CloseEdit ∷ [])))
      by_first n (first_steps xs ys e c) =
          let part : IsDriveOf d late (xs ++ ys) = subst (IsDriveOf d late) (sym e) drive.of_each_path in
          under_way xs ys part
          (ap (λ l. after d.mode w (SetTargetRevision d.target ∷ l)) c ∙ (λ i p. after-first d w setting late xs ys part p i))
      by_first n (all_calls c) =
          at_end (ap (λ l. after d.mode w (SetTargetRevision d.target ∷ l)) c
          ∙ sym (ap (after d.mode w) drive.numbered_calls) ∙ (λ i p. ends d w setting late calls drive p i))

      by : (n : ℕ) → Reached d w late (after d.mode w (take n (calls_of d.target drive.steps)))
      by zero = under_way [] drive.steps drive.of_each_path refl
      by (suc n) = by_first n (first_calls [] drive.steps CloseEdit n)

  pub true_when : (v : WorkingCopy) → Reached d w late v → IsWorkingCopy v × IsTrueOf d.history v
  true_when v (under_way xs ys drive e) = (
    subst IsWorkingCopy (sym e) (prefix_shape d w setting late xs ys drive),
    subst (IsTrueOf d.history) (sym e) (prefix_true d w setting late xs ys drive),
  )
  true_when v (at_end e) =
      (subst IsWorkingCopy (sym e) (result_shape d w setting), subst (IsTrueOf d.history) (sym e) (result_true d w setting))

pub prefixes_are_true : prefixes_stay_true
prefixes_are_true d w late calls n asked drive =
    let setting = setting_of d w asked in
    true_when d w setting late (after d.mode w (take n calls)) (reached d w setting late calls drive n)
