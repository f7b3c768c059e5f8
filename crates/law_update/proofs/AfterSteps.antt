-- After the first steps of a drive each path is as its own actions say.
use Rattle.std.proofs.Common.{◌≡◌, ◌≢◌, ℕ, Bool, true, false, ◌⊎◌, List, [], ◌∷◌, ◌++◌, refl, sym, ◌∙◌, ap, subst, true≢false}
use Rattle.std.proofs.Common.{append_assoc, append-nil, inl, inr}
use Rattle.std.proofs.lemmas.Bool.{false_from_ne_true}
use Rattle.std.specs.Prelude.{Option, Some, None, is_some, cond, map, filter}
use Rattle.std.specs.List.{list_any}
use Rattle.std.proofs.lemmas.Option.{same_Some}
use Rattle.svn_lists.proofs.Somewhere.{any_implied}
use Rattle.law_copy.proofs.OneNode.{dir_present}
use Rattle.law_update.proofs.Described.{Setting, kept_dir}
use Rattle.svn_types.specs.Names.{Path}
use Rattle.svn_types.specs.Paths.{path_eq, is_below, child, is_root, last_name}
use Rattle.svn_types.specs.Props.{PropChange}
use Rattle.svn_types.specs.declared.kind.Kind.{Kind}
use Rattle.svn_types.specs.declared.kind.Kind.TheVariants.{File, Directory}
use Rattle.svn_types.proofs.NameLemmas.{Name}
use Rattle.svn_types.proofs.PathLemmas.{path_eq-same, same_path, path_cases, parent-child, last_name-child, is_root-child, is_below-child}
use Rattle.svn_types.proofs.PathLemmas.{path_eq-child}
use Rattle.svn_repo.specs.Readings.{are_related, kind_of}
use Rattle.svn_model.specs.Sources.{source, reported}
use Rattle.svn_editor.specs.declared.mode.Mode.{Mode}
use Rattle.svn_editor.specs.declared.mode.Mode.TheVariants.{Update, SwitchTo}
use Rattle.svn_editor.specs.Steps.{Action, Delete, Open, Add, Change, Text, Close, Step}
use Rattle.svn_model.specs.Follow.{DriveInput, root_path, candidate, is_kept, target_path, source_node, target_node}
use Rattle.svn_model.specs.Steps.{IsDriveOf, path_actions}
use Rattle.svn_model.specs.declared.base_node.BaseNode.{BaseNode}
use Rattle.svn_model.specs.declared.base_node.BaseNode.TheVariants.{File as FileNode, Dir as DirNode, NotPresent}
use Rattle.svn_model.specs.Nodes.{WorkingCopy, is_present, is_dir, is_not_present, node_path}
use Rattle.svn_model.specs.Effects.{joined_path, moved_path, opened_directory, closed_directory, closed_file, added_node, stepped}
use Rattle.svn_model.specs.Effects.{step_effect, texts_at}
use Rattle.svn_model.proofs.Children.{follow-here}
use Rattle.law_drive.proofs.Classes.{switched_to, EnteredDirectory, entered_below, target_path-child, own_path}
use Rattle.law_drive.proofs.Classes.{kept_related}
use Rattle.law_drive.proofs.Courses.{entered_entry, is_delete, is_entry, is_entry_of, entry_of_is_entry, is_inner, inner_of, AllOf}
use Rattle.law_drive.proofs.Courses.{TargetKind, Course, course_of, Begun, begun_open, begun_add, begun_whole, Place, deleting}
use Rattle.law_drive.proofs.Courses.{entering, adding, inside, place_of}
use Rattle.law_update.proofs.States.{is_at, actions_at, changes_at-actions, texts_at-actions, acted, acted-append, act, changes_in, texts_in}
use Rattle.law_update.proofs.States.{base, state, state-more, FitsAt, path_cut, step_cut}
use Rattle.law_update.proofs.FirstSteps.{before_next, after_next, none_below_next, is_main, main_key, NoneMain, none_main_left, delete_is_main}
use Rattle.law_update.proofs.Deletes.{kept_base}
use Rattle.law_update.proofs.Keeping.{PathIs, acted_path, added_path, inner_leaves, keep_dir, keep_present}

-- ---- the step at its own path

opened_same : (target : ℕ) (f g : Path → Path) (node : Option BaseNode) → (is_present node ≡ true → f (node_path node) ≡ g (node_path node))
    → opened_directory target f node ≡ opened_directory target g node
opened_same target f g None h = refl
opened_same target f g (Some NotPresent) h = refl
opened_same target f g (Some (FileNode v q t ps)) h = refl
opened_same target f g (Some (DirNode v q c ps)) h = ap (λ x. Some (DirNode target x false (cond c ps []))) (h refl)

closed_same : (target : ℕ) (f g : Path → Path) (j k : Path) (cs : List PropChange) (ts : List (List ℕ)) (node : Option BaseNode)
    → (is_present node ≡ true → f (node_path node) ≡ g (node_path node)) → (is_not_present node ≡ true → j ≡ k)
    → closed_file target f j cs ts node ≡ closed_file target g k cs ts node
closed_same target f g j k cs ts None h n = refl
closed_same target f g j k cs ts (Some NotPresent) h n = ap (λ x. closed_file target g x cs ts (Some NotPresent)) (n refl)
closed_same target f g j k cs ts (Some (FileNode v q t ps)) h n =
    ap (λ x. closed_file target (λ y. x) k cs ts (Some (FileNode v q t ps))) (h refl)
closed_same target f g j k cs ts (Some (DirNode v q c ps)) h n = refl

abbrev is_open : Action → Bool
is_open (Open k r) = true
is_open _ = false

both_not : (node : Option BaseNode) → is_not_present node ≡ true → is_present node ≡ false
both_not None k = refl
both_not (Some NotPresent) k = refl
both_not (Some (FileNode v q t ps)) k = absurd (true≢false (sym k))
both_not (Some (DirNode v q c ps)) k = absurd (true≢false (sym k))

module _ (d : DriveInput) (w : WorkingCopy) (setting : Setting d w) where
  related_some : (o t : Option ℕ) → are_related d.history o t ≡ true → is_some o ≡ true
  related_some None t e = absurd (true≢false (sym e))
  related_some (Some m) t e = refl

  -- a kept path has a present node, which an update finds at the target's path
  pub kept_present : (p : Path) → is_kept d p ≡ true → is_present (w p) ≡ true
  kept_present p k =
      (setting.describes p).present ∙ sym (ap (λ s. is_some (source d.history s)) (follow-here d p))
      ∙ related_some (source_node d p) (target_node d p) (kept_related d setting.served p k)

  pub kept_path_is : d.mode ≡ Update → (p : Path) → is_kept d p ≡ true → PathIs (target_path d p) (w p)
  kept_path_is m p k present = (setting.describes p).repos_path present ∙ sym (own_path d setting.served m p k)

  -- the repository path that a switch gives
  switched_path : (root : Path) → d.mode ≡ SwitchTo root → (q : Path) (name : Name)
      → target_path d (child q name) ≡ child (target_path d q) name
  switched_path root m q name =
      switched_to d root m (child q name) ∙ sym (append_assoc root q (name ∷ [])) ∙ ap (λ x. child x name) (sym (switched_to d root m q))

  module _ (late : Bool) (done : List Step) (s : Step) (rest : List Step) (drive : IsDriveOf d late (done ++ s ∷ rest))
      (w' : WorkingCopy) (stands : (p : Path) → w' p ≡ state d w done p)
      (joined : (q : Path) (name : Name) → s.path ≡ child q name → joined_path w' s.path ≡ child (target_path d q) name) where
    abbrev pub acts : List Action
    acts = actions_at s.path done

    pub here : Place d s.path acts s.action
    here =
        place_of d s.path (path_actions d s.path) (course_of d s.path) acts s.action (actions_at s.path rest)
        (step_cut d late done s rest drive)

    base_kept : is_kept d s.path ≡ true → base w done s.path ≡ w s.path
    base_kept = kept_base d w late done (s ∷ rest) drive s.path

    pub moved_is : (m : Mode) → d.mode ≡ m → (path : Path) → (m ≡ Update → path ≡ target_path d s.path)
        → moved_path m w' s.path path ≡ target_path d s.path
    moved_is Update e path h = h refl
    moved_is (SwitchTo root) e path h = by (path_cases s.path)
      where
        by : (s.path ≡ []) ⊎ ((q : Path) × (name : Name) × (s.path ≡ child q name))
            → cond (is_root s.path) root (joined_path w' s.path) ≡ target_path d s.path
        by (inl r) =
            ap (λ x. cond (is_root x) root (joined_path w' s.path)) r ∙ sym (ap (λ m. root_path m d.report.root) e)
            ∙ sym (ap (target_path d) r)
        by (inr c) =
            ap (λ x. cond (is_root x) root (joined_path w' s.path)) c.2
            ∙ ap (λ b. cond b root (joined_path w' s.path)) (is_root-child c.0 c.1)
            ∙ joined c.0 c.1 c.2 ∙ sym (switched_path root e c.0 c.1) ∙ sym (ap (target_path d) c.2)

    pub joined_new : is_kept d s.path ≡ false → joined_path w' s.path ≡ target_path d s.path
    joined_new k = by (path_cases s.path)
      where
        by : (s.path ≡ []) ⊎ ((q : Path) × (name : Name) × (s.path ≡ child q name)) → joined_path w' s.path ≡ target_path d s.path
        by (inl r) = absurd (true≢false (sym (ap (is_kept d) r) ∙ k))
        by (inr c) =
            joined c.0 c.1 c.2
            ∙ sym (target_path-child d c.0 c.1
            ∙ ap
            (λ b. cond b (candidate d.mode (reported d.report (child c.0 c.1)).repos_path (child (target_path d c.0) c.1))
            (child (target_path d c.0) c.1))
            (sym (ap (is_kept d) c.2) ∙ k))
            ∙ sym (ap (target_path d) c.2)

    -- in an update a present node at a path that is opened is at the target's path
    opened_path : d.mode ≡ Update → (xs : List Action) → acts ≡ xs → is_kept d s.path ≡ true → PathIs (target_path d s.path) (w' s.path)
    opened_path m xs e kept =
        subst (PathIs (target_path d s.path)) (sym (stands s.path ∙ ap (acted d s.path [] (base w done s.path)) e))
        (acted_path d s.path [] xs (base w done s.path)
        (subst (PathIs (target_path d s.path)) (sym (base_kept kept)) (kept_path_is m s.path kept)))

    pub entered_path : d.mode ≡ Update → (e : Place d s.path acts s.action) → ((r : ℕ) → s.action ≢ Delete r)
        → ((k : Kind) → s.action ≢ Add k) → PathIs (target_path d s.path) (w' s.path)
    entered_path m (deleting r f x q) n a = absurd (n r q)
    entered_path m (adding k f x q) n a = absurd (a k q)
    entered_path m (entering k r kept e q) n a = opened_path m [] e kept
    entered_path m (inside k z (begun_open r inner kept e h) q) n a = opened_path m (Open k r ∷ inner) e kept
    entered_path m (inside k z (begun_add before inner f e h) q) n a =
        subst (PathIs (target_path d s.path)) (sym (stands s.path ∙ ap (acted d s.path [] (base w done s.path)) e))
        (added_path d s.path before inner k (base w done s.path))

    -- what isn't present at a close was added
    pub not_present_new : (e : Place d s.path acts s.action) → is_inner s.action ≡ true → is_not_present (w' s.path) ≡ true
        → joined_path w' s.path ≡ target_path d s.path
    not_present_new (deleting r f x q) i n = absurd (true≢false (sym i ∙ ap is_inner q))
    not_present_new (adding k f x q) i n = absurd (true≢false (sym i ∙ ap is_inner q))
    not_present_new (entering k r kept e q) i n = absurd (true≢false (sym i ∙ ap is_inner q))
    not_present_new (inside k z (begun_add before inner f e h) q) i n = joined_new f
    not_present_new (inside k z (begun_open r inner kept e h) q) i n =
        let present : is_present (w' s.path) ≡ true =
        ap is_present (stands s.path ∙ ap (acted d s.path [] (base w done s.path)) e)
        ∙ keep_present d s.path [] (Open k r ∷ inner) (base w done s.path) (refl, inner_leaves k inner h)
        (ap is_present (base_kept kept) ∙ kept_present s.path kept) in
        absurd (true≢false (sym present ∙ both_not (w' s.path) n))

    -- what is added isn't kept
    pub adds_new : (e : Place d s.path acts s.action) (k : Kind) → s.action ≡ Add k → is_kept d s.path ≡ false
    adds_new (deleting r f x q) k e = f
    adds_new (adding n f x q) k e = f
    adds_new (entering n r kept x q) k e = absurd (true≢false (ap is_open (sym q ∙ e)))
    adds_new (inside n z b q) k e = absurd (true≢false (sym q ∙ ap (inner_of n) e))

    fits_action : (a : Action) → s.action ≡ a → stepped d.mode d.target done w' s.path a ≡ act d s.path acts a (w' s.path)
    fits_action (Delete r) e = refl
    fits_action (Open File r) e = refl
    fits_action (Change k c) e = refl
    fits_action (Text b t) e = refl
    fits_action (Open Directory r) e =
        opened_same d.target (moved_path d.mode w' s.path) (λ q. target_path d s.path) (w' s.path)
        (λ present. moved_is d.mode refl (node_path (w' s.path))
        (λ m. entered_path m here (λ x q. let z = sym e ∙ q in cc) (λ x q. let z = sym e ∙ q in cc) present))
    fits_action (Add k) e = ap (λ q. Some (added_node k d.target q)) (joined_new (adds_new here k e))
    fits_action (Close Directory c) e = ap (λ cs. closed_directory cs (w' s.path)) (changes_at-actions s.path done)
    fits_action (Close File c) e =
        ap (λ cs. closed_file d.target (moved_path d.mode w' s.path) (joined_path w' s.path) cs (texts_at s.path done) (w' s.path))
        (changes_at-actions s.path done)
        ∙ ap (λ ts. closed_file d.target (moved_path d.mode w' s.path) (joined_path w' s.path) (changes_in acts) ts (w' s.path))
        (texts_at-actions s.path done)
        ∙ closed_same d.target (moved_path d.mode w' s.path) (λ q. target_path d s.path) (joined_path w' s.path) (target_path d s.path)
        (changes_in acts) (texts_in acts) (w' s.path)
        (λ present. moved_is d.mode refl (node_path (w' s.path))
        (λ m. entered_path m here (λ x q. let z = sym e ∙ q in cc) (λ x q. let z = sym e ∙ q in cc) present))
        (λ n. not_present_new here (ap is_inner e) n)

    pub fits : FitsAt d w' done s
    fits = fits_action s.action refl

-- the copy after some steps
abbrev pub after_steps : DriveInput → List Step → WorkingCopy → List Step → WorkingCopy
after_steps d done w [] = w
after_steps d done w (s ∷ rest) = after_steps d (done ++ s ∷ []) (step_effect d.mode d.target done s w) rest

-- ---- the directory above

opened_dir : (d : DriveInput) (p : Path) (r : ℕ) (found : Option BaseNode) → is_dir found ≡ true
    → (is_dir (act d p [] (Open Directory r) found) ≡ true) × PathIs (target_path d p) (act d p [] (Open Directory r) found)
opened_dir d p r (Some (DirNode v q c ps)) k = (refl, λ z. refl)
opened_dir d p r found k = absurd (true≢false (sym k))

-- where the main actions of a path with an entry are done, it is begun
pub begun_before : (d : DriveInput) (p : Path) (l : List Action) → Course d p l → list_any is_entry l ≡ true → (xs ys : List Action)
    → xs ++ ys ≡ l → NoneMain ys
    → (k : Kind) × TargetKind d p k × Begun d p k xs
begun_before d p l c any xs [] e n =
    subst (λ l. (k : Kind) × TargetKind d p k × Begun d p k l) (sym e ∙ append-nil xs) (begun_whole d p l c any)
begun_before d p l c any xs (a ∷ ys) e n = by (place_of d p l c xs a ys e)
  where
    by : Place d p xs a → (k : Kind) × TargetKind d p k × Begun d p k xs
    by (deleting r f x q) = absurd (true≢false (sym (ap is_main q) ∙ n.0))
    by (entering k r f x q) = absurd (true≢false (sym (ap is_main q) ∙ n.0))
    by (adding k f x q) = absurd (true≢false (sym (ap is_main q) ∙ n.0))
    by (inside k z b q) = (k, z, b)

module _ (d : DriveInput) (w : WorkingCopy) (setting : Setting d w) where
  pub same_kind : (p : Path) (k : Kind) → TargetKind d p k → EnteredDirectory d setting.served p → k ≡ Directory
  same_kind p k z e = sym z.2 ∙ ap (kind_of d.history) (same_Some z.0 e.node (sym z.1 ∙ e.target)) ∙ e.directory

  -- an entered directory is opened or added as one
  pub directory_entered : (p : Path) → EnteredDirectory d setting.served p → list_any (is_entry_of Directory) (path_actions d p) ≡ true
  directory_entered p e = entered_entry d p e.node Directory e.target e.directory e.entered

  pub has_entry : (p : Path) → EnteredDirectory d setting.served p → list_any is_entry (path_actions d p) ≡ true
  has_entry p e = any_implied (is_entry_of Directory) is_entry (entry_of_is_entry Directory) (path_actions d p) (directory_entered p e)

  -- a directory that is begun is there, at the target's path
  pub begun_directory : (p : Path) → EnteredDirectory d setting.served p → (k : Kind) → TargetKind d p k → (xs : List Action)
      → Begun d p k xs
      → (found : Option BaseNode) → (is_kept d p ≡ true → found ≡ w p)
      → (is_dir (acted d p [] found xs) ≡ true) × (node_path (acted d p [] found xs) ≡ target_path d p)
  begun_directory p e k z xs b found kept = by k (same_kind p k z e) z b
    where
      -- after an open or an add, and what was done inside since
      since : (before inner : List Action) (node : Option BaseNode) → AllOf (inner_of Directory) inner → is_dir node ≡ true
          → PathIs (target_path d p) node
          → (is_dir (acted d p before node inner) ≡ true) × (node_path (acted d p before node inner) ≡ target_path d p)
      since before inner node h is at =
          let stays = keep_dir d p before inner node (inner_leaves Directory inner h) is in
          (stays, acted_path d p before inner node at (dir_present (acted d p before node inner) stays))

      by : (k : Kind) → k ≡ Directory → TargetKind d p k → Begun d p k xs
          → (is_dir (acted d p [] found xs) ≡ true) × (node_path (acted d p [] found xs) ≡ target_path d p)
      by File q z b = absurd (differ q)
        where
          differ : File ≡ Directory → ⊥
          differ q = cc
      by Directory q z (begun_open r inner f x h) =
          let opened = opened_dir d p r found (ap is_dir (kept f) ∙ kept_dir d w setting p z.0 f (kept_present d w setting p f) z.1 z.2) in
          subst (λ l. (is_dir (acted d p [] found l) ≡ true) × (node_path (acted d p [] found l) ≡ target_path d p)) (sym x)
          (since (Open Directory r ∷ []) inner (act d p [] (Open Directory r) found) h opened.0 opened.1)
      by Directory q z (begun_add before inner f x h) =
          subst (λ o. (is_dir o ≡ true) × (node_path o ≡ target_path d p))
          (sym (ap (acted d p [] found) x ∙ acted-append d p [] before (Add Directory ∷ inner) found))
          (since (before ++ Add Directory ∷ []) inner (Some (added_node Directory d.target (target_path d p))) h refl (λ z. refl))

  module _ (late : Bool) (done : List Step) (s : Step) (rest : List Step) (drive : IsDriveOf d late (done ++ s ∷ rest)) (q : Path)
      (name : Name) (e : s.path ≡ child q name) where
    -- the path of a step has actions, so the one above is a directory that is entered
    pub entered_above : EnteredDirectory d setting.served q
    entered_above =
        entered_below d setting.served q name
        (λ z. none (actions_at s.path done) (actions_at s.path rest) (step_cut d late done s rest drive ∙ ap (path_actions d) e ∙ z))
      where
        none : (xs ys : List Action) → xs ++ s.action ∷ ys ≡ [] → ⊥
        none [] ys z = cc
        none (x ∷ xs) ys z = cc

    -- and its main actions have been taken
    pub none_left_above : NoneMain (actions_at q (s ∷ rest))
    none_left_above =
        subst NoneMain (ap (λ b. map (λ (t : Step). t.action) (cond b (s ∷ filter (is_at q) rest) (filter (is_at q) rest))) (sym elsewhere))
        (none_main_left d late s rest q (ap (is_below q) e ∙ is_below-child q name) (after_next d late done s rest drive.in_order))
      where
        elsewhere : path_eq s.path q ≡ false
        elsewhere =
            false_from_ne_true (path_eq s.path q)
            (λ z. true≢false (sym (sym (path_eq-child q name) ∙ ap (λ x. path_eq q x) (sym e ∙ same_path s.path q z) ∙ path_eq-same q)))

    -- so it is at the target's path
    pub joined_next : (w' : WorkingCopy) → ((p : Path) → w' p ≡ state d w done p) → joined_path w' s.path ≡ child (target_path d q) name
    joined_next w' stands =
        ap (joined_path w') e ∙ ap (λ x. node_path (w' x) ++ last_name (child q name)) (parent-child q name)
        ∙ ap (λ x. node_path (w' q) ++ x) (last_name-child q name)
        ∙ ap (λ x. child x name)
        (ap node_path (stands q)
        ∙ (begun_directory q entered_above begun.0 begun.1 (actions_at q done) begun.2 (base w done q)
        (kept_base d w late done (s ∷ rest) drive q)).1)
      where
        begun : (k : Kind) × TargetKind d q k × Begun d q k (actions_at q done)
        begun =
            begun_before d q (path_actions d q) (course_of d q) (has_entry q entered_above) (actions_at q done) (actions_at q (s ∷ rest))
            (path_cut d late done (s ∷ rest) drive q) none_left_above

  -- ---- a whole run

  none_deleted_below : (late : Bool) (done : List Step) (s : Step) (rest : List Step) → IsDriveOf d late (done ++ s ∷ rest)
      → (p : Path) → is_below s.path p ≡ true → is_delete s.action ≡ true → actions_at p done ≡ []
  none_deleted_below late done s rest drive p b k =
      ap (map (λ (t : Step). t.action))
      (none_below_next d late done s p (before_next d late done s rest drive.in_order)
      (main_key d late s.path s.action (delete_is_main s.action k)) b)

  -- after each step of a drive, each path is as its own actions say
  pub stands_after : (late : Bool) (done steps rest : List Step) → IsDriveOf d late (done ++ (steps ++ rest)) → (w' : WorkingCopy)
      → ((p : Path) → w' p ≡ state d w done p)
      → (p : Path) → after_steps d done w' steps p ≡ state d w (done ++ steps) p
  stands_after late done [] rest drive w' stands p = stands p ∙ ap (λ x. state d w x p) (sym (append-nil done))
  stands_after late done (s ∷ steps) rest drive w' stands p =
      stands_after late (done ++ s ∷ []) steps rest (subst (IsDriveOf d late) (sym (append_assoc done (s ∷ []) (steps ++ rest))) drive)
      (step_effect d.mode d.target done s w')
      (state-more d w w' done s stands
      (fits d w setting late done s (steps ++ rest) drive w' stands
      (λ q name e. joined_next late done s (steps ++ rest) drive q name e w' stands))
      (none_deleted_below late done s (steps ++ rest) drive)) p
      ∙ ap (λ x. state d w x p) (append_assoc done (s ∷ []) steps)
