-- The calls of a tree of steps, with the tokens of the paths opened before, are the calls of the walk.
use Rattle.std.proofs.Common.{◌≡◌, ℕ, zero, suc, ◌+◌, Bool, true, false, ◌&&◌, ◌||◌, List, [], ◌∷◌, ◌++◌, length, refl, sym, ◌∙◌, ap}
use Rattle.std.proofs.Common.{subst, true≢false, append_assoc, append-nil, length-append}
use Rattle.std.specs.Prelude.{Option, Some, None, cond, map, bytes_eq}
use Rattle.std.specs.List.{list_any, AllByRecursion}
use Rattle.std.proofs.lemmas.Bool.{false_from_ne_true}
use Rattle.std.proofs.lemmas.List.Folds.{list_any-append}
use Rattle.svn_lists.proofs.Every.{all-append, all_both, all_map, all_from}
use Rattle.svn_lists.proofs.Somewhere.{any_implied, each_fails, none_any}
use Rattle.svn_types.specs.Names.{Path}
use Rattle.svn_types.specs.Paths.{path_eq, is_within, child, parent}
use Rattle.svn_types.specs.declared.kind.Kind.{Kind}
use Rattle.svn_types.specs.declared.kind.Kind.TheVariants.{File, Directory}
use Rattle.svn_types.specs.Props.{changes_between}
use Rattle.svn_types.proofs.NameLemmas.{Name}
use Rattle.svn_types.proofs.PathLemmas.{same_path, is_within-same, parent-child, below_from_child, within_shorter, children_apart}
use Rattle.svn_repo.specs.Readings.{kind_of, text_of, props_of, is_directory, is_directory_at}
use Rattle.svn_editor.specs.declared.call.Call.{Call}
use Rattle.svn_editor.specs.Steps.{Action, Delete, Open, Add, Change, Text, Close, Step, steps_at}
use Rattle.svn_model.specs.Sources.{governing_revision}
use Rattle.svn_model.specs.Follow.{DriveInput, follow, source_node, target_node}
use Rattle.svn_model.specs.Steps.{is_touched, is_gone, source_text, gone_actions, text_actions}
use Rattle.svn_model.specs.Drive.{token_of, numbered}
use Rattle.svn_model.specs.Tree.{names_below, is_entered, enters_directory, enter_action, old_props, file_end, is_late, first_of, last_of}
use Rattle.svn_model.specs.Tree.{late_of, first_at, last_at, late_at, first_actions, by_names, below_of, tree_steps, late_steps}
use Rattle.svn_model.specs.Tree.{drive_steps}
use Rattle.svn_model.specs.TreeCalls.{calls_at, sizes, own_size, tree_size, in_turn, tree_calls, late_calls}
use Rattle.law_drive.proofs.Courses.{is_entry, is_inner, AllOf, all_changes}
use Rattle.law_drive.proofs.Ways.{Ordered, ordered_below, ordered_apart}
use Rattle.law_drive.proofs.TreePaths.{steps_at-append}
use Rattle.law_drive.proofs.Tokens.{calls_at-append}
use Rattle.law_drive.proofs.Tokens.{entered, entered-append, is_opened, numbered-append, token_first, token_stays, opened_last}
use Rattle.law_drive.proofs.Tokens.{opened_stays, Shape, bare, entry, Gone, none, gone, own_list, gone_first, gone_entered}
use Rattle.law_drive.proofs.Tokens.{shape_entered, shape_calls, shape_late, late_entered}

-- ---- what is done at a path

pub gone_of : (d : DriveInput) (p : Path) → Gone (gone_actions d p)
gone_of d p = by (is_gone d p)
  where
    by : (b : Bool) → Gone (cond b (Delete (governing_revision (follow d p).here) ∷ []) [])
    by true = gone (governing_revision (follow d p).here)
    by false = none

module _ (d : DriveInput) (late : Bool) (p : Path) where
  enters : (k : Kind) → is_entry (enter_action d p k) ≡ true
  enters k = by (is_touched d p)
    where
      by : (b : Bool) → is_entry (cond b (Open k (governing_revision (follow d p).here)) (Add k)) ≡ true
      by true = refl
      by false = refl

  abbrev changes : ℕ → Kind → List Action
  changes n k = map (Change k) (changes_between (old_props d p) (props_of d.history n))

  inner_changes : (n : ℕ) (k : Kind) → AllOf is_inner (changes n k)
  inner_changes n k = all_changes is_inner k (λ c. refl) (changes_between (old_props d p) (props_of d.history n))

  inner_end : (n : ℕ) → AllOf is_inner (file_end d p n)
  inner_end n = all-append (λ a. is_inner a ≡ true) texts close (by (is_touched d p)) (refl, tt)
    where
      close : List Action
      close = Close File (Some (d.checksum (text_of d.history n))) ∷ []

      texts_by : Bool → List Action
      texts_by b = cond b (text_actions d (source_text d (source_node d p)) (text_of d.history n)) (Text None (text_of d.history n) ∷ [])

      texts : List Action
      texts = texts_by (is_touched d p)

      changed : (b : Bool)
          → AllOf is_inner (cond b [] (Text (Some (d.checksum (source_text d (source_node d p)))) (text_of d.history n) ∷ []))
      changed true = tt
      changed false = (refl, tt)

      by : (b : Bool) → AllOf is_inner (texts_by b)
      by true = changed (bytes_eq (source_text d (source_node d p)) (text_of d.history n))
      by false = (refl, tt)

  pub shape_of : Shape (first_at d late p (target_node d p)) (last_at d p (target_node d p)) (late_at d late p (target_node d p))
      (enters_directory d p) (own_size d p (target_node d p))
  shape_of = by_target (target_node d p)
    where
      nowhere : (b : Bool) → Shape [] [] [] (b && false) 0
      nowhere true = bare
      nowhere false = bare

      chosen : (l : Bool) (acts : List Action) → AllOf is_inner acts → AllOf is_inner (cond l [] acts)
      chosen true acts h = tt
      chosen false acts h = h

      chosen_late : (l : Bool) (acts : List Action) → AllOf is_inner acts → AllOf is_inner (cond l acts [])
      chosen_late true acts h = h
      chosen_late false acts h = tt

      there : (n : ℕ) (b : Bool) (k : Kind)
          → Shape (cond b (first_of d late p n k) []) (cond b (last_of k) []) (cond b (late_of d late p n k) []) (b && is_directory k)
          (cond b 1 0)
      there n false k = bare
      there n true Directory =
          entry (enter_action d p Directory) (changes n Directory) (Close Directory None ∷ []) [] true (enters Directory)
          (inner_changes n Directory) (refl, tt) tt
      there n true File =
          entry (enter_action d p File) (changes n File ++ cond (is_late d late p) [] (file_end d p n)) []
          (cond (is_late d late p) (file_end d p n) []) false (enters File)
          (all-append (λ a. is_inner a ≡ true) (changes n File) (cond (is_late d late p) [] (file_end d p n)) (inner_changes n File)
          (chosen (is_late d late p) (file_end d p n) (inner_end n)))
          tt (chosen_late (is_late d late p) (file_end d p n) (inner_end n))

      by_target : (o : Option ℕ)
          → Shape (first_at d late p o) (last_at d p o) (late_at d late p o) (is_entered d p && is_directory_at d.history o)
          (own_size d p o)
      by_target None = nowhere (is_entered d p)
      by_target (Some n) = there n (is_entered d p) (kind_of d.history n)

-- ---- paths within a path

abbrev pub Under : Path → List Path → Type 0
Under p ys = AllByRecursion (λ y. is_within p y ≡ true) ys

abbrev pub Clear : Path → List Path → Type 0
Clear p ys = list_any (is_within p) ys ≡ false

clear_opened : (p : Path) (ys : List Path) → Clear p ys → is_opened ys p ≡ false
clear_opened p ys h =
    false_from_ne_true (is_opened ys p)
    (λ e. true≢false
    (sym (any_implied (path_eq p) (is_within p) (λ y f. ap (is_within p) (sym (same_path p y f)) ∙ is_within-same p) ys e) ∙ h))

clear_child : (p : Path) (m : Name) (ys : List Path) → Clear p ys → Clear (child p m) ys
clear_child p m ys h =
    false_from_ne_true (list_any (is_within (child p m)) ys)
    (λ e. true≢false (sym (any_implied (is_within (child p m)) (is_within p) (λ y f. (below_from_child p y m f).0) ys e) ∙ h))

clear-append : (p : Path) (xs ys : List Path) → Clear p xs → Clear p ys → Clear p (xs ++ ys)
clear-append p xs ys h k = list_any-append (is_within p) xs ys ∙ ap (λ b. b || list_any (is_within p) ys) h ∙ k

clear_below : (p : Path) (m : Name) (opened : List Path) → Clear p opened → Clear (child p m) (opened ++ p ∷ [])
clear_below p m opened h =
    clear-append (child p m) opened (p ∷ []) (clear_child p m opened h) (ap (λ b. b || false) (within_shorter p m []))

apart_all : (p : Path) (m k : Name) (ys : List Path) → bytes_eq k m ≡ false → Under (child p m) ys → Clear (child p k) ys
apart_all p m k ys h u =
    none_any (is_within (child p k)) ys
    (all_map (λ y. is_within (child p m) y ≡ true) (λ y. is_within (child p k) y ≡ false) (λ y e. children_apart p m k y h e) ys u)

-- the later names stay free, once the tree of one is done
still_clear : (p : Path) (m : Name) (ns : List Name) (opened more : List Path) → list_any (λ n. bytes_eq n m) ns ≡ false
    → Under (child p m) more
    → AllByRecursion (λ k. Clear (child p k) opened) ns → AllByRecursion (λ k. Clear (child p k) (opened ++ more)) ns
still_clear p m ns opened more h u c =
    all_map (λ k. Clear (child p k) opened × (bytes_eq k m ≡ false)) (λ k. Clear (child p k) (opened ++ more))
    (λ k e. clear-append (child p k) opened more e.0 (apart_all p m k more e.1 u)) ns
    (all_both (λ k. Clear (child p k) opened) (λ k. bytes_eq k m ≡ false) ns c (each_fails (λ n. bytes_eq n m) ns h))

-- ---- name by name

module _ (f : Path → List Step) (p : Path) (within : (m : Name) → Under (child p m) (entered (f (child p m)))) where
  names_under : (ns : List Name) → Under p (entered (by_names f p ns))
  names_under [] = tt
  names_under (m ∷ ns) =
      subst (Under p) (sym (entered-append (f (child p m)) (by_names f p ns)))
      (all-append (λ y. is_within p y ≡ true) (entered (f (child p m))) (entered (by_names f p ns))
      (all_map (λ y. is_within (child p m) y ≡ true) (λ y. is_within p y ≡ true) (λ y e. (below_from_child p y m e).0)
      (entered (f (child p m))) (within m))
      (names_under ns))

  module _ (size : Path → ℕ) (sized : (m : Name) → length (entered (f (child p m))) ≡ size (child p m)) where
    names_sized : (ns : List Name) → length (entered (by_names f p ns)) ≡ sizes size p ns
    names_sized [] = refl
    names_sized (m ∷ ns) =
        ap length (entered-append (f (child p m)) (by_names f p ns))
        ∙ length-append (entered (f (child p m))) (entered (by_names f p ns))
        ∙ ap (λ n. n + length (entered (by_names f p ns))) (sized m)
        ∙ ap (λ n. size (child p m) + n) (names_sized ns)

    further : (m : Name) (opened : List Path) → length (opened ++ entered (f (child p m))) ≡ length opened + size (child p m)
    further m opened = length-append opened (entered (f (child p m))) ∙ ap (λ n. length opened + n) (sized m)

    module _ (calls : Path → ℕ → List Call) (own : ℕ)
        (right : (m : Name) (opened : List Path) → Clear (child p m) opened → token_of opened p ≡ own
        → numbered opened (f (child p m)) ≡ calls (child p m) (length opened)) where
      names_numbered : (ns : List Name) → Ordered ns → (opened : List Path) → is_opened opened p ≡ true → token_of opened p ≡ own
          → AllByRecursion (λ m. Clear (child p m) opened) ns
          → numbered opened (by_names f p ns) ≡ in_turn calls size p (length opened) ns
      names_numbered [] o opened h t c = refl
      names_numbered (m ∷ ns) o opened h t c =
          let more = entered (f (child p m)) in
          numbered-append (f (child p m)) (by_names f p ns) opened
          ∙ ap (λ l. l ++ numbered (opened ++ more) (by_names f p ns)) (right m opened c.0 t)
          ∙ ap (λ l. calls (child p m) (length opened) ++ l)
          (names_numbered ns o.1 (opened ++ more) (opened_stays opened p more h) (token_stays opened p more h ∙ t)
          (still_clear p m ns opened more (ordered_apart m ns o.0) (within m) c.1)
          ∙ ap (λ n. in_turn calls size p n ns) (further m opened))

    -- steps that open nothing, once all of the tree is opened
    module _ (g : Path → List Step) (calls : Path → ℕ → List Call) (opens : (m : Name) → entered (g (child p m)) ≡ [])
        (right : (m : Name) (xs ys : List Path) → Clear (child p m) xs
        → numbered (xs ++ (entered (f (child p m)) ++ ys)) (g (child p m)) ≡ calls (child p m) (length xs)) where
      names_late : (ns : List Name) → Ordered ns → (xs ys : List Path) → AllByRecursion (λ m. Clear (child p m) xs) ns
          → numbered (xs ++ (entered (by_names f p ns) ++ ys)) (by_names g p ns) ≡ in_turn calls size p (length xs) ns
      names_late [] o xs ys c = refl
      names_late (m ∷ ns) o xs ys c =
          let one = entered (f (child p m)) in
          let two = entered (by_names f p ns) in
          let all : xs ++ (entered (by_names f p (m ∷ ns)) ++ ys) ≡ xs ++ (one ++ (two ++ ys)) =
          ap (λ l. xs ++ l) (ap (λ l. l ++ ys) (entered-append (f (child p m)) (by_names f p ns)) ∙ append_assoc one two ys) in
          ap (λ l. numbered l (by_names g p (m ∷ ns))) all
          ∙ numbered-append (g (child p m)) (by_names g p ns) (xs ++ (one ++ (two ++ ys)))
          ∙ ap (λ l. l ++ numbered ((xs ++ (one ++ (two ++ ys))) ++ entered (g (child p m))) (by_names g p ns)) (right m xs (two ++ ys) c.0)
          ∙ ap (λ l. calls (child p m) (length xs) ++ numbered l (by_names g p ns))
          (ap (λ l. (xs ++ (one ++ (two ++ ys))) ++ l) (opens m) ∙ append-nil (xs ++ (one ++ (two ++ ys)))
          ∙ sym (append_assoc xs one (two ++ ys)))
          ∙ ap (λ l. calls (child p m) (length xs) ++ l)
          (names_late ns o.1 (xs ++ one) ys (still_clear p m ns xs one (ordered_apart m ns o.0) (within m) c.1)
          ∙ ap (λ n. in_turn calls size p n ns) (further m xs))

-- ---- the tree

own_under : (p : Path) (acts : List Action) → Under p (entered (steps_at p acts))
own_under p [] = tt
own_under p (Open k r ∷ acts) = (is_within-same p, own_under p acts)
own_under p (Add k ∷ acts) = (is_within-same p, own_under p acts)
own_under p (Delete r ∷ acts) = own_under p acts
own_under p (Change k c ∷ acts) = own_under p acts
own_under p (Text s t ∷ acts) = own_under p acts
own_under p (Close k c ∷ acts) = own_under p acts

module _ (d : DriveInput) (late : Bool) where
  abbrev tree : ℕ → Path → List Step
  tree = tree_steps d late

  abbrev first : Path → List Action
  first p = first_at d late p (target_node d p)

  abbrev last : Path → List Action
  last p = last_at d p (target_node d p)

  -- what is opened is within the path
  under : (n : ℕ) (p : Path) → Under p (entered (tree n p))
  under zero p = tt
  under (suc n) p =
      subst (Under p) (sym (entered-append (steps_at p (first_actions d late p)) (below_of d (tree n) p ++ steps_at p (last p))))
      (all-append (λ y. is_within p y ≡ true) (entered (steps_at p (first_actions d late p)))
      (entered (below_of d (tree n) p ++ steps_at p (last p))) (own_under p (first_actions d late p))
      (subst (Under p) (sym (entered-append (below_of d (tree n) p) (steps_at p (last p))))
      (all-append (λ y. is_within p y ≡ true) (entered (below_of d (tree n) p)) (entered (steps_at p (last p)))
      (by (λ m. under n (child p m)) (enters_directory d p)) (own_under p (last p)))))
    where
      by : ((m : Name) → Under (child p m) (entered (tree n (child p m)))) → (b : Bool)
          → Under p (entered (cond b (by_names (tree n) p (names_below d p)) []))
      by h true = names_under (tree n) p h (names_below d p)
      by h false = tt

  -- the steps of a path in their parts
  parts : (n : ℕ) (p : Path)
      → tree (suc n) p ≡ steps_at p (gone_actions d p) ++ (steps_at p (first p) ++ (below_of d (tree n) p ++ steps_at p (last p)))
  parts n p =
      ap (λ l. l ++ (below_of d (tree n) p ++ steps_at p (last p))) (steps_at-append p (gone_actions d p) (first p))
      ∙ append_assoc (steps_at p (gone_actions d p)) (steps_at p (first p)) (below_of d (tree n) p ++ steps_at p (last p))

  -- the path itself, and then what is opened below it
  tree_entered : (n : ℕ) (p : Path)
      → entered (tree (suc n) p) ≡ own_list (own_size d p (target_node d p)) p
      ++ cond (enters_directory d p) (entered (by_names (tree n) p (names_below d p))) []
  tree_entered n p =
      ap entered (parts n p)
      ∙ gone_entered p (gone_actions d p) (steps_at p (first p) ++ (below_of d (tree n) p ++ steps_at p (last p))) (gone_of d p)
      ∙ shape_entered p (first p) (last p) (late_at d late p (target_node d p)) (enters_directory d p) (own_size d p (target_node d p))
      (shape_of d late p) (by_names (tree n) p (names_below d p))

  -- as many paths are opened as tokens are given
  tree_sized : (n : ℕ) (p : Path) → length (entered (tree n p)) ≡ tree_size d n p
  tree_sized zero p = refl
  tree_sized (suc n) p =
      ap length (tree_entered n p)
      ∙ length-append (own_list (own_size d p (target_node d p)) p)
      (cond (enters_directory d p) (entered (by_names (tree n) p (names_below d p))) [])
      ∙ ap (λ x. x + length (cond (enters_directory d p) (entered (by_names (tree n) p (names_below d p))) []))
      (own (own_size d p (target_node d p)))
      ∙ ap (λ x. own_size d p (target_node d p) + x) (by (λ m. tree_sized n (child p m)) (enters_directory d p))
    where
      own : (s : ℕ) → length (own_list s p) ≡ s
      own zero = refl
      own (suc s) = ap suc (own s)

      by : ((m : Name) → length (entered (tree n (child p m))) ≡ tree_size d n (child p m)) → (b : Bool)
          → length (cond b (entered (by_names (tree n) p (names_below d p))) []) ≡ cond b (sizes (tree_size d n) p (names_below d p)) 0
      by h true = names_sized (tree n) p (λ m. under n (child p m)) (tree_size d n) h (names_below d p)
      by h false = refl

  -- the calls of the tree, where nothing at the path or below it is opened yet
  pub tree_numbered : (n : ℕ) (p : Path) (opened : List Path) → Clear p opened
      → numbered opened (tree n p) ≡ tree_calls d late n p (token_of opened (parent p)) (length opened)
  tree_numbered zero p opened h = refl
  tree_numbered (suc n) p opened h =
      ap (numbered opened) (parts n p)
      ∙ gone_first opened p (gone_actions d p) (steps_at p (first p) ++ (below_of d (tree n) p ++ steps_at p (last p))) (gone_of d p)
      ∙ ap (λ l. calls_at p up own (gone_actions d p) ++ l)
      (shape_calls p (first p) (last p) (late_at d late p (target_node d p)) (enters_directory d p) (own_size d p (target_node d p))
      (shape_of d late p) opened (clear_opened p opened h)
      (by_names (tree n) p (names_below d p)) calls (λ e. names (λ m o c. tree_numbered n (child p m) o c)))
      ∙ sym (append_assoc (calls_at p up own (gone_actions d p)) (calls_at p up own (first p))
      (cond (enters_directory d p) calls [] ++ calls_at p up own (last p)))
      ∙ ap (λ l. l ++ (cond (enters_directory d p) calls [] ++ calls_at p up own (last p)))
      (sym (calls_at-append p up own (gone_actions d p) (first p)))
    where
      up : ℕ
      up = token_of opened (parent p)

      own : ℕ
      own = length opened

      here : Path → ℕ → List Call
      here q next = tree_calls d late n q own next

      calls : List Call
      calls = in_turn here (tree_size d n) p (own + 1) (names_below d p)

      own_token : token_of (opened ++ p ∷ []) p ≡ own
      own_token = token_first opened p [] (clear_opened p opened h)

      names : ((m : Name) (o : List Path) → Clear (child p m) o
          → numbered o (tree n (child p m)) ≡ tree_calls d late n (child p m) (token_of o (parent (child p m))) (length o))
          → numbered (opened ++ p ∷ []) (by_names (tree n) p (names_below d p)) ≡ calls
      names ih =
          names_numbered (tree n) p (λ m. under n (child p m)) (tree_size d n) (λ m. tree_sized n (child p m)) here own
          (λ m o c t. ih m o c ∙ ap (λ x. tree_calls d late n (child p m) x (length o)) (ap (token_of o) (parent-child p m) ∙ t))
          (names_below d p) (ordered_below d p) (opened ++ p ∷ []) (opened_last opened p) own_token
          (all_from (λ m. Clear (child p m) (opened ++ p ∷ [])) (λ m. clear_below p m opened h) (names_below d p))
          ∙ ap (λ x. in_turn here (tree_size d n) p x (names_below d p)) (length-append opened (p ∷ []))

  -- ---- the late list

  abbrev waiting : ℕ → Path → List Step
  waiting = late_steps d late

  abbrev last_ones : Path → List Action
  last_ones p = late_at d late p (target_node d p)

  names_waiting : (f : Path → List Step) (p : Path) → ((m : Name) → entered (f (child p m)) ≡ []) → (ns : List Name)
      → entered (by_names f p ns) ≡ []
  names_waiting f p h [] = refl
  names_waiting f p h (m ∷ ns) =
      entered-append (f (child p m)) (by_names f p ns) ∙ ap (λ l. l ++ entered (by_names f p ns)) (h m) ∙ names_waiting f p h ns

  -- it opens nothing
  pub waiting_entered : (n : ℕ) (p : Path) → entered (waiting n p) ≡ []
  waiting_entered zero p = refl
  waiting_entered (suc n) p =
      late_entered p (first p) (last p) (last_ones p) (enters_directory d p) (own_size d p (target_node d p)) (shape_of d late p)
      (by_names (waiting n) p (names_below d p))
      (names_waiting (waiting n) p (λ m. waiting_entered n (child p m)) (names_below d p))

  -- its calls, where all of the tree is opened, after paths that don't are in it
  pub waiting_numbered : (n : ℕ) (p : Path) (up : ℕ) (xs ys : List Path) → Clear p xs
      → numbered (xs ++ (entered (tree n p) ++ ys)) (waiting n p) ≡ late_calls d late n p up (length xs)
  waiting_numbered zero p up xs ys h = refl
  waiting_numbered (suc n) p up xs ys h =
      shape_late p (first p) (last p) (last_ones p) (enters_directory d p) (own_size d p (target_node d p))
      (shape_of d late p) opened up own token
      (by_names (waiting n) p (names_below d p)) calls (names_waiting (waiting n) p (λ m. waiting_entered n (child p m)) (names_below d p))
      (λ e. names (entered_there e) e (λ m us vs c. waiting_numbered n (child p m) own us vs c))
    where
      opened : List Path
      opened = xs ++ (entered (tree (suc n) p) ++ ys)

      own : ℕ
      own = length xs

      here : Path → ℕ → List Call
      here q next = late_calls d late n q own next

      calls : List Call
      calls = in_turn here (tree_size d n) p (own + 1) (names_below d p)

      below : List Path
      below = entered (by_names (tree n) p (names_below d p))

      -- what is opened, with the path itself in front
      with_own : own_size d p (target_node d p) ≡ 1 → opened ≡ xs ++ p ∷ (cond (enters_directory d p) below [] ++ ys)
      with_own e = ap (λ l. xs ++ (l ++ ys)) (tree_entered n p ∙ ap (λ s. own_list s p ++ cond (enters_directory d p) below []) e)

      token : own_size d p (target_node d p) ≡ 1 → token_of opened p ≡ own
      token e = ap (λ l. token_of l p) (with_own e) ∙ token_first xs p (cond (enters_directory d p) below [] ++ ys) (clear_opened p xs h)

      -- a directory that is entered has a token
      entered_there : enters_directory d p ≡ true → own_size d p (target_node d p) ≡ 1
      entered_there e = by (shape_of d late p) e
        where
          by : {f l z : List Action} {b : Bool} {s : ℕ} → Shape f l z b s → b ≡ true → s ≡ 1
          by bare q = absurd (true≢false (sym q))
          by (entry a us vs ws c i hx hy hz) q = refl

      names : own_size d p (target_node d p) ≡ 1 → enters_directory d p ≡ true
          → ((m : Name) (us vs : List Path) → Clear (child p m) us
          → numbered (us ++ (entered (tree n (child p m)) ++ vs)) (waiting n (child p m)) ≡ here (child p m) (length us))
          → numbered opened (by_names (waiting n) p (names_below d p)) ≡ calls
      names s e ih =
          ap (λ o. numbered o (by_names (waiting n) p (names_below d p)))
          (with_own s ∙ ap (λ b. xs ++ p ∷ (cond b below [] ++ ys)) e ∙ sym (append_assoc xs (p ∷ []) (below ++ ys)))
          ∙ names_late (tree n) p (λ m. under n (child p m)) (tree_size d n) (λ m. tree_sized n (child p m)) (waiting n) here
          (λ m. waiting_entered n (child p m)) ih
          (names_below d p) (ordered_below d p) (xs ++ p ∷ []) ys
          (all_from (λ m. Clear (child p m) (xs ++ p ∷ [])) (λ m. clear_below p m xs h) (names_below d p))
          ∙ ap (λ x. in_turn here (tree_size d n) p x (names_below d p)) (length-append xs (p ∷ []))

  -- ---- all calls

  pub drive_numbered : (height : ℕ)
      → numbered [] (drive_steps d late height) ≡ tree_calls d late height [] 0 0 ++ late_calls d late height [] 0 0
  drive_numbered height =
      numbered-append (tree height []) (waiting height []) []
      ∙ ap (λ l. l ++ numbered (entered (tree height [])) (waiting height [])) (tree_numbered height [] [] refl)
      ∙ ap (λ l. tree_calls d late height [] 0 0 ++ l)
      (ap (λ o. numbered o (waiting height [])) (sym (append-nil (entered (tree height [])))) ∙ waiting_numbered height [] 0 [] [] refl)
