-- After all steps of a drive and the last call the copy is the result.
use Rattle.std.proofs.Common.{◌≡◌, ℕ, Bool, true, false, ◌&&◌, ◌||◌, not, List, [], ◌∷◌, ◌++◌, refl, sym, ◌∙◌, ap, subst, true≢false}
use Rattle.std.proofs.Common.{append-nil}
use Rattle.std.proofs.Math.Bool.{and-false}
use Rattle.std.proofs.lemmas.Bool.{false_from_ne_true}
use Rattle.std.proofs.lemmas.List.Folds.{list_any-append}
use Rattle.std.specs.Prelude.{Option, Some, None, is_some, option_map, cond, map, filter}
use Rattle.std.specs.List.{list_any}
use Rattle.std.proofs.lemmas.Option.{same_Some}
use Rattle.svn_lists.proofs.Tests.{or_first}
use Rattle.svn_types.specs.Names.{Path}
use Rattle.svn_types.specs.Paths.{path_eq, is_within, is_below}
use Rattle.svn_types.specs.declared.kind.Kind.{Kind}
use Rattle.svn_types.specs.declared.kind.Kind.TheVariants.{File, Directory}
use Rattle.svn_types.proofs.PathLemmas.{same_path, path_eq-same}
use Rattle.svn_repo.specs.History.{History}
use Rattle.svn_repo.specs.Readings.{are_related, kind_of, text_of, props_of}
use Rattle.svn_editor.specs.declared.mode.Mode.{Mode}
use Rattle.svn_editor.specs.declared.mode.Mode.TheVariants.{Update, SwitchTo}
use Rattle.svn_editor.specs.Steps.{Step}
use Rattle.svn_editor.specs.declared.call.Call.{Call}
use Rattle.svn_editor.specs.declared.call.Call.TheVariants.{SetTargetRevision, CloseEdit}
use Rattle.svn_model.specs.Steps.{IsDriveOf, is_touched, is_new, is_gone, starts_empty_at, source_props, source_text, path_actions}
use Rattle.svn_model.specs.Follow.{DriveInput, is_kept, target_path, source_node, target_node}
use Rattle.svn_model.specs.Drive.{numbered, IsDrive}
use Rattle.svn_model.specs.declared.base_node.BaseNode.{BaseNode}
use Rattle.svn_model.specs.declared.base_node.BaseNode.TheVariants.{File as FileNode, Dir as DirNode, NotPresent}
use Rattle.svn_model.specs.Nodes.{WorkingCopy, is_present, node_path, base_node_by, base_node}
use Rattle.svn_model.specs.Effects.{settled, settled_path, after}
use Rattle.svn_model.specs.Result.{result}
use Rattle.law_update.proofs.Described.{Setting}
use Rattle.law_drive.proofs.Classes.{none_related, kept_related, switched_to, untouched_same}
use Rattle.law_drive.proofs.Courses.{is_delete}
use Rattle.law_copy.proofs.Appending.{after_from-more}
use Rattle.law_update.proofs.States.{is_at, actions_at, actions_at-drive, acted, is_deleted_above, base, state, path_cut}
use Rattle.law_update.proofs.FirstSteps.{after_next, none_main_left, none_left, delete_is_main}
use Rattle.law_update.proofs.Deletes.{deleted_by, gone_deletes, kept_base, gone_above}
use Rattle.law_update.proofs.AfterSteps.{kept_path_is}
use Rattle.law_update.proofs.AfterCalls.{after-first}
use Rattle.law_update.proofs.AfterAllSteps.{KeptAs, kept_as, entered_end, ended, acted_all, kept_not_gone}

-- ---- what the last call leaves

-- what isn't present goes
absent_settled : (mode : Mode) (target : ℕ) (p : Path) (found : Option BaseNode) → is_present found ≡ false
    → settled mode target p found ≡ None
absent_settled mode target p None k = refl
absent_settled mode target p (Some NotPresent) k = refl
absent_settled mode target p (Some (FileNode r q t ps)) k = absurd (true≢false k)
absent_settled mode target p (Some (DirNode r q c ps)) k = absurd (true≢false k)

module _ (d : DriveInput) (w : WorkingCopy) (setting : Setting d w) where
  abbrev h : History
  h = d.history

  -- the last call leaves a path of the target at its place
  settled_at : (p : Path) → settled_path d.mode p (target_path d p) ≡ target_path d p
  settled_at p = by d.mode refl
    where
      by : (m : Mode) → d.mode ≡ m → settled_path m p (target_path d p) ≡ target_path d p
      by Update e = refl
      by (SwitchTo root) e = sym (switched_to d root e p)

  -- and of what is kept
  settled_kept : (p : Path) → is_kept d p ≡ true → is_present (w p) ≡ true → settled_path d.mode p (node_path (w p)) ≡ target_path d p
  settled_kept p k present = by d.mode refl
    where
      by : (m : Mode) → d.mode ≡ m → settled_path m p (node_path (w p)) ≡ target_path d p
      by Update e = kept_path_is d w setting e p k present
      by (SwitchTo root) e = sym (ap (λ m. settled_path m p (target_path d p)) e) ∙ settled_at p

  -- and what is in the target stays as it is
  settled_base : (p : Path) (k : Kind) (text : List ℕ) (props : List (List ℕ × List ℕ))
      → settled d.mode d.target p (Some (base_node_by k d.target (target_path d p) text props))
      ≡ Some (base_node_by k d.target (target_path d p) text props)
  settled_base p File text props = ap (λ q. Some (FileNode d.target q text props)) (settled_at p)
  settled_base p Directory text props = ap (λ q. Some (DirNode d.target q true props)) (settled_at p)

  -- what is there is what the result has, but for its revision and path
  settled_untouched : (p : Path) (n : ℕ) (k : Kind) → source_node d p ≡ Some n → starts_empty_at d p ≡ false → is_kept d p ≡ true
      → KeptAs d w setting p k
      → settled d.mode d.target p (w p) ≡ Some (base_node_by k d.target (target_path d p) (text_of h n) (props_of h n))
  settled_untouched p n File s e k kept =
      ap (settled d.mode d.target p) kept.is
      ∙ (λ i. Some (FileNode d.target (place i) (same_text i) (same_props i)))
    where
      place : settled_path d.mode p kept.path ≡ target_path d p
      place = ap (λ o. settled_path d.mode p (node_path o)) (sym kept.is) ∙ settled_kept p k (ap is_present kept.is)

      same_text : kept.text ≡ text_of h n
      same_text = kept.same_text ∙ ap (source_text d) s

      same_props : kept.props ≡ props_of h n
      same_props = kept.same_props ∙ ap (source_props d p) s ∙ ap (λ b. cond b [] (props_of h n)) e
  settled_untouched p n Directory s e k kept =
      ap (settled d.mode d.target p) kept.is
      ∙ (λ i. Some (DirNode d.target (place i) (complete i) (same_props i)))
    where
      place : settled_path d.mode p kept.path ≡ target_path d p
      place = ap (λ o. settled_path d.mode p (node_path o)) (sym kept.is) ∙ settled_kept p k (ap is_present kept.is)

      complete : kept.complete ≡ true
      complete = kept.same_complete ∙ ap not e

      same_props : kept.props ≡ props_of h n
      same_props =
          sym (ap (λ b. cond b kept.props []) complete) ∙ kept.same_props ∙ ap (source_props d p) s ∙ ap (λ b. cond b [] (props_of h n)) e

  -- ---- the whole of a drive

  -- of what isn't kept nothing is left once all deletes at it and above are done
  pub nothing_left : (done : List Step) (p : Path)
      → ((q : Path) → is_below q p ≡ true → is_gone d q ≡ true → is_deleted_above done p ≡ true)
      → is_kept d p ≡ false → is_present (cond (is_gone d p) None (base w done p)) ≡ false
  nothing_left done p deleted k = by (is_present (w p)) refl
    where
      absent : (g x : Bool) → is_present (w p) ≡ false → is_present (cond g None (cond x None (w p))) ≡ false
      absent true x e = refl
      absent false true e = refl
      absent false false e = e

      gone : (g : Bool) → is_present (cond g None None) ≡ false
      gone true = refl
      gone false = refl

      by : (b : Bool) → is_present (w p) ≡ b → is_present (cond (is_gone d p) None (base w done p)) ≡ false
      by false e = absent (is_gone d p) (is_deleted_above done p) e
      by true e = at (gone_above d w setting p e k)
        where
          at : (q : Path) × (is_within q p ≡ true) × (is_gone d q ≡ true) → is_present (cond (is_gone d p) None (base w done p)) ≡ false
          at found = split (path_eq found.0 p) refl
            where
              split : (b : Bool) → path_eq found.0 p ≡ b → is_present (cond (is_gone d p) None (base w done p)) ≡ false
              split true z = ap (λ g. is_present (cond g None (base w done p))) (sym (ap (is_gone d) (same_path found.0 p z)) ∙ found.2)
              split false z =
                  ap (λ x. is_present (cond (is_gone d p) None (cond x None (w p))))
                  (deleted found.0 (ap (λ b. b && not (path_eq found.0 p)) found.1 ∙ ap not z) found.2)
                  ∙ gone (is_gone d p)

  -- in a whole drive they are
  pub deleted_all : (late : Bool) (steps : List Step) → IsDriveOf d late steps → (p q : Path) → is_below q p ≡ true → is_gone d q ≡ true
      → is_deleted_above steps p ≡ true
  deleted_all late steps drive p q b g =
      deleted_by q p steps (ap (list_any is_delete) (actions_at-drive d late steps drive q) ∙ gone_deletes d q g) b

  -- and at the next step those above its path
  pub deleted_next : (late : Bool) (done : List Step) (s : Step) (rest : List Step) → IsDriveOf d late (done ++ s ∷ rest) → (q : Path)
      → is_below q s.path ≡ true → is_gone d q ≡ true → is_deleted_above done s.path ≡ true
  deleted_next late done s rest drive q b g =
      deleted_by q s.path done
      (or_first (list_any is_delete (actions_at q done)) (list_any is_delete (actions_at q rest)) any
      (none_left is_delete delete_is_main (actions_at q rest)
      (none_main_left d late s rest q b (after_next d late done s rest drive.in_order)))) b
    where
      elsewhere : path_eq s.path q ≡ false
      elsewhere =
          false_from_ne_true (path_eq s.path q)
          (λ e. true≢false
          (sym b ∙ ap (λ x. is_below q x) (same_path s.path q e) ∙ ap (λ x. is_within q q && not x) (path_eq-same q)
          ∙ and-false (is_within q q)))

      any : (list_any is_delete (actions_at q done) || list_any is_delete (actions_at q rest)) ≡ true
      any =
          ap
          (λ x. list_any is_delete (actions_at q done)
          || list_any is_delete (map (λ (t : Step). t.action) (cond x (s ∷ filter (is_at q) rest) (filter (is_at q) rest))))
          (sym elsewhere)
          ∙ sym (list_any-append is_delete (actions_at q done) (actions_at q (s ∷ rest)))
          ∙ ap (list_any is_delete) (path_cut d late done (s ∷ rest) drive q) ∙ gone_deletes d q g

  -- where all actions of a path are done it is as they end
  pub state_all : (late : Bool) (done rest : List Step) → IsDriveOf d late (done ++ rest) → (p : Path)
      → actions_at p done ≡ path_actions d p → state d w done p ≡ ended d w setting p (base w done p)
  state_all late done rest drive p e =
      ap (acted d p [] (base w done p)) e ∙ acted_all d w setting p (base w done p) (kept_base d w late done rest drive p)

  -- after all steps and the last call a path is as in the result
  pub ends_at : (late : Bool) (steps : List Step) → IsDriveOf d late steps → (p : Path)
      → settled d.mode d.target p (state d w steps p) ≡ result d p
  ends_at late steps drive p =
      ap (settled d.mode d.target p) (state_all late steps [] whole p (actions_at-drive d late steps drive p))
      ∙ by (target_node d p) (is_kept d p) (is_touched d p) refl refl refl
    where
      whole : IsDriveOf d late (steps ++ [])
      whole = subst (IsDriveOf d late) (sym (append-nil steps)) drive

      b : Option BaseNode
      b = cond (is_gone d p) None (base w steps p)

      put : (n : ℕ) (x : Bool) → x ≡ true
          → settled d.mode d.target p (cond x (Some (base_node h d.target (target_path d p) n)) b)
          ≡ Some (base_node h d.target (target_path d p) n)
      put n x e =
          ap (λ y. settled d.mode d.target p (cond y (Some (base_node h d.target (target_path d p) n)) b)) e
          ∙ settled_base p (kind_of h n) (text_of h n) (props_of h n)

      by : (o : Option ℕ) (k t : Bool) → target_node d p ≡ o → is_kept d p ≡ k → is_touched d p ≡ t
          → settled d.mode d.target p (entered_end d w setting p o b) ≡ option_map (base_node h d.target (target_path d p)) o
      by None true t z u v =
          absurd (none_related h (source_node d p) (sym (ap (are_related h (source_node d p)) z) ∙ kept_related d setting.served p u))
      by None false t z u v = absent_settled d.mode d.target p b (nothing_left steps p (deleted_all late steps drive p) u)
      by (Some n) k true z u v = put n (is_touched d p || is_new d p) (ap (λ x. x || is_new d p) v)
      by (Some n) false false z u v =
          put n (is_touched d p || is_new d p) (ap (λ x. x || is_new d p) v ∙ ap (λ x. not x && is_some (target_node d p)) u ∙ ap is_some z)
      by (Some n) true false z u v =
          let one = untouched_same d setting.served p u v in
          let same : one.0 ≡ n = same_Some one.0 n (sym one.2 ∙ z) in
          ap (λ x. settled d.mode d.target p (cond x (Some (base_node h d.target (target_path d p) n)) b))
          (ap (λ x. x || is_new d p) v ∙ ap (λ x. not x && is_some (target_node d p)) u)
          ∙ ap (λ g. settled d.mode d.target p (cond g None (base w steps p))) (kept_not_gone d w setting p u)
          ∙ ap (settled d.mode d.target p) (kept_base d w late steps [] whole p u)
          ∙ settled_untouched p n (kind_of h n) (one.1 ∙ ap Some same) one.3 u (kept_as d w setting p n u z)

  -- ---- the calls

  -- after all calls of a drive the copy is the result
  pub ends : (late : Bool) (calls : List Call) → IsDrive d late calls → (p : Path) → after d.mode w calls p ≡ result d p
  ends late calls drive p =
      ap (λ c. after d.mode w c p) drive.numbered_calls
      ∙ ap (λ v. v p) (after_from-more d.mode [] w (SetTargetRevision d.target ∷ numbered [] drive.steps) CloseEdit)
      ∙ ap (settled d.mode d.target p)
      (after-first d w setting late drive.steps [] (subst (IsDriveOf d late) (sym (append-nil drive.steps)) drive.of_each_path) p)
      ∙ ends_at late drive.steps drive.of_each_path p
