-- At the path of each directory that an edit opened there is a directory, from then on.
use Rattle.std.proofs.Common.{◌≡◌, ℕ, Bool, true, false, cond, List, [], ◌∷◌, ◌++◌, refl, sym, ◌∙◌, ap, true≢false, inl, inr}
use Rattle.std.proofs.Common.{append_assoc, append-nil}
use Rattle.std.specs.Prelude.{Option, Some, None, ◌⊎◌}
use Rattle.std.specs.List.{list_any}
use Rattle.std.proofs.lemmas.Option.{same_Some}
use Rattle.std.proofs.lemmas.Bool.{false_from_ne_true}
use Rattle.svn_lists.proofs.Somewhere.{any_weaker}
use Rattle.svn_types.specs.declared.kind.Kind.TheVariants.{File, Directory}
use Rattle.svn_types.specs.Names.{Path}
use Rattle.svn_types.specs.Props.{PropChange}
use Rattle.svn_types.specs.Paths.{path_eq, is_within, child}
use Rattle.svn_types.proofs.PathLemmas.{same_path, path_eq-same, split_within}
use Rattle.svn_editor.specs.declared.call.Call.{Call}
use Rattle.svn_editor.specs.declared.call.Call.TheVariants.{SetTargetRevision, OpenRoot, DeleteEntry, AddDirectory, OpenDirectory}
use Rattle.svn_editor.specs.declared.call.Call.TheVariants.{ChangeDirProp, CloseDirectory, AddFile, OpenFile, ChangeFileProp, ApplyText}
use Rattle.svn_editor.specs.declared.call.Call.TheVariants.{CloseFile, CloseEdit, AbortEdit}
use Rattle.svn_editor.specs.Calls.{Given, kind_eq, given, given_by, opens_entry, path_of}
use Rattle.svn_editor.specs.declared.mode.Mode.{Mode}
use Rattle.svn_editor.specs.Steps.{Action, Open, Add, Change, Text, Close, steps_of, target_of}
use Rattle.svn_editor.proofs.Accepted.{IsAccepted}
use Rattle.svn_order.proofs.Sound.{IsSound, touches, opens_touches, member_of}
use Rattle.svn_model.specs.declared.base_node.BaseNode.{BaseNode}
use Rattle.svn_model.specs.declared.base_node.BaseNode.TheVariants.{Dir as DirNode}
use Rattle.svn_model.specs.Nodes.{WorkingCopy, is_dir}
use Rattle.law_copy.specs.Laws.{OpenDirectoriesStand, is_open_of}
use Rattle.svn_model.specs.Effects.{changes_at, texts_at, moved_path, joined_path, effect, stepped, below_after, opened_directory}
use Rattle.svn_model.specs.Effects.{closed_directory, closed_file, step_effect}
use Rattle.law_copy.proofs.StepEffects.{effect_alone, effect_delete}
use Rattle.law_copy.proofs.OneNode.{settled_is_dir}
use Rattle.law_copy.proofs.OnePath.{opened_first, given_cases}

-- ---- the parent of an opened path is opened, and so on upwards

pub opened_parent : (calls : List Call) → IsSound calls → (p : Path) (n : List ℕ) → list_any (opens_entry (child p n)) calls ≡ true
    → list_any (opens_entry p) calls ≡ true
opened_parent calls s p n h = by (list_any (opens_entry p) calls) refl
  where
    by : (b : Bool) → list_any (opens_entry p) calls ≡ b → b ≡ true
    by true e = refl
    by false e =
        absurd (true≢false
        (sym h ∙ any_weaker (opens_entry (child p n)) (touches (child p n)) calls (opens_touches p n) (s.entries_in p n e)))

pub opened_above : (calls : List Call) → IsSound calls → (r p : Path) → list_any (opens_entry (p ++ r)) calls ≡ true
    → list_any (opens_entry p) calls ≡ true
opened_above calls s [] p h = ap (λ (q : Path). list_any (opens_entry q) calls) (sym (append-nil p)) ∙ h
opened_above calls s (x ∷ r) p h =
    opened_parent calls s p x
    (opened_above calls s r (p ++ x ∷ []) (ap (λ (q : Path). list_any (opens_entry q) calls) (append_assoc p (x ∷ []) r) ∙ h))

-- no opened path is at a deleted one or below
pub delete_spares : (calls : List Call) → IsSound calls → (p : Path) → list_any (opens_entry p) calls ≡ false → (t : ℕ) (g : Given)
    → given calls t ≡ Some g → is_within p g.path ≡ false
delete_spares calls s p h t g e = false_from_ne_true (is_within p g.path) (λ w.
    let x = split_within p g.path w in
    true≢false (sym (opened_above calls s x.0 p (ap (λ (q : Path). list_any (opens_entry q) calls) (sym x.1) ∙ member_of calls t g e)) ∙ h))

-- ---- directories stay

pub closed_dir : (changes : List PropChange) (o : Option BaseNode) → is_dir o ≡ true → is_dir (closed_directory changes o) ≡ true
closed_dir changes (Some (DirNode r q c ps)) h = refl
closed_dir changes o h = absurd (true≢false (sym h))

pub closed_file_dir : (target : ℕ) (moved : Path → Path) (joined : Path) (changes : List PropChange) (texts : List (List ℕ))
    (o : Option BaseNode)
    → is_dir o ≡ true → is_dir (closed_file target moved joined changes texts o) ≡ true
closed_file_dir target moved joined changes texts (Some (DirNode r q c ps)) h = refl
closed_file_dir target moved joined changes texts o h = absurd (true≢false (sym h))

pub opened_dir : (target : ℕ) (moved : Path → Path) (o : Option BaseNode) → is_dir o ≡ true
    → is_dir (opened_directory target moved o) ≡ true
opened_dir target moved (Some (DirNode r q c ps)) h = refl
opened_dir target moved o h = absurd (true≢false (sym h))

module _ (mode : Mode) (calls : List Call) (w : WorkingCopy) where
  -- a step at another path, or one that leaves a directory one
  step_keeps : (p : Path) (a : Action) → ((o : Option BaseNode) → below_after a o ≡ o) → (q : Path)
      → (path_eq p q ≡ true → is_dir (w p) ≡ true → is_dir (stepped mode (target_of calls) (steps_of calls) w p a) ≡ true)
      → is_dir (w q) ≡ true → is_dir (step_effect mode (target_of calls) (steps_of calls) (record { path = p; action = a }) w q) ≡ true
  step_keeps p a still q own h = ap is_dir (effect_alone mode (target_of calls) (steps_of calls) p a w still q) ∙ by (path_eq p q) refl
    where
      by : (b : Bool) → path_eq p q ≡ b → is_dir (cond b (stepped mode (target_of calls) (steps_of calls) w p a) (w q)) ≡ true
      by true e = own e (ap (λ (x : Path). is_dir (w x)) (same_path p q e) ∙ h)
      by false e = h

  module _ (c : Call) (s : IsSound calls) (a : IsAccepted calls c) where
    -- what is at a path opened before
    dir_kept : (t : ℕ) (g : Given) → given calls t ≡ Some g → is_dir (w g.path) ≡ true → is_dir (effect mode calls c w g.path) ≡ true
    dir_kept t g e h = by c a
      where
        again : (d : Call) → IsAccepted calls d → (x : Given) → given_by d ≡ Some x → path_eq x.path g.path ≡ true → ⊥
        again d b x f same =
            true≢false
            (sym (member_of calls t g e) ∙ ap (λ (q : Path). list_any (opens_entry q) calls) (sym (same_path x.path g.path same))
            ∙ opened_first calls d x b f)

        by : (d : Call) → IsAccepted calls d → is_dir (effect mode calls d w g.path) ≡ true
        by (SetTargetRevision rev) b = h
        by (OpenRoot base token) b =
            step_keeps [] (Open Directory base) (λ o. refl) g.path (λ same k. absurd (again (OpenRoot base token) b _ refl same)) h
        by (DeleteEntry path rev parent) b =
            ap is_dir (sym (effect_delete mode (target_of calls) (steps_of calls) path rev w g.path))
            ∙ ap (λ x. is_dir (cond x None (w g.path))) (delete_spares calls s path b.delete t g e) ∙ h
        by (AddDirectory path parent token) b =
            step_keeps path (Add Directory) (λ o. refl) g.path (λ same k. absurd (again (AddDirectory path parent token) b _ refl same)) h
        by (OpenDirectory path parent base token) b =
            step_keeps path (Open Directory base) (λ o. refl) g.path
            (λ same k. absurd (again (OpenDirectory path parent base token) b _ refl same)) h
        by (ChangeDirProp token name value) b =
            step_keeps (path_of calls token) (Change Directory (name, value)) (λ o. refl) g.path (λ same k. k) h
        by (CloseDirectory token) b =
            step_keeps (path_of calls token) (Close Directory None) (λ o. refl) g.path
            (λ same k. closed_dir (changes_at (path_of calls token) (steps_of calls)) (w (path_of calls token)) k) h
        by (AddFile path parent token) b =
            step_keeps path (Add File) (λ o. refl) g.path (λ same k. absurd (again (AddFile path parent token) b _ refl same)) h
        by (OpenFile path parent base token) b = step_keeps path (Open File base) (λ o. refl) g.path (λ same k. k) h
        by (ChangeFileProp token name value) b =
            step_keeps (path_of calls token) (Change File (name, value)) (λ o. refl) g.path (λ same k. k) h
        by (ApplyText token sum text) b = step_keeps (path_of calls token) (Text sum text) (λ o. refl) g.path (λ same k. k) h
        by (CloseFile token sum) b =
            step_keeps (path_of calls token) (Close File sum) (λ o. refl) g.path
            (λ same k. closed_file_dir (target_of calls) (moved_path mode w (path_of calls token)) (joined_path w (path_of calls token))
            (changes_at (path_of calls token) (steps_of calls)) (texts_at (path_of calls token) (steps_of calls))
            (w (path_of calls token)) k) h
        by CloseEdit b = settled_is_dir mode (target_of calls) g.path (w g.path) h
        by AbortEdit b = h

    -- what is at a path that is opened now: of an open a directory was there before, since the call isn't refused
    dir_made : (g : Given) → given_by c ≡ Some g → kind_eq g.kind Directory ≡ true → (is_open_of c ≡ true → is_dir (w g.path) ≡ true)
        → is_dir (effect mode calls c w g.path) ≡ true
    dir_made g e k stood = by c e stood
      where
        here : (p : Path) (x : Action) → ((o : Option BaseNode) → below_after x o ≡ o) → p ≡ g.path
            → is_dir (stepped mode (target_of calls) (steps_of calls) w p x) ≡ true
            → is_dir (step_effect mode (target_of calls) (steps_of calls) (record { path = p; action = x }) w g.path) ≡ true
        here p x still same h =
            ap is_dir (effect_alone mode (target_of calls) (steps_of calls) p x w still g.path)
            ∙ ap (λ b. is_dir (cond b (stepped mode (target_of calls) (steps_of calls) w p x) (w g.path)))
            (ap (path_eq p) (sym same) ∙ path_eq-same p) ∙ h

        at_path_of : (d : Call) (x : Given) → given_by d ≡ Some x → given_by d ≡ Some g → x.path ≡ g.path
        at_path_of d x f h = ap (λ (y : Given). y.path) (same_Some x g (sym f ∙ h))

        no_file : (p : Path) (m : Option ℕ) (t : ℕ) → Some (record { kind = File; path = p; parent = m; token = t }) ≡ Some g → ⊥
        no_file p m t h =
            true≢false
            (sym k ∙ sym
            (ap (λ (y : Given). kind_eq y.kind Directory) (same_Some (record { kind = File; path = p; parent = m; token = t }) g h)))

        by : (d : Call) → given_by d ≡ Some g → (is_open_of d ≡ true → is_dir (w g.path) ≡ true)
            → is_dir (effect mode calls d w g.path) ≡ true
        by (OpenRoot base token) f z =
            here [] (Open Directory base) (λ o. refl) (at_path_of (OpenRoot base token) _ refl f)
            (opened_dir _ _ (w []) (ap (λ (q : Path). is_dir (w q)) (at_path_of (OpenRoot base token) _ refl f) ∙ z refl))
        by (OpenDirectory path parent base token) f z =
            here path (Open Directory base) (λ o. refl) (at_path_of (OpenDirectory path parent base token) _ refl f)
            (opened_dir _ _ (w path)
            (ap (λ (q : Path). is_dir (w q)) (at_path_of (OpenDirectory path parent base token) _ refl f) ∙ z refl))
        by (AddDirectory path parent token) f z =
            here path (Add Directory) (λ o. refl) (at_path_of (AddDirectory path parent token) _ refl f) refl
        by (AddFile path parent token) f z = absurd (no_file path (Some parent) token f)
        by (OpenFile path parent base token) f z = absurd (no_file path (Some parent) token f)
        by _ f z = absurd (none f)
          where
            none : None ≡ Some g → ⊥
            none q = cc

    pub directories_stand : OpenDirectoriesStand w calls
        → ((g : Given) → given_by c ≡ Some g → is_open_of c ≡ true → kind_eq g.kind Directory ≡ true → is_dir (w g.path) ≡ true)
        → OpenDirectoriesStand (effect mode calls c w) (calls ++ c ∷ [])
    directories_stand before opened t g e k = by (given_cases calls c t g e)
      where
        by : (given calls t ≡ Some g) ⊎ (given_by c ≡ Some g) → is_dir (effect mode calls c w g.path) ≡ true
        by (inl old) = dir_kept t g old (before t g old k)
        by (inr new) = dir_made g new k (λ o. opened g new o k)
