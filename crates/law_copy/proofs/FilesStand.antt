-- What is at the path of an open file stays until its close.
use Rattle.std.proofs.Common.{◌≡◌, ℕ, Bool, true, false, cond, ◌&&◌, ◌||◌, not, List, [], refl, sym, ◌∙◌, ap, true≢false}
use Rattle.std.specs.Prelude.{Option, Some, None, is_some}
use Rattle.std.specs.List.{list_any}
use Rattle.std.proofs.lemmas.Option.{same_Some}
use Rattle.std.proofs.lemmas.Bool.{eq-eqb, or_parts}
use Rattle.std.proofs.lemmas.Map.Keys.{any_passes_from_place}
use Rattle.svn_types.specs.declared.kind.Kind.TheVariants.{File, Directory}
use Rattle.svn_types.specs.Names.{Path}
use Rattle.svn_types.specs.Paths.{path_eq}
use Rattle.svn_types.proofs.PathLemmas.{same_path}
use Rattle.svn_editor.specs.declared.call.Call.{Call}
use Rattle.svn_editor.specs.declared.call.Call.TheVariants.{SetTargetRevision, OpenRoot, DeleteEntry, AddDirectory, OpenDirectory}
use Rattle.svn_editor.specs.declared.call.Call.TheVariants.{ChangeDirProp, CloseDirectory, AddFile, OpenFile, ChangeFileProp, ApplyText}
use Rattle.svn_editor.specs.declared.call.Call.TheVariants.{CloseFile, CloseEdit, AbortEdit}
use Rattle.svn_editor.specs.Calls.{Given, kind_eq, given, given_by, given_path, all_given, is_closed, closes, opens_entry, path_of}
use Rattle.svn_editor.specs.Calls.{is_open_file, a_file_is_open, a_directory_is_open}
use Rattle.svn_editor.specs.declared.mode.Mode.{Mode}
use Rattle.svn_editor.specs.Steps.{Action, Open, Add, Change, Text, Close, steps_of, target_of}
use Rattle.svn_editor.proofs.Accepted.{IsAccepted}
use Rattle.svn_order.proofs.Sound.{IsSound, known, member_of}
use Rattle.svn_model.specs.declared.base_node.BaseNode.{BaseNode}
use Rattle.svn_model.specs.Nodes.{WorkingCopy}
use Rattle.law_copy.specs.Laws.{IsPathed}
use Rattle.svn_model.specs.Effects.{effect, below_after, stepped, step_effect}
use Rattle.law_copy.proofs.StepEffects.{effect_alone, effect_none, effect_delete}
use Rattle.law_copy.proofs.OnePath.{opened_first}
use Rattle.law_copy.proofs.OpenStand.{delete_spares}

module _ (mode : Mode) (calls : List Call) (w : WorkingCopy) (c : Call) (s : IsSound calls) (q : IsPathed calls) (a : IsAccepted calls c)
    (t : ℕ) (g : Given) (e : given calls t ≡ Some g) (file : g.kind ≡ File) (unclosed : is_closed calls t ≡ false)
    (still : closes t c ≡ false) where
  -- a step at another path leaves it
  elsewhere : (p : Path) (x : Action) → ((o : Option BaseNode) → below_after x o ≡ o) → (path_eq p g.path ≡ true → ⊥)
      → step_effect mode (target_of calls) (steps_of calls) (record { path = p; action = x }) w g.path ≡ w g.path
  elsewhere p x keeps other = effect_alone mode (target_of calls) (steps_of calls) p x w keeps g.path ∙ by (path_eq p g.path) refl
    where
      by : (b : Bool) → path_eq p g.path ≡ b → cond b (stepped mode (target_of calls) (steps_of calls) w p x) (w g.path) ≡ w g.path
      by true h = absurd (other h)
      by false h = refl

  pub file_kept : effect mode calls c w g.path ≡ w g.path
  file_kept = by c a still
    where
      again : (d : Call) → IsAccepted calls d → (x : Given) → given_by d ≡ Some x → path_eq x.path g.path ≡ true → ⊥
      again d b x f same =
          true≢false
          (sym (member_of calls t g e) ∙ ap (λ (r : Path). list_any (opens_entry r) calls) (sym (same_path x.path g.path same))
          ∙ opened_first calls d x b f)

      -- a token with this path is this one
      token_is : (m : ℕ) (h : Given) → given calls m ≡ Some h → path_eq (path_of calls m) g.path ≡ true → m ≡ t
      token_is m h f same = q.once m t h g f e (sym (ap given_path f) ∙ same_path (path_of calls m) g.path same)

      -- a directory's token has another path
      no_directory : (m : ℕ) (h : Given) → given calls m ≡ Some h → kind_eq h.kind Directory ≡ true
          → path_eq (path_of calls m) g.path ≡ true → ⊥
      no_directory m h f k same =
          let both : h ≡ g = same_Some h g (sym f ∙ ap (given calls) (token_is m h f same) ∙ e) in
          true≢false (sym k ∙ ap (λ (x : Given). kind_eq x.kind Directory) both ∙ ap (λ x. kind_eq x Directory) file)

      open_file : is_open_file calls g ≡ true
      open_file = (λ i. kind_eq (file i) File && not (is_closed calls (s.numbered t g e i))) ∙ ap not unclosed

      by : (d : Call) → IsAccepted calls d → closes t d ≡ false → effect mode calls d w g.path ≡ w g.path
      by (SetTargetRevision rev) b z = refl
      by (OpenRoot base token) b z = elsewhere [] (Open Directory base) (λ o. refl) (again (OpenRoot base token) b _ refl)
      by (DeleteEntry path rev parent) b z =
          sym (effect_delete mode (target_of calls) (steps_of calls) path rev w g.path)
          ∙ ap (λ x. cond x None (w g.path)) (delete_spares calls s path b.delete t g e)
      by (AddDirectory path parent token) b z = elsewhere path (Add Directory) (λ o. refl) (again (AddDirectory path parent token) b _ refl)
      by (OpenDirectory path parent base token) b z =
          elsewhere path (Open Directory base) (λ o. refl) (again (OpenDirectory path parent base token) b _ refl)
      by (ChangeDirProp token name value) b z =
          sym (effect_none mode (target_of calls) (steps_of calls) (path_of calls token) (Change Directory (name, value)) w
          (λ o. refl) refl g.path)
      by (CloseDirectory token) b z =
          let k = known calls (CloseDirectory token) token Directory b refl in
          elsewhere (path_of calls token) (Close Directory None) (λ o. refl) (no_directory token k.given_as k.is k.kind)
      by (AddFile path parent token) b z = elsewhere path (Add File) (λ o. refl) (again (AddFile path parent token) b _ refl)
      by (OpenFile path parent base token) b z =
          sym (effect_none mode (target_of calls) (steps_of calls) path (Open File base) w (λ o. refl) refl g.path)
      by (ChangeFileProp token name value) b z =
          sym
          (effect_none mode (target_of calls) (steps_of calls) (path_of calls token) (Change File (name, value)) w (λ o. refl) refl g.path)
      by (ApplyText token sum text) b z =
          sym (effect_none mode (target_of calls) (steps_of calls) (path_of calls token) (Text sum text) w (λ o. refl) refl g.path)
      by (CloseFile token sum) b z =
          let k = known calls (CloseFile token sum) token File b refl in
          elsewhere (path_of calls token) (Close File sum) (λ o. refl)
          (λ same. true≢false (sym (eq-eqb token t (token_is token k.given_as k.is same)) ∙ z))
      by CloseEdit b z =
          absurd (true≢false (sym (any_passes_from_place (is_open_file calls) (all_given calls) t g e open_file)
          ∙ (or_parts (not (is_some (given calls 0)) || a_directory_is_open calls) (a_file_is_open calls) b.root_closed).1))
      by AbortEdit b z = refl
