-- An edit of a copy without incomplete directories: it completes each directory that it opens, so after its last call all are complete.
use Rattle.std.proofs.Common.{◌≡◌, ℕ, Bool, true, false, cond, ◌&&◌, ◌||◌, not, List, [], ◌∷◌, ◌++◌, length, refl, sym, ◌∙◌, ap, subst}
use Rattle.std.proofs.Common.{nat_eq}
use Rattle.std.proofs.Common.{true≢false, arith}
use Rattle.std.specs.Prelude.{Option, Some, None, is_some, slice_get, option_map}
use Rattle.std.specs.Option.{option_or}
use Rattle.std.proofs.lemmas.Bool.{eq-eqb, false_from_ne_true, or_parts, eqb-true}
use Rattle.std.proofs.lemmas.Option.{same_Some}
use Rattle.std.proofs.lemmas.Map.Keys.{any_passes_from_place}
use Rattle.svn_lists.proofs.Options.{some-none}
use Rattle.svn_lists.proofs.Places.{slice_get_push_kept, slice_get-push}
use Rattle.svn_lists.proofs.Somewhere.{any_push, any_weaker}
use Rattle.svn_lists.proofs.Tests.{any_from_clash}
use Rattle.svn_types.specs.declared.kind.Kind.{Kind}
use Rattle.svn_types.specs.declared.kind.Kind.TheVariants.{File, Directory}
use Rattle.svn_types.specs.Names.{Path}
use Rattle.svn_types.specs.Props.{PropChange}
use Rattle.svn_types.specs.Paths.{path_eq, is_within}
use Rattle.svn_types.proofs.PathLemmas.{same_path, path_eq-same}
use Rattle.svn_editor.specs.declared.call.Call.{Call}
use Rattle.svn_editor.specs.declared.call.Call.TheVariants.{SetTargetRevision, OpenRoot, DeleteEntry, AddDirectory, OpenDirectory}
use Rattle.svn_editor.specs.declared.call.Call.TheVariants.{ChangeDirProp, CloseDirectory, AddFile, OpenFile, ChangeFileProp, ApplyText}
use Rattle.svn_editor.specs.declared.call.Call.TheVariants.{CloseFile, CloseEdit, AbortEdit}
use Rattle.svn_editor.specs.declared.fault.EditFault.{EditFault}
use Rattle.svn_editor.specs.declared.fault.EditFault.TheVariants.{Order}
use Rattle.svn_editor.specs.declared.fault.OrderFault.{OrderFault}
use Rattle.svn_editor.specs.Calls.{Given, kind_eq, given, given_by, given_path, all_given, is_closed, closes, path_of}
use Rattle.svn_editor.specs.Calls.{is_open_directory, a_directory_is_open, a_file_is_open}
use Rattle.svn_editor.specs.Order.{order_fault, IsLawful}
use Rattle.svn_editor.specs.declared.mode.Mode.{Mode}
use Rattle.svn_editor.specs.Steps.{Action, Open, Add, Change, Text, Close, steps_of, target_of}
use Rattle.svn_editor.proofs.OneMore.{given_none, given_one}
use Rattle.svn_editor.proofs.Accepted.{IsAccepted, accepted}
use Rattle.svn_order.proofs.Sound.{IsSound, known, names, closes_named, given_closes}
use Rattle.svn_order.proofs.Lawful.{sound}
use Rattle.svn_model.specs.declared.base_node.BaseNode.{BaseNode}
use Rattle.svn_model.specs.declared.base_node.BaseNode.TheVariants.{File as FileNode, Dir as DirNode, NotPresent}
use Rattle.svn_model.specs.Nodes.{WorkingCopy, get_in, is_incomplete}
use Rattle.svn_model.specs.Effects.{changes_at, texts_at, moved_path, joined_path, effect, stepped, below_after, closed_directory}
use Rattle.svn_model.specs.Effects.{closed_file}
use Rattle.svn_model.specs.Effects.{step_effect, settled, edit_fault, refusal}
use Rattle.law_copy.proofs.StepEffects.{effect_alone, effect_none, effect_delete}
use Rattle.svn_wc.specs.Taking.{IsOpenAt, IncompleteAreOpen}
use Rattle.svn_wc.specs.Unswitched.{is_level, IsLevel}

-- ---- nodes

closed_complete : (changes : List PropChange) (o : Option BaseNode) → is_incomplete (closed_directory changes o) ≡ false
closed_complete changes None = refl
closed_complete changes (Some (FileNode r q text props)) = refl
closed_complete changes (Some (DirNode r q complete props)) = refl
closed_complete changes (Some NotPresent) = refl

file_complete : (target : ℕ) (moved : Path → Path) (joined : Path) (changes : List PropChange) (texts : List (List ℕ)) (o : Option BaseNode)
    → is_incomplete (closed_file target moved joined changes texts o) ≡ is_incomplete o
file_complete target moved joined changes texts None = refl
file_complete target moved joined changes texts (Some (FileNode r q text props)) = refl
file_complete target moved joined changes texts (Some (DirNode r q complete props)) = refl
file_complete target moved joined changes texts (Some NotPresent) = refl

settled_complete : (mode : Mode) (target : ℕ) (p : Path) (o : Option BaseNode) → is_incomplete (settled mode target p o) ≡ is_incomplete o
settled_complete mode target p None = refl
settled_complete mode target p (Some (FileNode r q text props)) = refl
settled_complete mode target p (Some (DirNode r q complete props)) = refl
settled_complete mode target p (Some NotPresent) = refl

-- ---- one more call

module _ (calls : List Call) (d : Call) where
  given_still : (t : ℕ) (g : Given) → given calls t ≡ Some g → given (calls ++ d ∷ []) t ≡ Some g
  given_still t g h = by (given_by d) refl
    where
      by : (o : Option Given) → given_by d ≡ o → given (calls ++ d ∷ []) t ≡ Some g
      by None e = ap (λ gs. slice_get gs t) (given_none calls d e) ∙ h
      by (Some x) e = ap (λ gs. slice_get gs t) (given_one calls d x e) ∙ slice_get_push_kept (all_given calls) x t g h

  -- an open directory that the call doesn't close
  open_still : (p : Path) (there : IsOpenAt calls p) → closes there.token d ≡ false → IsOpenAt (calls ++ d ∷ []) p
  open_still p there still = record {
    token = there.token;
    given_as = there.given_as;
    is = given_still there.token there.given_as there.is;
    path = there.path;
    kind = there.kind;
    unclosed = any_push (closes there.token) calls d ∙ (λ i. there.unclosed i || still i);
  }

  -- one that the call opens
  open_now : IsSound calls → (g : Given) → given_by d ≡ Some g → kind_eq g.kind Directory ≡ true → IsOpenAt (calls ++ d ∷ []) g.path
  open_now s g gives kind =
      let t : ℕ = length (all_given calls) in
      let before : is_closed calls t ≡ false = any_weaker (closes t) (names t) calls (closes_named t) (s.named_given t (omega arith)) in
      record {
        token = t;
        given_as = g;
        is = ap (λ gs. slice_get gs t) (given_one calls d g gives) ∙ slice_get-push (all_given calls) g;
        path = refl;
        kind = kind;
        unclosed = any_push (closes t) calls d ∙ (λ i. before i || given_closes t d g gives i);
      }

-- ---- what is incomplete after a call

module _ (mode : Mode) (calls : List Call) (w : WorkingCopy) (s : IsSound calls) (before : IncompleteAreOpen w calls) where
  abbrev after_step : Path → Action → WorkingCopy
  after_step p a = step_effect mode (target_of calls) (steps_of calls) (record { path = p; action = a }) w

  abbrev at_step : Path → Action → Option BaseNode
  at_step p a = stepped mode (target_of calls) (steps_of calls) w p a

  module _ (d : Call) (p : Path) where
    -- what was incomplete and is not closed
    kept : ((t : ℕ) → closes t d ≡ false) → is_incomplete (w p) ≡ true → IsOpenAt (calls ++ d ∷ []) p
    kept still h = let there = before p h in open_still calls d p there (still there.token)

    -- a step that changes its own path alone
    alone : (q : Path) (a : Action) → ((o : Option BaseNode) → below_after a o ≡ o)
        → (q ≡ p → is_incomplete (at_step q a) ≡ true → IsOpenAt (calls ++ d ∷ []) p)
        → (path_eq q p ≡ false → is_incomplete (w p) ≡ true → IsOpenAt (calls ++ d ∷ []) p)
        → is_incomplete (after_step q a p) ≡ true → IsOpenAt (calls ++ d ∷ []) p
    alone q a still own other h =
        by (path_eq q p) refl (sym (ap is_incomplete (effect_alone mode (target_of calls) (steps_of calls) q a w still p)) ∙ h)
      where
        by : (b : Bool) → path_eq q p ≡ b → is_incomplete (cond b (at_step q a) (w p)) ≡ true → IsOpenAt (calls ++ d ∷ []) p
        by true e h = own (same_path q p e) h
        by false e h = other e h

    -- one that changes nothing
    unchanged : (q : Path) (a : Action) → ((o : Option BaseNode) → below_after a o ≡ o) → at_step q a ≡ w q → ((t : ℕ) → closes t d ≡ false)
        → is_incomplete (after_step q a p) ≡ true → IsOpenAt (calls ++ d ∷ []) p
    unchanged q a still same shut h =
        kept shut (ap is_incomplete (effect_none mode (target_of calls) (steps_of calls) q a w still same p) ∙ h)

    -- a directory is opened
    opens : (q : Path) (a : Action) → ((o : Option BaseNode) → below_after a o ≡ o) → (g : Given) → given_by d ≡ Some g → g.path ≡ q
        → kind_eq g.kind Directory ≡ true → ((t : ℕ) → closes t d ≡ false) → is_incomplete (after_step q a p) ≡ true
        → IsOpenAt (calls ++ d ∷ []) p
    opens q a still g gives at kind shut =
        alone q a still
        (λ here h. subst (λ (x : Path). IsOpenAt (calls ++ d ∷ []) x) (at ∙ here) (open_now calls d s g gives kind))
        (λ other h. kept shut h)

  -- the directory that is closed is complete, and no other is closed
  close_directory : (token : ℕ) (p : Path) → is_incomplete (after_step (path_of calls token) (Close Directory None) p) ≡ true
      → IsOpenAt (calls ++ CloseDirectory token ∷ []) p
  close_directory token p =
      alone (CloseDirectory token) p (path_of calls token) (Close Directory None) (λ o. refl)
      (λ here h. any_from_clash (sym (closed_complete (changes_at (path_of calls token) (steps_of calls)) (w (path_of calls token))) ∙ h))
      (λ other h. let there = before p h in
      open_still calls (CloseDirectory token) p there (false_from_ne_true (nat_eq token there.token) (λ same.
      let at : path_of calls token ≡ p = ap (path_of calls) (eqb-true token there.token same) ∙ ap given_path there.is ∙ there.path in
      true≢false (sym (path_eq-same p) ∙ ap (λ (x : Path). path_eq x p) (sym at) ∙ other))))

  -- what is closed as a file is no directory
  close_file : (token : ℕ) (sum : Option (List ℕ)) → IsAccepted calls (CloseFile token sum) → (p : Path)
      → is_incomplete (after_step (path_of calls token) (Close File sum) p) ≡ true → IsOpenAt (calls ++ CloseFile token sum ∷ []) p
  close_file token sum a p =
      alone (CloseFile token sum) p (path_of calls token) (Close File sum) (λ o. refl)
      (λ here h. shut
      (ap (λ (x : Path). is_incomplete (w x)) (sym here)
      ∙ sym (file_complete (target_of calls) (moved_path mode w (path_of calls token)) (joined_path w (path_of calls token))
      (changes_at (path_of calls token) (steps_of calls)) (texts_at (path_of calls token) (steps_of calls)) (w (path_of calls token))) ∙ h))
      (λ other h. shut h)
    where
      two_kinds : (k : Kind) → kind_eq k File ≡ true → kind_eq k Directory ≡ true → ⊥
      two_kinds File f d = true≢false (sym d)
      two_kinds Directory f d = true≢false (sym f)

      shut : is_incomplete (w p) ≡ true → IsOpenAt (calls ++ CloseFile token sum ∷ []) p
      shut h =
          let there = before p h in
          let file = known calls (CloseFile token sum) token File a refl in
          open_still calls (CloseFile token sum) p there (false_from_ne_true (nat_eq token there.token) (λ same.
          let one : file.given_as ≡ there.given_as =
          same_Some _ _ (sym file.is ∙ ap (given calls) (eqb-true token there.token same) ∙ there.is) in
          two_kinds there.given_as.kind (ap (λ (g : Given). kind_eq g.kind File) (sym one) ∙ file.kind) there.kind))

  delete : (path : Path) (rev parent : ℕ) (p : Path) → is_incomplete (effect mode calls (DeleteEntry path rev parent) w p) ≡ true
      → IsOpenAt (calls ++ DeleteEntry path rev parent ∷ []) p
  delete path rev parent p h =
      kept (DeleteEntry path rev parent) p (λ t. refl)
      (by (is_within path p) (ap is_incomplete (effect_delete mode (target_of calls) (steps_of calls) path rev w p) ∙ h))
    where
      by : (b : Bool) → is_incomplete (cond b None (w p)) ≡ true → is_incomplete (w p) ≡ true
      by true h = any_from_clash h
      by false h = h

  pub open_after : (c : Call) → IsAccepted calls c → IncompleteAreOpen (effect mode calls c w) (calls ++ c ∷ [])
  open_after (SetTargetRevision rev) a p h = kept (SetTargetRevision rev) p (λ t. refl) h
  open_after (OpenRoot base token) a p h = opens (OpenRoot base token) p [] (Open Directory base) (λ o. refl) _ refl refl refl (λ t. refl) h
  open_after (DeleteEntry path rev parent) a p h = delete path rev parent p h
  open_after (AddDirectory path parent token) a p h =
      opens (AddDirectory path parent token) p path (Add Directory) (λ o. refl) _ refl refl refl (λ t. refl) h
  open_after (OpenDirectory path parent base token) a p h =
      opens (OpenDirectory path parent base token) p path (Open Directory base) (λ o. refl) _ refl refl refl (λ t. refl) h
  open_after (ChangeDirProp token name value) a p h =
      unchanged (ChangeDirProp token name value) p (path_of calls token) (Change Directory (name, value)) (λ o. refl) refl (λ t. refl) h
  open_after (CloseDirectory token) a p h = close_directory token p h
  open_after (AddFile path parent token) a p h =
      alone (AddFile path parent token) p path (Add File) (λ o. refl) (λ here h. any_from_clash h)
      (λ other h. kept (AddFile path parent token) p (λ t. refl) h) h
  open_after (OpenFile path parent base token) a p h =
      unchanged (OpenFile path parent base token) p path (Open File base) (λ o. refl) refl (λ t. refl) h
  open_after (ChangeFileProp token name value) a p h =
      unchanged (ChangeFileProp token name value) p (path_of calls token) (Change File (name, value)) (λ o. refl) refl (λ t. refl) h
  open_after (ApplyText token sum text) a p h =
      unchanged (ApplyText token sum text) p (path_of calls token) (Text sum text) (λ o. refl) refl (λ t. refl) h
  open_after (CloseFile token sum) a p h = close_file token sum a p h
  open_after CloseEdit a p h = kept CloseEdit p (λ t. refl) (sym (settled_complete mode (target_of calls) p (w p)) ∙ h)
  open_after AbortEdit a p h = kept AbortEdit p (λ t. refl) h

  pub open_abort : IncompleteAreOpen w (calls ++ AbortEdit ∷ [])
  open_abort p h = kept AbortEdit p (λ t. refl) h

  -- ---- the last call

  none_incomplete : IsAccepted calls CloseEdit → (p : Path) → is_incomplete (w p) ≡ true → ⊥
  none_incomplete a p h =
      let there = before p h in
      let parts = or_parts (not (is_some (given calls 0)) || a_directory_is_open calls) (a_file_is_open calls) a.root_closed in
      let shut : a_directory_is_open calls ≡ false = (or_parts (not (is_some (given calls 0))) (a_directory_is_open calls) parts.0).1 in
      let unclosed : is_closed calls there.given_as.token ≡ false =
      ap (is_closed calls) (s.numbered there.token there.given_as there.is) ∙ there.unclosed in
      let is_open : is_open_directory calls there.given_as ≡ true = λ i. there.kind i && not (unclosed i) in
      true≢false (sym (any_passes_from_place (is_open_directory calls) (all_given calls) there.token there.given_as there.is is_open)
      ∙ shut)

  pub level_at_end : IsAccepted calls CloseEdit → IsLevel (effect mode calls CloseEdit w)
  level_at_end a = (target_of calls, λ p n stands. by p n (w p) refl stands)
    where
      same : nat_eq (target_of calls) (target_of calls) ≡ true
      same = eq-eqb (target_of calls) (target_of calls) refl

      by : (p : Path) (n : BaseNode) (o : Option BaseNode) → w p ≡ o → settled mode (target_of calls) p o ≡ Some n
          → is_level (target_of calls) n ≡ true
      by p n None e stands = absurd (some-none n (sym stands))
      by p n (Some NotPresent) e stands = absurd (some-none n (sym stands))
      by p n (Some (FileNode r q text props)) e stands = ap (is_level (target_of calls)) (sym (same_Some _ n stands)) ∙ same
      by p n (Some (DirNode r q true props)) e stands = ap (is_level (target_of calls)) (sym (same_Some _ n stands)) ∙ same
      by p n (Some (DirNode r q false props)) e stands = absurd (none_incomplete a p (ap is_incomplete e))

-- ---- a call that isn't refused

in_order : (o : Option OrderFault) (f : Option EditFault) → option_or (option_map Order o) f ≡ None → o ≡ None
in_order None f h = refl
in_order (Some x) f h = absurd (some-none (Order x) h)

pub open_more : (checksum : List ℕ → List ℕ) (mode : Mode) (nodes : List (Path × BaseNode)) (calls : List Call) (c : Call)
    → IsLawful calls → refusal checksum mode calls c nodes ≡ None → IncompleteAreOpen (get_in nodes) calls
    → IncompleteAreOpen (effect mode calls c (get_in nodes)) (calls ++ c ∷ [])
open_more checksum mode nodes calls AbortEdit l h before = open_abort mode calls (get_in nodes) (sound calls l) before
open_more checksum mode nodes calls c l h before =
    open_after mode calls (get_in nodes) (sound calls l) before c
    (accepted calls c refl (in_order (order_fault calls c) (edit_fault checksum mode calls c nodes) h))

pub level_after : (checksum : List ℕ → List ℕ) (mode : Mode) (nodes : List (Path × BaseNode)) (calls : List Call) → IsLawful calls
    → refusal checksum mode calls CloseEdit nodes ≡ None → IncompleteAreOpen (get_in nodes) calls
    → IsLevel (effect mode calls CloseEdit (get_in nodes))
level_after checksum mode nodes calls l h before =
    level_at_end mode calls (get_in nodes) (sound calls l) before
    (accepted calls CloseEdit refl (in_order (order_fault calls CloseEdit) (edit_fault checksum mode calls CloseEdit nodes) h))

-- a level copy has no incomplete directory
pub level_open : (w : WorkingCopy) → IsLevel w → IncompleteAreOpen w []
level_open w level p h = by (w p) refl h
  where
    by : (o : Option BaseNode) → w p ≡ o → is_incomplete o ≡ true → IsOpenAt [] p
    by None e h = any_from_clash h
    by (Some (FileNode r q text props)) e h = any_from_clash h
    by (Some (DirNode r q true props)) e h = any_from_clash h
    by (Some (DirNode r q false props)) e h = any_from_clash (level.1 p (DirNode r q false props) e)
    by (Some NotPresent) e h = any_from_clash h
