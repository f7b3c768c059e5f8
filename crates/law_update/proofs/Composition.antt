-- The calls of a drive are accepted where they are in order, and after all of them the copy is the result.
use Rattle.std.proofs.Common.{◌≡◌, ℕ, zero, suc, ◌+◌, ◌≤◌, Bool, true, false, ◌&&◌, ◌||◌, List, [], ◌∷◌, ◌++◌, length, take, refl, sym}
use Rattle.std.proofs.Common.{◌∙◌, ap, subst, true≢false, append_assoc, append-nil, length-append}
use Rattle.std.specs.Prelude.{Option, Some, None, option_map, cond, nat_lt, slice_get}
use Rattle.std.specs.List.{list_any}
use Rattle.std.proofs.lemmas.Bool.{le-ltb}
use Rattle.std.specs.Option.{option_or}
use Rattle.svn_types.specs.Names.{Path}
use Rattle.svn_types.specs.Limits.{path_limit}
use Rattle.svn_editor.specs.declared.mode.Mode.{Mode}
use Rattle.svn_editor.specs.declared.mode.Mode.TheVariants.{Update, SwitchTo}
use Rattle.svn_editor.specs.Steps.{Step, step_of, steps_of}
use Rattle.svn_editor.specs.declared.call.Call.{Call}
use Rattle.svn_editor.specs.declared.fault.EditFault.TheVariants.{Order, TooDeep}
use Rattle.svn_editor.specs.declared.call.Call.TheVariants.{SetTargetRevision, CloseEdit}
use Rattle.svn_editor.specs.Order.{order_fault, IsLawful, IsLawfulAfter}
use Rattle.svn_model.specs.Follow.{DriveInput, target_path, target_node}
use Rattle.svn_model.specs.Steps.{IsDriveOf}
use Rattle.svn_model.specs.Drive.{call_of, opened_after, numbered, calls_of, IsDrive}
use Rattle.svn_model.specs.declared.base_node.BaseNode.{BaseNode}
use Rattle.svn_model.specs.declared.base_node.BaseNode.TheVariants.{File as FileNode, Dir as DirNode, NotPresent}
use Rattle.svn_model.specs.Nodes.{WorkingCopy, get_in, InPathOrder, is_present, base_node}
use Rattle.svn_model.specs.Effects.{settled, effect, after_from, read_fault, is_settled_deep, settle_fault, edit_fault, refusal}
use Rattle.svn_model.specs.Effects.{IsAccepted, AllAcceptedFrom, AllAccepted}
use Rattle.law_update.specs.Laws.{drive_composes, each_call_is_accepted}
use Rattle.law_copy.proofs.NodeLists.{AllIn, all_in}
use Rattle.law_update.proofs.Described.{Setting, setting_of}
use Rattle.law_drive.proofs.Classes.{switched_to}
use Rattle.law_update.proofs.States.{state}
use Rattle.law_update.proofs.AfterSteps.{stands_after}
use Rattle.law_update.proofs.AfterCalls.{Ready, ReadAs, read_begun, next_read, next_effect, next_added, ready}
use Rattle.law_update.proofs.EndsAsResult.{ends_at, ends}
use Rattle.law_update.proofs.NoEditFault.{fits_next}
use Rattle.law_update.proofs.LawfulDrives.{drive_is_lawful}

-- the last call keeps a present node present
settled_present : (mode : Mode) (target : ℕ) (p : Path) (found : Option BaseNode) → is_present found ≡ true
    → is_present (settled mode target p found) ≡ true
settled_present mode target p None k = absurd (true≢false (sym k))
settled_present mode target p (Some NotPresent) k = absurd (true≢false (sym k))
settled_present mode target p (Some (FileNode r q t ps)) k = refl
settled_present mode target p (Some (DirNode r q c ps)) k = refl

-- a call without a fault of either kind isn't refused
no_faults : (d : DriveInput) (earlier : List Call) (c : Call) (nodes : List (Path × BaseNode)) → order_fault earlier c ≡ None
    → edit_fault d.checksum d.mode earlier c nodes ≡ None → refusal d.checksum d.mode earlier c nodes ≡ None
no_faults d earlier c nodes o e = ap (λ x. option_or (option_map Order x) (edit_fault d.checksum d.mode earlier c nodes)) o ∙ e

-- the fault of a call that is about a path
fault_read : (d : DriveInput) (earlier : List Call) (c : Call) (x : Step) (nodes : List (Path × BaseNode)) → step_of earlier c ≡ Some x
    → edit_fault d.checksum d.mode earlier c nodes ≡ read_fault d.checksum d.mode (steps_of earlier) (get_in nodes) (step_of earlier c)
fault_read d earlier CloseEdit x nodes e = absurd (none e)
  where
    none : None ≡ Some x → ⊥
    none q = cc
fault_read d earlier c x nodes e = refl

-- ---- the paths that the last call of a switch gives

abbrev PathsFit : Mode → WorkingCopy → Type 0
PathsFit Update w = Unit {0}
PathsFit (SwitchTo root) w = (p : Path) → is_present (w p) ≡ true → length root + length p ≤ path_limit

none_deep : (m : Mode) (w : WorkingCopy) (es : List (Path × BaseNode)) → AllIn w es → PathsFit m w → list_any (is_settled_deep m) es ≡ false
none_deep m w [] a fit = refl
none_deep m w (e ∷ es) a fit = ap (λ b. b || list_any (is_settled_deep m) es) (here m fit) ∙ none_deep m w es a.1 fit
  where
    here : (x : Mode) → PathsFit x w → is_settled_deep x e ≡ false
    here Update f = refl
    here (SwitchTo root) f = by (is_present (Some e.1)) refl
      where
        by : (b : Bool) → is_present (Some e.1) ≡ b → (b && nat_lt path_limit (length root + length e.0)) ≡ false
        by false q = refl
        by true q = le-ltb path_limit (length root + length e.0) (f e.0 (ap is_present a.0 ∙ q))

-- where they fit the last call is accepted
settles : (m : Mode) (nodes : List (Path × BaseNode)) → InPathOrder nodes → PathsFit m (get_in nodes) → settle_fault m nodes ≡ None
settles m nodes order fit = ap (λ b. cond b (Some TooDeep) None) (none_deep m (get_in nodes) nodes (all_in nodes order) fit)

module _ (d : DriveInput) (w : WorkingCopy) (setting : Setting d w) (late : Bool) where
  -- where all steps are done the paths that the last call gives fit
  paths_fit_all : (steps : List Step) → IsDriveOf d late steps → (w' : WorkingCopy) → ((p : Path) → w' p ≡ state d w steps p)
      → PathsFit d.mode w'
  paths_fit_all steps drive w' stands = by d.mode refl
    where
      in_target : (p : Path) → is_present (w' p) ≡ true → length (target_path d p) ≤ path_limit
      in_target p present =
          at (target_node d p) refl
          (sym (ap is_present (ap (settled d.mode d.target p) (stands p) ∙ ends_at d w setting late steps drive p))
          ∙ settled_present d.mode d.target p (w' p) present)
        where
          at : (o : Option ℕ) → target_node d p ≡ o → is_present (option_map (base_node d.history d.target (target_path d p)) o) ≡ true
              → length (target_path d p) ≤ path_limit
          at None e k = absurd (true≢false (sym k))
          at (Some n) e k = setting.served.history.paths_short d.target (target_path d p) n e

      by : (m : Mode) → d.mode ≡ m → PathsFit m w'
      by Update e = tt
      by (SwitchTo root) e =
          λ p present. subst (λ n. n ≤ path_limit) (ap length (switched_to d root e p) ∙ length-append root p) (in_target p present)

  -- calls that are in order are accepted, from any point of a drive on
  accepted_from : (earlier : List Call) (opened : List Path) (done steps : List Step) (w' : WorkingCopy) → ReadAs d earlier opened done
      → Ready opened steps → IsDriveOf d late (done ++ steps)
      → ((p : Path) → w' p ≡ state d w done p) → IsLawfulAfter earlier (numbered opened steps ++ CloseEdit ∷ [])
      → AllAcceptedFrom d.checksum d.mode earlier w' (numbered opened steps ++ CloseEdit ∷ [])
  accepted_from earlier opened done [] w' r ready drive stands lawful = (
    λ nodes order same.
        no_faults d earlier CloseEdit nodes lawful.0
        (settles d.mode nodes order
        (paths_fit_all done (subst (IsDriveOf d late) (append-nil done) drive) (get_in nodes) (λ p. same p ∙ stands p))),
    tt,
  )
  accepted_from earlier opened done (x ∷ steps) w' r ready drive stands lawful = (
    λ nodes order same. no_faults d earlier c nodes lawful.0 (fits nodes same),
    accepted_from (earlier ++ c ∷ []) (opened_after opened x.path x.action) (done ++ x ∷ []) steps (effect d.mode earlier c w')
        (next_added d earlier opened done x steps r ready) ready.2
        (subst (IsDriveOf d late) (sym (append_assoc done (x ∷ []) steps)) drive)
        (λ p. ap (λ v. v p) (next_effect d earlier opened done x steps r ready w')
        ∙ stands_after d w setting late done (x ∷ []) steps drive w' stands p)
        lawful.1,
  )
    where
      c : Call
      c = call_of opened x.path x.action

      read : step_of earlier c ≡ Some x
      read = next_read d earlier opened done x steps r ready

      fits : (nodes : List (Path × BaseNode)) → ((p : Path) → get_in nodes p ≡ w' p) → edit_fault d.checksum d.mode earlier c nodes ≡ None
      fits nodes same =
          fault_read d earlier c x nodes read
          ∙ (λ i. read_fault d.checksum d.mode (r.steps i) (λ p. same p i) (read i))
          ∙ fits_next d w setting late done x steps drive w' stands

  -- the calls of a drive are accepted where they are in order
  pub accepted : (calls : List Call) → IsDrive d late calls → IsLawful calls → AllAccepted d.checksum d.mode w calls
  accepted calls drive lawful =
      subst (AllAccepted d.checksum d.mode w) (sym drive.numbered_calls) (all (subst IsLawful drive.numbered_calls lawful))
    where
      all : IsLawful (calls_of d.target drive.steps) → AllAccepted d.checksum d.mode w (calls_of d.target drive.steps)
      all l = (
        λ nodes order same. no_faults d [] (SetTargetRevision d.target) nodes l.0 refl,
        accepted_from (SetTargetRevision d.target ∷ []) [] [] drive.steps w (read_begun d)
            (ready d w setting late [] drive.steps [] (subst (IsDriveOf d late) (sym (append-nil drive.steps)) drive.of_each_path))
            drive.of_each_path
            (λ p. refl) l.1,
      )

pub composes : drive_composes
composes d w late calls asked drive =
    let setting = setting_of d w asked in
    record {
      accepted = accepted d w setting late calls drive (drive_is_lawful d w setting late calls drive);
      ends = ends d w setting late calls drive;
    }

-- ---- one call of a list

-- of calls that are all accepted each is accepted after those before it
each_accepted : (checksum : List ℕ → List ℕ) (mode : Mode) (earlier : List Call) (w : WorkingCopy) (calls : List Call) (k : ℕ) (c : Call)
    → AllAcceptedFrom checksum mode earlier w calls → slice_get calls k ≡ Some c
    → IsAccepted checksum mode (earlier ++ take k calls) (after_from mode earlier w (take k calls)) c
each_accepted checksum mode earlier w [] k c all e = absurd (none e)
  where
    none : None ≡ Some c → ⊥
    none q = cc
each_accepted checksum mode earlier w (x ∷ calls) zero c all e =
    let same : x ≡ c = cc in
    subst (λ l. IsAccepted checksum mode l w c) (sym (append-nil earlier)) (subst (IsAccepted checksum mode earlier w) same all.0)
each_accepted checksum mode earlier w (x ∷ calls) (suc k) c all e =
    subst (λ l. IsAccepted checksum mode l (after_from mode (earlier ++ x ∷ []) (effect mode earlier x w) (take k calls)) c)
    (append_assoc earlier (x ∷ []) (take k calls))
    (each_accepted checksum mode (earlier ++ x ∷ []) (effect mode earlier x w) calls k c all.1 e)

pub each_is_accepted : each_call_is_accepted
each_is_accepted d w late calls k c nodes asked drive e order same =
    each_accepted d.checksum d.mode [] w calls k c (composes d w late calls asked drive).accepted e nodes order same
