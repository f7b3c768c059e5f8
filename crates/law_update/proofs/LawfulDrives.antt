-- The calls of a drive are lawful.
use Rattle.std.proofs.Common.{◌≡◌, ℕ, Bool, true, false, ◌&&◌, not, List, [], ◌∷◌, ◌++◌, refl, sym, ◌∙◌, ap, subst}
use Rattle.std.proofs.Common.{append_assoc, append-nil}
use Rattle.std.proofs.lemmas.Bool.{or_from}
use Rattle.std.specs.Prelude.{None, is_some, map, slice_get}
use Rattle.std.specs.List.{list_any, cons_option}
use Rattle.std.proofs.Math.Bool.{and-false}
use Rattle.svn_lists.proofs.Every.{all_map}
use Rattle.svn_types.specs.Names.{Path}
use Rattle.svn_types.specs.declared.kind.Kind.{Kind}
use Rattle.svn_types.specs.declared.kind.Kind.TheVariants.{File, Directory}
use Rattle.svn_types.proofs.PathLemmas.{path_eq-same}
use Rattle.svn_editor.specs.Calls.{kind_eq, Given, given_by, all_given, given, is_closed}
use Rattle.svn_editor.specs.Calls.{has_its_text, current_file}
use Rattle.svn_editor.specs.Calls.{is_last}
use Rattle.svn_editor.specs.Steps.{Step}
use Rattle.svn_editor.specs.declared.call.Call.{Call}
use Rattle.svn_editor.specs.declared.call.Call.TheVariants.{SetTargetRevision}
use Rattle.svn_editor.specs.declared.call.Call.TheVariants.{CloseEdit}
use Rattle.svn_editor.specs.Order.{order_fault, IsLawfulAfter, IsLawful}
use Rattle.svn_model.specs.Steps.{IsDriveOf}
use Rattle.svn_model.specs.Follow.{DriveInput}
use Rattle.svn_model.specs.Drive.{token_of, IsDrive}
use Rattle.svn_model.specs.Nodes.{WorkingCopy}
use Rattle.law_update.proofs.Described.{Setting}
use Rattle.law_drive.proofs.Courses.{is_entry_of}
use Rattle.law_update.proofs.StepOrder.{Member, members, has, has_parts, Found, find}
use Rattle.law_update.proofs.StepOrder.{any_path_actions, is_closed_later, root_entered}
use Rattle.law_update.proofs.AfterSteps.{directory_entered}
use Rattle.law_update.proofs.TokenNumbers.{call_at}
use Rattle.law_update.proofs.TokenNumbers.{calls_apart}
use Rattle.law_update.proofs.CallTests.{on_given, none_in, gives, gives-append, none_given, gives_at}
use Rattle.law_update.proofs.CallTests.{open-call}
use Rattle.law_update.proofs.CallTests.{is_last-call}
use Rattle.law_update.proofs.OrderTests.{passes, shows_closed}
use Rattle.law_drive.proofs.Tokens.{entered}
use Rattle.law_update.proofs.NoOrderFault.{no_fault}

module _ (d : DriveInput) (w : WorkingCopy) (setting : Setting d w) (late : Bool) (all : List Step) (drive : IsDriveOf d late all) where
  abbrev number : Path → ℕ
  number = token_of (entered all)

  abbrev begun : List Step → List Call
  begun done = SetTargetRevision d.target ∷ map (call_at number) done

  -- the calls of one more step
  map-next : (xs : List Step) (s : Step) → map (call_at number) (xs ++ s ∷ []) ≡ map (call_at number) xs ++ (call_at number s ∷ [])
  map-next [] s = refl
  map-next (x ∷ xs) s = ap (λ (l : List Call). call_at number x ∷ l) (map-next xs s)

  -- no step's call is out of order after the calls of the steps before it
  pub step_in_order : (done : List Step) (s : Step) (rest : List Step) → done ++ s ∷ rest ≡ all
      → order_fault (begun done) (call_at number s) ≡ None
  step_in_order done s rest cut =
      subst (λ l. order_fault (SetTargetRevision d.target ∷ map (call_at (token_of (entered l))) done) (call_at (token_of (entered l)) s)
      ≡ None) cut
      (no_fault d w setting late done s rest (subst (IsDriveOf d late) (sym cut) drive))

  -- ---- the end

  -- at the end all that was entered has been closed
  closed_entry : (k : Kind) (y : Step) → Member all y → is_entry_of k y.action ≡ true → is_closed (begun all) (number y.path) ≡ true
  closed_entry k y m e =
      shows_closed number k y.path all
      (is_closed_later d late all drive k y.path
      (m (has (is_entry_of k) y.path) (ap (λ x. x && is_entry_of k y.action) (path_eq-same y.path) ∙ e)))

  -- so nothing is open
  none_left_open : (k : Kind) → list_any (λ g. kind_eq g.kind k && not (is_closed (begun all) g.token)) (all_given (begun all)) ≡ false
  none_left_open k =
      none_given number (λ g. kind_eq g.kind k && not (is_closed (begun all) g.token)) all
      (all_map (Member all)
      (λ y. on_given (λ g. kind_eq g.kind k && not (is_closed (begun all) g.token)) (given_by (call_at number y)) ≡ false)
      (λ y m. open-call number k (begun all) y (closed_entry k y m)) all (members all))

  -- and the root has been given
  root_given : not (is_some (given (begun all) 0)) ≡ false
  root_given =
      by (find (has (is_entry_of Directory) []) all
      (any_path_actions d late all drive (is_entry_of Directory) [] ∙ directory_entered d w setting [] (root_entered d w setting)))
    where
      first : (xs ys : List Given) (g : Given) → not (is_some (slice_get (xs ++ g ∷ ys) 0)) ≡ false
      first [] ys g = refl
      first (x ∷ xs) ys g = refl

      by : Found (has (is_entry_of Directory) []) all → not (is_some (given (begun all) 0)) ≡ false
      by f =
          let g = gives_at number Directory f.here (has_parts (is_entry_of Directory) [] f.here f.passes).1 in
          ap (λ gs. not (is_some (slice_get gs 0)))
          (ap (gives number) (sym f.cut) ∙ gives-append number f.front (f.here ∷ f.back)
          ∙ ap (λ o. gives number f.front ++ cons_option o (gives number f.back)) g.is_found)
          ∙ first (gives number f.front) (gives number f.back) g.found

  -- so the last call is in order
  pub end_in_order : order_fault (begun all) CloseEdit ≡ None
  end_in_order =
      passes (begun all) CloseEdit
      (none_in number is_last all
      (all_map (Member all) (λ x. is_last (call_at number x) ≡ false) (λ x m. is_last-call number x) all (members all)))
      refl refl refl refl refl (and-false (has_its_text (begun all) (current_file (begun all)))) refl refl refl refl refl refl refl
      (or_from _ _ (or_from _ _ root_given (none_left_open Directory)) (none_left_open File))

  -- from any point of a drive on the calls are lawful
  lawful_from : (done steps : List Step) → done ++ steps ≡ all → IsLawfulAfter (begun done) (map (call_at number) steps ++ (CloseEdit ∷ []))
  lawful_from done [] cut = (ap (λ l. order_fault (begun l) CloseEdit) (sym (append-nil done) ∙ cut) ∙ end_in_order, tt)
  lawful_from done (s ∷ steps) cut = (
    step_in_order done s steps cut,
    subst (λ l. IsLawfulAfter (SetTargetRevision d.target ∷ l) (map (call_at number) steps ++ (CloseEdit ∷ []))) (map-next done s)
        (lawful_from (done ++ s ∷ []) steps (append_assoc done (s ∷ []) steps ∙ cut)),
  )

-- the calls of a drive are lawful
pub drive_is_lawful : (d : DriveInput) (w : WorkingCopy) → Setting d w → (late : Bool) (calls : List Call) → IsDrive d late calls
    → IsLawful calls
drive_is_lawful d w setting late calls k =
    subst IsLawful
    (sym (k.numbered_calls
    ∙ ap (λ l. SetTargetRevision d.target ∷ (l ++ (CloseEdit ∷ []))) (calls_apart d w setting late [] k.steps k.of_each_path)))
    (refl, lawful_from d w setting late k.steps k.of_each_path [] k.steps refl)
