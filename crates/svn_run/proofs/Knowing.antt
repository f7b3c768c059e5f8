-- What is known of the copy that a run left.
use Rattle.std.proofs.Common.{◌≡◌, ℕ, true, true≢false, List, [], length, take, refl, sym, ap, subst, ◌∙◌}
use Rattle.std.specs.Prelude.{None, option_map}
use Rattle.svn_types.specs.Names.{Path}
use Rattle.svn_repo.specs.History.{look}
use Rattle.svn_editor.specs.declared.call.Call.{Call}
use Rattle.svn_editor.specs.declared.mode.Mode.{Mode}
use Rattle.svn_editor.specs.declared.mode.Mode.TheVariants.{Update, SwitchTo}
use Rattle.svn_model.specs.Builders.{checkout}
use Rattle.svn_model.specs.Checks.{target_fault}
use Rattle.svn_model.specs.Effects.{after}
use Rattle.svn_model.specs.Follow.{DriveInput, target_path, target_node}
use Rattle.svn_model.specs.Nodes.{WorkingCopy, get_in, base_node, IsWorkingCopy}
use Rattle.svn_model.specs.Result.{result}
use Rattle.law_drive.proofs.Classes.{switched_to}
use Rattle.law_update.specs.Laws.{IsTrueCopy}
use Rattle.svn_wc.specs.declared.known.Known.{Known}
use Rattle.svn_wc.specs.Unswitched.{IsUnswitched, IsLevel}
use Rattle.svn_wc.proofs.Level.{made_level}
use Rattle.svn_wc.proofs.Unswitched.{checkout_unswitched}
use Rattle.svn_wc.proofs.UnswitchedRuns.{first_unswitched}
use Rattle.svn_run.specs.declared.outcome.Outcome.{Outcome}
use Rattle.svn_run.specs.declared.outcome.Outcome.TheVariants.{Closed, Aborted}
use Rattle.svn_run.specs.Coming.{CameTo}
use Rattle.svn_run.specs.Knowing.{is_closed, known_after, IsEnding}
use Rattle.svn_run.specs.RunLaws.{RunLaws}
use Rattle.svn_run.specs.UpdateTheorem.{Nodes, Asked, input, accepted_in, IfClosed}
use Rattle.svn_run.proofs.Composing.{drive_for, ask, the_drive, same, sound, ends}

module _ (laws : RunLaws) (a : Asked) (true_copy : IsTrueCopy a.history a.copy) (target : target_fault (input a) ≡ None) (left : Nodes)
    (o : Outcome) (came : CameTo (drive_for a) a.request.mode a.request.options.cancel_after (get_in a.copy) left o) where
  abbrev asked_for : DriveInput
  asked_for = input a

  -- once it is closed the copy is the target
  is_result : is_closed o ≡ true → (p : Path) → get_in left p ≡ result (input a) p
  is_result closed = by o closed (ends laws a true_copy target left o came o came.copy came.closed)
    where
      by : (o : Outcome) → is_closed o ≡ true
          → IfClosed o (λ calls. (calls ≡ length (drive_for a)) × ((p : Path) → get_in left p ≡ result (input a) p))
          → (p : Path) → get_in left p ≡ result (input a) p
      by (Closed calls) closed h = h.1
      by (Aborted made accepted late cause) closed h = absurd (true≢false (sym closed))

  closed_level : is_closed o ≡ true → IsLevel (get_in left)
  closed_level closed = subst IsLevel (λ i p. sym (is_result closed p) i)
      (made_level asked_for.history asked_for.target (target_path asked_for) (target_node asked_for))

  -- a switch leads each path below the new root
  closed_unswitched : (root : Path) → a.request.mode ≡ SwitchTo root → is_closed o ≡ true → IsUnswitched (get_in left)
  closed_unswitched root mode closed =
      let as_checkout : get_in left ≡ checkout a.history root a.request.target = λ i p.
      (is_result closed p ∙ ap (λ (q : Path). option_map (base_node a.history a.request.target q) (look a.history a.request.target q))
      (switched_to asked_for root mode p)) i in
      let shape = (sound laws a true_copy target left o came).shape in
      subst IsUnswitched (sym as_checkout) (checkout_unswitched a.history root a.request.target (subst IsWorkingCopy as_checkout shape))

  -- an update switches none
  updated_unswitched : a.request.mode ≡ Update → IsUnswitched (get_in a.copy) → IsUnswitched (get_in left)
  updated_unswitched mode before =
      let w : WorkingCopy = get_in a.copy in
      let drive : List Call = drive_for a in
      let shapes = λ (n : ℕ).
      subst (λ (m : Mode). IsWorkingCopy (after m w (take n drive))) mode
      (laws.stays_true asked_for w a.request.options.late_texts drive n (ask laws a true_copy target) (the_drive laws a true_copy target)).0 in
      let first = first_unswitched [] drive w before shapes (accepted_in o) in
      subst IsUnswitched (same laws a true_copy target left o came)
      (subst (λ (m : Mode). IsUnswitched (after m w (take (accepted_in o) drive))) (sym mode) first)

  unswitched_by : (was : Known) → (was.unswitched ≡ true → IsUnswitched (get_in a.copy)) → (known_after was a.request.mode o).unswitched ≡ true
      → IsUnswitched (get_in left)
  unswitched_by was before known = by a.request.mode refl known
    where
      by : (m : Mode) → a.request.mode ≡ m → (known_after was m o).unswitched ≡ true → IsUnswitched (get_in left)
      by Update is known = updated_unswitched is (before known)
      by (SwitchTo root) is known = closed_unswitched root is known

  -- what the run ends with
  pub ends_with : (was : Known) → (was.unswitched ≡ true → IsUnswitched (get_in a.copy)) → IsEnding left (known_after was a.request.mode o)
  ends_with was before = record {
    shape = (sound laws a true_copy target left o came).shape;
    unswitched = unswitched_by was before;
    level = closed_level;
  }
