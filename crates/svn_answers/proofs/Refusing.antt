-- Why nothing is told of a copy.
use Rattle.std.proofs.Common.{◌≡◌, ◌∙◌, ℕ, List, [], refl, sym, ap, subst, ⊎_elim, inl, inr}
use Rattle.std.specs.Prelude.{Option, None, Result, Ok, Err}
use Rattle.svn_types.specs.Names.{Path}
use Rattle.svn_repo.specs.History.{History}
use Rattle.svn_editor.specs.declared.call.Call.{Call}
use Rattle.svn_editor.specs.declared.fault.EditFault.{EditFault}
use Rattle.svn_editor.specs.declared.fault.EditFault.TheVariants as edit
use Rattle.svn_editor.specs.declared.mode.Mode.{Mode}
use Rattle.svn_report.specs.Reports.{ReportView}
use Rattle.svn_model.specs.declared.base_node.BaseNode.{BaseNode}
use Rattle.svn_model.specs.declared.drive_end.DriveEnd.{DriveEnd}
use Rattle.svn_model.specs.declared.drive_fault.DriveFault.{DriveFault}
use Rattle.svn_model.specs.declared.drive_fault.DriveFault.TheVariants as drives
use Rattle.svn_model.specs.Checks.{target_fault}
use Rattle.svn_model.specs.Crawl.{crawl}
use Rattle.svn_model.specs.Ends.{Drives}
use Rattle.svn_model.specs.Nodes.{get_in}
use Rattle.svn_edit.specs.declared.edit.Edit.{Edit}
use Rattle.svn_wc.specs.Taking.{TakesCall}
use Rattle.svn_drive.specs.declared.request.Request.{Request}
use Rattle.svn_drive.specs.Requests.{input_of, drive_for}
use Rattle.svn_answers.specs.declared.topic.TopicFault.{TopicFault}
use Rattle.svn_answers.specs.declared.topic.TopicFault.TheVariants.{Drive, Memory}
use Rattle.svn_answers.specs.Topics.{update_to, calls_to, of_drive, AreLeft, bad_target, too_many, IsCallsFault, IsNodesFault}
use Rattle.svn_answers.proofs.Driving.{WhyStopped, RefusedCall, has_target, why_stopped}
use Rattle.svn_answers.proofs.Driving as stops
use Rattle.svn_answers.proofs.Updating.{IsRefusal, Stands, left_by, refusal_by}

-- a fault of a drive is out of memory, or that fault
of_drive_is : (P : TopicFault → Type 0) (x : DriveFault) → P Memory → P (Drive x) → P (of_drive x)
of_drive_is P drives.Memory memory that = memory
of_drive_is P (drives.Editor edit.Memory) memory that = memory
of_drive_is P x memory that = that

module _ (h : History) (nodes : List (Path × BaseNode)) (rev : Option ℕ) where
  abbrev target : Option DriveFault
  target = target_fault (input_of h (crawl nodes) (update_to h rev))

  -- into an editor that refuses calls only when out of memory
  pub calls_fault : (Refuses : EditFault → Type 0) → ((why : EditFault) → Refuses why → why ≡ edit.Memory) → (x : DriveFault)
      → WhyStopped target (calls_to h nodes rev) Refuses x → IsCallsFault h nodes rev (of_drive x)
  calls_fault Refuses only x (stops.bad_target is) = of_drive_is (IsCallsFault h nodes rev) x tt (bad_target is)
  calls_fault Refuses only x (stops.no_memory is) = subst (λ (y : DriveFault). IsCallsFault h nodes rev (of_drive y)) (sym is) tt
  calls_fault Refuses only x (stops.too_many is many) = of_drive_is (IsCallsFault h nodes rev) x tt (too_many is many)
  calls_fault Refuses only x (stops.refused why is refuses) =
      subst (λ (y : DriveFault). IsCallsFault h nodes rev (of_drive y)) (sym (is ∙ ap (λ (e : EditFault). drives.Editor e) (only why refuses))) tt

  refused_fault : (why : EditFault) → IsRefusal (get_in nodes) (calls_to h nodes rev) why → IsNodesFault h nodes rev (of_drive (drives.Editor why))
  refused_fault why r =
      ⊎_elim
      (λ (is : why ≡ edit.Memory). subst (λ (e : EditFault). IsNodesFault h nodes rev (of_drive (drives.Editor e))) (sym is) tt)
      (λ is.
      of_drive_is (IsNodesFault h nodes rev) (drives.Editor why) tt
      (inr
      (record {
        before = r.before;
        call = r.call;
        rest = r.rest;
        calls_are = r.calls_are;
        left = r.left;
        is_left = r.is_left;
        why = why;
        refused = is;
        fault_is = refl;
      })))
      r.refused

  -- into an applier
  pub nodes_fault : (Refuses : EditFault → Type 0) → ((why : EditFault) → Refuses why → IsRefusal (get_in nodes) (calls_to h nodes rev) why)
      → (x : DriveFault) → WhyStopped target (calls_to h nodes rev) Refuses x → IsNodesFault h nodes rev (of_drive x)
  nodes_fault Refuses are x (stops.bad_target is) = of_drive_is (IsNodesFault h nodes rev) x tt (inl (bad_target is))
  nodes_fault Refuses are x (stops.no_memory is) = subst (λ (y : DriveFault). IsNodesFault h nodes rev (of_drive y)) (sym is) tt
  nodes_fault Refuses are x (stops.too_many is many) = of_drive_is (IsNodesFault h nodes rev) x tt (inl (too_many is many))
  nodes_fault Refuses are x (stops.refused why is refuses) =
      subst (λ (y : DriveFault). IsNodesFault h nodes rev (of_drive y)) (sym is) (refused_fault why (are why refuses))

  pub calls_memory : (e : TopicFault) → e ≡ Memory → IsCallsFault h nodes rev e
  calls_memory e is = subst (IsCallsFault h nodes rev) (sym is) tt

  pub nodes_memory : (e : TopicFault) → e ≡ Memory → IsNodesFault h nodes rev e
  nodes_memory e is = subst (IsNodesFault h nodes rev) (sym is) tt

  -- ---- drives by what a copy reports

  module _ {E : Type 0} (answers : E → Call → Result (Unit {0}) EditFault → E → Type 0) (report : ReportView) (w : Request)
      (reported : report ≡ crawl nodes) (asked : w ≡ update_to h rev) (e f : E) where
    abbrev DrivesTo : ReportView → Request → Result DriveEnd DriveFault → Type 0
    DrivesTo r v result = Drives answers v.options.cancel_after (target_fault (input_of h r v)) (drive_for h r v) result e f

    abbrev Updates : Result DriveEnd DriveFault → Type 0
    Updates result = Drives answers None target (calls_to h nodes rev) result e f

    updates : (result : Result DriveEnd DriveFault) → DrivesTo report w result → Updates result
    updates result drove =
        subst (λ (v : Request). DrivesTo (crawl nodes) v result) asked (subst (λ (r : ReportView). DrivesTo r w result) reported drove)

    pub target_is_there : (x : DriveEnd) → DrivesTo report w (Ok x) → target ≡ None
    target_is_there x drove = has_target answers None target (calls_to h nodes rev) x e f (updates (Ok x) drove)

    -- into an editor that keeps the calls
    pub calls_refused : (x : DriveFault) → ((m n : E) (c : Call) (why : EditFault) → answers m c (Err why) n → why ≡ edit.Memory)
        → DrivesTo report w (Err x) → IsCallsFault h nodes rev (of_drive x)
    calls_refused x only drove =
        calls_fault (RefusedCall answers (calls_to h nodes rev) e) (λ why r. only r.mid r.after r.call why r.refuses) x
        (why_stopped answers None target (calls_to h nodes rev) x e f refl (updates (Err x) drove))

    -- into an applier
    module _ (edit_of : E → Edit) (nodes_of : E → List (Path × BaseNode)) (mode_of : E → Mode)
        (takes : (m n : E) (c : Call) (answer : Result (Unit {0}) EditFault) → answers m c answer n
        → TakesCall (mode_of m) (edit_of m) (nodes_of m) c answer (edit_of n) (nodes_of n) × (mode_of n ≡ mode_of m))
        (begins : Stands answers edit_of nodes_of mode_of takes (get_in nodes) e []) where
      pub nodes_refused : (x : DriveFault) → DrivesTo report w (Err x) → IsNodesFault h nodes rev (of_drive x)
      nodes_refused x drove =
          nodes_fault (RefusedCall answers (calls_to h nodes rev) e)
          (λ why r. refusal_by answers edit_of nodes_of mode_of takes (get_in nodes) (calls_to h nodes rev) e why begins r) x
          (why_stopped answers None target (calls_to h nodes rev) x e f refl (updates (Err x) drove))

      pub nodes_left : (x : DriveEnd) → DrivesTo report w (Ok x) → AreLeft nodes (calls_to h nodes rev) (nodes_of f)
      nodes_left x drove p =
          left_by answers edit_of nodes_of mode_of takes (get_in nodes) None target (calls_to h nodes rev) x e f refl (updates (Ok x) drove) begins p
