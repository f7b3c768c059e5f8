-- The report of a run is the crawl of its copy: what is asked for by the one is asked for by the other.
use Rattle.std.proofs.Common.{◌≡◌, [], List, sym, ap, subst}
use Rattle.std.specs.Prelude.{None}
use Rattle.md5.specs.Md5.{md5}
use Rattle.svn_drive.specs.Requests.{input_of}
use Rattle.svn_editor.specs.declared.call.Call.{Call}
use Rattle.svn_editor.specs.declared.mode.Mode.{Mode}
use Rattle.svn_edit.specs.Carrying.{CarriedOut}
use Rattle.svn_model.specs.Checks.{target_fault}
use Rattle.svn_model.specs.Drive.{IsDrive}
use Rattle.svn_model.specs.Effects.{AllAccepted}
use Rattle.svn_model.specs.Follow.{DriveInput}
use Rattle.svn_model.specs.Nodes.{WorkingCopy, get_in}
use Rattle.svn_model.specs.TreeCalls.{drive_calls}
use Rattle.svn_report.specs.Reports.{ReportView}
use Rattle.law_update.specs.Laws.{IsTrueCopy}
use Rattle.svn_link.specs.Ends.{LinkEnd, NoticeEnd, Passed}
use Rattle.svn_run.specs.declared.outcome.Outcome.{Outcome}
use Rattle.svn_run.specs.declared.driving.Driven.{Driven}
use Rattle.svn_run.specs.declared.taking.Taken.{Taken}
use Rattle.svn_run.specs.declared.whole.Begun.{Begun}
use Rattle.svn_run.specs.Beginning.{IsBegun}
use Rattle.svn_run.specs.Coming.{CameTo, CameInTurn}
use Rattle.svn_run.specs.Driven.{IsDriven}
use Rattle.svn_run.specs.Finishing.{IsFinished}
use Rattle.svn_run.specs.Takes.{IsTaken}
use Rattle.svn_run.specs.RunLaws.{RunLaws}
use Rattle.svn_run.specs.UpdateTheorem.{Nodes, Asked, input, fault_in_turn, made_in, calls_made}
use Rattle.svn_run.proofs.Beginning.{has_target}
use Rattle.svn_run.proofs.Composing.{drive_for, the_drive, drive_accepted}
use Rattle.svn_run.proofs.DriveCalls.{drive_inner}
use Rattle.svn_run.proofs.Ending.{finished}

module _ (laws : RunLaws) (a : Asked) (true_copy : IsTrueCopy a.history a.copy) (none : fault_in_turn a ≡ None) (b : Begun)
    (is : IsBegun a.copy a.request.mode b) where
  abbrev pub by_report : DriveInput
  by_report = input_of a.history b.report a.request

  abbrev pub calls : List Call
  calls = drive_calls by_report a.request.options.late_texts

  abbrev nodes : Nodes
  nodes = b.carrier.copy.nodes.entries

  same : by_report ≡ input a
  same = ap (λ (r : ReportView). input_of a.history r a.request) is.report

  pub target : target_fault by_report ≡ None
  target = subst (λ (d : DriveInput). target_fault d ≡ None) (sym same) (has_target a none)

  pub is_drive : IsDrive by_report a.request.options.late_texts calls
  is_drive =
      subst (λ (d : DriveInput). IsDrive d a.request.options.late_texts (drive_calls d a.request.options.late_texts)) (sym same)
      (the_drive laws a true_copy (has_target a none))

  all_accepted : AllAccepted md5 a.request.mode (get_in a.copy) calls
  all_accepted =
      subst (λ (d : DriveInput). AllAccepted md5 a.request.mode (get_in a.copy) (drive_calls d a.request.options.late_texts)) (sym same)
      (drive_accepted laws a true_copy (has_target a none))

  -- the edit began with the nodes that it changes
  pub begun : CarriedOut b.carrier.mode.now (get_in nodes) b.carrier.pending nodes []
  begun = subst (λ (s : Mode × Nodes). CarriedOut s.0 (get_in s.1) b.carrier.pending s.1 [])
      (λ i. (sym is.same_mode i, sym is.same_nodes i)) is.begun

  -- what holds of its calls
  of_drive : (P : List Call → Type 0) → P calls → P (drive_for a)
  of_drive P h = subst (λ (d : DriveInput). P (drive_calls d a.request.options.late_texts)) same h

  -- and of the copy that they change
  of_copy : (P : WorkingCopy → Type 0) → P (get_in nodes) → P (get_in a.copy)
  of_copy P h = subst (λ (n : Nodes). P (get_in n)) is.same_nodes h

  -- and of the mode that they are in
  of_mode : (P : Mode → Type 0) → P b.carrier.mode.now → P a.request.mode
  of_mode P h = subst P is.same_mode h

  -- what a run on one thread came to, by the nodes that its calls changed
  pub came : (left : Nodes) (o by_end : Outcome) → o ≡ by_end
      → ((w0 : WorkingCopy) → CarriedOut b.carrier.mode.now w0 b.carrier.pending nodes [] → AllAccepted md5 b.carrier.mode.now w0 calls
      → CameInTurn calls b.carrier.mode.now a.request.options.cancel_after w0 left by_end)
      → CameInTurn (drive_for a) a.request.mode a.request.options.cancel_after (get_in a.copy) left o
  came left o by_end ended run =
      of_drive (λ (cs : List Call). CameInTurn cs a.request.mode a.request.options.cancel_after (get_in a.copy) left o)
      (subst (λ (x : Outcome). CameInTurn calls a.request.mode a.request.options.cancel_after (get_in a.copy) left x) (sym ended)
      (of_mode (λ (m : Mode). CameInTurn calls m a.request.options.cancel_after (get_in a.copy) left by_end)
      (run (get_in a.copy) (of_copy (λ (w : WorkingCopy). CarriedOut b.carrier.mode.now w b.carrier.pending nodes []) begun)
      (subst (λ (m : Mode). AllAccepted md5 m (get_in a.copy) calls) (sym is.same_mode) all_accepted))))

  -- what a run on two threads came to, once both are joined
  pub came_in_threads : (left : Nodes) (o : Outcome) (passed : Passed) (out : LinkEnd) (watch : NoticeEnd) (taken_by : LinkEnd)
      (told_by : NoticeEnd) (d : Driven) (u : Taken) → IsDriven calls a.request.options.cancel_after out watch d
      → IsTaken b.carrier.mode.now (get_in nodes) taken_by told_by u left → IsFinished a.request.options.cancel_after d u o passed
      → CameTo (drive_for a) a.request.mode a.request.options.cancel_after (get_in a.copy) left o
      × (passed.sent ≡ calls_made (drive_for a) (made_in o)) × (passed.taken ≡ calls_made (drive_for a) (made_in o))
  came_in_threads left o passed out watch taken_by told_by d u driven taken joined =
      of_drive
      (λ (cs : List Call). CameTo cs a.request.mode a.request.options.cancel_after (get_in a.copy) left o
      × (passed.sent ≡ calls_made cs (made_in o)) × (passed.taken ≡ calls_made cs (made_in o)))
      (finished calls (drive_inner by_report a.request.options.late_texts calls is_drive) a.request.mode
      a.request.options.cancel_after (get_in a.copy) all_accepted left out watch taken_by told_by d u o passed driven
      (of_copy (λ (w : WorkingCopy). IsTaken a.request.mode w taken_by told_by u left)
      (of_mode (λ (m : Mode). IsTaken m (get_in nodes) taken_by told_by u left) taken)) joined)
