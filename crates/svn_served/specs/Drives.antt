-- What is written of a drive.
--     AreSent d calls bytes      these are calls as a client is sent them, with the texts that theirs stand for, and with what is said of nodes
--     LeavesWritten d end old new      what the calls of a drive have left written, by how they ended
--     IsDrive d driven bytes      all that is written of a drive: its calls; or the first of them and a failure where a stop was asked for; or why there is none
use Rattle.std.specs.Prelude.{◌≡◌, ◌⊎◌, ℕ, ◌<◌, Bool, List, ◌++◌, take, length, Option, Some, None, Result, Ok, Err}
use Rattle.std.specs.Io.KnownBytes.{Appends}
use Rattle.svn_editor.specs.declared.call.Call.{Call}
use Rattle.svn_report.specs.Reports.{ReportView}
use Rattle.svn_model.specs.declared.drive_end.DriveEnd.{DriveEnd}
use Rattle.svn_model.specs.declared.drive_end.DriveEnd.TheVariants.{Closed, Cancelled}
use Rattle.svn_model.specs.declared.drive_fault.DriveFault.{DriveFault}
use Rattle.svn_model.specs.declared.drive_fault.DriveFault.TheVariants.{NoSuchTarget, NoRoot, OtherRoot}
use Rattle.svn_model.specs.declared.report_fault.ReportFault.{ReportFault}
use Rattle.svn_model.specs.declared.report_fault.ReportFault.TheVariants as reports
use Rattle.svn_model.specs.Checks.{first_fault, target_fault}
use Rattle.svn_model.specs.Follow.{DriveInput}
use Rattle.svn_drive.specs.declared.request.Request.{Request}
use Rattle.svn_drive.specs.Requests.{input_of, drive_for}
use Rattle.svn_repo.specs.History.{History}
use Rattle.svn_wire_calls.specs.Entries.{AreWritten}
use Rattle.svn_served.specs.declared.driving.Driven.{Driven}
use Rattle.svn_served.specs.declared.driving.Driven.TheVariants.{Whole, Failed}
use Rattle.svn_replies.specs.declared.fault.Refused.{Refused}
use Rattle.svn_replies.specs.declared.fault.Refused.TheVariants as refused
use Rattle.svn_replies.specs.declared.served.Served.{Served}
use Rattle.svn_served.specs.declared.notes.Notes.{Notes}
use Rattle.svn_served.specs.declared.wanted.Entry.{Entry}
use Rattle.svn_served.specs.declared.wanted.Wanted.{Wanted}
use Rattle.svn_replies.specs.Answers.{failure}
use Rattle.svn_served.specs.ClientCalls.{client_name, client_calls}
use Rattle.svn_replies.specs.Refusals.{Reason, fails, refusal_code}
use Rattle.svn_replies.specs.Texts.{IsText, IsSum}
use Rattle.svn_served.specs.Told.{Tells}

-- what a drive is made from, and of it what a client is sent
pub record Drive : Type 0 where
  pub served : Served
  pub report : ReportView
  pub request : Request
  -- the one entry, where the drive is of one
  pub entry : Option Entry
  pub with_texts : Bool

-- what comes of a command that a report follows
abbrev pub wanted_drive : Served → Wanted → ReportView → Drive
wanted_drive s w r = record { served = s; report = r; request = w.request; entry = w.entry; with_texts = w.with_texts }

abbrev pub noted_drive : Notes → Bool → Drive
noted_drive n texts =
    record { served = n.served.now; report = n.report.now; request = n.request.now; entry = n.entry.now; with_texts = texts }

abbrev pub input : Drive → DriveInput
input d = input_of d.served.repo d.report d.request

-- the calls of the drive
abbrev pub calls_of : Drive → List Call
calls_of d = drive_for d.served.repo d.report d.request

abbrev pub AreSent : Drive → List Call → List ℕ → Type 0
AreSent d calls bytes =
    AreWritten (Tells d.served (input d) d.entry) (IsText d.served) (IsSum d.served) (client_calls (client_name d.entry) d.with_texts calls) bytes

-- ---- why there is none

abbrev pub report_code : ReportFault → ℕ
report_code reports.Memory = 0
report_code (reports.NoSuchRevision i) = 160006
report_code (reports.NoNode i) = 160013
report_code reports.NoEntries = 165004
report_code (reports.ParentNotDir i) = 160016
report_code reports.RootNotDir = 160016

-- a fault of a report as the client is told it
abbrev pub IsReportRefusal : ReportFault → Refused → Type 0
IsReportRefusal reports.Memory e = e ≡ refused.Memory
IsReportRefusal fault e = refusal_code e ≡ Some (report_code fault)

abbrev pub tested_by : Option ReportFault → Result (Unit {0}) Reason
tested_by None = Ok tt
tested_by (Some fault) = Err (fails (report_code fault))

-- whether a report can be served
abbrev pub tested : History → ReportView → Result (Unit {0}) Reason
tested h r = tested_by (first_fault h r)

-- of the faults of a target, which come before any call
abbrev pub target_code : DriveFault → Option ℕ
target_code NoSuchTarget = Some 160006
target_code NoRoot = Some 160005
target_code OtherRoot = Some 200007
target_code _ = None

-- ---- what is written

-- all calls
pub record IsWhole (d : Drive) (bytes : List ℕ) : Type 0 where
  pub target : target_fault (input d) ≡ None
  pub sent : AreSent d (calls_of d) bytes

-- so many calls, as was asked for
pub record IsFront (d : Drive) (k : ℕ) (bytes : List ℕ) : Type 0 where
  pub asked : d.request.options.cancel_after ≡ Some k
  pub before_last : k < length (calls_of d)
  pub target : target_fault (input d) ≡ None
  pub sent : AreSent d (take k (calls_of d)) bytes

abbrev pub LeavesWritten : Drive → Result DriveEnd DriveFault → Option (List ℕ) → Option (List ℕ) → Type 0
LeavesWritten d (Ok (Closed n)) old new = (bytes : List ℕ) × IsWhole d bytes × Appends old new bytes
LeavesWritten d (Ok (Cancelled k)) old new = (bytes : List ℕ) × IsFront d k bytes × Appends old new bytes
LeavesWritten d (Err fault) old new = (code : ℕ) → target_code fault ≡ Some code → (target_fault (input d) ≡ Some fault) × (new ≡ old)

-- what is written at the end: of a drive that is whole nothing, else a failure
abbrev pub TellsEnd : Result DriveEnd DriveFault → Driven → Option (List ℕ) → Option (List ℕ) → Type 0
TellsEnd (Ok (Closed n)) driven old new = (driven ≡ Whole) × (new ≡ old)
TellsEnd (Ok (Cancelled k)) driven old new = (driven ≡ Failed) × ((message : List ℕ) × Appends old new (failure 200015 message))
TellsEnd (Err fault) driven old new =
    (driven ≡ Failed) × ((code : ℕ) × (message : List ℕ) × (target_code fault ≡ Some code) × Appends old new (failure code message))

-- a stop that was asked for, and the failure that says so
pub record IsStopped (d : Drive) (bytes : List ℕ) : Type 0 where
  pub made : ℕ
  pub calls : List ℕ
  pub front : IsFront d made calls
  pub message : List ℕ
  pub written : bytes ≡ calls ++ failure 200015 message

-- no drive leads to the target
pub record IsNone (d : Drive) (bytes : List ℕ) : Type 0 where
  pub fault : DriveFault
  pub target : target_fault (input d) ≡ Some fault
  pub code : ℕ
  pub is_code : target_code fault ≡ Some code
  pub message : List ℕ
  pub written : bytes ≡ failure code message

abbrev pub IsDrive : Drive → Driven → List ℕ → Type 0
IsDrive d Whole bytes = IsWhole d bytes
IsDrive d Failed bytes = IsStopped d bytes ⊎ IsNone d bytes
