-- Requests in the words of the definitions.
--     requested target mode late limit      a request
--     input_of h r w      what its drive is made from, where the client's report is r
--     drive_for h r w      the calls of its drive
use Rattle.std.specs.Prelude.{ℕ, Bool, List, Option}
use Rattle.md5.specs.Md5.{md5}
use Rattle.svn_repo.specs.History.{History}
use Rattle.svn_report.specs.Reports.{ReportView}
use Rattle.svn_editor.specs.declared.call.Call.{Call}
use Rattle.svn_editor.specs.declared.mode.Mode.{Mode}
use Rattle.svn_model.specs.Follow.{DriveInput}
use Rattle.svn_model.specs.TreeCalls.{drive_calls}
use Rattle.svn_drive.specs.declared.request.Request.{Request}

abbrev pub requested : ℕ → Mode → Bool → Option ℕ → Request
requested target mode late limit =
    record { target = target; mode = mode; options = record { cancel_after = limit; late_texts = late } }

abbrev pub input_of : History → ReportView → Request → DriveInput
input_of h r w = record { history = h; report = r; target = w.target; mode = w.mode; checksum = md5 }

abbrev pub drive_for : History → ReportView → Request → List Call
drive_for h r w = drive_calls (input_of h r w) w.options.late_texts
