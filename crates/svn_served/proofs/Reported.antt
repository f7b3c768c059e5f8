-- A report that can't be served.
use Rattle.std.proofs.Common.{Option, Some, refl}
use Rattle.svn_model.specs.declared.report_fault.ReportFault.{ReportFault}
use Rattle.svn_model.specs.declared.report_fault.ReportFault.TheVariants as reports
use Rattle.svn_drive.specs.Checking.{IsCheckAnswer}
use Rattle.svn_replies.specs.declared.fault.Refused.{Refused}
use Rattle.svn_served.specs.Drives.{IsReportRefusal, tested_by}
use Rattle.svn_replies.specs.Refusals.{Fails}
use Rattle.svn_served.proofs.Refusing.{fails_by}

pub untested_by : (first : Option ReportFault) (fault : ReportFault) (e : Refused) → IsCheckAnswer first fault → IsReportRefusal fault e
    → Fails e (tested_by first)
untested_by first reports.Memory e h is = rw is tt
untested_by first (reports.NoSuchRevision i) e h is = rw h (fails_by e 160006 (tested_by (Some (reports.NoSuchRevision i))) is refl)
untested_by first (reports.NoNode i) e h is = rw h (fails_by e 160013 (tested_by (Some (reports.NoNode i))) is refl)
untested_by first reports.NoEntries e h is = rw h (fails_by e 165004 (tested_by (Some reports.NoEntries)) is refl)
untested_by first (reports.ParentNotDir i) e h is = rw h (fails_by e 160016 (tested_by (Some (reports.ParentNotDir i))) is refl)
untested_by first reports.RootNotDir e h is = rw h (fails_by e 160016 (tested_by (Some reports.RootNotDir)) is refl)
