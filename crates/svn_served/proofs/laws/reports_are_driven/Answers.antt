use Rattle.svn_served.proofs.ReportRuns.{reports_are_driven}
use Rattle.svn_served.proofs.laws.reports_are_driven.Goals as goal

pub returns : goal.returns
returns c = reports_are_driven
