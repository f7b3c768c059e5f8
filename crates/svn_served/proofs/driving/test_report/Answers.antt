use Rattle.svn_model.specs.Checks.{first_fault}
use Rattle.svn_served.proofs.Reported.{untested_by}
use Rattle.svn_served.proofs.driving.test_report.Goals as goal

pub returns-in_ok-report_failure-in-Err : goal.returns-in_ok-report_failure-in-Err
returns-in_ok-report_failure-in-Err c =
    untested_by (first_fault c.args.served.now.repo c.args.report.now) c.in-Err.fault c.in_ok-report_failure-in-Err.field-0 c.in-Err.ensures.answer
    c.in_ok-report_failure-in-Err.ensures
