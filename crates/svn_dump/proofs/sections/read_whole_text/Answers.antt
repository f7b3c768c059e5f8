use Rattle.svn_dump.proofs.Failing.{fails_at_sums}
use Rattle.svn_dump.proofs.sections.read_whole_text.Goals as goal

pub returns-in_err-check_sums-clause-failed : goal.returns-in_err-check_sums-clause-failed
returns-in_err-check_sums-clause-failed g c =
    fails_at_sums (g.S.Input.failed c.args.source.now) (g.S.Input.failed c.read_text.new.source) c.in_err-check_sums.field-0.0
    c.from_residual-in_err-check_sums.result c.from_residual-in_err-check_sums.ensures c.in_ok-text.ensures.failed c.in_err-check_sums.ensures.refused
