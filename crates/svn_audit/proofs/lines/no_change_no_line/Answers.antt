use Rattle.svn_audit.proofs.LineLaws.{no_change_prints_nothing}
use Rattle.svn_audit.proofs.lines.no_change_no_line.Goals as goal

pub returns : goal.returns
returns c = no_change_prints_nothing
