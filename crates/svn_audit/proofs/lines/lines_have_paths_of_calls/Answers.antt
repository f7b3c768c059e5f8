use Rattle.svn_audit.proofs.LineLaws.{lines_have_paths}
use Rattle.svn_audit.proofs.lines.lines_have_paths_of_calls.Goals as goal

pub returns : goal.returns
returns c = lines_have_paths
