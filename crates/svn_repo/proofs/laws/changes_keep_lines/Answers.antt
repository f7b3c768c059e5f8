use Rattle.svn_repo.proofs.Staying.{lines}
use Rattle.svn_repo.proofs.laws.changes_keep_lines.Goals as goal

pub returns : goal.returns
returns c = lines
