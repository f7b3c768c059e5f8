use Rattle.svn_disk.proofs.Elsewhere.{nothing_else_changed}
use Rattle.svn_disk.proofs.laws.a_change_changes_nothing_else.Goals as goal

pub returns : goal.returns
returns c = nothing_else_changed
