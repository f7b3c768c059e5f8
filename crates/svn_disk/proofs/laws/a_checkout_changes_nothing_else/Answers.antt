use Rattle.svn_disk.proofs.Elsewhere.{nothing_else}
use Rattle.svn_disk.proofs.laws.a_checkout_changes_nothing_else.Goals as goal

pub returns : goal.returns
returns c = nothing_else
