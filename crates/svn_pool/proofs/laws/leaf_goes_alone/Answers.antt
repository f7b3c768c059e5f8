use Rattle.svn_pool.proofs.Old.{leaf_goes_alone as leaf_alone}
use Rattle.svn_pool.proofs.laws.leaf_goes_alone.Goals as goal

pub returns : goal.returns
returns c = leaf_alone
