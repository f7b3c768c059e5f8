use Rattle.svn_audit.proofs.SparseTruths.{whole_copies}
use Rattle.svn_audit.proofs.laws.whole_copies_lack_nothing.Goals as goal

pub returns : goal.returns
returns c = whole_copies
