use Rattle.svn_folder.proofs.Firm.{shown_left}
use Rattle.svn_folder.proofs.laws.what_is_shown_may_be_left.Goals as goal

pub returns : goal.returns
returns c = shown_left
