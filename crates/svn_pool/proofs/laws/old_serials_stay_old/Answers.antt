use Rattle.svn_pool.proofs.Old.{old_is_gone, old_stays_old}
use Rattle.svn_pool.proofs.laws.old_serials_stay_old.Goals as goal

pub returns : goal.returns
returns c = record { gone = old_is_gone; stays = old_stays_old }
