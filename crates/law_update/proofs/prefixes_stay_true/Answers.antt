use Rattle.law_update.proofs.PrefixTruth.{prefixes_are_true}
use Rattle.law_update.proofs.prefixes_stay_true.Goals as goal

pub returns : goal.returns
returns c = prefixes_are_true
