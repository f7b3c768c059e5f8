use Rattle.law_copy.proofs.OnePath.{pathed}
use Rattle.law_copy.proofs.tokens_have_paths.Goals as goal

pub returns : goal.returns
returns c = pathed
