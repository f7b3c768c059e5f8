use Rattle.svn_disk.proofs.Moving.{renamed_at_once}
use Rattle.svn_disk.proofs.laws.a_directory_is_renamed_at_once.Goals as goal

pub returns : goal.returns
returns c = renamed_at_once
