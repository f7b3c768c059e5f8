use Rattle.svn_folder.proofs.Settled.{synced_left, on_disk}
use Rattle.svn_folder.proofs.laws.a_synced_folder_stays.Goals as goal

pub returns : goal.returns
returns c = λ s on. (λ left may p. synced_left s left on may p, λ p h. on_disk s on p h)
