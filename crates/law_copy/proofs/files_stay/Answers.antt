use Rattle.svn_editor.proofs.Accepted.{accepted}
use Rattle.svn_order.proofs.Lawful.{sound}
use Rattle.law_copy.proofs.OnePath.{pathed}
use Rattle.law_copy.proofs.FilesStand.{file_kept}
use Rattle.law_copy.proofs.files_stay.Goals as goal

pub returns : goal.returns
returns c =
    λ mode w calls d lawful fits going t g e file unclosed still. file_kept mode calls w d (sound calls lawful) (pathed calls lawful)
    (accepted calls d going fits) t g e file unclosed still
