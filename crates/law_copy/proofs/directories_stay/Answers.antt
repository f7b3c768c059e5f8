use Rattle.svn_editor.proofs.Accepted.{accepted}
use Rattle.svn_order.proofs.Lawful.{sound}
use Rattle.law_copy.proofs.OpenStand.{directories_stand}
use Rattle.law_copy.proofs.directories_stay.Goals as goal

pub returns : goal.returns
returns c =
    λ mode w calls d lawful fits going stand opened. directories_stand mode calls w d (sound calls lawful)
    (accepted calls d going fits) stand opened
