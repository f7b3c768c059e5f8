use Rattle.law_update.proofs.Resuming.{resumes}
use Rattle.law_update.proofs.stopped_drive_resumes.Goals as goal

pub returns : goal.returns
returns c =
    λ d w left late calls n r asked drive same report checkable describes. resumes d w left late calls n r asked drive same report checkable
    describes
