use Rattle.law_update.proofs.Resuming.{run_resumes}
use Rattle.law_update.proofs.stopped_run_resumes.Goals as goal

pub returns : goal.returns
returns c = run_resumes
