use Rattle.svn_update.proofs.RunLemmas.{run_in_threads}
use Rattle.svn_update.proofs.runs.run_copy.Goals as goal

pub returns-else-settings : goal.returns-else-settings
returns-else-settings g c =
    run_in_threads c.args.settings _ c.run_in_threads.new.copy c.run_in_threads.result c.if-settings.false c.run_in_threads.ensures
