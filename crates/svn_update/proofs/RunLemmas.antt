-- A run of a script, by the theorem of runs on one thread and that of runs on two.
use Rattle.std.proofs.Common.{◌≡◌, ℕ, true, false, Result, Ok, Err}
use Rattle.svn_link.specs.Ends.{Passed}
use Rattle.svn_run.specs.declared.outcome.Outcome.{Outcome}
use Rattle.svn_run.specs.declared.outcome.RunFault.{RunFault}
use Rattle.svn_run.specs.UpdateTheorem.{Asked, Nodes, TurnTheorem, ThreadsTheorem}
use Rattle.svn_script.specs.declared.command_line.Settings.{Settings}
use Rattle.svn_update.specs.Runs.{ThreadsRun, ScriptRun, outcome_alone}

-- what the two threads passed is left out
pub threads_run : (a : Asked) (capacity : ℕ) (left : Nodes) (ended : Result (Outcome × Passed) RunFault)
    → ThreadsTheorem a capacity left ended → ThreadsRun a capacity left (outcome_alone ended)
threads_run a capacity left (Ok ended) t = record { refused = tt; unchanged = tt; begun = t.begun; ran = t.ran.ran; sound = t.sound }
threads_run a capacity left (Err fault) t = record { refused = t.refused; unchanged = t.unchanged; begun = tt; ran = tt; sound = t.sound }

pub run_in_turn : (s : Settings) (a : Asked) (left : Nodes) (answer : Result Outcome RunFault) → s.in_turn ≡ true
    → TurnTheorem a left answer → ScriptRun s a left answer
run_in_turn s a left answer e t =
    rw e (record { refused = t.refused; unchanged = t.unchanged; begun = t.begun; ran = t.ran; sound = t.sound })

pub run_in_threads : (s : Settings) (a : Asked) (left : Nodes) (answer : Result Outcome RunFault) → s.in_turn ≡ false
    → ThreadsRun a s.capacity left answer → ScriptRun s a left answer
run_in_threads s a left answer e t = rw e t
