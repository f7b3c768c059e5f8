-- A run that a command of a script makes, on one thread or two.
--     run_fault s a      why it doesn't begin
--     IsRunWant in_turn e      what may run out for it
--     ScriptRun s a left answer      what the run leaves and returns
use Rattle.std.specs.Prelude.{◌≡◌, ℕ, Bool, true, false, Option, None, Result, Ok, Err, IfOk, IfErr, OnOk, OnErr, if◌then◌else◌}
use Rattle.svn_link.specs.Ends.{Passed}
use Rattle.svn_run.specs.declared.outcome.Outcome.{Outcome}
use Rattle.svn_run.specs.declared.outcome.RunFault.{RunFault}
use Rattle.svn_run.specs.UpdateTheorem.{Asked, Nodes, fault_in_turn, fault_in_threads, IsRefusal, IsWantOfMemory, IsWantInThreads, IsSound, Ran}
use Rattle.svn_script.specs.declared.command_line.Settings.{Settings}

-- the capacity is looked at only where two threads run
abbrev pub run_fault : Settings → Asked → Option RunFault
run_fault s a = if s.in_turn then fault_in_turn a else fault_in_threads a s.capacity

-- memory and, where two threads run, a thread
abbrev pub IsRunWant : Bool → RunFault → Type 0
IsRunWant true e = IsWantOfMemory e
IsRunWant false e = IsWantInThreads e

-- what a run leaves and returns, whatever is said of why it doesn't begin
pub record RunBy (fault : Option RunFault) (IsWant : RunFault → Type 0) (a : Asked) (left : Nodes)
    (answer : Result Outcome RunFault) : Type 0 where
  pub refused : IfErr answer (IsRefusal fault IsWant)
  pub unchanged : OnErr answer (left ≡ a.copy)
  pub begun : OnOk answer (fault ≡ None)
  pub ran : IfOk answer (Ran a left)
  -- whatever the result
  pub sound : IsSound a left

-- what the two threads passed is left out
abbrev pub outcome_alone : Result (Outcome × Passed) RunFault → Result Outcome RunFault
outcome_alone (Ok ended) = Ok ended.0
outcome_alone (Err fault) = Err fault

abbrev pub ThreadsRun : Asked → ℕ → Nodes → Result Outcome RunFault → Type 0
ThreadsRun a capacity left answer = RunBy (fault_in_threads a capacity) IsWantInThreads a left answer

abbrev pub ScriptRun : Settings → Asked → Nodes → Result Outcome RunFault → Type 0
ScriptRun s a left answer = RunBy (run_fault s a) (IsRunWant s.in_turn) a left answer
