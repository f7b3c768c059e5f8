-- The update theorem: what comes of a run that brings a working copy to a revision, by an update or by a switch of the whole copy.
--     Asked      what a run was asked for
--     Ran a left outcome      the run ended with that outcome, and left that copy
--     TurnTheorem a left answer      the theorem of a run on one thread
--     ThreadsTheorem a capacity left answer      the theorem of a run on two threads
use Rattle.std.specs.Prelude.{◌≡◌, ℕ, ◌+◌, ◌<◌, ◌≤◌, Bool, ◌&&◌, List, [], ◌∷◌, ◌++◌, length, take, nat_eq, nat_le, Option, Some, None}
use Rattle.std.specs.Prelude.{option_map, IfSome, Result, IfOk, IfErr, OnOk, OnErr, ◌⊎◌, if◌then◌else◌}
use Rattle.std.specs.Option.{option_or}
use Rattle.svn_types.specs.Names.{Path}
use Rattle.svn_repo.specs.History.{History}
use Rattle.svn_editor.specs.declared.call.Call.{Call}
use Rattle.svn_editor.specs.declared.call.Call.TheVariants.{AbortEdit}
use Rattle.svn_link.specs.Ends.{Passed}
use Rattle.svn_model.specs.declared.base_node.BaseNode.{BaseNode}
use Rattle.svn_model.specs.declared.drive_fault.DriveFault.{DriveFault}
use Rattle.svn_model.specs.declared.drive_fault.DriveFault.TheVariants.{NoSuchTarget, NoRoot as RootMissing, OtherRoot as RootOther}
use Rattle.svn_model.specs.Checks.{target_fault}
use Rattle.svn_model.specs.Crawl.{crawl}
use Rattle.svn_model.specs.Follow.{DriveInput}
use Rattle.svn_model.specs.Drive.{IsDrive}
use Rattle.svn_model.specs.Nodes.{get_in, IsTrueOf, IsWorkingCopy}
use Rattle.svn_model.specs.Effects.{after}
use Rattle.svn_model.specs.Result.{result}
use Rattle.law_update.specs.Laws.{Composes, Resumes}
use Rattle.svn_drive.specs.declared.request.Request.{Request}
use Rattle.svn_drive.specs.Requests.{input_of}
use Rattle.svn_run.specs.declared.outcome.Cause.{Cause}
use Rattle.svn_run.specs.declared.outcome.Cause.TheVariants.{Cancelled, Memory as RanOut}
use Rattle.svn_run.specs.declared.outcome.Outcome.{Outcome}
use Rattle.svn_run.specs.declared.outcome.Outcome.TheVariants.{Closed, Aborted}
use Rattle.svn_run.specs.declared.outcome.RunFault.{RunFault}
use Rattle.svn_run.specs.declared.outcome.RunFault.TheVariants.{NoSuchRevision, NoRoot, OtherRoot, Capacity, Memory, NoThread}

abbrev pub Nodes : Type 0
Nodes = List (Path × BaseNode)

-- ---- what is asked for

-- a repository and a copy, and the request: the target revision, whether the copy is updated or switched, where texts come, after how many
-- calls to stop
pub record Asked : Type 0 where
  pub history : History
  pub copy : Nodes
  pub request : Request

abbrev pub asked : History → Nodes → Request → Asked
asked h nodes w = record { history = h; copy = nodes; request = w }

-- what the drive is made from: the report is the copy's crawl
abbrev pub input : Asked → DriveInput
input a = input_of a.history (crawl a.copy) a.request

-- ---- a run that makes no call

abbrev pub run_fault_of : DriveFault → RunFault
run_fault_of NoSuchTarget = NoSuchRevision
run_fault_of RootMissing = NoRoot
run_fault_of RootOther = OtherRoot
run_fault_of _ = Memory

-- why no run leads to the target: no such revision; the copy's root isn't in it; another node is there
abbrev pub fault_in_turn : Asked → Option RunFault
fault_in_turn a = option_map run_fault_of (target_fault (input a))

abbrev pub is_capacity : ℕ → Bool
is_capacity n = nat_le 1 n && nat_le n 4096

abbrev pub capacity_fault : ℕ → Option RunFault
capacity_fault n = if is_capacity n then None else Some Capacity

-- the capacity is looked at after that
abbrev pub fault_in_threads : Asked → ℕ → Option RunFault
fault_in_threads a capacity = option_or (fault_in_turn a) (capacity_fault capacity)

-- the fault, if there is one; else what ran out
abbrev pub IsRefusal : Option RunFault → (RunFault → Type 0) → RunFault → Type 0
IsRefusal (Some fault) IsWant e = e ≡ fault
IsRefusal None IsWant e = IsWant e

abbrev pub IsWantOfMemory : RunFault → Type 0
IsWantOfMemory e = e ≡ Memory

abbrev pub IsWantInThreads : RunFault → Type 0
IsWantInThreads e = (e ≡ Memory) ⊎ (e ≡ NoThread)

-- ---- a run that makes calls

-- how many calls were made, and how many of them the copy accepted, an `AbortEdit` left out
abbrev pub made_in : Outcome → ℕ
made_in (Closed calls) = calls
made_in (Aborted made accepted late cause) = made

abbrev pub accepted_in : Outcome → ℕ
accepted_in (Closed calls) = calls
accepted_in (Aborted made accepted late cause) = accepted

abbrev pub late_in : Outcome → Option ℕ
late_in (Closed calls) = None
late_in (Aborted made accepted late cause) = late

abbrev pub IfClosed : Outcome → (ℕ → Type 0) → Type 0
IfClosed (Closed calls) P = P calls
IfClosed (Aborted made accepted late cause) P = Unit {0}

abbrev pub IfAborted : Outcome → (ℕ → Type 0) → Type 0
IfAborted (Closed calls) P = Unit {0}
IfAborted (Aborted made accepted late cause) P = P accepted

abbrev pub OnCause : Cause → Type 0 → Type 0
OnCause Cancelled P = P
OnCause _ P = Unit {0}

abbrev pub IfCancelled : Outcome → (ℕ → ℕ → Type 0) → Type 0
IfCancelled (Closed calls) P = Unit {0}
IfCancelled (Aborted made accepted late cause) P = OnCause cause (P made accepted)

abbrev pub IfStopped : Outcome → (ℕ → ℕ → Cause → Type 0) → Type 0
IfStopped (Closed calls) P = Unit {0}
IfStopped (Aborted made accepted late cause) P = P made accepted cause

-- why a run stopped after that many calls, by its limit: cancelled at the limit, if the copy accepted all calls made; else memory ran out
abbrev pub cause_at : Option ℕ → ℕ → ℕ → Cause
cause_at None made accepted = RanOut
cause_at (Some n) made accepted = if nat_eq n made && nat_eq accepted made then Cancelled else RanOut

-- the first n calls of the drive, then `AbortEdit` unless the last of them was made
abbrev pub calls_made : List Call → ℕ → List Call
calls_made drive made = take made drive ++ (if nat_eq made (length drive) then [] else AbortEdit ∷ [])

-- the copy that is left is true of the repository, and has the shape of a working copy
pub record IsSound (a : Asked) (left : Nodes) : Type 0 where
  pub truth : IsTrueOf a.history (get_in left)
  pub shape : IsWorkingCopy (get_in left)

pub record Ran (a : Asked) (left : Nodes) (o : Outcome) : Type 0 where
  -- the one list of calls that brings the copy to its target
  pub drive : List Call
  pub is_drive : IsDrive (input a) a.request.options.late_texts drive
  -- the copy is what the accepted calls leave, which are the first of the drive
  pub copy : (p : Path) → get_in left p ≡ after a.request.mode (get_in a.copy) (take (accepted_in o) drive) p
  pub accepted : accepted_in o ≤ made_in o
  pub made : made_in o ≤ length drive
  -- after an accepted `CloseEdit` all calls were made, and the copy is, path by path, the target revision looked up through the path map
  pub closed : IfClosed o (λ calls. (calls ≡ length drive) × ((p : Path) → get_in left p ≡ result (input a) p))
  -- otherwise the last call wasn't accepted
  pub aborted : IfAborted o (λ accepted. accepted < length drive)
  -- a given limit on calls is never passed
  pub limit : IfSome a.request.options.cancel_after (λ n. made_in o ≤ n)
  -- the run is cancelled at that number alone, before the end of the drive, all calls until then being accepted
  pub cancelled : IfCancelled o (λ made accepted. (a.request.options.cancel_after ≡ Some made) × (accepted ≡ made) × (made < length drive))
  -- and it is cancelled at that number wherever it stops there so; a run that stops otherwise ran out of memory
  pub cause : IfStopped o (λ made accepted cause. cause ≡ cause_at a.request.options.cancel_after made accepted)
  -- a driver that stopped on the notice read the number of the call that was made and refused
  pub late : IfSome (late_in o) (λ n. (n ≡ accepted_in o + 1) × (n ≤ made_in o))
  -- the same run, made again, ends as this one would have
  pub resumed : Resumes (input a) (input_of a.history (crawl left) a.request) (get_in left)
  -- and a run of any request whose target is there ends with that target's result
  pub later : (next : Request) (calls : List Call) → target_fault (input_of a.history (crawl left) next) ≡ None
      → IsDrive (input_of a.history (crawl left) next) next.options.late_texts calls
      → Composes (input_of a.history (crawl left) next) (get_in left) calls

pub record TurnTheorem (a : Asked) (left : Nodes) (answer : Result Outcome RunFault) : Type 0 where
  -- a refusal comes before any call, for its reason and no other but Memory
  pub refused : IfErr answer (IsRefusal (fault_in_turn a) IsWantOfMemory)
  pub unchanged : OnErr answer (left ≡ a.copy)
  pub begun : OnOk answer (fault_in_turn a ≡ None)
  pub ran : IfOk answer (Ran a left)
  -- the driver stops at the first call that is refused
  pub one_more : IfOk answer (λ o. made_in o ≤ accepted_in o + 1)
  pub never_late : IfOk answer (λ o. late_in o ≡ None)
  -- whatever the result
  pub sound : IsSound a left

-- what the two threads passed: the calls that were made, once each, in order, and nothing after the last
pub record RanInThreads (a : Asked) (left : Nodes) (o : Outcome) (passed : Passed) : Type 0 where
  pub ran : Ran a left o
  pub sent : passed.sent ≡ calls_made ran.drive (made_in o)
  pub taken : passed.taken ≡ calls_made ran.drive (made_in o)

pub record ThreadsTheorem (a : Asked) (capacity : ℕ) (left : Nodes) (answer : Result (Outcome × Passed) RunFault) : Type 0 where
  pub refused : IfErr answer (IsRefusal (fault_in_threads a capacity) IsWantInThreads)
  pub unchanged : OnErr answer (left ≡ a.copy)
  pub begun : OnOk answer (fault_in_threads a capacity ≡ None)
  pub ran : IfOk answer (λ x. RanInThreads a left x.0 x.1)
  pub sound : IsSound a left
