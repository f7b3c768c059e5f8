-- Changes that are made of a draft, from left to right, with the first fault that is met.
--     one change      the change, if it can be made
--     first >> next      one step, and the next on what it leaves
--     IsMade step old new      the step's changes lead from the one to the other
use Rattle.std.specs.Prelude.{◌≡◌, List, [], ◌∷◌, ◌++◌, Option, Some, None, Result, Ok, Err}
use Rattle.svn_repo.specs.declared.change.Change.{Change}
use Rattle.svn_repo.specs.declared.change.CommitFault.{CommitFault}
use Rattle.svn_repo.specs.History.{History}
use Rattle.svn_repo.specs.Changes.{Pending, change_fault, changes_fault, after_changes, latest_pending}
use Rattle.svn_repo.specs.Transactions.{OpenRevision, pending_of}
use Rattle.svn_history.specs.declared.fault.LoadFault.{LoadFault}
use Rattle.svn_history.specs.Results.{◌>>=◌, of_commit}

-- a history, and what the changes so far have made of its last revision
pub record Draft : Type 0 where
  pub history : History
  pub pending : Pending

abbrev pub draft_of : OpenRevision → Draft
draft_of o = record { history = o.history; pending = pending_of o }

abbrev pub begun : History → Draft
begun h = record { history = h; pending = latest_pending h }

abbrev pub with_changes : Draft → List Change → Draft
with_changes d changes = record { history = d.history; pending = after_changes d.history d.pending changes }

-- ---- steps

abbrev pub Changes : Type 0
Changes = Result (List Change) LoadFault

abbrev pub Step : Type 0
Step = Draft → Changes

abbrev pub nothing : Step
nothing d = Ok []

abbrev pub refused : LoadFault → Step
refused e d = Err e

abbrev pub unless : Option CommitFault → Change → Changes
unless None change = Ok (change ∷ [])
unless (Some fault) change = Err (of_commit fault)

unfoldable pub one : Change → Step
one change d = unless (change_fault d.history d.pending change) change

infixr 5 ◌>>◌
unfoldable pub ◌>>◌ : Step → Step → Step
(first >> next) d = do
  made ← first d
  more ← next (with_changes d made)
  Ok (made ++ more)

pub record IsMade (step : Step) (old new : Draft) : Type 0 where
  pub changes : List Change
  pub made : step old ≡ Ok changes
  pub no_fault : changes_fault old.history old.pending changes ≡ None
  pub after : new ≡ with_changes old changes
