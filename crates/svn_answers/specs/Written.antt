-- The dump that is written of what the lines of a script do to a repository.
--     DoesLine line old new text      the line leads from the old state to the new one, and this text is written of it
--     AreDone lines text s      the lines, done one after the other, lead to the state, and the text is the dump that is written
--     RefusesLine line s fault      why the line can't be done in the state
use Rattle.std.specs.Prelude.{◌≡◌, ◌+◌, ◌-◌, ◌^◌, Bool, true, false, ℕ, List, [], ◌∷◌, ◌++◌, length, min, Some, None}
use Rattle.svn_repo.specs.declared.change.Change.{Change}
use Rattle.svn_repo.specs.Changes.{IsCommit, commit_fault}
use Rattle.svn_repo.specs.History.{History, new_history}
use Rattle.svn_dump.specs.Written.{revision_record, format_record}
use Rattle.svn_history.specs.Writing.{WriterState, HasMade}
use Rattle.svn_history.specs.WrittenDumps.{commit_bytes}
use Rattle.svn_script.specs.declared.command.Command.{Command}
use Rattle.svn_script.specs.declared.command.Command.TheVariants as command
use Rattle.svn_script.specs.Commands.{command_of}
use Rattle.svn_script.specs.Reading.{without_return}
use Rattle.svn_answers.specs.declared.written.WriteFault.{WriteFault}
use Rattle.svn_answers.specs.declared.written.WriteFault.TheVariants.{BadLine, Refused}

-- a history, and the changes for its next commit
pub record ScriptHistory : Type 0 where
  pub history : History
  pub pending : List Change

abbrev pub with_change : ScriptHistory → Change → ScriptHistory
with_change s change = record { history = s.history; pending = s.pending ++ change ∷ [] }

-- its format, and revision 0, which has nothing
abbrev pub dump_beginning : List ℕ
dump_beginning = format_record 3 ++ revision_record 0

-- what is no change and no commit does nothing here
abbrev pub DoesCommand : Command → ScriptHistory → ScriptHistory → List ℕ → Type 0
DoesCommand (command.Change change) old new text =
    (commit_fault old.history (old.pending ++ change ∷ []) ≡ None) × (new ≡ with_change old change) × (text ≡ [])
DoesCommand command.Commit old new text =
    IsCommit old.history new.history old.pending × (new.pending ≡ []) × (text ≡ commit_bytes old.history old.pending)
DoesCommand _ old new text = (new ≡ old) × (text ≡ [])

abbrev pub DoesLine : List ℕ → ScriptHistory → ScriptHistory → List ℕ → Type 0
DoesLine line old new text = (c : Command) × (command_of (without_return line) ≡ Some c) × DoesCommand c old new text

-- lines of a script, from the first one on
pub data AreDone : List (List ℕ) → List ℕ → ScriptHistory → Type 0 where
  none : AreDone [] dump_beginning (record { history = new_history; pending = [] })
  one_more : {lines : List (List ℕ)} {text more : List ℕ} {old new : ScriptHistory} (line : List ℕ) → AreDone lines text old
      → DoesLine line old new more → AreDone (lines ++ line ∷ []) (text ++ more) new

-- a writer is in the state
abbrev pub IsIn : ScriptHistory → WriterState → Type 0
IsIn s w = (w.transaction.history ≡ s.history) × HasMade s.pending w

-- a writer, and how many bytes were written, as far as 64 bits count them
pub record WritingState : Type 0 where
  pub writer : WriterState
  pub written : ℕ

-- the lines are done, and the text is the dump that was written
abbrev pub HasDone : List (List ℕ) → List ℕ → WritingState → Type 0
HasDone lines text w = (s : ScriptHistory) × AreDone lines text s × IsIn s w.writer × (w.written ≡ min (length text) (2 ^ 64 - 1))

-- the number of bytes that were written, after so many more
abbrev pub Counts : ℕ → ℕ → ℕ → Type 0
Counts more old new = (all : ℕ) → old ≡ min all (2 ^ 64 - 1) → new ≡ min (all + more) (2 ^ 64 - 1)

-- the repository refuses the command's change
abbrev pub RefusesCommand : Command → ScriptHistory → WriteFault → Type 0
RefusesCommand c s BadLine = ⊥
RefusesCommand c s (Refused fault) =
    (change : Change) × (c ≡ command.Change change) × (commit_fault s.history (s.pending ++ change ∷ []) ≡ Some fault)
RefusesCommand c s _ = Unit {0}

-- the line is no command, or the repository refuses its change
abbrev pub RefusesLine : List ℕ → ScriptHistory → WriteFault → Type 0
RefusesLine line s BadLine = command_of (without_return line) ≡ None
RefusesLine line s (Refused fault) =
    (change : Change) × (command_of (without_return line) ≡ Some (command.Change change))
    × (commit_fault s.history (s.pending ++ change ∷ []) ≡ Some fault)
RefusesLine line s _ = Unit {0}

abbrev pub is_refusal : WriteFault → Bool
is_refusal BadLine = true
is_refusal (Refused fault) = true
is_refusal _ = false
