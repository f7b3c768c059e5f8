-- What an order check does with a call that it accepts.
--     Notes old c new      the check before, the call, and the check after
--     Takes old c answer new      the same of any call while the edit goes on, with its result
use Rattle.std.specs.Prelude.{◌≡◌, ℕ, false, List, [], ◌∷◌, ◌++◌, Option, Some, None, if◌then◌else◌, Result, Ok, Err}
use Rattle.std.specs.Prelude.{MatchResult}
use Rattle.svn_types.specs.declared.kind.Kind.TheVariants.{File, Directory}
use Rattle.svn_types.specs.Names.{Path}
use Rattle.svn_editor.specs.declared.call.Call.{Call}
use Rattle.svn_editor.specs.declared.call.Call.TheVariants.{SetTargetRevision, OpenRoot, DeleteEntry, AddDirectory, OpenDirectory}
use Rattle.svn_editor.specs.declared.call.Call.TheVariants.{ChangeDirProp, CloseDirectory, AddFile, OpenFile, ChangeFileProp, ApplyText}
use Rattle.svn_editor.specs.declared.call.Call.TheVariants.{CloseFile, CloseEdit, AbortEdit}
use Rattle.svn_order.specs.declared.directories.OpenedDirectory.{OpenedDirectory}
use Rattle.svn_order.specs.declared.tokens.GivenToken.{GivenToken}
use Rattle.svn_order.specs.declared.order.OrderCheck.{OrderCheck}
use Rattle.svn_order.specs.declared.order.Stage.TheVariants.{During, Ended}
use Rattle.svn_editor.specs.declared.fault.OrderFault.{OrderFault}
use Rattle.svn_editor.specs.declared.fault.OrderFault.TheVariants.{Memory}
use Rattle.svn_editor.specs.Calls.{number_eq, is_last}
use Rattle.svn_order.specs.OrderState.{fault_in}
use Rattle.svn_order.specs.StandsAfter.{IsDead, HasEnded}
use Rattle.svn_order.specs.Tokens.{token_of, with_closed, with_text}
use Rattle.svn_order.specs.Directories.{OpensEntry, DeletesEntry, OpensSubdirectory, ChangesProp, Opens, without_last}

abbrev pub Stays : {A : Type 0} → A → A → Type 0
Stays old new = new ≡ old

-- each part of a check but its stage is so afterwards
pub record Becomes (tokens : List GivenToken) (Directories : List OpenedDirectory → List OpenedDirectory → Type 0)
    (current : Option ℕ) (old new : OrderCheck) : Type 0 where
  pub stage : new.stage ≡ old.stage
  pub tokens_are : new.tokens.items ≡ tokens
  pub directories : Directories old.directories.items new.directories.items
  pub current_is : new.current ≡ current

-- a subdirectory of the innermost directory is opened
pub record Enters (p : Path) (t : ℕ) (old new : List OpenedDirectory) : Type 0 where
  pub entered : List OpenedDirectory
  pub marked : List OpenedDirectory
  pub entry : OpensEntry old p entered
  pub subdirectory : OpensSubdirectory entered marked
  pub opened : Opens marked p t new

abbrev pub NotesRoot : ℕ → OrderCheck → OrderCheck → Type 0
NotesRoot t old new = Becomes (old.tokens.items ++ token_of Directory ∷ []) (λ ds es. Opens ds [] t es) None old new

abbrev pub NotesDelete : Path → OrderCheck → OrderCheck → Type 0
NotesDelete p old new = Becomes old.tokens.items (λ ds es. DeletesEntry ds p es) None old new

abbrev pub NotesDirectory : Path → ℕ → OrderCheck → OrderCheck → Type 0
NotesDirectory p t old new = Becomes (old.tokens.items ++ token_of Directory ∷ []) (Enters p t) None old new

abbrev pub NotesChange : OrderCheck → OrderCheck → Type 0
NotesChange old new = Becomes old.tokens.items ChangesProp None old new

abbrev pub NotesDirectoryClose : ℕ → OrderCheck → OrderCheck → Type 0
NotesDirectoryClose t old new = Becomes (with_closed old.tokens.items t) (λ ds es. es ≡ without_last ds) None old new

abbrev pub NotesFile : Path → ℕ → OrderCheck → OrderCheck → Type 0
NotesFile p t old new = Becomes (old.tokens.items ++ token_of File ∷ []) (λ ds es. OpensEntry ds p es) (Some t) old new

abbrev pub NotesText : ℕ → OrderCheck → OrderCheck → Type 0
NotesText t old new =
    Becomes (with_text old.tokens.items t) Stays (if number_eq old.current (Some t) then old.current else None) old new

abbrev pub NotesFileClose : ℕ → OrderCheck → OrderCheck → Type 0
NotesFileClose t old new = Becomes (with_closed old.tokens.items t) Stays None old new

abbrev pub Notes : OrderCheck → Call → OrderCheck → Type 0
Notes old (SetTargetRevision rev) new = new ≡ record old { stage = During }
Notes old (OpenRoot base token) new = NotesRoot token old new
Notes old (DeleteEntry path rev parent) new = NotesDelete path old new
Notes old (AddDirectory path parent token) new = NotesDirectory path token old new
Notes old (OpenDirectory path parent base token) new = NotesDirectory path token old new
Notes old (ChangeDirProp token name value) new = NotesChange old new
Notes old (CloseDirectory token) new = NotesDirectoryClose token old new
Notes old (AddFile path parent token) new = NotesFile path token old new
Notes old (OpenFile path parent base token) new = NotesFile path token old new
Notes old (ChangeFileProp token name value) new = new ≡ old
Notes old (ApplyText token base_md5 text) new = NotesText token old new
Notes old (CloseFile token text_md5) new = NotesFileClose token old new
Notes old CloseEdit new = new ≡ record old { stage = Ended }
Notes old AbortEdit new = new ≡ record old { stage = Ended }

abbrev pub Taken : Option OrderFault → OrderCheck → Call → Result (Unit {0}) OrderFault → OrderCheck → Type 0
Taken (Some fault) old c answer new = (answer ≡ Err fault) × IsDead new
Taken None old c answer new = MatchResult answer (λ _. Notes old c new) (λ e. (e ≡ Memory) × (is_last c ≡ false) × IsDead new)

abbrev pub Takes : OrderCheck → Call → Result (Unit {0}) OrderFault → OrderCheck → Type 0
Takes old AbortEdit answer new = (answer ≡ Ok tt) × HasEnded new
Takes old c answer new = Taken (fault_in old c) old c answer new
