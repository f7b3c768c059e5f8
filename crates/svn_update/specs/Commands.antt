-- What each command of a script does and returns.
--     Does s c old new a      the command takes the old state to the new one, with the result a, the script being run by the settings s
use Rattle.std.specs.Prelude.{◌≡◌, ℕ, Bool, List, [], ◌++◌, ◌∷◌, length, Option, Some, None, Result, Ok, Err, ◌⊎◌, ◌+◌, ◌<◌}
use Rattle.svn_types.specs.Names.{Path}
use Rattle.svn_repo.specs.History.{History}
use Rattle.svn_repo.specs.Changes.{IsCommit, commit_fault}
use Rattle.svn_repo.specs.declared.change.Change.{Change}
use Rattle.svn_repo.specs.declared.change.CommitFault.TheVariants.{Memory as CommitMemory}
use Rattle.svn_editor.specs.declared.call.Call.{Call}
use Rattle.svn_editor.specs.declared.fault.EditFault.TheVariants.{Memory as EditMemory}
use Rattle.svn_editor.specs.declared.mode.Mode.TheVariants.{Update as UpdateMode, SwitchTo as SwitchMode}
use Rattle.svn_model.specs.declared.drive_fault.DriveFault.{DriveFault}
use Rattle.svn_model.specs.declared.drive_fault.DriveFault.TheVariants.{Memory as DriveMemory, Editor as EditorRefused, Full as DriveFull}
use Rattle.svn_model.specs.declared.wc_fault.WcFault.{WcFault}
use Rattle.svn_model.specs.declared.wc_fault.WcFault.TheVariants.{Memory as CopyMemory}
use Rattle.svn_model.specs.Builders.{checkout, placed, forgotten}
use Rattle.svn_model.specs.Checks.{target_fault}
use Rattle.svn_model.specs.Crawl.{crawl}
use Rattle.svn_model.specs.Drive.{IsDrive}
use Rattle.svn_model.specs.Effects.{joined_path}
use Rattle.svn_model.specs.Ends.{call_limit}
use Rattle.svn_model.specs.Follow.{DriveInput}
use Rattle.svn_model.specs.Nodes.{WorkingCopy, get_in, InPathOrder, IsTrueOf}
use Rattle.svn_model.specs.Refusals.{checkout_fault, place_fault, switch_fault, forget_fault}
use Rattle.svn_wc.specs.Building.{Refuses}
use Rattle.svn_drive.specs.Requests.{requested, input_of}
use Rattle.svn_run.specs.declared.outcome.Outcome.{Outcome}
use Rattle.svn_run.specs.UpdateTheorem.{Asked, Nodes, asked, IsRefusal, Ran}
use Rattle.svn_script.specs.declared.command_line.Settings.{Settings}
use Rattle.svn_script.specs.declared.command.Command.{Command}
use Rattle.svn_script.specs.declared.command.Command.TheVariants as command
use Rattle.svn_update.specs.declared.answer.Refusal.TheVariants.{NoCopy, Memory as ListMemory, Commit as CommitRefused}
use Rattle.svn_update.specs.declared.answer.Refusal.TheVariants.{Copy as CopyRefused, Drive as DriveRefused, Run as RunRefused}
use Rattle.svn_update.specs.declared.answer.Answer.{Answer}
use Rattle.svn_update.specs.declared.answer.Answer.TheVariants.{Silent, Committed, Done, Reported, Driven, Ended, Nodes as NodesShown}
use Rattle.svn_update.specs.declared.answer.Answer.TheVariants.{Refused}
use Rattle.svn_update.specs.Runs.{run_fault, IsRunWant}
use Rattle.svn_update.specs.ScriptStates.{ScriptState}

-- ---- changes and commits

-- one more change, unless memory was refused
abbrev pub AddsChange : Change → ScriptState → ScriptState → Answer → Type 0
AddsChange change old new Silent = new ≡ record old { pending = old.pending ++ change ∷ [] }
AddsChange change old new (Refused ListMemory) = new ≡ old
AddsChange change old new _ = ⊥

-- the changes become a revision, or are refused by the first that can't be made
abbrev pub AnswersCommit : History → List Change → History → Answer → Type 0
AnswersCommit h changes h' (Committed rev) = (rev ≡ length h.roots) × IsCommit h h' changes
AnswersCommit h changes h' (Refused (CommitRefused fault)) = (h' ≡ h) × ((fault ≡ CommitMemory) ⊎ (commit_fault h changes ≡ Some fault))
AnswersCommit h changes h' _ = ⊥

-- ---- copies that are made and changed without a drive

-- the copy is this one, and its nodes are in path order, in which `show` prints them
abbrev pub IsBuilt : WorkingCopy → Option Nodes → Type 0
IsBuilt made None = ⊥
IsBuilt made (Some nodes) = InPathOrder nodes × ((p : Path) → get_in nodes p ≡ made p)

-- the copy is made where there is no fault; else the fault is the first, or Memory where a copy can run out of it
abbrev pub AnswersBuilder : Option WcFault → (WcFault → Type 0) → WorkingCopy → Option Nodes → Option Nodes → Answer → Type 0
AnswersBuilder fault IsFault made old new Done = (fault ≡ None) × IsBuilt made new
AnswersBuilder fault IsFault made old new (Refused (CopyRefused e)) = (new ≡ old) × IsFault e
AnswersBuilder fault IsFault made old new _ = ⊥

abbrev pub AnswersCheckout : History → Path → ℕ → Option Nodes → Option Nodes → Answer → Type 0
AnswersCheckout h q r = AnswersBuilder (checkout_fault h q r) (Refuses (checkout_fault h q r)) (checkout h q r)

abbrev pub AnswersPlace : History → Nodes → Path → ℕ → Option Nodes → Answer → Type 0
AnswersPlace h w p r =
    let fault = place_fault h (get_in w) p r in
    AnswersBuilder fault (Refuses fault) (placed h (get_in w) p (joined_path (get_in w) p) r) (Some w)

abbrev pub AnswersSwitch : History → Nodes → Path → Path → ℕ → Option Nodes → Answer → Type 0
AnswersSwitch h w p q r =
    let fault = switch_fault h (get_in w) p q r in
    AnswersBuilder fault (Refuses fault) (placed h (get_in w) p q r) (Some w)

-- forgetting needs no memory
abbrev pub AnswersForget : Nodes → Path → Option Nodes → Answer → Type 0
AnswersForget w p =
    let fault = forget_fault (get_in w) p in
    AnswersBuilder fault (λ e. fault ≡ Some e) (forgotten (get_in w) p) (Some w)

-- what is printed of a copy that a command would change
abbrev pub answer_built : Result (Unit {0}) WcFault → Answer
answer_built (Ok x) = Done
answer_built (Err fault) = Refused (CopyRefused fault)

-- ---- reports and drives, which leave the copy as it is

abbrev pub AnswersReport : Nodes → Answer → Type 0
AnswersReport w (Reported r) = r ≡ crawl w
AnswersReport w (Refused (CopyRefused e)) = e ≡ CopyMemory
AnswersReport w _ = ⊥

-- what may run out in making and recording a drive: memory, or numbers for its calls
abbrev pub IsDriveWant : DriveInput → Bool → DriveFault → Type 0
IsDriveWant d late DriveMemory = Unit {0}
IsDriveWant d late (EditorRefused fault) = fault ≡ EditMemory
IsDriveWant d late DriveFull = (calls : List Call) × IsDrive d late calls × (call_limit + 1 < length calls)
IsDriveWant d late _ = ⊥

-- the result of a drive: its calls, or why it wasn't made
abbrev pub IsRecorded : DriveInput → Bool → Answer → Type 0
IsRecorded d late (Refused (DriveRefused e)) = (target_fault d ≡ Some e) ⊎ IsDriveWant d late e
IsRecorded d late (Driven calls) = (target_fault d ≡ None) × IsDrive d late calls
IsRecorded d late _ = ⊥

-- the drive of what the copy reports, which is true of the repository
abbrev pub AnswersDrive : History → Nodes → DriveInput → Bool → Answer → Type 0
AnswersDrive h w d late (Refused (CopyRefused e)) = IsTrueOf h (get_in w) × (e ≡ CopyMemory)
AnswersDrive h w d late (Refused (DriveRefused e)) = IsTrueOf h (get_in w) × ((target_fault d ≡ Some e) ⊎ IsDriveWant d late e)
AnswersDrive h w d late (Driven calls) = IsTrueOf h (get_in w) × (target_fault d ≡ None) × IsDrive d late calls
AnswersDrive h w d late _ = ⊥

-- ---- runs

abbrev pub LeavesRan : Asked → Option Nodes → Outcome → Type 0
LeavesRan a None o = ⊥
LeavesRan a (Some left) o = InPathOrder left × Ran a left o

-- the copy is true of the repository, and the run ends as the update theorem says
abbrev pub AnswersRun : Settings → Asked → Option Nodes → Answer → Type 0
AnswersRun s a new (Refused (RunRefused fault)) =
    (new ≡ Some a.copy) × IsTrueOf a.history (get_in a.copy) × IsRefusal (run_fault s a) (IsRunWant s.in_turn) fault
AnswersRun s a new (Ended o) = IsTrueOf a.history (get_in a.copy) × (run_fault s a ≡ None) × LeavesRan a new o
AnswersRun s a new _ = ⊥

-- ---- commands

abbrev pub show_answer : Option Nodes → Answer
show_answer None = Refused NoCopy
show_answer (Some nodes) = NodesShown

-- a command on the working copy is refused where there is none
abbrev pub OnCopy : (Nodes → Type 0) → Option Nodes → Option Nodes → Answer → Type 0
OnCopy AnswersFor None new a = (new ≡ None) × (a ≡ Refused NoCopy)
OnCopy AnswersFor (Some w) new a = AnswersFor w

-- the repository and the changes for its next commit are as before
abbrev pub KeepsRepo : ScriptState → ScriptState → Type 0
KeepsRepo old new = (new.repo ≡ old.repo) × (new.pending ≡ old.pending)

abbrev pub Does : Settings → Command → ScriptState → ScriptState → Answer → Type 0
Does s command.Nothing old new a = (new ≡ old) × (a ≡ Silent)
Does s (command.Change change) old new a = AddsChange change old new a
Does s command.Commit old new a = (new.pending ≡ []) × (new.copy ≡ old.copy) × AnswersCommit old.repo old.pending new.repo a
Does s (command.Checkout rev path) old new a = KeepsRepo old new × AnswersCheckout old.repo path rev old.copy new.copy a
Does s (command.Place path rev) old new a =
    KeepsRepo old new × OnCopy (λ w. AnswersPlace old.repo w path rev new.copy a) old.copy new.copy a
Does s (command.Switch path repos_path rev) old new a =
    KeepsRepo old new × OnCopy (λ w. AnswersSwitch old.repo w path repos_path rev new.copy a) old.copy new.copy a
Does s (command.Forget path) old new a = KeepsRepo old new × OnCopy (λ w. AnswersForget w path new.copy a) old.copy new.copy a
Does s command.Report old new a = (new ≡ old) × OnCopy (λ w. AnswersReport w a) old.copy new.copy a
Does s (command.Drive rev late) old new a =
    (new ≡ old) × OnCopy (λ w. AnswersDrive old.repo w (input_of old.repo (crawl w) (requested rev UpdateMode late None)) late a) old.copy new.copy a
Does s (command.Update rev cancel late) old new a =
    KeepsRepo old new × OnCopy (λ w. AnswersRun s (asked old.repo w (requested rev UpdateMode late cancel)) new.copy a) old.copy new.copy a
Does s (command.SwitchTo to rev cancel late) old new a =
    KeepsRepo old new × OnCopy (λ w. AnswersRun s (asked old.repo w (requested rev (SwitchMode to) late cancel)) new.copy a) old.copy new.copy a
Does s command.Show old new a = (new ≡ old) × (a ≡ show_answer old.copy)
