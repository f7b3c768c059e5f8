-- Lines of a script that are done one after the other, and the dump that is written of them.
use Rattle.std.proofs.Common.{◌≡◌, ℕ, ◌+◌, ◌-◌, ◌^◌, min, length, length-append, add-zero, arith, List, [], ◌∷◌, ◌++◌, Option, Some, None}
use Rattle.std.proofs.Common.{Result, Ok, Err, refl, sym, ap, subst, ◌∙◌}
use Rattle.std.specs.Prelude.{◌≢◌, IfErr}
use Rattle.svn_repo.specs.declared.change.Change.{Change}
use Rattle.svn_repo.specs.declared.change.CommitFault.{CommitFault}
use Rattle.svn_repo.specs.declared.change.CommitFault.TheVariants.{Exists, Missing, NotDir, NotFile, IsRoot, TooDeep, NoSuchRevision}
use Rattle.svn_repo.specs.declared.change.CommitFault.TheVariants.{TooLong, Full, Memory}
use Rattle.svn_repo.specs.Changes.{commit_fault, IsCommit}
use Rattle.svn_repo.specs.History.{History}
use Rattle.svn_history.specs.declared.fault.LoadFault.TheVariants as faults
use Rattle.svn_history.specs.Results.{Fails, of_commit}
use Rattle.svn_history.specs.Steps.{draft_of, one}
use Rattle.svn_history.specs.Writing.{WriterState, HasMade, all_unless}
use Rattle.svn_history.specs.WrittenDumps.{commit_bytes}
use Rattle.svn_history.proofs.Writings.{first_refused}
use Rattle.svn_script.specs.declared.command.Command.{Command}
use Rattle.svn_script.specs.declared.command.Command.TheVariants as command
use Rattle.svn_script.specs.Commands.{command_of}
use Rattle.svn_script.specs.Reading.{without_return}
use Rattle.svn_answers.specs.declared.written.WriteFault.{WriteFault}
use Rattle.svn_answers.specs.declared.written.WriteFault.TheVariants.{BadLine, Refused, Write as NotWritten, Memory as OutOfMemory}
use Rattle.svn_answers.specs.Written.{ScriptHistory, with_change, WritingState, IsIn, DoesCommand, DoesLine, AreDone, HasDone}
use Rattle.svn_answers.specs.Written.{Counts, RefusesCommand, RefusesLine}

-- ---- a change

commit_is : (g f : CommitFault) → of_commit g ≡ faults.Commit f → g ≡ f
commit_is Exists f h = cc
commit_is Missing f h = cc
commit_is NotDir f h = cc
commit_is NotFile f h = cc
commit_is IsRoot f h = cc
commit_is TooDeep f h = cc
commit_is NoSuchRevision f h = cc
commit_is TooLong f h = cc
commit_is Full f h = cc
commit_is Memory f h = cc

refused_by : (cs : List Change) (o : Option CommitFault) (f : CommitFault) → all_unless cs o ≡ Err (faults.Commit f) → o ≡ Some f
refused_by cs None f h = cc
refused_by cs (Some g) f h = let same : of_commit g ≡ faults.Commit f = cc in ap Some (commit_is g f same)

-- the fault of a change is that of the changes so far and this one
pub change_refused : (w : WriterState) (c : Change) (f : CommitFault) → Fails (faults.Commit f) (one c (draft_of w.transaction))
    → (s : ScriptHistory) → IsIn s w → commit_fault s.history (s.pending ++ c ∷ []) ≡ Some f
change_refused w c f fails s is =
    ap (λ (h : History). commit_fault h (s.pending ++ c ∷ [])) (sym is.0)
    ∙ refused_by (s.pending ++ c ∷ []) (commit_fault w.transaction.history (s.pending ++ c ∷ [])) f
    (first_refused w.transaction.history s.pending [] c (draft_of w.transaction) w.bytes (faults.Commit f) is.1 fails)

pub change_made : (w w' : WriterState) (c : Change) → w'.transaction.history ≡ w.transaction.history
    → ((changes : List Change) → HasMade changes w → HasMade (changes ++ c ∷ []) w') → (s : ScriptHistory) → IsIn s w
    → IsIn (with_change s c) w' × (commit_fault s.history (s.pending ++ c ∷ []) ≡ None)
change_made w w' c same made s is =
    let more = made s.pending is.1 in (
      (same ∙ is.0, more),
      ap (λ (h : History). commit_fault h (s.pending ++ c ∷ [])) (sym (same ∙ is.0)) ∙ more.no_fault,
    )

-- ---- a line

-- another command than a change and a commit does nothing
pub does_nothing : (c : Command) → ((change : Change) → c ≡ command.Change change → ⊥) → (c ≡ command.Commit → ⊥) → (s : ScriptHistory)
    → DoesCommand c s s []
does_nothing command.Nothing no_change no_commit s = (refl, refl)
does_nothing (command.Change change) no_change no_commit s = absurd (no_change change refl)
does_nothing command.Commit no_change no_commit s = absurd (no_commit refl)
does_nothing (command.Checkout rev path) no_change no_commit s = (refl, refl)
does_nothing (command.Place path rev) no_change no_commit s = (refl, refl)
does_nothing (command.Switch path repos_path rev) no_change no_commit s = (refl, refl)
does_nothing (command.Forget path) no_change no_commit s = (refl, refl)
does_nothing command.Report no_change no_commit s = (refl, refl)
does_nothing (command.Drive rev late) no_change no_commit s = (refl, refl)
does_nothing (command.Update rev cancel late) no_change no_commit s = (refl, refl)
does_nothing (command.SwitchTo path rev cancel late) no_change no_commit s = (refl, refl)
does_nothing command.Show no_change no_commit s = (refl, refl)

-- the changes so far are committed
pub commit_made : (w w' : WriterState) (bytes old : List ℕ) → old ≡ []
    → ((changes : List Change) → HasMade changes w → IsCommit w.transaction.history w'.transaction.history changes)
    → ((changes : List Change) → HasMade changes w → bytes ≡ old ++ commit_bytes w.transaction.history changes) → HasMade [] w'
    → (s : ScriptHistory) → IsIn s w → (new : ScriptHistory) × IsIn new w' × DoesCommand command.Commit s new bytes
commit_made w w' bytes old none commits writes begun s is = (
  record { history = w'.transaction.history; pending = [] },
  (refl, begun),
  (
    subst (λ (h : History). IsCommit h w'.transaction.history s.pending) is.0 (commits s.pending is.1),
    refl,
    writes s.pending is.1 ∙ ap (λ (l : List ℕ). l ++ commit_bytes w.transaction.history s.pending) none
        ∙ ap (λ (h : History). commit_bytes h s.pending) is.0,
  ),
)

pub counts_more : (n b old new : ℕ) → b ≡ min n (2 ^ 64 - 1) → new ≡ min (old + b) (2 ^ 64 - 1) → Counts n old new
counts_more n b old new is sum = λ all e. counted n b old new (2 ^ 64 - 1) all is sum e
  where
    counted : (n b old new m all : ℕ) → b ≡ min n m → new ≡ min (old + b) m → old ≡ min all m → new ≡ min (all + n) m
    counted n b old new m all e f g = omega arith

pub counts_nothing : (old new : ℕ) → new ≡ old → Counts 0 old new
counts_nothing old new same = λ all e. same ∙ e ∙ ap (λ n. min n (2 ^ 64 - 1)) (sym (add-zero all))

-- what refuses a change refuses its command
pub change_refuses : (w : WriterState) (c : Command) (change : Change) → c ≡ command.Change change → (r : Result (Unit {0}) WriteFault)
    → IfErr r (λ e. (f : CommitFault) → e ≡ Refused f → (s : ScriptHistory) → IsIn s w
    → commit_fault s.history (s.pending ++ change ∷ []) ≡ Some f) → IfErr r (λ e. (e ≢ BadLine) × (e ≢ NotWritten))
    → IfErr r (λ e. (s : ScriptHistory) → IsIn s w → RefusesCommand c s e)
change_refuses w c change is (Ok x) fault which = tt
change_refuses w c change is (Err BadLine) fault which = absurd (which.0 refl)
change_refuses w c change is (Err (Refused f)) fault which = λ s at. (change, is, fault f refl s at)
change_refuses w c change is (Err NotWritten) fault which = λ s at. tt
change_refuses w c change is (Err OutOfMemory) fault which = λ s at. tt

-- what refuses the command of a line refuses the line
pub line_refused : (w : WriterState) (line : List ℕ) (c : Command) → command_of (without_return line) ≡ Some c
    → (r : Result (Unit {0}) WriteFault) → IfErr r (λ e. (s : ScriptHistory) → IsIn s w → RefusesCommand c s e)
    → IfErr r (λ e. (s : ScriptHistory) → IsIn s w → RefusesLine line s e)
line_refused w line c is (Ok x) refuses = tt
line_refused w line c is (Err BadLine) refuses = λ s at. absurd (refuses s at)
line_refused w line c is (Err (Refused f)) refuses = λ s at.
    let x = refuses s at in (x.0, is ∙ ap Some x.1, x.2)
line_refused w line c is (Err NotWritten) refuses = λ s at. tt
line_refused w line c is (Err OutOfMemory) refuses = λ s at. tt

-- the lines before, and one more
pub line_done : (lines : List (List ℕ)) (text line more : List ℕ) (w w' : WritingState) (done : HasDone lines text w) (new : ScriptHistory)
    → DoesLine line done.0 new more → IsIn new w'.writer → Counts (length more) w.written w'.written
    → HasDone (lines ++ line ∷ []) (text ++ more) w'
line_done lines text line more w w' done new does is counts = (
  new,
  AreDone.one_more line done.1 does,
  is,
  counts (length text) done.3 ∙ ap (λ n. min n (2 ^ 64 - 1)) (sym (length-append text more)),
)
