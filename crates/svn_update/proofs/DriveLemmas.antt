-- Drives into an editor that keeps the calls.
use Rattle.std.proofs.Common.{◌≡◌, ℕ, zero, suc, Bool, List, [], ◌∷◌, ◌++◌, length, ap, sym, subst, ◌∙◌, arith, inl, inr, append_assoc}
use Rattle.std.proofs.Common.{None, Result, Ok, Err}
use Rattle.std.specs.Prelude.{MatchResult}
use Rattle.std.proofs.lemmas.List.{append-nil}
use Rattle.svn_repo.specs.History.{History}
use Rattle.svn_report.specs.Reports.{ReportView}
use Rattle.svn_editor.specs.declared.call.Call.{Call}
use Rattle.svn_editor.specs.declared.mode.Mode.TheVariants.{Update}
use Rattle.svn_drive.specs.Requests.{requested, input_of}
use Rattle.svn_editor.specs.declared.fault.EditFault.{EditFault}
use Rattle.svn_editor.specs.declared.fault.EditFault.TheVariants.{Memory as EditMemory}
use Rattle.svn_editor.specs.Editing.{Leads}
use Rattle.svn_model.specs.declared.stop.Stop.{Stop}
use Rattle.svn_model.specs.declared.stop.Stop.TheVariants as stop
use Rattle.svn_model.specs.declared.drive_end.DriveEnd.{DriveEnd}
use Rattle.svn_model.specs.declared.drive_fault.DriveFault.{DriveFault}
use Rattle.svn_model.specs.Checks.{target_fault}
use Rattle.svn_model.specs.Drive.{IsDrive}
use Rattle.svn_model.specs.Ends.{Drives, LeavesSome, Halts, IsEarly, end_of}
use Rattle.svn_model.specs.Follow.{DriveInput}
use Rattle.svn_model.specs.TreeCalls.{drive_calls}
use Rattle.svn_update.specs.declared.answer.Refusal.TheVariants.{Drive as DriveRefused}
use Rattle.svn_update.specs.declared.answer.Answer.TheVariants.{Driven, Refused}
use Rattle.svn_update.specs.Commands.{IsRecorded, IsDriveWant}

abbrev pub records : List Call → Call → Result (Unit {0}) EditFault → List Call → Type 0
records before call answer after = MatchResult answer (λ _. after ≡ before ++ call ∷ []) (λ fault. (fault ≡ EditMemory) × (after ≡ before))

-- it has the calls that it accepted
pub all_recorded : (calls e f : List Call) → Leads records calls e f → f ≡ e ++ calls
all_recorded [] e f h = sym h ∙ sym (append-nil e)
all_recorded (c ∷ calls) e f h = all_recorded calls h.0 f h.2 ∙ ap (λ (l : List Call). l ++ calls) h.1 ∙ append_assoc e (c ∷ []) calls

-- what is returned for a stop after that many calls
abbrev pub IsStopAnswer : DriveInput → Bool → List Call → Result DriveEnd DriveFault → Type 0
IsStopAnswer d late calls (Ok end) = ⊥
IsStopAnswer d late calls (Err e) = IsDriveWant d late e

stop_here : (d : DriveInput) (late : Bool) (all rest e m : List Call) (made : ℕ) (s : Stop) → IsDrive d late all
    → LeavesSome s made (length all) → Halts records None zero rest e m made s → IsStopAnswer d late all (end_of s made)
stop_here d late all [] e m made s is some h = subst (λ (t : Stop). IsStopAnswer d late all (end_of t made)) (sym h.1) tt
stop_here d late all (c ∷ rest) e m made stop.Cancelled is some (inl h) = let no = h.1 in cc
stop_here d late all (c ∷ rest) e m made stop.Full is some (inl h) = let limit = h.1 in (all, is, omega (arith, some))
stop_here d late all (c ∷ rest) e m made stop.Memory is some (inl h) = tt
stop_here d late all (c ∷ rest) e m made (stop.Editor fault) is some (inl h) = absurd h.1
stop_here d late all (c ∷ rest) e m made s is some (inr h) =
    subst (λ (t : Stop). IsStopAnswer d late all (end_of t made)) (sym h.2) h.1.0

stops : (d : DriveInput) (late : Bool) (all : List Call) (k : ℕ) (calls e m : List Call) (made : ℕ) (s : Stop) → IsDrive d late all
    → LeavesSome s made (length all) → Halts records None k calls e m made s → IsStopAnswer d late all (end_of s made)
stops d late all zero calls e m made s is some h = stop_here d late all calls e m made s is some h
stops d late all (suc k) [] e m made s is some h = absurd h
stops d late all (suc k) (c ∷ calls) e m made s is some h = stops d late all k calls h.0 m made s is some h.2

-- what a drive into it returns
abbrev pub AnswersRecorded : DriveInput → Bool → List Call → Result DriveEnd DriveFault → Type 0
AnswersRecorded d late f (Ok end) = IsRecorded d late (Driven f)
AnswersRecorded d late f (Err e) = IsRecorded d late (Refused (DriveRefused e))

early : (d : DriveInput) (late : Bool) (f : List Call) (answer : Result DriveEnd DriveFault) → IsEarly (target_fault d) answer
    → AnswersRecorded d late f answer
early d late f (Ok end) h = absurd h
early d late f (Err e) h = inl h

stopped : (d : DriveInput) (late : Bool) (f calls : List Call) (answer : Result DriveEnd DriveFault) → IsStopAnswer d late calls answer
    → AnswersRecorded d late f answer
stopped d late f calls (Ok end) h = absurd h
stopped d late f calls (Err e) h = inr h

recorded : (d : DriveInput) (late : Bool) (calls f : List Call) (answer : Result DriveEnd DriveFault)
    → (target_fault d ≡ None → IsDrive d late calls) → Drives records None (target_fault d) calls answer [] f
    → AnswersRecorded d late f answer
recorded d late calls f answer is (inl h) = early d late f answer h.1
recorded d late calls f answer is (inr (inl h)) =
    subst (AnswersRecorded d late f) (sym h.4) (h.1, subst (IsDrive d late) (sym (all_recorded calls [] f h.2)) (is h.1))
recorded d late calls f answer is (inr (inr h)) =
    stopped d late f calls answer
    (subst (IsStopAnswer d late calls) (sym h.5) (stops d late calls h.1 calls [] h.2 h.1 h.0 (is h.3) h.7 h.4))

-- one that had no call has the calls of the drive, or wants something
pub drive_recorded : (before h : History) (r : ReportView) (target : ℕ) (late : Bool) (e f : List Call)
    (answer : Result DriveEnd DriveFault)
    → before ≡ h → e ≡ [] → (let d = input_of h r (requested target Update late None) in target_fault d ≡ None → IsDrive d late (drive_calls d late))
    → (let d = input_of before r (requested target Update late None) in Drives records None (target_fault d) (drive_calls d late) answer e f)
    → AnswersRecorded (input_of h r (requested target Update late None)) late f answer
drive_recorded before h r target late e f answer same none is h' =
    let d = input_of h r (requested target Update late None) in
    let from_nothing =
    subst
    (λ (l : List Call). let d = input_of before r (requested target Update late None) in
    Drives records None (target_fault d) (drive_calls d late) answer l f)
    none h' in
    recorded d late (drive_calls d late) f answer is
    (subst (λ (g : History). let d = input_of g r (requested target Update late None) in Drives records None (target_fault d) (drive_calls d late) answer [] f) same
    from_nothing)
