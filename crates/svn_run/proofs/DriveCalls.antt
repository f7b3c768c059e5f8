-- The calls of a drive: none of them is an `AbortEdit`, and none but the last is the last of an edit.
use Rattle.std.proofs.Common.{◌≡◌, ℕ, zero, suc, ◌<◌, Bool, true, false, if◌then◌else◌, List, [], ◌∷◌, ◌++◌, length, take, refl, sym, ap}
use Rattle.std.proofs.Common.{subst, ◌∙◌, arith}
use Rattle.svn_types.specs.declared.kind.Kind.TheVariants.{File, Directory}
use Rattle.svn_types.specs.Names.{Path}
use Rattle.svn_types.specs.Paths.{parent, is_root}
use Rattle.svn_editor.specs.declared.call.Call.{Call}
use Rattle.svn_editor.specs.declared.call.Call.TheVariants.{SetTargetRevision, OpenRoot, OpenDirectory, CloseEdit}
use Rattle.svn_editor.specs.Calls.{is_abort, is_last}
use Rattle.svn_editor.specs.Steps.{Action, Delete, Open, Add, Change, Text, Close, Step}
use Rattle.svn_link.specs.Calls.{is_over}
use Rattle.svn_model.specs.Follow.{DriveInput}
use Rattle.svn_model.specs.Drive.{token_of, call_of, opened_after, numbered, calls_of, IsDrive}
use Rattle.svn_run.proofs.Counting.{AllInner}

-- a call inside a drive
record IsInner (c : Call) : Type 0 where
  unaborted : is_abort c ≡ false
  more : is_last c ≡ false

either : (b : Bool) (c d : Call) → IsInner c → IsInner d → IsInner (if b then c else d)
either true c d x y = x
either false c d x y = y

inner : (opened : List Path) (p : Path) (a : Action) → IsInner (call_of opened p a)
inner opened p (Delete revision) = record { unaborted = refl; more = refl }
inner opened p (Open Directory base) =
    either (is_root p) (OpenRoot base (length opened)) (OpenDirectory p (token_of opened (parent p)) base (length opened))
    (record { unaborted = refl; more = refl }) (record { unaborted = refl; more = refl })
inner opened p (Open File base) = record { unaborted = refl; more = refl }
inner opened p (Add Directory) = record { unaborted = refl; more = refl }
inner opened p (Add File) = record { unaborted = refl; more = refl }
inner opened p (Change Directory change) = record { unaborted = refl; more = refl }
inner opened p (Change File change) = record { unaborted = refl; more = refl }
inner opened p (Text base_md5 text) = record { unaborted = refl; more = refl }
inner opened p (Close Directory checksum) = record { unaborted = refl; more = refl }
inner opened p (Close File checksum) = record { unaborted = refl; more = refl }

inner-numbered : (opened : List Path) (steps : List Step) → AllInner (numbered opened steps ++ CloseEdit ∷ [])
inner-numbered opened [] = (refl, tt)
inner-numbered opened (s ∷ steps) = ((inner opened s.path s.action).unaborted, inner-numbered (opened_after opened s.path s.action) steps)

pub drive_inner : (d : DriveInput) (late : Bool) (calls : List Call) → IsDrive d late calls → AllInner calls
drive_inner d late calls is = subst AllInner (sym is.numbered_calls) (refl, inner-numbered [] is.steps)

is_over-cons : (c : Call) (calls : List Call) → is_last c ≡ false → is_over calls ≡ false → is_over (c ∷ calls) ≡ false
is_over-cons c [] one rest = one
is_over-cons c (d ∷ calls) one rest = rest

open-numbered : (opened : List Path) (steps : List Step) (k : ℕ) → k < length (numbered opened steps ++ CloseEdit ∷ [])
    → is_over (take k (numbered opened steps ++ CloseEdit ∷ [])) ≡ false
open-numbered opened steps zero lt = refl
open-numbered opened [] (suc k) lt = absurd (omega arith)
open-numbered opened (s ∷ steps) (suc k) lt =
    let after = opened_after opened s.path s.action in
    is_over-cons (call_of opened s.path s.action) (take k (numbered after steps ++ CloseEdit ∷ [])) (inner opened s.path s.action).more
    (open-numbered after steps k (omega arith))

open-calls : (target : ℕ) (steps : List Step) (k : ℕ) → k < length (calls_of target steps)
    → is_over (take k (calls_of target steps)) ≡ false
open-calls target steps zero lt = refl
open-calls target steps (suc k) lt = is_over-cons (SetTargetRevision target) (take k (numbered [] steps ++ CloseEdit ∷ [])) refl
    (open-numbered [] steps k (omega arith))

-- a part of a drive isn't over
pub drive_open : (d : DriveInput) (late : Bool) (calls : List Call) → IsDrive d late calls → (k : ℕ) → k < length calls
    → is_over (take k calls) ≡ false
drive_open d late calls is k lt =
    subst (λ l. is_over (take k l) ≡ false) (sym is.numbered_calls)
    (open-calls d.target is.steps k (subst (λ (l : List Call). k < length l) is.numbered_calls lt))

over-close : (calls : List Call) → is_over (calls ++ CloseEdit ∷ []) ≡ true
over-close [] = refl
over-close (c ∷ []) = refl
over-close (c ∷ d ∷ calls) = over-close (d ∷ calls)

-- a whole drive is over
pub drive_closes : (d : DriveInput) (late : Bool) (calls : List Call) → IsDrive d late calls → is_over calls ≡ true
drive_closes d late calls is = ap is_over is.numbered_calls ∙ over-close (SetTargetRevision d.target ∷ numbered [] is.steps)

pub drive_some : (d : DriveInput) (late : Bool) (calls : List Call) → IsDrive d late calls → 0 < length calls
drive_some d late calls is = let long = ap (λ (l : List Call). length l) is.numbered_calls in omega arith
