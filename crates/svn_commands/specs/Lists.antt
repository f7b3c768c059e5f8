-- Answers that are lists: items, then that they are all, and the answer; where the command fails there is no item.
--     Lists IsListed old result new read      what may be listed of what is read is written, unless memory ran out
use Rattle.std.specs.Prelude.{◌≡◌, ◌⊎◌, ℕ, List, [], ◌++◌, codes, Result, Ok, Err}
use Rattle.svn_replies.specs.declared.fault.Refused.{Refused}
use Rattle.svn_replies.specs.declared.fault.Refused.TheVariants as refused
use Rattle.svn_replies.specs.Answers.{success}
use Rattle.svn_replies.specs.Refusals.{Reason, Fails}

abbrev pub ended : List ℕ
ended = codes "done "

-- of a command that fails there is the end of no items, after which its failure is written
abbrev pub EndsNone : Refused → List ℕ → List ℕ → Type 0
EndsNone (refused.Failed failure) old new = new ≡ old ++ ended
EndsNone _ old new = Unit {0}

-- the same, unless memory runs out
abbrev pub IsNoneSent : Refused → Refused → List ℕ → List ℕ → Type 0
IsNoneSent e sent old new = ((sent ≡ e) × EndsNone e old new) ⊎ (sent ≡ refused.Memory)

abbrev pub Lists : {X : Type 0} → (X → List ℕ → Type 0) → List ℕ → Result (Unit {0}) Refused → List ℕ → Result X Reason → Type 0
Lists {X} IsListed old (Ok done) new read =
    (x : X) × (bytes : List ℕ) × (read ≡ Ok x) × IsListed x bytes × (new ≡ old ++ (bytes ++ (ended ++ success [])))
Lists IsListed old (Err e) new read = Fails e read × EndsNone e old new
