-- What came of an item, where it isn't refused; and that nothing did, where it is.
use Rattle.std.specs.Prelude.{◌≡◌, ℕ, false, List, ◌++◌, Option, Some, None, Result, Ok, Err}
use Rattle.svn_wire.specs.Streams.{Waiting}
use Rattle.svn_wire.specs.Sessions.{items_in, LeavesOff}
use Rattle.svn_ask.specs.declared.fault.AskFault.{AskFault}
use Rattle.svn_ask.specs.declared.fault.AskFault.TheVariants as faults
use Rattle.svn_ask.specs.declared.fault.Reason.{Reason}
use Rattle.svn_ask.specs.declared.question.Question.{Question}
use Rattle.svn_ask.specs.declared.opening.Speaker.{Speaker}
use Rattle.svn_ask.specs.declared.opening.Step.{Step}
use Rattle.svn_ask.specs.declared.talk.Talk.{Talk}
use Rattle.svn_ask.specs.Answers.{SaidValue}
use Rattle.svn_ask.specs.Windows.{Queue}
use Rattle.svn_ask.specs.Asking.{State, Taken, asked_at}
use Rattle.svn_ask.specs.Courses.{course, HearsAll}

abbrev pub state_at : Talk → Queue → State
state_at t queue = record { step = t.step; is_next = t.is_next; queue = queue }

abbrev pub Hears : {L : Type 0} → (L → Question → SaidValue → L → Type 0) → L → Option (Question × SaidValue) → L → Type 0
Hears hears old None new = new ≡ old
Hears hears old (Some x) new = hears old x.0 x.1 new

pub record TakesItem {L : Type 0} (hears : L → Question → SaidValue → L → Type 0) (read : Result Taken Reason) (old : L) (bytes : List ℕ)
    (now : State) (new : L) (more : List ℕ) : Type 0 where
  pub item : Taken
  pub reads : read ≡ Ok item
  pub state : now ≡ item.state
  pub written : more ≡ bytes ++ item.written
  pub heard : Hears hears old item.heard new

-- the opening goes on, and after its last step questions are asked
pub record Opens (read : Result (Step × List ℕ) Reason) (queue : Queue) (bytes : List ℕ) (now : State) (more : List ℕ) : Type 0 where
  pub next : Step × List ℕ
  pub reads : read ≡ Ok next
  pub state : now ≡ record { step = next.0; is_next = false; queue = (asked_at next.0 queue).0 }
  pub written : more ≡ bytes ++ (next.1 ++ (asked_at next.0 queue).1)

-- after a refusal
abbrev pub OnRefused : {A : Type 0} → Result A AskFault → Type 0 → Type 0
OnRefused (Ok x) P = Unit {0}
OnRefused (Err faults.Memory) P = Unit {0}
OnRefused (Err (faults.Refused reason)) P = P

-- ---- items that are whole

-- all of them were taken, and what is left waits for more bytes
pub record Ends {L : Type 0} (hears : L → Question → SaidValue → L → Type 0) (speaker : Speaker) (w : Waiting) (s : State) (l : L) (out : List ℕ)
    (w' : Waiting) (s' : State) (l' : L) (out' : List ℕ) : Type 0 where
  pub taken : (course speaker s (items_in w)).fault ≡ None
  pub state : s' ≡ (course speaker s (items_in w)).state
  pub written : out' ≡ out ++ (course speaker s (items_in w)).written
  pub heard : HearsAll hears l (course speaker s (items_in w)).heard l'
  pub stream : LeavesOff w (items_in w) w'

-- one is refused, and those before it were taken
pub record Refuses {L : Type 0} (hears : L → Question → SaidValue → L → Type 0) (speaker : Speaker) (w : Waiting) (s : State) (l l' : L)
    (reason : Reason) : Type 0 where
  pub fault : (course speaker s (items_in w)).fault ≡ Some reason
  pub heard : HearsAll hears l (course speaker s (items_in w)).heard l'

abbrev pub IsRefused : {L : Type 0} → (L → Question → SaidValue → L → Type 0) → Speaker → Waiting → State → L → L → AskFault → Type 0
IsRefused hears speaker w s l l' (faults.Refused reason) = Refuses hears speaker w s l l' reason
IsRefused hears speaker w s l l' faults.Memory = Unit {0}
