-- A connection that asks, as bytes come: what is written and heard is a function of them.
--     Connection      whom the client speaks with, what came of an item that isn't whole, and what the client waits for
--     course speaker state items      what comes of items, one after the other, up to the first that is refused
--     comes_of connection queue bytes      what comes of the items that bytes complete
--     HearsAll hears old heard new      a hearer heard these answers, one after the other
--     is_settled connection queue      the connection is open, and nothing is unanswered
--     end_fault connection queue      why a server's bytes may not end here
use Rattle.std.specs.Prelude.{◌≡◌, ℕ, Bool, false, ◌&&◌, not, List, [], ◌∷◌, ◌++◌, Option, Some, None, Result, Ok, Err, if◌then◌else◌}
use Rattle.std.specs.List.{cons_option}
use Rattle.svn_wire.specs.declared.fault.Malformed.{Malformed}
use Rattle.svn_wire.specs.declared.fault.Stop.{Stop}
use Rattle.svn_wire.specs.declared.fault.Stop.TheVariants.{More, Bad}
use Rattle.svn_wire.specs.declared.fault.WireFault.{WireFault}
use Rattle.svn_wire.specs.declared.fault.WireFault.TheVariants as wire
use Rattle.svn_wire.specs.declared.item.Limits.{Limits}
use Rattle.svn_wire.specs.Streams.{Waiting, fresh, with_bytes, is_between}
use Rattle.svn_wire.specs.Sessions.{Heard, items_in}
use Rattle.svn_ask.specs.declared.fault.AskFault.{AskFault}
use Rattle.svn_ask.specs.declared.fault.AskFault.TheVariants as faults
use Rattle.svn_ask.specs.declared.fault.Reason.{Reason}
use Rattle.svn_ask.specs.declared.fault.Reason.TheVariants.{BadItem, HalfItem, Ended}
use Rattle.svn_ask.specs.declared.opening.Speaker.{Speaker}
use Rattle.svn_ask.specs.declared.opening.Step.{Step}
use Rattle.svn_ask.specs.declared.opening.Step.TheVariants.{Greeting}
use Rattle.svn_ask.specs.declared.question.Question.{Question}
use Rattle.svn_ask.specs.Answers.{SaidValue}
use Rattle.svn_ask.specs.Windows.{Queue, all_answered}
use Rattle.svn_ask.specs.Asking.{State, Taken, is_opened, taken}

pub record Connection : Type 0 where
  pub stream : Waiting
  pub speaker : Speaker
  pub step : Step
  -- whether what is before the next answer came
  pub is_next : Bool

-- nothing came
abbrev pub started : Limits → Speaker → Connection
started limits speaker = record { stream = fresh limits []; speaker = speaker; step = Greeting; is_next = false }

abbrev pub state_of : Connection → Queue → State
state_of c queue = record { step = c.step; is_next = c.is_next; queue = queue }

pub record Course : Type 0 where
  pub state : State
  pub written : List ℕ
  pub heard : List (Question × SaidValue)
  -- why an item was refused; the others are of the items before it
  pub fault : Option Reason

abbrev pub stays : State → Option Reason → Course
stays s fault = record { state = s; written = []; heard = []; fault = fault }

-- what came of an item, and then of those after it
abbrev pub before : Taken → Course → Course
before x c = record { state = c.state; written = x.written ++ c.written; heard = cons_option x.heard c.heard; fault = c.fault }

abbrev pub on_taken : State → Result Taken Reason → (State → Course) → Course
on_taken s (Ok x) more = before x (more x.state)
on_taken s (Err reason) more = stays s (Some reason)

abbrev pub course : Speaker → State → List Heard → Course
course speaker s [] = stays s None
course speaker s (Ok tokens ∷ items) = on_taken s (taken speaker s tokens) (λ t. course speaker t items)
course speaker s (Err malformed ∷ items) = stays s (Some (BadItem malformed))

abbrev pub comes_of : Connection → Queue → List ℕ → Course
comes_of c queue bytes = course c.speaker (state_of c queue) (items_in (with_bytes c.stream bytes))

-- ---- what a hearer hears

abbrev pub HearsAll : {L : Type 0} → (L → Question → SaidValue → L → Type 0) → L → List (Question × SaidValue) → L → Type 0
HearsAll hears old [] new = new ≡ old
HearsAll {L = L} hears old (x ∷ heard) new = (mid : L) × hears old x.0 x.1 mid × HearsAll hears mid heard new

-- ---- faults

-- nothing is refused; or this is, for that reason; or an allocation failed
abbrev pub IsFault : {A : Type 0} → Result A AskFault → Option Reason → Type 0
IsFault (Ok x) fault = fault ≡ None
IsFault (Err (faults.Refused reason)) fault = fault ≡ Some reason
IsFault (Err faults.Memory) fault = Unit {0}

-- it holds, unless an allocation failed
abbrev pub UnlessMemory : {A : Type 0} → Result A AskFault → Type 0 → Type 0
UnlessMemory (Ok x) P = P
UnlessMemory (Err (faults.Refused reason)) P = P
UnlessMemory (Err faults.Memory) P = Unit {0}

-- what a fault of reading comes to: where more bytes are needed it is none
abbrev pub item_fault : WireFault → Result (Unit {0}) AskFault
item_fault (wire.Stopped More) = Ok tt
item_fault (wire.Stopped (Bad malformed)) = Err (faults.Refused (BadItem malformed))
item_fault wire.Memory = Err faults.Memory

-- the fault of an item that is malformed
abbrev pub FailsItem : {Y : Type 0} → AskFault → Result Y Stop → Type 0
FailsItem faults.Memory read = Unit {0}
FailsItem (faults.Refused reason) read = (malformed : Malformed) × (reason ≡ BadItem malformed) × (read ≡ Err (Bad malformed))

-- ---- the end

abbrev pub is_settled : Connection → Queue → Bool
is_settled c queue = is_opened c.step && (not c.is_next && all_answered queue)

abbrev pub end_fault : Connection → Queue → Option Reason
end_fault c queue =
    if not (is_between c.stream) then Some HalfItem
    else if is_settled c queue then None
    else Some Ended

abbrev pub refused : Option Reason → Result (Unit {0}) AskFault
refused None = Ok tt
refused (Some reason) = Err (faults.Refused reason)
