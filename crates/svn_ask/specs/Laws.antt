-- The laws of a connection that asks.
--     IsAfter old queue bytes new queue'      bytes came, and nothing was refused: the connection and its questions are as they leave them
--     PiecesJoin      what comes of bytes in two pieces is what comes of them in one
--     said_of is_next questions items      the answers that items have to these questions
--     AnswersAreSaid      what is heard are these answers, in the order of the questions, however many are open at once
--     IsConversation limits speaker questions bytes heard c      all questions of a whole conversation have the answers that its bytes have
--     ConversationsGoOn      a conversation has any number of lists of questions
use Rattle.std.specs.Prelude.{◌≡◌, Bool, true, false, List, [], ◌∷◌, ◌++◌, map, None, Result, Ok, Err, ℕ}
use Rattle.svn_wire.specs.declared.item.Limits.{Limits}
use Rattle.svn_wire.specs.Streams.{fresh, with_bytes}
use Rattle.svn_wire.specs.Sessions.{Heard, LeavesOff, items_of, items_in}
use Rattle.svn_ask.specs.declared.fault.Reason.{Reason}
use Rattle.svn_ask.specs.declared.fault.Reason.TheVariants.{BadItem, Unasked}
use Rattle.svn_ask.specs.declared.opening.Speaker.{Speaker}
use Rattle.svn_ask.specs.declared.opening.Step.{Step}
use Rattle.svn_ask.specs.declared.opening.Step.TheVariants.{Greeting}
use Rattle.svn_ask.specs.declared.question.Question.{Question}
use Rattle.svn_ask.specs.Reading.{◌>>=◌}
use Rattle.svn_ask.specs.Answers.{SaidValue, answer_of}
use Rattle.svn_ask.specs.Openings.{no_mechanism, opened}
use Rattle.svn_ask.specs.Windows.{Queue, asked, listed}
use Rattle.svn_ask.specs.Asking.{State, is_opened}
use Rattle.svn_ask.specs.Courses.{Connection, Course, started, state_of, course, comes_of, is_settled}

-- ---- pieces

pub record IsAfter (old : Connection) (queue : Queue) (bytes : List ℕ) (new : Connection) (queue' : Queue) : Type 0 where
  pub speaker : new.speaker ≡ old.speaker
  pub taken : (comes_of old queue bytes).fault ≡ None
  pub state : state_of new queue' ≡ (comes_of old queue bytes).state
  pub stream : LeavesOff (with_bytes old.stream bytes) (items_in (with_bytes old.stream bytes)) new.stream

abbrev pub joined : Course → Course → Course
joined c d = record { state = d.state; written = c.written ++ d.written; heard = c.heard ++ d.heard; fault = d.fault }

pub record Joins (a : Connection) (queue : Queue) (first : List ℕ) (b : Connection) (queue' : Queue) (more : List ℕ) (c : Connection) (queue'' : Queue)
    : Type 0 where
  pub course : comes_of a queue (first ++ more) ≡ joined (comes_of a queue first) (comes_of b queue' more)
  pub after : IsAfter a queue (first ++ more) c queue''

abbrev pub PiecesJoin : Type 0
PiecesJoin = (a b c : Connection) (queue queue' queue'' : Queue) (first more : List ℕ)
    → IsAfter a queue first b queue' → IsAfter b queue' more c queue'' → Joins a queue first b queue' more c queue''

-- ---- answers

-- each answer, after the item before it; `is_next` where that came already
abbrev pub said_of : Bool → List Question → List Heard → Result (List (Question × SaidValue)) Reason
said_of is_next questions [] = Ok []
said_of is_next questions (Err malformed ∷ items) = Err (BadItem malformed)
said_of is_next [] (Ok tokens ∷ items) = Err Unasked
said_of false (q ∷ qs) (Ok tokens ∷ items) = no_mechanism tokens >>= λ none. said_of true (q ∷ qs) items
said_of true (q ∷ qs) (Ok tokens ∷ items) =
    answer_of q.wanted q.rev tokens >>= λ said. said_of false qs items >>= λ more. Ok ((q, said) ∷ more)

-- what is after the items of the opening, if all of these came
abbrev pub after_step : Result (Step × List ℕ) Reason → (Step → List Heard) → List Heard
after_step (Ok x) more = more x.0
after_step (Err reason) more = []

abbrev pub after_opening : Speaker → Bool → Step → List Heard → List Heard
after_opening speaker true step items = items
after_opening speaker false step [] = []
after_opening speaker false step (Err malformed ∷ items) = []
after_opening speaker false step (Ok tokens ∷ items) =
    after_step (opened speaker step tokens) (λ next. after_opening speaker (is_opened next) next items)

-- what is heard are the answers that the items have, each to its question; the other questions are still open or not asked yet
pub record IsSaid (speaker : Speaker) (s : State) (items : List Heard) (c : Course) : Type 0 where
  pub order : map (λ x. x.0) c.heard ++ (c.state.queue.sent ++ c.state.queue.left) ≡ s.queue.sent ++ s.queue.left
  pub answers : c.fault ≡ None
      → said_of s.is_next (s.queue.sent ++ s.queue.left) (after_opening speaker (is_opened s.step) s.step items) ≡ Ok c.heard

abbrev pub AnswersAreSaid : Type 0
AnswersAreSaid = (speaker : Speaker) (s : State) (items : List Heard)
    → (is_opened s.step ≡ false → s.is_next ≡ false) → IsSaid speaker s items (course speaker s items)

-- ---- whole conversations

-- These bytes came in all, and lists of questions were asked and answered, one after the other: all questions together have the answers that the items
-- of all bytes have.
pub record IsConversation (limits : Limits) (speaker : Speaker) (questions : List Question) (bytes : List ℕ) (heard : List (Question × SaidValue))
    (c : Connection) : Type 0 where
  pub spoken : c.speaker ≡ speaker
  pub all : map (λ x. x.0) heard ≡ questions
  pub answers : said_of false questions (after_opening speaker false Greeting (items_of limits bytes)) ≡ Ok heard
  -- the opening is among these items
  pub opened : (more : List Heard)
      → after_opening speaker false Greeting (items_of limits bytes ++ more) ≡ after_opening speaker false Greeting (items_of limits bytes) ++ more
  pub stream : LeavesOff (fresh limits bytes) (items_of limits bytes) c.stream

-- the first list, and a further one
pub record ConversationsGoOn : Type 0 where
  pub first : (limits : Limits) (speaker : Speaker) (one_by_one : Bool) (questions : List Question) (bytes : List ℕ) (c : Connection) (queue : Queue)
      → IsAfter (started limits speaker) (listed one_by_one questions) bytes c queue → is_settled c queue ≡ true
      → IsConversation limits speaker questions bytes (comes_of (started limits speaker) (listed one_by_one questions) bytes).heard c
  pub further : (limits : Limits) (speaker : Speaker) (questions : List Question) (bytes : List ℕ) (heard : List (Question × SaidValue)) (c : Connection)
      (one_by_one : Bool) (others : List Question) (more : List ℕ) (d : Connection) (queue : Queue)
      → IsConversation limits speaker questions bytes heard c → is_opened c.step ≡ true → c.is_next ≡ false
      → IsAfter c (asked (listed one_by_one others)).0 more d queue → is_settled d queue ≡ true
      → IsConversation limits speaker (questions ++ others) (bytes ++ more) (heard ++ (comes_of c (asked (listed one_by_one others)).0 more).heard) d
