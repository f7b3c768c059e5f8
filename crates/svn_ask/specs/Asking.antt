-- A connection that asks: what comes of each item.
--     State      what the client waits for, and its questions
--     taken speaker state tokens      the state after an item, what is written for it, and the question that it answers with what it says
use Rattle.std.specs.Prelude.{ℕ, Bool, true, false, List, [], ◌∷◌, ◌++◌, Option, Some, None, Result, Ok, Err, if◌then◌else◌}
use Rattle.svn_wire.specs.declared.token.Token.{Token}
use Rattle.svn_ask.specs.declared.fault.Reason.{Reason}
use Rattle.svn_ask.specs.declared.fault.Reason.TheVariants.{Unasked}
use Rattle.svn_ask.specs.declared.opening.Speaker.{Speaker}
use Rattle.svn_ask.specs.declared.opening.Step.{Step}
use Rattle.svn_ask.specs.declared.opening.Step.TheVariants.{Greeting, Mechanisms, Admission, Repository, ReparentMechanisms, Reparented, Opened}
use Rattle.svn_ask.specs.declared.question.Question.{Question}
use Rattle.svn_ask.specs.Reading.{◌>>=◌}
use Rattle.svn_ask.specs.Answers.{SaidValue, answer_of}
use Rattle.svn_ask.specs.Openings.{no_mechanism, opened}
use Rattle.svn_ask.specs.Windows.{Queue, asked, passed}

pub record State : Type 0 where
  pub step : Step
  -- whether what is before the next answer came
  pub is_next : Bool
  pub queue : Queue

pub record Taken : Type 0 where
  pub state : State
  pub written : List ℕ
  pub heard : Option (Question × SaidValue)

abbrev pub is_opened : Step → Bool
is_opened Opened = true
is_opened Greeting = false
is_opened Mechanisms = false
is_opened Admission = false
is_opened Repository = false
is_opened ReparentMechanisms = false
is_opened Reparented = false

-- questions are asked, where the connection is open
abbrev pub asked_at : Step → Queue → Queue × List ℕ
asked_at step queue = if is_opened step then asked queue else (queue, [])

-- the next answer is waited for, or the next item of the opening
abbrev pub going_on : Step → Option (Question × SaidValue) → List ℕ → Queue × List ℕ → Taken
going_on step heard written r =
    record { state = record { step = step; is_next = false; queue = r.0 }; written = written ++ r.1; heard = heard }

abbrev pub opening_on : Queue → Step × List ℕ → Taken
opening_on queue x = going_on x.0 None x.1 (asked_at x.0 queue)

abbrev pub before_answer : Step → Queue → ℕ → Taken
before_answer step queue none =
    record { state = record { step = step; is_next = true; queue = queue }; written = []; heard = None }

-- an answer, or the item before it
abbrev pub answered : Step → Bool → Queue → List Question → List Token → Result Taken Reason
answered step is_next queue [] tokens = Err Unasked
answered step false queue (q ∷ sent) tokens = no_mechanism tokens >>= λ none. Ok (before_answer step queue none)
answered step true queue (q ∷ sent) tokens =
    answer_of q.wanted q.rev tokens >>= λ said. Ok (going_on step (Some (q, said)) [] (asked (passed queue sent)))

abbrev pub taken : Speaker → State → List Token → Result Taken Reason
taken speaker s tokens =
    if is_opened s.step then answered s.step s.is_next s.queue s.queue.sent tokens
    else opened speaker s.step tokens >>= λ x. Ok (opening_on s.queue x)
