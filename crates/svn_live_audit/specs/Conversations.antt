-- A server that is asked about a working copy.
--     Answers old questions came new heard      these answers to the questions are in the bytes that came on a connection, and it is left so
--     Hears, Converses, Spoke      more bytes came and were heard; all answers did, to a list of questions; the same of a connection that hasn't failed
--     IsFirstRound, IsSecondRound      what was found of the nodes of a copy; and why no directory is in the places where none is
--     IsLiveAudit old w nodes came new untrue      by the answers in these bytes, these paths of a copy are untrue
use Rattle.std.specs.Prelude.{◌≡◌, ℕ, Bool, true, false, ◌&&◌, ◌||◌, not, List, [], ◌∷◌, ◌++◌, map, filter, Option, Some, None, Ok}
use Rattle.std.specs.Io.KnownBytes.{Consumes}
use Rattle.svn_types.specs.Names.{Path}
use Rattle.svn_wire.specs.Streams.{with_bytes}
use Rattle.svn_wire.specs.Sessions.{LeavesOff, items_in}
use Rattle.svn_model.specs.declared.base_node.BaseNode.{BaseNode}
use Rattle.svn_model.specs.Nodes.{WorkingCopy}
use Rattle.svn_audit.specs.declared.reason.Reason.{Reason}
use Rattle.svn_audit.specs.declared.reason.Untrue.{Untrue}
use Rattle.svn_ask.specs.declared.opening.Speaker.{Speaker}
use Rattle.svn_ask.specs.declared.question.Question.{Question}
use Rattle.svn_ask.specs.Answers.{SaidValue}
use Rattle.svn_ask.specs.Windows.{Queue}
use Rattle.svn_ask.specs.Asking.{is_opened}
use Rattle.svn_ask.specs.Courses.{Connection, started, comes_of, HearsAll}
use Rattle.svn_ask.specs.Laws.{IsAfter, said_of, after_opening}
use Rattle.svn_live_audit.specs.declared.finding.Finding.{Finding}
use Rattle.svn_live_audit.specs.declared.link.TheConstants.{SERVER_LIMITS}
use Rattle.svn_live_audit.specs.Verdicts.{is_asked}
use Rattle.svn_live_audit.specs.Rounds.{question_value, questions, questions_again, rounds, first_round, kinds_after, no_kinds, IsLiveVerdict}

abbrev pub is_none : {A : Type 0} → List A → Bool
is_none [] = true
is_none (x ∷ xs) = false

-- no item is whole that wasn't taken, and none is waited for before the next answer
abbrev pub is_ready : Connection → Bool
is_ready c = is_none (items_in c.stream) && (is_opened c.step || not c.is_next)

abbrev pub IsReady : Connection → Type 0
IsReady c = is_ready c ≡ true

-- so is a connection that hasn't failed
abbrev pub is_ready_if : Option Connection → Bool
is_ready_if None = true
is_ready_if (Some c) = is_ready c

pub record Answers (old : Connection) (qs : List Question) (came : List ℕ) (new : Connection) (heard : List (Question × SaidValue)) : Type 0 where
  pub order : map (λ x. x.0) heard ≡ qs
  pub answers : said_of old.is_next qs (after_opening old.speaker (is_opened old.step) old.step (items_in (with_bytes old.stream came))) ≡ Ok heard
  pub speaker : new.speaker ≡ old.speaker
  pub stream : LeavesOff (with_bytes old.stream came) (items_in (with_bytes old.stream came)) new.stream

-- what is said in answers
abbrev pub values : List (Question × SaidValue) → List SaidValue
values heard = map (λ x. x.1) heard

-- ---- the code

-- nothing came on a connection
abbrev pub unheard : Speaker → Connection
unheard speaker = started SERVER_LIMITS speaker

module _ {R : Type 0} (remaining : R → Option (List ℕ)) where
  pub record Hears {L : Type 0} (hears : L → Question → SaidValue → L → Type 0) (input : R) (c : Connection) (w : Queue) (hearer : L) (input' : R)
      (c' : Connection) (w' : Queue) (hearer' : L) : Type 0 where
    pub came : List ℕ
    pub read : Consumes (remaining input) (remaining input') came
    pub after : IsAfter c w came c' w'
    pub heard : HearsAll hears hearer (comes_of c w came).heard hearer'

  pub record Converses {L : Type 0} (hears : L → Question → SaidValue → L → Type 0) (input : R) (c : Connection) (qs : List Question) (hearer : L)
      (input' : R) (c' : Connection) (hearer' : L) : Type 0 where
    pub came : List ℕ
    pub read : Consumes (remaining input) (remaining input') came
    pub answered : List (Question × SaidValue)
    pub answers : Answers c qs came c' answered
    pub heard : HearsAll hears hearer answered hearer'
    pub ready : IsReady c'

  pub record Spoke {L : Type 0} (hears : L → Question → SaidValue → L → Type 0) (input : R) (open_one : Option Connection) (qs : List Question)
      (hearer : L) (input' : R) (open_then : Option Connection) (hearer' : L) : Type 0 where
    pub before : Connection
    pub is_open : open_one ≡ Some before
    pub now : Connection
    pub stays : open_then ≡ Some now
    pub spoke : Converses hears input before qs hearer input' now hearer'

  pub record IsFirstRound (input : R) (open_one : Option Connection) (w : WorkingCopy) (nodes : List (Path × BaseNode)) (input' : R)
      (open_then : Option Connection) (findings : List Finding) : Type 0 where
    pub before : Connection
    pub is_open : open_one ≡ Some before
    pub now : Connection
    pub stays : open_then ≡ Some now
    pub came : List ℕ
    pub read : Consumes (remaining input) (remaining input') came
    pub asked : List Question
    pub are_questions : map question_value asked ≡ questions nodes
    pub answered : List (Question × SaidValue)
    pub answers : Answers before asked came now answered
    pub found : rounds w (first_round (filter is_asked nodes)) (values answered) ≡ record { left = []; findings = findings; suits = true }

  pub record IsSecondRound (input : R) (open_one : Option Connection) (findings : List Finding) (input' : R) (open_then : Option Connection)
      (reasons : List Reason) : Type 0 where
    pub before : Connection
    pub is_open : open_one ≡ Some before
    pub now : Connection
    pub stays : open_then ≡ Some now
    pub came : List ℕ
    pub read : Consumes (remaining input) (remaining input') came
    pub asked : List Question
    pub are_questions : map question_value asked ≡ questions_again findings
    pub answered : List (Question × SaidValue)
    pub answers : Answers before asked came now answered
    pub why : kinds_after no_kinds (values answered) ≡ record { reasons = reasons; suits = true }

pub record IsLiveAudit (old : Connection) (w : WorkingCopy) (nodes : List (Path × BaseNode)) (came : List ℕ) (new : Connection) (untrue : List Untrue)
    : Type 0 where
  -- about each node that is asked for
  pub first_questions : List Question
  pub are_questions : map question_value first_questions ≡ questions nodes
  pub first_came : List ℕ
  pub mid : Connection
  pub first : List (Question × SaidValue)
  pub answers : Answers old first_questions first_came mid first
  -- and about each place again where no directory is
  pub findings : List Finding
  pub second_questions : List Question
  pub are_again : map question_value second_questions ≡ questions_again findings
  pub second_came : List ℕ
  pub second : List (Question × SaidValue)
  pub answers_again : Answers mid second_questions second_came new second
  pub all_came : came ≡ first_came ++ second_came
  -- by what is said, these are all untrue nodes
  pub verdict : IsLiveVerdict w nodes (values first) (values second) untrue

module _ {R : Type 0} (remaining : R → Option (List ℕ)) where
  -- so much came of a server, on a connection that hadn't failed, and hasn't then
  pub record Audits (input : R) (open_one : Option Connection) (w : WorkingCopy) (nodes : List (Path × BaseNode)) (input' : R)
      (open_then : Option Connection) (untrue : List Untrue) : Type 0 where
    pub before : Connection
    pub is_open : open_one ≡ Some before
    pub now : Connection
    pub stays : open_then ≡ Some now
    pub came : List ℕ
    pub read : Consumes (remaining input) (remaining input') came
    pub audit : IsLiveAudit before w nodes came now untrue
