-- A connection: what is written for each item that comes, and what a client does then.
--     Takes s phase item after bytes      the same of one item
--     Runs s phase items after bytes      of items one after another
--     ReportsAreDriven      what is written after a report is the image of the drive of that report, or why there is none
use Rattle.std.specs.Prelude.{◌≡◌, ◌≢◌, ◌⊎◌, ℕ, Bool, true, false, ◌&&◌, not, List, [], ◌∷◌, ◌++◌, codes, bytes_eq, Option, Some, None, Result, Ok, Err, if◌then◌else◌, MatchBool}
use Rattle.svn_repo.specs.History.{History}
use Rattle.svn_wire.specs.declared.token.Token.{Token}
use Rattle.svn_wire.specs.Answers.{failure_of}
use Rattle.svn_wire.specs.Fields.{◌>>=◌, command_of, list_field, number_field, text_field, word_field, word_list}
use Rattle.svn_wire.specs.Writing.{text_bytes}
use Rattle.svn_wire_calls.specs.declared.pieces.Form.TheVariants.{Strings}
use Rattle.svn_wire_calls.specs.Pieces.{sent_bytes}
use Rattle.svn_served.specs.declared.connection.Phase.{Phase}
use Rattle.svn_served.specs.declared.connection.Phase.TheVariants as phases
use Rattle.svn_commands.specs.declared.commands.Replied.{Replied}
use Rattle.svn_commands.specs.declared.commands.Replied.TheVariants as replied
use Rattle.svn_replies.specs.declared.fault.Refused.{Refused}
use Rattle.svn_served.specs.declared.reporting.Reporting.{Reporting}
use Rattle.svn_replies.specs.declared.served.Served.{Served}
use Rattle.svn_replies.specs.declared.session.Session.{Session}
use Rattle.svn_served.specs.declared.wanted.Driving.{Driving}
use Rattle.svn_replies.specs.Answers.{success, failure, no_mechanism}
use Rattle.svn_served.specs.AskedFields.{Asked, asked_by}
use Rattle.svn_served.specs.Asking.{IsFree}
use Rattle.svn_replies.specs.Refusals.{Reason, as_read, Gives, reasons, IsTold}
use Rattle.svn_commands.specs.Replies.{Replies}
use Rattle.svn_replies.specs.Sessions.{IsOpened}
use Rattle.svn_replies.specs.Texts.{IsText}
use Rattle.svn_served.specs.Reporting.{begun}
use Rattle.svn_served.specs.Wanting.{driving_of, wanted_of}
use Rattle.svn_served.specs.Reports.{step, reported, Ends, Reports}

-- ---- the opening

-- the version of the protocol and the URL that a client names: ( version ( capability* ) url .. )
unfoldable pub url_of : List Token → Option (ℕ × List ℕ)
url_of item = do
  fields ← list_field item
  version ← number_field fields
  capabilities ← word_list version.1
  url ← text_field capabilities.1
  Some (version.0, url.0)

-- the mechanism that a client names: ( word ( text? ) )
unfoldable pub mechanism_of : List Token → Option (List ℕ)
mechanism_of item = do
  fields ← list_field item
  word ← word_field fields
  Some word.0

abbrev pub mechanisms : List ℕ → List ℕ
mechanisms uuid = codes "( success ( ( ANONYMOUS EXTERNAL ) " ++ (text_bytes uuid ++ codes ") ) ")

-- a client that names a repository that is here gets these, another one a failure
abbrev pub Offers : Served → List ℕ → Phase → List ℕ → Type 0
Offers s url after bytes =
    ((session : Session) × IsOpened s.root url session × (after ≡ phases.Named session) × (bytes ≡ mechanisms s.uuid))
    ⊎ ((code : ℕ) × (message : List ℕ) × (after ≡ phases.Over) × (bytes ≡ failure code message))

-- one of another version is sent away
abbrev pub GreetsBy : Served → Option (ℕ × List ℕ) → Phase → List ℕ → Type 0
GreetsBy s None after bytes = ⊥
GreetsBy s (Some x) after bytes = ((x.0 ≢ 2) × (after ≡ phases.Over) × (bytes ≡ [])) ⊎ ((x.0 ≡ 2) × Offers s x.1 after bytes)

abbrev pub is_admitted : List ℕ → Bool
is_admitted mechanism = if bytes_eq mechanism (codes "ANONYMOUS") then true else bytes_eq mechanism (codes "EXTERNAL")

abbrev pub admission : Served → Session → List ℕ
admission s session = success [] ++ success (text_bytes s.uuid ++ (text_bytes session.url ++ codes "( ) "))

abbrev pub LetsInBy : Served → Session → Option (List ℕ) → Phase → List ℕ → Type 0
LetsInBy s session None after bytes = ⊥
LetsInBy s session (Some mechanism) after bytes =
    MatchBool (is_admitted mechanism) ((after ≡ phases.Ready session) × (bytes ≡ admission s session))
    ((after ≡ phases.Over) × (bytes ≡ codes "( failure ( 39:Must authenticate with listed mechanism ) ) "))

-- ---- commands

-- a report follows: what was asked for is kept, or why it isn't served
abbrev pub Asks : Served → Session → Option Asked → Phase → List ℕ → Type 0
Asks s session None after bytes = ⊥
Asks s session (Some asked) after bytes =
    (free : Option (List ℕ)) × IsFree s asked.rev free
    × ((state : Result Reporting Refused) × Gives (λ r. r) state (reasons (wanted_of s session free asked) begun)
    × (after ≡ phases.Reporting session state) × (bytes ≡ no_mechanism))

-- no report follows, and the client may be in another directory then
abbrev pub after_reply : Session → Replied → Phase
after_reply session replied.Stays = phases.Ready session
after_reply session (replied.Sends held) = phases.Ready session
after_reply session (replied.Goes path) = phases.Ready (record { url = session.url; at = path })

-- a text in strings, the one that ends it, and that it was sent
abbrev pub text_sent : List ℕ → List ℕ
text_sent text = sent_bytes Strings text ++ (text_bytes [] ++ success [])

-- the text that is sent after an answer
abbrev pub IsSentAfter : Served → Replied → List ℕ → Type 0
IsSentAfter s (replied.Sends held) sent = (text : List ℕ) × IsText s held text × (sent ≡ text_sent text)
IsSentAfter s reply sent = sent ≡ []

-- it is answered by success; or why it isn't is told after what was written before
abbrev pub Concludes : Served → Session → Result Replied Refused → List ℕ → Phase → List ℕ → Type 0
Concludes s session (Ok reply) written after bytes =
    (sent : List ℕ) × (after ≡ after_reply session reply) × IsSentAfter s reply sent × (bytes ≡ written ++ sent)
Concludes s session (Err e) written after bytes = (after ≡ phases.Ready session) × IsTold e written bytes

abbrev pub IsAnswered : Served → Session → List ℕ → List Token → Phase → List ℕ → Type 0
IsAnswered s session name fields after bytes =
    (result : Result Replied Refused) × (written : List ℕ) × Replies s session name fields result [] written × Concludes s session result written after bytes

abbrev pub AnswersOf : Served → Session → Option Driving → List ℕ → List Token → Phase → List ℕ → Type 0
AnswersOf s session (Some driving) name fields after bytes = Asks s session (asked_by driving fields) after bytes
AnswersOf s session None name fields after bytes = IsAnswered s session name fields after bytes

abbrev pub Answers : Served → Session → Option (List ℕ × List Token) → Phase → List ℕ → Type 0
Answers s session None after bytes = ⊥
Answers s session (Some command) after bytes = AnswersOf s session (driving_of command.0) command.0 command.1 after bytes

-- ---- the client's word on a drive: its failure is sent back

abbrev pub sent_back : ℕ → List ℕ → List ℕ
sent_back code message = codes "( abort-edit ( ) ) " ++ failure code message

abbrev pub FailedBy : Session → Option (ℕ × List ℕ) → Phase → List ℕ → Type 0
FailedBy session None after bytes = ⊥
FailedBy session (Some x) after bytes = (after ≡ phases.Ready session) × (bytes ≡ sent_back x.0 x.1)

abbrev pub TookBy : Session → List Token → Option (List ℕ × List Token) → Phase → List ℕ → Type 0
TookBy session item None after bytes = ⊥
TookBy session item (Some c) after bytes =
    MatchBool (bytes_eq c.0 (codes "success")) ((after ≡ phases.Ready session) × (bytes ≡ success [])) (FailedBy session (failure_of item) after bytes)

-- ---- items

-- of an item that isn't a command; nothing comes of one of which nothing is expected
abbrev pub TakesOther : Served → Phase → List Token → Phase → List ℕ → Type 0
TakesOther s phases.Greeted item after bytes = GreetsBy s (url_of item) after bytes
TakesOther s (phases.Named session) item after bytes = LetsInBy s session (mechanism_of item) after bytes
TakesOther s (phases.Driven session) item after bytes = TookBy session item (command_of item) after bytes
TakesOther s phase item after bytes = (after ≡ phase) × (bytes ≡ [])

abbrev pub Takes : Served → Phase → List Token → Phase → List ℕ → Type 0
Takes s (phases.Ready session) item after bytes = Answers s session (command_of item) after bytes
Takes s (phases.Reporting session state) item after bytes = Reports s session state item after bytes
Takes s phase item after bytes = TakesOther s phase item after bytes

abbrev pub Runs : Served → Phase → List (List Token) → Phase → List ℕ → Type 0
Runs s phase [] after bytes = (after ≡ phase) × (bytes ≡ [])
Runs s phase (item ∷ items) after bytes =
    (mid : Phase) × (first : List ℕ) × (rest : List ℕ) × Takes s phase item mid first × Runs s mid items after rest × (bytes ≡ first ++ rest)

-- ---- reports

abbrev pub is_last_named : Option (List ℕ × List Token) → Bool
is_last_named None = false
is_last_named (Some c) = bytes_eq c.0 (codes "finish-report")

abbrev pub is_inner_named : Option (List ℕ × List Token) → Bool
is_inner_named None = false
is_inner_named (Some c) = not (bytes_eq c.0 (codes "finish-report")) && not (bytes_eq c.0 (codes "abort-report"))

-- `finish-report`
abbrev pub is_last : List Token → Bool
is_last item = is_last_named (command_of item)

-- any other command of a report but `abort-report`
abbrev pub is_inner : List Token → Bool
is_inner item = is_inner_named (command_of item)

abbrev pub AreInner : List (List Token) → Type 0
AreInner [] = Unit {0}
AreInner (item ∷ items) = (is_inner item ≡ true) × AreInner items

abbrev pub step_by : History → Session → Result Reporting Reason → Option (List ℕ × List Token) → Result Reporting Reason
step_by h session state None = state
step_by h session state (Some c) = step h session state c.0 c.1

-- the report of these commands
abbrev pub steps : History → Session → Result Reporting Reason → List (List Token) → Result Reporting Reason
steps h session state [] = state
steps h session state (item ∷ items) = steps h session (step_by h session state (command_of item)) items

abbrev pub ReportsAreDriven : Type 0
ReportsAreDriven = (s : Served) (session : Session) (state : Result Reporting Refused) (items : List (List Token)) (last : List Token) (after : Phase)
    (bytes : List ℕ) → AreInner items → is_last last ≡ true → Runs s (phases.Reporting session state) (items ++ last ∷ []) after bytes
    → Ends s session (reported s.repo (steps s.repo session (as_read state) items)) after bytes
