-- Two rounds of questions about the nodes of a copy, answer by answer: about all of them, and again about those in whose places no directory is, whether a
-- file is there.
--     Round, round_on w round said      what was found in the first round, and after one more answer
--     Kinds, kinds_on kinds said      why no directory is in the places of the second, and after one more answer
--     questions nodes, questions_again findings      what is asked in each
--     settled findings reasons      the untrue paths after both
--     heard_of nodes first second      what is said of the nodes at last, by the answers of both rounds
--     IsLiveVerdict w nodes first second untrue      these are all untrue nodes, of each history that gives what is said of them
--     RoundsHold      what is settled by both rounds is such a verdict
use Rattle.std.specs.Prelude.{◌≡◌, ℕ, Bool, true, false, ◌&&◌, List, [], ◌∷◌, ◌++◌, length, filter, filter_map, Option, Some, None, option_map}
use Rattle.std.specs.List.{AllByRecursion}
use Rattle.std.specs.Option.{option_to_list}
use Rattle.svn_types.specs.declared.kind.Kind.TheVariants.{File, Directory}
use Rattle.svn_types.specs.Names.{Path}
use Rattle.svn_digits.specs.StandIns.{md5_stand_in}
use Rattle.svn_repo.specs.History.{History}
use Rattle.svn_model.specs.declared.base_node.BaseNode.{BaseNode}
use Rattle.svn_model.specs.declared.base_node.BaseNode.TheVariants.{File as FileNode, Dir as DirNode, NotPresent}
use Rattle.svn_model.specs.Nodes.{WorkingCopy}
use Rattle.svn_audit.specs.declared.reason.Reason.{Reason}
use Rattle.svn_audit.specs.declared.reason.Reason.TheVariants.{NoRevision, Nothing, AnotherKind}
use Rattle.svn_audit.specs.declared.reason.Untrue.{Untrue}
use Rattle.svn_audit.specs.Untrue.{untrue_in}
use Rattle.svn_ask.specs.declared.question.Question.{Question}
use Rattle.svn_ask.specs.declared.question.Wanted.{Wanted}
use Rattle.svn_ask.specs.declared.question.Wanted.TheVariants as wanted
use Rattle.svn_ask.specs.Answers.{SaidValue}
use Rattle.svn_ask.specs.Answers as said
use Rattle.svn_live_audit.specs.Kept.{kept_history}
use Rattle.svn_live_audit.specs.Verdicts.{Heard, GivesIn, SaysAllOf, IsOfAll, is_asked, untrue_said, untrue_heard}
use Rattle.svn_live_audit.specs.declared.finding.Finding.{Finding}

-- ---- questions

-- what is asked, of which path in which revision
abbrev pub Asked : Type 0
Asked = Wanted × ℕ × Path

abbrev pub question_value : Question → Asked
question_value q = (q.wanted, q.rev, q.path.now)

-- of a directory that isn't complete only its kind: its properties and entries aren't all there
abbrev pub directory_wanted : Bool → Wanted
directory_wanted true = wanted.Directory
directory_wanted false = wanted.Kind

abbrev pub question_of : BaseNode → Option Asked
question_of (FileNode r q text props) = Some (wanted.File, r, q)
question_of (DirNode r q complete props) = Some (directory_wanted complete, r, q)
question_of NotPresent = None

abbrev pub questions : List (Path × BaseNode) → List Asked
questions nodes = filter_map (λ e. question_of e.1) nodes

abbrev pub if_again : Bool → Untrue → Option Asked
if_again false u = None
if_again true u = Some (wanted.Kind, u.rev, u.repos_path)

abbrev pub questions_again : List Finding → List Asked
questions_again findings = filter_map (λ f. if_again f.asks_again f.untrue) findings

-- ---- the first round

-- what is said suits what was asked about such a node
abbrev pub suits : BaseNode → SaidValue → Bool
suits (FileNode r q text props) (said.of_kind File) = false
suits (FileNode r q text props) said.no_directory = false
suits (DirNode r q true props) (said.of_kind Directory) = false
suits node value = true

-- no directory is there: whether a file is has to be asked
abbrev pub asks_again : SaidValue → Bool
asks_again said.no_directory = true
asks_again value = false

abbrev pub finding_of : WorkingCopy → Heard → Option Finding
finding_of w heard = option_map (λ u. record { untrue = u; asks_again = asks_again heard.1 }) (untrue_said w heard)

pub record Round : Type 0 where
  -- of which nothing was said yet
  pub left : List (Path × BaseNode)
  pub findings : List Finding
  -- whether all that was said suits what was asked
  pub suits : Bool

abbrev pub next_on : WorkingCopy → Round → List (Path × BaseNode) → SaidValue → Round
next_on w r [] value = record { left = []; findings = r.findings; suits = false }
next_on w r (e ∷ left) value =
    record { left = left; findings = r.findings ++ option_to_list (finding_of w (e, value)); suits = r.suits && suits e.1 value }

abbrev pub round_on : WorkingCopy → Round → SaidValue → Round
round_on w r value = next_on w r r.left value

abbrev pub rounds : WorkingCopy → Round → List SaidValue → Round
rounds w r [] = r
rounds w r (value ∷ values) = rounds w (round_on w r value) values

abbrev pub first_round : List (Path × BaseNode) → Round
first_round places = record { left = places; findings = []; suits = true }

-- ---- the second round

-- why no directory is in a place; none where one may be
abbrev pub no_directory_by : SaidValue → Option Reason
no_directory_by said.nothing = Some Nothing
no_directory_by (said.of_kind File) = Some (AnotherKind File)
no_directory_by said.no_revision = Some NoRevision
no_directory_by value = None

pub record Kinds : Type 0 where
  pub reasons : List Reason
  -- whether all that was said is of places without a directory
  pub suits : Bool

abbrev pub kinds_with : Kinds → Option Reason → Kinds
kinds_with k None = record { reasons = k.reasons; suits = false }
kinds_with k (Some reason) = record { reasons = k.reasons ++ reason ∷ []; suits = k.suits }

abbrev pub kinds_on : Kinds → SaidValue → Kinds
kinds_on k value = kinds_with k (no_directory_by value)

abbrev pub kinds_after : Kinds → List SaidValue → Kinds
kinds_after k [] = k
kinds_after k (value ∷ values) = kinds_after (kinds_on k value) values

abbrev pub no_kinds : Kinds
no_kinds = record { reasons = []; suits = true }

-- ---- both

-- the first of a list where it is asked for, and what is after it then
abbrev pub first_if : {A : Type 0} → Bool → A → List A → A
first_if false x xs = x
first_if true x [] = x
first_if true x (y ∷ ys) = y

abbrev pub after_if : {A : Type 0} → Bool → List A → List A
after_if false xs = xs
after_if true [] = []
after_if true (y ∷ ys) = ys

abbrev pub with_reason : Untrue → Reason → Untrue
with_reason u reason = record { path = u.path; rev = u.rev; repos_path = u.repos_path; reason = reason }

abbrev pub settled_by : Bool → Untrue → List Reason → Untrue
settled_by false u reasons = u
settled_by true u [] = u
settled_by true u (reason ∷ reasons) = with_reason u reason

abbrev pub settled : List Finding → List Reason → List Untrue
settled [] reasons = []
settled (f ∷ findings) reasons = settled_by f.asks_again f.untrue reasons ∷ settled findings (after_if f.asks_again reasons)

abbrev pub heard_of : List (Path × BaseNode) → List SaidValue → List SaidValue → List Heard
heard_of [] first second = []
heard_of (e ∷ nodes) [] second = []
heard_of (e ∷ nodes) (value ∷ first) second =
    (e, first_if (asks_again value) value second) ∷ heard_of nodes first (after_if (asks_again value) second)

pub record IsLiveVerdict (w : WorkingCopy) (nodes : List (Path × BaseNode)) (first second : List SaidValue) (untrue : List Untrue) : Type 0 where
  pub of_all : IsOfAll nodes (heard_of (filter is_asked nodes) first second)
  pub says_all : AllByRecursion SaysAllOf (heard_of (filter is_asked nodes) first second)
  pub untrue_are : untrue ≡ untrue_heard w (heard_of (filter is_asked nodes) first second)
  -- of each history that gives what is said, its texts kept as MD5 stand-ins, these are all untrue nodes
  pub of_each : (h : History) → AllByRecursion (GivesIn h) (heard_of (filter is_asked nodes) first second)
      → untrue ≡ untrue_in (kept_history md5_stand_in h) w nodes

-- the first round was of all nodes that are asked for, the second of those in whose places no directory is
abbrev pub RoundsHold : Type 0
RoundsHold =
    (w : WorkingCopy) (nodes : List (Path × BaseNode)) (first second : List SaidValue) (findings : List Finding) (reasons : List Reason)
    → rounds w (first_round (filter is_asked nodes)) first ≡ record { left = []; findings = findings; suits = true }
    → kinds_after no_kinds second ≡ record { reasons = reasons; suits = true } → length (questions_again findings) ≡ length second
    → IsLiveVerdict w nodes first second (settled findings reasons)
