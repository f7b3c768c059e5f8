-- What becomes of the copies that a check names.
-- Sparse copies are taken by `check` alone.
--     IsAudited takes opens stayed compared word audited      a word opened a copy that stayed as it was, of the same repository, and this is the verdict on it
--     IsCopyFault takes opens stayed compared word fault      why the copy of a word isn't audited: where that is said of its bytes, it stayed as it was
--     answer_text word answer, verdict_of answer      what is printed of a word's answer, and its verdict
--     notices_of word answer      what is reported of it: what was passed over of a copy, or why it is refused
--     Answered words answers verdict text heard      these are the answers of the words, in their order, with all lines, all notices, and the worst verdict
--     Checks opens stayed compared words verdict text heard      each word was answered by what its copy is
--     Tells opens stayed compared inquiry word verdict text heard      this was written of what is asked of the word's copy, with that verdict and these notices
use Rattle.std.specs.Prelude.{◌≡◌, ℕ, Bool, true, false, ◌&&◌, List, [], ◌∷◌, ◌++◌, map, nat_lt, Option, Some, None, Result, Ok, Err, if◌then◌else◌}
use Rattle.std.specs.Option.{option_copied}
use Rattle.std.specs.List.{flat_map, AllByRecursion}
use Rattle.svn_types.specs.Names.{Path}
use Rattle.svn_repo.specs.History.{History, new_history}
use Rattle.svn_model.specs.declared.base_node.BaseNode.{BaseNode}
use Rattle.svn_dump.specs.declared.sections.Limits.{Limits}
use Rattle.svn_dump.specs.declared.sections.Texts.{Texts}
use Rattle.svn_history.specs.Loading.{LoadsDump}
use Rattle.svn_wcdb.specs.declared.depth.Takes.{Takes}
use Rattle.svn_wcdb.specs.declared.depth.Takes.TheVariants.{Whole, Sparse}
use Rattle.svn_wcdb.specs.Sparse.{seen_left_out, left_out_in}
use Rattle.svn_audit.specs.declared.reason.Untrue.{Untrue}
use Rattle.svn_disk_audit.specs.declared.fault.AuditFault.{AuditFault}
use Rattle.svn_disk_audit.specs.Pristine.{Store}
use Rattle.svn_disk_audit.specs.Audits.{IsAudit, IsVerdict, IsAccepted, IsAuditFault}
use Rattle.svn_disk_audit.specs.Repositories.{IsOfRepository}
use Rattle.svn_answers.specs.declared.asked.History.{History as CodeHistory}
use Rattle.svn_answers.specs.declared.asked.OnDisk.{OnDisk}
use Rattle.svn_answers.specs.declared.fault.CopyFault.{CopyFault}
use Rattle.svn_answers.specs.declared.fault.CopyFault.TheVariants.{Refused, Audit, Early, Untold}
use Rattle.svn_answers.specs.declared.fault.TellFault.{TellFault}
use Rattle.svn_answers.specs.declared.fault.TellFault.TheVariants as faults
use Rattle.svn_answers.specs.declared.notices.Notice.TheVariants.{Unanswered}
use Rattle.svn_answers.specs.declared.verdict.Verdict.{Verdict}
use Rattle.svn_answers.specs.declared.verdict.Verdict.TheVariants as verdicts
use Rattle.svn_answers.specs.declared.telling.Inquiry.{Inquiry}
use Rattle.svn_answers.specs.declared.topic.TopicFault.{TopicFault}
use Rattle.svn_answers.specs.Lines.{or_zero, lowest, checked_text}
use Rattle.svn_answers.specs.Notices.{Heard, of_notes}
use Rattle.svn_answers.specs.Entries.{entry_of}
use Rattle.svn_answers.specs.Untold.{has_untold_root, is_untold}
use Rattle.svn_answers.specs.Topics.{IsToldText, IsToldFault}
use Rattle.svn_answers.specs.Verdicts.{worst}

-- what copies are compared with: a history, how it keeps texts, the UUID of its repository, where that is known, and whether that is passed over; and the
-- first revision of its dump
pub record Compared : Type 0 where
  pub history : History
  pub texts : Texts
  pub uuid : Option (List ℕ)
  pub any_uuid : Bool
  pub first : ℕ

-- as the code has it
abbrev pub compared : CodeHistory → Compared
compared h =
    record { history = h.repo.now; texts = h.texts; uuid = option_copied h.uuid; any_uuid = h.any_uuid; first = h.first }

-- the UUID that a copy must have, if one is asked for
abbrev pub wanted_uuid : Compared → Option (List ℕ)
wanted_uuid c = if c.any_uuid then None else c.uuid

-- there are nodes of revisions before the first of a dump, which doesn't tell of them; revision 0 has nothing
abbrev pub has_early : ℕ → List (Path × BaseNode) → Bool
has_early first nodes = nat_lt 1 first && nat_lt (or_zero (lowest nodes)) first

-- by a word, a copy is opened: the bytes of its database, a path in it, and what is known of its pristine texts
abbrev pub Opens : Type 1
Opens = List ℕ → List ℕ → Path → Store → Type 0

-- the database of a word's copy had these bytes as long as it was read
abbrev pub Stayed : Type 1
Stayed = List ℕ → List ℕ → Type 0

pub record IsAudited (takes : Takes) (opens : Opens) (stayed : Stayed) (compared : Compared) (name : List ℕ) (found : OnDisk)
    : Type 0 where
  pub database : List ℕ
  pub below : Path
  pub store : Store
  pub opened : opens name database below store
  pub same : stayed name database
  pub of_repository : IsAccepted takes (IsOfRepository (wanted_uuid compared)) database below
  pub any_uuid : found.any_uuid ≡ compared.any_uuid
  pub untold_root : found.untold_root ≡ has_untold_root compared.first found.audited.copy
  pub entry : found.entry ≡ entry_of takes database below found.audited.copy
  pub left_out : seen_left_out found.audited.left_out ≡ left_out_in takes below database
  pub audit : IsAudit takes compared.texts store compared.history database below found.audited.copy found.audited.untrue.items
  -- where the history is that of a dump, it is the verdict on these bytes
  pub verdict : (limits : Limits) (dump : List ℕ) → LoadsDump limits compared.texts (Some dump) new_history compared.history
      → IsVerdict takes compared.texts limits dump store database below found.audited.untrue.items

pub record IsAuditRefusal {F : Type 0} (takes : Takes) (opens : Opens) (stayed : Stayed) (compared : Compared) (name : List ℕ) (fault : AuditFault F)
    : Type 0 where
  pub database : List ℕ
  pub below : Path
  pub store : Store
  pub opened : opens name database below store
  pub same : stayed name database
  pub why : IsAuditFault takes compared.texts store database below fault

-- it was audited, and has a node of which the history doesn't tell
abbrev pub IsEarly : Takes → Opens → Stayed → Compared → List ℕ → ℕ → Type 0
IsEarly takes opens stayed compared name first =
    (found : OnDisk) × IsAudited takes opens stayed compared name found × (first ≡ compared.first)
    × (has_early compared.first found.audited.copy ≡ true)

-- the root of the repository is untrue by a property, which the dump may have left out
abbrev pub IsUntold : Takes → Opens → Stayed → Compared → List ℕ → ℕ → Type 0
IsUntold takes opens stayed compared name first =
    (found : OnDisk) × IsAudited takes opens stayed compared name found × (first ≡ compared.first)
    × (is_untold compared.first found.audited.untrue.items ≡ true)

-- a copy that is answered of: the history tells of all that the verdict on it rests on
pub record IsTellable (takes : Takes) (opens : Opens) (stayed : Stayed) (compared : Compared) (name : List ℕ) (found : OnDisk) : Type 0 where
  pub audited : IsAudited takes opens stayed compared name found
  pub no_early : has_early compared.first found.audited.copy ≡ false
  pub told : is_untold compared.first found.audited.untrue.items ≡ false

abbrev pub IsCopyFault : {F : Type 0} → Takes → Opens → Stayed → Compared → List ℕ → CopyFault F → Type 0
IsCopyFault takes opens stayed compared name (Refused fault) = Unit {0}
IsCopyFault takes opens stayed compared name (Audit fault) = IsAuditRefusal takes opens stayed compared name fault
IsCopyFault takes opens stayed compared name (Early first) = IsEarly takes opens stayed compared name first
IsCopyFault takes opens stayed compared name (Untold first) = IsUntold takes opens stayed compared name first

-- ---- answers

abbrev pub Answer : Type 0 → Type 0
Answer F = Result OnDisk (CopyFault F)

abbrev pub IsAnswer : {F : Type 0} → Takes → Opens → Stayed → Compared → List ℕ → Answer F → Type 0
IsAnswer takes opens stayed compared name (Ok found) = IsTellable takes opens stayed compared name found
IsAnswer takes opens stayed compared name (Err fault) = IsCopyFault takes opens stayed compared name fault

abbrev pub verdict_on : List Untrue → Verdict
verdict_on [] = verdicts.True
verdict_on (u ∷ us) = verdicts.Untrue

abbrev pub verdict_of : {F : Type 0} → Answer F → Verdict
verdict_of (Ok found) = verdict_on found.audited.untrue.items
verdict_of (Err fault) = verdicts.Refused

-- a refused copy has no line
abbrev pub answer_text : {F : Type 0} → List ℕ → Answer F → List ℕ
answer_text name (Ok found) =
    checked_text name found.audited.copy found.audited.untrue.items (seen_left_out found.audited.left_out) (found.any_uuid, found.untold_root)
answer_text name (Err fault) = []

-- what was passed over of a copy
abbrev pub passed_over : {F : Type 0} → List ℕ → Answer F → Heard F
passed_over name (Ok found) = of_notes name found.notes
passed_over name (Err fault) = []

abbrev pub unanswered : {F : Type 0} → List ℕ → TellFault F → Heard F
unanswered name fault = (name, Unanswered fault) ∷ []

abbrev pub notices_of : {F : Type 0} → List ℕ → Answer F → Heard F
notices_of name (Ok found) = of_notes name found.notes
notices_of name (Err fault) = unanswered name (faults.Copy fault)

-- words are answered in their order: these are all lines, all notices, and the worst of the verdicts
pub record Answered (F : Type 0) (words : List (List ℕ)) (answers : List (List ℕ × Answer F)) (verdict : Verdict) (text : List ℕ) (heard : Heard F)
    : Type 0 where
  pub in_order : map (λ a. a.0) answers ≡ words
  pub lines : text ≡ flat_map (λ a. answer_text a.0 a.1) answers
  pub notices : heard ≡ flat_map (λ a. notices_of a.0 a.1) answers
  pub worst_of_all : verdict ≡ worst (map (λ a. verdict_of a.1) answers)

pub record Checks (F : Type 0) (opens : Opens) (stayed : Stayed) (compared : Compared) (words : List (List ℕ)) (verdict : Verdict)
    (text : List ℕ) (heard : Heard F) : Type 0 where
  pub answers : List (List ℕ × Answer F)
  pub answered : Answered F words answers verdict text heard
  pub each : AllByRecursion (λ a. IsAnswer Sparse opens stayed compared a.0 a.1) answers

-- ---- what is asked of one copy

-- what is asked of the copy that was found, which may have to be true
pub record IsTold (compared : Compared) (inquiry : Inquiry) (found : OnDisk) (text : List ℕ) : Type 0 where
  pub allowed : inquiry.allow_untrue ≡ false → found.audited.untrue.items ≡ []
  pub answer : IsToldText compared.history found.audited.copy found.entry inquiry.topic text

abbrev pub IsToldOf : {F : Type 0} → Compared → Inquiry → Answer F → List ℕ → Type 0
IsToldOf compared inquiry (Ok found) text = IsTold compared inquiry found text
IsToldOf compared inquiry (Err fault) text = ⊥

-- the first of the untrue paths that keep a copy from being answered of
pub record IsFirstUntrue (inquiry : Inquiry) (all : List Untrue) (untrue : Untrue) : Type 0 where
  pub not_allowed : inquiry.allow_untrue ≡ false
  pub rest : List Untrue
  pub first : all ≡ untrue ∷ rest

-- what is asked of a copy that may be answered of is refused
pub record IsTopicRefusal (compared : Compared) (inquiry : Inquiry) (found : OnDisk) (fault : TopicFault) : Type 0 where
  pub allowed : inquiry.allow_untrue ≡ false → found.audited.untrue.items ≡ []
  pub why : IsToldFault compared.history found.audited.copy found.entry inquiry.topic fault

-- why nothing is told of what was found
abbrev pub IsTellFault : {F : Type 0} → Compared → Inquiry → Answer F → TellFault F → Type 0
IsTellFault compared inquiry (Err fault) e = e ≡ faults.Copy fault
IsTellFault compared inquiry (Ok found) (faults.Copy fault) = ⊥
IsTellFault compared inquiry (Ok found) (faults.Untrue untrue) = IsFirstUntrue inquiry found.audited.untrue.items untrue
IsTellFault compared inquiry (Ok found) (faults.Topic fault) = IsTopicRefusal compared inquiry found fault

-- it is told, or refused for a reason that is reported, and then nothing is written
abbrev pub TellsOf : {F : Type 0} → Compared → Inquiry → List ℕ → Answer F → Verdict → List ℕ → Heard F → Type 0
TellsOf compared inquiry name found verdicts.True text heard = IsToldOf compared inquiry found text × (heard ≡ passed_over name found)
TellsOf compared inquiry name found verdicts.Untrue text heard = ⊥
TellsOf {F} compared inquiry name found verdicts.Refused text heard =
    (fault : TellFault F) × IsTellFault compared inquiry found fault × (text ≡ []) × (heard ≡ passed_over name found ++ unanswered name fault)

pub record Tells (F : Type 0) (opens : Opens) (stayed : Stayed) (compared : Compared) (inquiry : Inquiry) (name : List ℕ) (verdict : Verdict)
    (text : List ℕ) (heard : Heard F) : Type 0 where
  pub found : Answer F
  pub is : IsAnswer Whole opens stayed compared name found
  pub told : TellsOf compared inquiry name found verdict text heard
