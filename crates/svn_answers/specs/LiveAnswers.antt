-- What a server says of the copies that a check names.
--     IsLiveCopy opens stayed uuid word found      a word opened a copy that stayed as it was, of this repository where one is given
--     IsLiveCopyFault opens stayed word fault      why the copy of a word isn't read: where that is said of its bytes, it stayed as it was
--     IsConnected url old origin at      the connection on which a copy is asked about: the one that there is, or one on which nothing came
--     IsLiveAnswer .. word answer old new      a word's copy is refused; or it was asked about, and what it printed follows from the answers that came
--     LiveChecks .. words verdict text heard old new      each word was answered so, in their order, with these lines and notices, and the worst verdict
use Rattle.std.specs.Prelude.{◌≡◌, ℕ, false, List, [], ◌∷◌, Option, Some, None, option_map, unwrap_or, Ok, Err}
use Rattle.svn_types.specs.Names.{Path}
use Rattle.svn_model.specs.Nodes.{get_in}
use Rattle.svn_wcdb.specs.declared.base_tree.Origin.{Origin}
use Rattle.svn_wcdb.specs.declared.depth.Takes.TheVariants.{Whole}
use Rattle.svn_wcdb.specs.Sparse.{seen_left_out, nothing_left_out}
use Rattle.svn_dump.specs.declared.sections.Texts.TheVariants.{Md5}
use Rattle.svn_disk_audit.specs.declared.auditing.DiskCopy.{DiskCopy}
use Rattle.svn_disk_audit.specs.declared.fault.AuditFault.{AuditFault}
use Rattle.svn_disk_audit.specs.Pristine.{Store}
use Rattle.svn_disk_audit.specs.Audits.{IsCopyOf, IsAccepted, IsAuditFault, IsFrom}
use Rattle.svn_disk_audit.specs.Repositories.{IsOfRepository}
use Rattle.svn_ask.specs.declared.opening.Speaker.{Speaker}
use Rattle.svn_live_audit.specs.Conversations.{Audits, unheard}
use Rattle.svn_answers.specs.declared.live.Connected.{Connected}
use Rattle.svn_answers.specs.declared.fault.CopyFault.{CopyFault}
use Rattle.svn_answers.specs.declared.fault.CopyFault.TheVariants.{Refused, Audit, Early, Untold}
use Rattle.svn_answers.specs.declared.asked.OnDisk.{OnDisk}
use Rattle.svn_answers.specs.declared.verdict.Verdict.{Verdict}
use Rattle.svn_answers.specs.Answers.{Answer, Answered, Opens, Stayed}
use Rattle.svn_answers.specs.LiveUrls.{server_url}
use Rattle.svn_answers.specs.Notices.{Heard}

-- ---- copies

pub record IsLiveCopy (opens : Opens) (stayed : Stayed) (uuid : Option (List ℕ)) (name : List ℕ) (found : DiskCopy) : Type 0 where
  pub database : List ℕ
  pub below : Path
  pub store : Store
  pub opened : opens name database below store
  pub same : stayed name database
  pub of_repository : IsAccepted Whole (IsOfRepository uuid) database below
  pub copy : IsCopyOf Whole Md5 store database below found.copy
  pub beside : IsAccepted Whole (IsFrom found.origin found.notes) database below
  -- it is a whole copy
  pub left_out : seen_left_out found.left_out ≡ nothing_left_out

pub record IsLiveRefusal {F : Type 0} (opens : Opens) (stayed : Stayed) (name : List ℕ) (fault : AuditFault F) : Type 0 where
  pub database : List ℕ
  pub below : Path
  pub store : Store
  pub opened : opens name database below store
  pub same : stayed name database
  pub why : IsAuditFault Whole Md5 store database below fault

abbrev pub IsLiveCopyFault : {F : Type 0} → Opens → Stayed → List ℕ → CopyFault F → Type 0
IsLiveCopyFault opens stayed name (Refused fault) = Unit {0}
IsLiveCopyFault opens stayed name (Audit fault) = IsLiveRefusal opens stayed name fault
IsLiveCopyFault opens stayed name (Early first) = ⊥
IsLiveCopyFault opens stayed name (Untold first) = ⊥

-- ---- a server

-- the repository that is asked for must be that of the first copy
pub record IsNewLine {I O : Type 0} (url : Option (List ℕ)) (origin : Origin) (at : Connected I O) : Type 0 where
  pub speaker : Speaker
  pub nothing_came : at.link.asking ≡ Some (unheard speaker)
  pub of_copy : speaker.uuid ≡ origin.uuid
  pub asks_for : speaker.url ≡ unwrap_or url (server_url origin.url)
  pub uuid : at.uuid ≡ origin.uuid

abbrev pub IsConnected : {I O : Type 0} → Option (List ℕ) → Option (Connected I O) → Origin → Connected I O → Type 0
IsConnected url None origin at = IsNewLine url origin at
IsConnected url (Some line) origin at = at ≡ line

module _ {I O : Type 0} (remaining : I → Option (List ℕ)) (url : Option (List ℕ)) where
  -- a copy that was read is asked about, and by the answers that came these are all its untrue paths
  pub record AsksAbout (read : DiskCopy) (found : OnDisk) (old new : Option (Connected I O)) : Type 0 where
    pub at : Connected I O
    pub connected : IsConnected url old read.origin at
    pub after : Connected I O
    pub stays : new ≡ Some after
    pub same : after.uuid ≡ at.uuid
    pub copy : found.audited.copy ≡ read.copy
    pub notes : found.notes ≡ Some read.notes
    pub left_out : found.audited.left_out ≡ read.left_out
    pub uuid : found.any_uuid ≡ false
    pub told : found.untold_root ≡ false
    pub audit : Audits remaining at.link.ends.input at.link.asking (get_in read.copy) read.copy after.link.ends.input after.link.asking
        found.audited.untrue.items

module _ {I O : Type 0} (remaining : I → Option (List ℕ)) (F : Type 0) (opens : Opens) (stayed : Stayed) (url : Option (List ℕ)) where
  pub record IsAskedAbout (name : List ℕ) (found : OnDisk) (old new : Option (Connected I O)) : Type 0 where
    pub read : DiskCopy
    -- of the repository that is asked for, by its UUID
    pub copy : IsLiveCopy opens stayed (option_map (λ (line : Connected I O). line.uuid) old) name read
    pub asked : AsksAbout remaining url read found old new

  abbrev pub IsLiveAnswer : List ℕ → Answer F → Option (Connected I O) → Option (Connected I O) → Type 0
  IsLiveAnswer name (Ok found) old new = IsAskedAbout name found old new
  IsLiveAnswer name (Err fault) old new = (new ≡ old) × IsLiveCopyFault opens stayed name fault

  -- one after the other
  abbrev pub AreLiveAnswers : List (List ℕ × Answer F) → Option (Connected I O) → Option (Connected I O) → Type 0
  AreLiveAnswers [] old new = new ≡ old
  AreLiveAnswers (a ∷ answers) old new = (mid : Option (Connected I O)) × IsLiveAnswer a.0 a.1 old mid × AreLiveAnswers answers mid new

  pub record LiveChecks (words : List (List ℕ)) (verdict : Verdict) (text : List ℕ) (heard : Heard F) (old new : Option (Connected I O)) : Type 0 where
    pub answers : List (List ℕ × Answer F)
    pub answered : Answered F words answers verdict text heard
    pub each : AreLiveAnswers answers old new
