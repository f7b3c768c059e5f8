-- Histories, loaded from dumps.
--     IsReady remaining limits texts input loader      a loader of a dump that was given nothing but the first record
--     IsLoaded limits texts input loaded      the history of the bytes of a dump, where these are known, and what they say before their first revision
--     IsRefusalOf loader refusal      what a loader refused, and where
--     IsDumpRefusal limits texts input refusal      why the bytes of a dump, where these are known, aren't loaded, and where the record is that is refused
use Rattle.std.specs.Prelude.{◌≡◌, ℕ, ◌+◌, ◌<◌, ◌^◌, false, List, length, Option, Some, None, Result, Ok, MatchOption, codes}
use Rattle.svn_repo.specs.History.{History, new_history}
use Rattle.svn_dump.specs.declared.fault.DumpFault.{DumpFault}
use Rattle.svn_dump.specs.declared.sections.Limits.{Limits}
use Rattle.svn_dump.specs.declared.sections.Texts.{Texts}
use Rattle.svn_dump.specs.Headers.{header_value, if_once}
use Rattle.svn_dump.specs.Reading.{Fails}
use Rattle.svn_dump.specs.Records.{format_at}
use Rattle.svn_history.specs.Loading.{LoadsDump}
use Rattle.svn_history.specs.Fronts.{HasFront, uuid_at}
use Rattle.svn_history.specs.Steps.{draft_of, begun}
use Rattle.svn_history.specs.Results.{of_dump}
use Rattle.svn_history.specs.Parts.{Loading, RefusesAll}
use Rattle.svn_history.specs.declared.fault.LoadFault.{LoadFault}
use Rattle.svn_history.specs.declared.fault.LoadFault.TheVariants.{Memory}
use Rattle.svn_history.specs.declared.loader.Loader.{Loader}
use Rattle.svn_dump.specs.declared.fault.Reason.{Reason}
use Rattle.svn_dump.specs.Blocks.{block_at}
use Rattle.svn_dump.specs.Counts.{Counts}
use Rattle.svn_dump.specs.Readers.{left_in, headers_len, found_headers, after_headers, Shows}
use Rattle.svn_answers.specs.declared.loaded.DumpRefusal.{DumpRefusal}
use Rattle.svn_answers.specs.declared.loaded.Loaded.{Loaded}

-- the first record gives the format, and these bytes come after it
abbrev pub BeginsDump : Limits → List ℕ → Option (List ℕ) → Type 0
BeginsDump limits bytes left = MatchOption left ⊥ (λ rest. (format : ℕ) × (format_at limits bytes ≡ Ok (format, rest)))

pub record IsReady {R : Type 0} (remaining : R → Option (List ℕ)) (limits : Limits) (texts : Texts) (input : Option (List ℕ)) (loader : Loader R)
    : Type 0 where
  pub limits_are : loader.records.limits ≡ limits
  pub texts_are : loader.records.texts ≡ texts
  pub fresh : draft_of loader.transaction ≡ begun new_history
  pub no_rev : loader.rev ≡ None
  pub no_uuid : loader.front.uuid ≡ None
  pub no_first : loader.front.first ≡ None
  pub begins : MatchOption input (Unit {0}) (λ bytes. BeginsDump limits bytes (left_in remaining loader.records))
  pub shown : Shows limits 0 input loader.records.begun loader.records.block.items
  pub counted : Counts 0 input loader.records.source.taken (left_in remaining loader.records)

abbrev pub HasFrontAfter : Limits → Texts → List ℕ → Loaded → Option (List ℕ) → Type 0
HasFrontAfter limits texts bytes loaded left =
    MatchOption left (Unit {0}) (λ rest. HasFront limits texts (uuid_at limits bytes) rest loaded.uuid loaded.first)

pub record IsLoaded (limits : Limits) (texts : Texts) (input : Option (List ℕ)) (loaded : Loaded) : Type 0 where
  pub left : Option (List ℕ)
  pub begins : MatchOption input (Unit {0}) (λ bytes. BeginsDump limits bytes left)
  pub history : LoadsDump limits texts left new_history loaded.repo
  pub front : MatchOption input (Unit {0}) (λ bytes. HasFrontAfter limits texts bytes loaded left)

-- ---- refusals

-- at no record
pub record IsAtFront (refusal : DumpRefusal) (fault : LoadFault) : Type 0 where
  pub byte : refusal.byte ≡ 0
  pub no_rev : refusal.rev ≡ None
  pub no_path : refusal.path ≡ None
  pub fault_is : refusal.fault ≡ fault

-- the record that was read last, as far as the loader knows of it
pub record IsAtRecord {R : Type 0} (loader : Loader R) (refusal : DumpRefusal) : Type 0 where
  pub byte : refusal.byte ≡ loader.records.begun
  pub rev : refusal.rev ≡ loader.rev
  pub path : refusal.path ≡ if_once (header_value loader.records.block.items (codes "Node-path"))
  pub fault : loader.refused ≡ Some refusal.fault

pub data IsRefusalOf {R : Type 0} (loader : Loader R) (refusal : DumpRefusal) : Type 0 where
  at_record : IsAtRecord loader refusal → IsRefusalOf loader refusal
  out_of_memory : IsAtFront refusal Memory → IsRefusalOf loader refusal

-- the fault of the first record, where it isn't one that no bytes have
pub record IsFrontRefusal (limits : Limits) (input : Option (List ℕ)) (refusal : DumpRefusal) : Type 0 where
  pub fault : DumpFault
  pub at_front : IsAtFront refusal (of_dump fault)
  pub why : MatchOption input (Unit {0}) (λ bytes. Fails fault (format_at limits bytes))

-- what a loader holds that was given nothing but these bytes
abbrev pub from_start : Option (List ℕ) → Loading
from_start left = record { rev = None; draft = begun new_history; left = left }

-- of a dump that a count can measure: so many bytes are before the headers that are found, and the path is theirs; where none are found, so many are
-- before these bytes
abbrev pub IsAtHeaders : Option (List ℕ) → DumpRefusal → List ℕ → Result (List ℕ × List ℕ) Reason → Type 0
IsAtHeaders input refusal bytes found =
    (refusal.path ≡ if_once (header_value (found_headers found) (codes "Node-path")))
    × MatchOption input (Unit {0})
    (λ dump. length dump < 2 ^ 64 → refusal.byte + headers_len (found_headers found) + length (after_headers bytes found) ≡ length dump)

-- the record that is refused is the one with which these bytes begin, read while this revision was the last that began
abbrev pub IsPlace : Limits → Option (List ℕ) → DumpRefusal → Option ℕ → List ℕ → Type 0
IsPlace limits input refusal rev bytes = (refusal.rev ≡ rev) × IsAtHeaders input refusal bytes (block_at false limits.headers bytes)

-- the first fault after the first record, and its place, where it isn't one that no bytes have
pub record IsLaterRefusal (limits : Limits) (texts : Texts) (input : Option (List ℕ)) (refusal : DumpRefusal) : Type 0 where
  pub left : Option (List ℕ)
  pub begins : MatchOption input (Unit {0}) (λ bytes. BeginsDump limits bytes left)
  pub history : History
  pub why : RefusesAll limits texts (IsPlace limits input refusal) (from_start left) refusal.fault history

pub data IsDumpRefusal (limits : Limits) (texts : Texts) (input : Option (List ℕ)) (refusal : DumpRefusal) : Type 0 where
  in_front : IsFrontRefusal limits input refusal → IsDumpRefusal limits texts input refusal
  later : IsLaterRefusal limits texts input refusal → IsDumpRefusal limits texts input refusal
