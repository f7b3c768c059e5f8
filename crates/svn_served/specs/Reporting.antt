-- A report as it comes, command by command.
--     begun w      before the first command
--     report_step s session state name fields      after a command that isn't the last
--     finished h state      what is reported, once the last command comes
use Rattle.std.specs.Prelude.{◌≡◌, ℕ, ◌+◌, Bool, false, ◌&&◌, List, [], ◌∷◌, codes, bytes_eq, length, nat_le, is_none, Option, Some, None, Result, Ok, Err, MatchResult, ◌⊎◌, if◌then◌else◌}
use Rattle.svn_types.specs.declared.fault.PathFault.{PathFault}
use Rattle.svn_types.specs.Names.{Path}
use Rattle.svn_types.specs.NameFaults.{count_fault}
use Rattle.svn_repo.specs.History.{History, look}
use Rattle.svn_report.specs.declared.entry.ReportEntry.{ReportEntry}
use Rattle.svn_report.specs.declared.entry.ReportEntry.TheVariants.{SetPath, LinkPath, DeletePath}
use Rattle.svn_report.specs.declared.reporter_fault.ReporterFault.{ReporterFault}
use Rattle.svn_report.specs.declared.reporter_fault.ReporterFault.TheVariants as reporter
use Rattle.svn_report.specs.Reports.{ReportView, reporter_fault, with_entry}
use Rattle.svn_wire.specs.declared.token.Token.{Token}
use Rattle.svn_wire.specs.Fields.{set_path_of, text_field}
use Rattle.svn_replies.specs.declared.fault.Refused.{Refused}
use Rattle.svn_replies.specs.declared.fault.Refused.TheVariants as refused
use Rattle.svn_served.specs.declared.reporting.Reporting.{Reporting}
use Rattle.svn_replies.specs.declared.session.Session.{Session}
use Rattle.svn_served.specs.declared.wanted.Entry.{Entry}
use Rattle.svn_served.specs.declared.wanted.Wanted.{Wanted}
use Rattle.svn_served.specs.CommandFields.{link_fields}
use Rattle.svn_replies.specs.Named.{latest, path_named, url_named}
use Rattle.svn_replies.specs.Refusals.{Reason, fails, malformed, needed, refusal_code, Fails, ◌>>=◌}

-- what is left is what reading gives, unless memory ran out
abbrev pub Becomes : Result (Unit {0}) Refused → Reporting → Result Reporting Reason → Type 0
Becomes (Ok done) new read = read ≡ Ok new
Becomes (Err e) new read = Fails e read

-- ---- entries

-- a reporter's refusal as the client is told it
abbrev pub IsRefusal : ReporterFault → Refused → Type 0
IsRefusal reporter.Memory e = e ≡ refused.Memory
IsRefusal _ e = refusal_code e ≡ Some 165004

abbrev pub IsAccepted : Result (Unit {0}) ReporterFault → Result (Unit {0}) Refused → Type 0
IsAccepted (Ok done) result = MatchResult result (λ _. Unit {0}) (λ _. ⊥)
IsAccepted (Err fault) result = MatchResult result (λ _. ⊥) (λ e. (e ≡ refused.Memory) ⊎ IsRefusal fault e)

abbrev pub accepted : Option ReporterFault → Reporting → Result Reporting Reason
accepted None state = Ok state
accepted (Some fault) state = Err (fails 165004)

-- with one more entry, if the order of entries allows it
abbrev pub added : Reporting → Path → ReportEntry → Result Reporting Reason
added state path entry =
    accepted (reporter_fault state.reporter.entries path entry)
    (record { wanted = state.wanted; reporter = with_entry state.reporter path entry; own = state.own })

abbrev pub with_own : Reporting → Option ReportEntry → Reporting
with_own state own = record { wanted = state.wanted; reporter = state.reporter; own = own }

-- without entries; where one entry is wanted, of a client whose directory is as the target
abbrev pub begun_by : Option Entry → Reporting → Result Reporting Reason
begun_by None state = Ok state
begun_by (Some entry) state = added state [] (SetPath state.wanted.request.target false)

abbrev pub unbegun : Wanted → Path → Reporting
unbegun w root = record { wanted = w; reporter = record { root = root; entries = [] }; own = None }

abbrev pub begun : Wanted → Result Reporting Reason
begun w = begun_by w.entry (unbegun w w.root)

-- ---- the one entry

-- a client that hasn't the entry says that it is there at revision 0, and then that it isn't
abbrev pub is_absent : History → Path → ℕ → Bool
is_absent h at rev = nat_le rev (latest h) && is_none (look h rev at)

-- what a client has there, where it doesn't say at which path of the repository
abbrev pub own_entry : History → Path → ReportEntry → Option ReportEntry
own_entry h at (SetPath rev empty) = if is_absent h at rev then None else Some (LinkPath at rev empty)
own_entry h at (LinkPath path rev empty) = Some (LinkPath path rev empty)
own_entry h at DeletePath = Some DeletePath

abbrev pub own_added : Reporting → Path → Option ReportEntry → Result Reporting Reason
own_added state path None = Ok state
own_added state path (Some entry) = added state path entry

abbrev pub own_told : History → Reporting → Option ReportEntry → Option Entry → Result Reporting Reason
own_told h state None entry = Ok state
own_told h state (Some own) None = Ok state
own_told h state (Some own) (Some entry) = own_added state (entry.reported ∷ []) (own_entry h entry.at own)

-- what was said of the one entry is said
abbrev pub settled : History → Reporting → Result Reporting Reason
settled h state = own_told h (with_own state None) state.own state.wanted.entry

abbrev pub short_enough : Option PathFault → Path → Result Path Reason
short_enough None path = Ok path
short_enough (Some fault) path = Err malformed

abbrev pub below_entry : History → Reporting → Option PathFault → Path → ReportEntry → Result Reporting Reason
below_entry h state fault path entry = short_enough fault path >>= λ p. settled h state >>= λ next. added next p entry

abbrev pub taken_by : History → Reporting → Option Entry → Path → ReportEntry → Result Reporting Reason
taken_by h state None path entry = added state path entry
taken_by h state (Some one) [] entry = Ok (with_own state (Some entry))
taken_by h state (Some one) (name ∷ path) entry =
    below_entry h state (count_fault (length (one.reported ∷ []) + length (name ∷ path))) (one.reported ∷ name ∷ path) entry

-- what is said of a path of the client
abbrev pub taken : History → Reporting → Path → ReportEntry → Result Reporting Reason
taken h state path entry = taken_by h state state.wanted.entry path entry

-- ---- commands

unfoldable pub set_path : History → Reporting → List Token → Result Reporting Reason
set_path h state fields = do
  asked ← needed (set_path_of fields)
  path ← path_named asked.0
  taken h state path (SetPath asked.1 asked.2)

unfoldable pub link_path : History → Session → Reporting → List Token → Result Reporting Reason
link_path h session state fields = do
  asked ← needed (link_fields fields)
  path ← path_named asked.0
  target ← url_named session.url asked.1
  taken h state path (LinkPath target asked.2 asked.3)

unfoldable pub delete_path : History → Reporting → List Token → Result Reporting Reason
delete_path h state fields = do
  asked ← needed (text_field fields)
  path ← path_named asked.0
  taken h state path DeletePath

abbrev pub report_step : History → Session → Reporting → List ℕ → List Token → Result Reporting Reason
report_step h session state name fields =
    if bytes_eq name (codes "set-path") then set_path h state fields
    else if bytes_eq name (codes "link-path") then link_path h session state fields
    else if bytes_eq name (codes "delete-path") then delete_path h state fields
    else Err malformed

abbrev pub finished : History → Reporting → Result (Wanted × ReportView) Reason
finished h state = settled h state >>= λ next. Ok (next.wanted, next.reporter)
