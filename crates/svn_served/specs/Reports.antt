-- What comes of a report.
--     IsReportAnswer s reported driven bytes      what is written after its last command
--     Reports s session state item phase bytes      the same of any command of it
use Rattle.std.specs.Prelude.{◌≡◌, ℕ, List, [], ◌++◌, codes, bytes_eq, Option, Some, None, Result, Ok, Err, MatchBool}
use Rattle.svn_repo.specs.History.{History}
use Rattle.svn_report.specs.Reports.{ReportView}
use Rattle.svn_wire.specs.declared.token.Token.{Token}
use Rattle.svn_wire.specs.Fields.{command_of}
use Rattle.svn_served.specs.declared.connection.Phase.{Phase}
use Rattle.svn_served.specs.declared.connection.Phase.TheVariants.{Ready, Reporting as Reported, Driven as Took}
use Rattle.svn_served.specs.declared.driving.Driven.{Driven}
use Rattle.svn_served.specs.declared.driving.Driven.TheVariants.{Whole, Failed}
use Rattle.svn_replies.specs.declared.fault.Refused.{Refused}
use Rattle.svn_served.specs.declared.reporting.Reporting.{Reporting}
use Rattle.svn_replies.specs.declared.served.Served.{Served}
use Rattle.svn_replies.specs.declared.session.Session.{Session}
use Rattle.svn_served.specs.declared.wanted.Wanted.{Wanted}
use Rattle.svn_replies.specs.Answers.{success, failure, no_mechanism}
use Rattle.svn_served.specs.Drives.{wanted_drive, tested, IsDrive}
use Rattle.svn_replies.specs.Refusals.{Reason, fails, malformed, as_read, Gives, ◌>>=◌}
use Rattle.svn_served.specs.Reporting.{report_step, finished}

-- what is reported, if it can be served
abbrev pub reported : History → Result Reporting Reason → Result (Wanted × ReportView) Reason
reported h state = state >>= λ r. finished h r >>= λ x. tested h x.1 >>= λ done. Ok x

abbrev pub step : History → Session → Result Reporting Reason → List ℕ → List Token → Result Reporting Reason
step h session state name fields = state >>= λ r. report_step h session r name fields

-- after a drive the client says how it took it, and after a failure it doesn't
abbrev pub after_drive : Session → Driven → Phase
after_drive session Whole = Took session
after_drive session Failed = Ready session

-- what is written after the last command: the drive; or why it can't be served
abbrev pub IsReportAnswer : Served → Result (Wanted × ReportView) Reason → Driven → List ℕ → Type 0
IsReportAnswer s (Ok x) driven bytes = (sent : List ℕ) × IsDrive (wanted_drive s x.0 x.1) driven sent × (bytes ≡ no_mechanism ++ sent)
IsReportAnswer s (Err (fails code)) driven bytes = (message : List ℕ) × (driven ≡ Failed) × (bytes ≡ no_mechanism ++ failure code message)
IsReportAnswer s (Err malformed) driven bytes = ⊥

abbrev pub Ends : Served → Session → Result (Wanted × ReportView) Reason → Phase → List ℕ → Type 0
Ends s session read phase bytes = (driven : Driven) × IsReportAnswer s read driven bytes × (phase ≡ after_drive session driven)

-- a command of the report was taken: its first refusal is kept
abbrev pub Goes : History → Session → Result Reporting Refused → List ℕ → List Token → Phase → List ℕ → Type 0
Goes h session state name fields phase bytes =
    (next : Result Reporting Refused) × Gives (λ r. r) next (step h session (as_read state) name fields) × (phase ≡ Reported session next)
    × (bytes ≡ [])

abbrev pub ReportsBy : Served → Session → Result Reporting Refused → Option (List ℕ × List Token) → Phase → List ℕ → Type 0
ReportsBy s session state None phase bytes = ⊥
ReportsBy s session state (Some c) phase bytes =
    MatchBool (bytes_eq c.0 (codes "finish-report")) (Ends s session (reported s.repo (as_read state)) phase bytes)
    (MatchBool (bytes_eq c.0 (codes "abort-report")) ((phase ≡ Ready session) × (bytes ≡ success [])) (Goes s.repo session state c.0 c.1 phase bytes))

abbrev pub Reports : Served → Session → Result Reporting Refused → List Token → Phase → List ℕ → Type 0
Reports s session state item phase bytes = ReportsBy s session state (command_of item) phase bytes
