-- What is written after a report.
use Rattle.std.proofs.Common.{◌≡◌, ℕ, Bool, true, false, true≢false, ◌&&◌, not, List, [], ◌∷◌, ◌++◌, append-nil, codes, bytes_eq, Option, Some, None, Result, Ok, Err, refl, sym, ap, ◌∙◌, subst, MatchBool}
use Rattle.std.specs.Io.KnownBytes.{Appends}
use Rattle.std.proofs.KnownBytes.{Appends-trans}
use Rattle.svn_report.specs.Reports.{ReportView}
use Rattle.svn_wire.specs.declared.token.Token.{Token}
use Rattle.svn_wire.specs.Fields.{command_of}
use Rattle.svn_served.specs.declared.connection.Phase.{Phase}
use Rattle.svn_served.specs.declared.connection.Phase.TheVariants as phases
use Rattle.svn_served.specs.declared.driving.Driven.{Driven}
use Rattle.svn_served.specs.declared.driving.Driven.TheVariants.{Failed}
use Rattle.svn_replies.specs.declared.fault.Refused.{Refused}
use Rattle.svn_replies.specs.declared.fault.Refused.TheVariants as refused
use Rattle.svn_served.specs.declared.reporting.Reporting.{Reporting}
use Rattle.svn_replies.specs.declared.served.Served.{Served}
use Rattle.svn_replies.specs.declared.session.Session.{Session}
use Rattle.svn_served.specs.declared.wanted.Wanted.{Wanted}
use Rattle.svn_replies.specs.Answers.{failure, no_mechanism}
use Rattle.svn_served.specs.Drives.{wanted_drive, IsDrive}
use Rattle.svn_replies.specs.Refusals.{Reason, malformed, as_read, Fails, Gives, IsTold}
use Rattle.svn_served.specs.Reports.{step, reported, Ends, ReportsBy, IsReportAnswer}
use Rattle.svn_served.specs.Connection.{Runs, is_last_named, is_inner_named, is_last, AreInner, step_by, steps, ReportsAreDriven}
use Rattle.svn_served.proofs.Greetings.{other}

-- neither of two tests holds
third : (P Q R : Type 0) (x y : Bool) → (not x && not y) ≡ true → MatchBool x P (MatchBool y Q R) → R
third P Q R true y inner h = absurd (true≢false (sym inner))
third P Q R false true inner h = absurd (true≢false (sym inner))
third P Q R false false inner h = h

module _ (s : Served) (session : Session) where
  -- where memory ran out nothing is answered
  abbrev lost : Result Reporting Reason
  lost = Err malformed

  by_lost : (c : Option (List ℕ × List Token)) → step_by s.repo session lost c ≡ lost
  by_lost None = refl
  by_lost (Some c) = refl

  steps_lost : (items : List (List Token)) → steps s.repo session lost items ≡ lost
  steps_lost [] = refl
  steps_lost (item ∷ items) =
      ap (λ (x : Result Reporting Reason). steps s.repo session x items) (by_lost (command_of item)) ∙ steps_lost items

  never_lost : (items : List (List Token)) (after : Phase) (bytes : List ℕ) → Ends s session (reported s.repo (steps s.repo session lost items)) after bytes → ⊥
  never_lost items after bytes h =
      (subst (λ (x : Result Reporting Reason). Ends s session (reported s.repo x) after bytes) (steps_lost items) h).1

  -- the last command
  last_ends : (state : Result Reporting Refused) (c : Option (List ℕ × List Token)) (after : Phase) (bytes : List ℕ) → is_last_named c ≡ true
      → ReportsBy s session state c after bytes → Ends s session (reported s.repo (as_read state)) after bytes
  last_ends state None after bytes last h = absurd h
  last_ends state (Some c) after bytes last h = rw last at h

  -- another
  inner_goes : (state : Result Reporting Refused) (c : Option (List ℕ × List Token)) (after : Phase) (bytes : List ℕ) → is_inner_named c ≡ true
      → ReportsBy s session state c after bytes
      → (next : Result Reporting Refused) × Gives (λ r. r) next (step_by s.repo session (as_read state) c) × (after ≡ phases.Reporting session next) × (bytes ≡ [])
  inner_goes state None after bytes inner h = absurd h
  inner_goes state (Some c) after bytes inner h = third _ _ _ (bytes_eq c.0 (codes "finish-report")) (bytes_eq c.0 (codes "abort-report")) inner h

  -- what is read of the report is what was kept, unless memory ran out
  kept : (next : Result Reporting Refused) (read : Result Reporting Reason) (items : List (List Token)) (after : Phase) (bytes : List ℕ) → Gives (λ r. r) next read
      → Ends s session (reported s.repo (steps s.repo session (as_read next) items)) after bytes
      → Ends s session (reported s.repo (steps s.repo session read items)) after bytes
  kept (Ok x) read items after bytes g h = rw g h
  kept (Err (refused.Failed failure)) read items after bytes g h = rw g h
  kept (Err refused.BadFields) read items after bytes g h = rw g h
  kept (Err refused.Memory) read items after bytes g h = absurd (never_lost items after bytes h)

  runs_end : (state : Result Reporting Refused) (items : List (List Token)) (last : List Token) (after : Phase) (bytes : List ℕ) → AreInner items
      → is_last last ≡ true → Runs s (phases.Reporting session state) (items ++ last ∷ []) after bytes
      → Ends s session (reported s.repo (steps s.repo session (as_read state) items)) after bytes
  runs_end state [] last after bytes inner is h =
      let one = last_ends state (command_of last) h.0 h.1 is h.3 in
      let all : bytes ≡ h.1 = h.5 ∙ ap (λ (l : List ℕ). h.1 ++ l) h.4.1 ∙ append-nil h.1 in
      rw (all, h.4.0) one
  runs_end state (item ∷ items) last after bytes inner is h =
      let one = inner_goes state (command_of item) h.0 h.1 inner.0 h.3 in
      let more = subst (λ (p : Phase). Runs s p (items ++ last ∷ []) after h.2) one.2 h.4 in
      let all : bytes ≡ h.2 = h.5 ∙ ap (λ (l : List ℕ). l ++ h.2) one.3 in
      kept one.0 (step_by s.repo session (as_read state) (command_of item)) items after bytes one.1
      (rw all (runs_end one.0 items last after h.2 inner.1 is more))

pub reports_are_driven : ReportsAreDriven
reports_are_driven s session state items last after bytes inner is h = runs_end s session state items last after bytes inner is h

-- ---- the last command

-- what is written before it is known what comes
pub at_first : (none out shown : List ℕ) → none ≡ [] → out ≡ none ++ no_mechanism → shown ≡ out → shown ≡ no_mechanism
at_first none out shown empty first same = same ∙ first ∙ ap (λ (l : List ℕ). l ++ no_mechanism) empty

pub answers_drive : (s : Served) (read : Result (Wanted × ReportView) Reason) (x : Wanted × ReportView) (driven : Driven) (sent : List ℕ)
    (a b c : Option (List ℕ)) → read ≡ Ok x → IsDrive (wanted_drive s x.0 x.1) driven sent → Appends a b no_mechanism → Appends b c sent
    → (bytes : List ℕ) × IsReportAnswer s read driven bytes × Appends a c bytes
answers_drive s read x driven sent a b c is drive first more =
    subst (λ (r : Result (Wanted × ReportView) Reason). (bytes : List ℕ) × IsReportAnswer s r driven bytes × Appends a c bytes) (sym is)
    (no_mechanism ++ sent, (sent, drive, refl), Appends-trans a b c no_mechanism sent first more)

pub answers_failure : (s : Served) (read : Result (Wanted × ReportView) Reason) (e : Refused) (out new : List ℕ) (a c : Option (List ℕ)) → Fails e read
    → out ≡ no_mechanism → IsTold e out new → Appends a c new → (bytes : List ℕ) × IsReportAnswer s read Failed bytes × Appends a c bytes
answers_failure s read (refused.Failed f) out new a c is first told written =
    subst (λ (r : Result (Wanted × ReportView) Reason). (bytes : List ℕ) × IsReportAnswer s r Failed bytes × Appends a c bytes) (sym is)
    (new, (f.message, refl, told ∙ ap (λ (l : List ℕ). l ++ failure f.code f.message) first), written)
answers_failure s read refused.BadFields out new a c is first told written = absurd told
answers_failure s read refused.Memory out new a c is first told written = absurd told

-- ---- what comes of a command of a report

module _ (s : Served) (session : Session) (state : Result Reporting Refused) (c : Option (List ℕ × List Token)) (name : List ℕ) (fields : List Token)
    (is : Some (name, fields) ≡ c) where
  reports_so : (after : Phase) (bytes : List ℕ) → ReportsBy s session state (Some (name, fields)) after bytes → ReportsBy s session state c after bytes
  reports_so after bytes h = subst (λ (x : Option (List ℕ × List Token)). ReportsBy s session state x after bytes) is h

  pub goes_on : bytes_eq name (codes "finish-report") ≡ false → bytes_eq name (codes "abort-report") ≡ false → (next : Result Reporting Refused)
      → Gives (λ r. r) next (step s.repo session (as_read state) name fields) → ReportsBy s session state c (phases.Reporting session next) []
  goes_on inner stays next h =
      reports_so (phases.Reporting session next) []
      (other (bytes_eq name (codes "finish-report")) _ _ inner (other (bytes_eq name (codes "abort-report")) _ _ stays (next, h, refl, refl)))
