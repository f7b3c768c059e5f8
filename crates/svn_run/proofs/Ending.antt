-- What a run on two threads came to: from what both sides hand back.
use Rattle.std.proofs.Common.{◌≡◌, ◌≢◌, ℕ, ◌+◌, ◌-◌, ◌<◌, ◌≤◌, Bool, true, false, List, [], ◌∷◌, ◌++◌, length, take, append-nil, refl}
use Rattle.std.proofs.Common.{sym, ap, subst, ◌∙◌, arith, length-append}
use Rattle.std.specs.Prelude.{not, nat_eq, Option, Some, None, IfSome, Result, Ok, Err, if◌then◌else◌}
use Rattle.std.proofs.lemmas.Bool.{eq-eqb, eqb-true, eqb-false, ne_eqb}
use Rattle.std.proofs.lemmas.List.{length-take-le}
use Rattle.std.proofs.Math.Seq.{take-length}
use Rattle.md5.specs.Md5.{md5}
use Rattle.svn_lists.proofs.Parts.{take_take_le}
use Rattle.svn_types.specs.Names.{Path}
use Rattle.svn_editor.specs.declared.call.Call.{Call}
use Rattle.svn_editor.specs.declared.call.Call.TheVariants.{AbortEdit}
use Rattle.svn_editor.specs.declared.fault.EditFault.TheVariants as edit
use Rattle.svn_editor.specs.declared.mode.Mode.{Mode}
use Rattle.svn_link.specs.Calls.{is_over}
use Rattle.svn_link.specs.Ends.{LinkEnd, NoticeEnd, Passed}
use Rattle.svn_link.specs.Notice.{IsNoneOrSame}
use Rattle.svn_model.specs.declared.drive_end.DriveEnd.{DriveEnd}
use Rattle.svn_model.specs.declared.drive_end.DriveEnd.TheVariants.{Closed as AllMade, Cancelled as GivenUp}
use Rattle.svn_model.specs.declared.drive_fault.DriveFault.{DriveFault}
use Rattle.svn_model.specs.declared.drive_fault.DriveFault.TheVariants as fault
use Rattle.svn_model.specs.Nodes.{WorkingCopy, get_in}
use Rattle.svn_model.specs.Effects.{after, AllAccepted}
use Rattle.svn_run.specs.declared.driving.Driven.{Driven}
use Rattle.svn_run.specs.declared.taking.Taken.{Taken}
use Rattle.svn_run.specs.declared.outcome.Outcome.{Outcome}
use Rattle.svn_run.specs.declared.outcome.Outcome.TheVariants.{Closed, Aborted}
use Rattle.svn_run.specs.UpdateTheorem.{Nodes, made_in, cause_at, calls_made}
use Rattle.svn_run.specs.Coming.{CameTo}
use Rattle.svn_run.specs.Driven.{IsStopped, IsWhole, StopsOn, SentAs, IsDriven}
use Rattle.svn_run.specs.Finishing.{late_of, threads_outcome, IsFinished}
use Rattle.svn_run.specs.Takes.{unaborted, IsCounted, IsTaken}
use Rattle.svn_run.proofs.Accepting.{accepted_first}
use Rattle.svn_run.proofs.Counting.{AllInner, inner-take, some_within}
use Rattle.svn_run.proofs.Applied.{unaborted-abort}
use Rattle.svn_run.proofs.Causes.{cause_fits}

unaborted_all : (calls : List Call) → AllInner calls → unaborted calls ≡ calls
unaborted_all [] h = refl
unaborted_all (c ∷ calls) h = ap (λ b. if not b then c ∷ unaborted calls else unaborted calls) h.0
    ∙ ap (λ l. c ∷ l) (unaborted_all calls h.1)

-- the calls that were made, where not all of the drive's were
made_part : (drive : List Call) (k : ℕ) → k < length drive → take k drive ++ AbortEdit ∷ [] ≡ calls_made drive k
made_part drive k lt = ap (λ b. take k drive ++ (if b then [] else AbortEdit ∷ [])) (sym (ne_eqb k (length drive) (λ e. omega arith)))

made_whole : (drive : List Call) (n : ℕ) → n ≡ length drive → drive ≡ calls_made drive n
made_whole drive n e =
    sym (ap (λ b. take n drive ++ (if b then [] else AbortEdit ∷ [])) (eq-eqb n (length drive) e) ∙ append-nil (take n drive)
    ∙ ap (λ j. take j drive) e ∙ take-length drive)

module _ (drive : List Call) (all : AllInner drive) (mode : Mode) (limit : Option ℕ) (w0 : WorkingCopy) (left : Nodes) where
  -- the outcome, and the calls that both threads passed
  pub record Came (o : Outcome) (passed : List Call) : Type 0 where
    pub came : CameTo drive mode limit w0 left o
    pub calls : passed ≡ calls_made drive (made_in o)

  module _ (calls : List Call) (number : Option ℕ) (accepted : ℕ) (counted : IsCounted number accepted (length (unaborted calls)))
      (copy : (p : Path) → get_in left p ≡ after mode w0 (take accepted (unaborted calls)) p) where
    abbrev stopped_at : ℕ → Option ℕ → Outcome
    stopped_at made late = Aborted made accepted late (cause_at limit made accepted)

    abbrev picked : Bool → ℕ → Option ℕ → Outcome
    picked b made late = if b then Closed accepted else stopped_at made late

    -- not all were accepted
    not_closed : (made : ℕ) (late : Option ℕ) → accepted < length calls → Came (stopped_at made late) calls
        → Came (picked (nat_eq accepted (length calls)) made late) calls
    not_closed made late lt c = subst (λ b. Came (picked b made late) calls)
        (sym (ne_eqb accepted (length calls) (λ e. omega arith))) c

    -- the number reported is that of the call after the accepted ones, and within those given
    told : (n : ℕ) → number ≡ Some n → (n ≡ accepted + 1) × (accepted < length (unaborted calls))
    told n q = subst (λ o. IsCounted o accepted (length (unaborted calls))) q counted

    bound : accepted ≤ length (unaborted calls)
    bound = by number counted
      where
        by : (o : Option ℕ) → IsCounted o accepted (length (unaborted calls)) → accepted ≤ length (unaborted calls)
        by None h = omega arith
        by (Some n) h = let lt = h.1 in omega arith

    stopped : (k : ℕ) → IsStopped drive limit calls k → (late : Option ℕ) → ((n : ℕ) → late ≡ Some n → number ≡ Some n)
        → Came (picked (nat_eq accepted (length calls)) (length calls - 1) late) calls
    stopped k s late same =
        let inner : unaborted calls ≡ take k drive = ap unaborted s.calls_are ∙ unaborted-abort (take k drive) AbortEdit refl
        ∙ unaborted_all (take k drive) (inner-take k drive all) in
        let part = s.part in
        let short : length (take k drive) ≡ k = length-take-le k drive (omega arith) in
        let given : length (unaborted calls) ≡ k = ap length inner ∙ short in
        let long : length calls ≡ k + 1 = ap length s.calls_are ∙ omega (arith, length-append (take k drive) (AbortEdit ∷ []), short) in
        let made : k ≡ length calls - 1 = omega arith in
        let le = bound in
        not_closed (length calls - 1) late (omega arith)
        (subst (λ j. Came (stopped_at j late) calls) made
        (record {
          came = record {
            copy = λ p. copy p ∙ ap (λ l. after mode w0 l p) (ap (λ l. take accepted l) inner
                ∙ take_take_le accepted k drive (omega arith));
            accepted = omega arith;
            made = omega arith;
            closed = tt;
            aborted = omega arith;
            within = some_within limit k s.within;
            cancelled = cause_fits limit k accepted (length drive) (omega arith);
            cause = refl;
            late = late_fits late same (omega arith);
          };
          calls = s.calls_are ∙ made_part drive k s.part;
        }))
      where
        late_fits : (late : Option ℕ) → ((n : ℕ) → late ≡ Some n → number ≡ Some n) → length (unaborted calls) ≤ k
            → IfSome late (λ n. (n ≡ accepted + 1) × (n ≤ k))
        late_fits None same le = tt
        late_fits (Some n) same le = let t = told n (same n refl) in let e = t.0 in let lt = t.1 in (e, omega arith)

    -- where no number was reported all were accepted, and so the run closed
    whole : (n : ℕ) → IsWhole drive limit calls n → Came (picked (nat_eq accepted (length calls)) (length calls) None) calls
    whole n s =
        let inner : unaborted calls ≡ drive = ap unaborted s.calls_are ∙ unaborted_all drive all in
        let given : length (unaborted calls) ≡ length drive = ap length inner in
        let long : length calls ≡ length drive = ap length s.calls_are in
        let count = s.count in
        let le = bound in
        by (nat_eq accepted (length calls)) refl inner given long count le
      where
        by : (b : Bool) → nat_eq accepted (length calls) ≡ b → unaborted calls ≡ drive → length (unaborted calls) ≡ length drive
            → length calls ≡ length drive → n ≡ length drive → accepted ≤ length (unaborted calls)
            → Came (picked b (length calls) None) calls
        by true q inner given long count le =
            let same : accepted ≡ length calls = eqb-true accepted (length calls) q in
            let all_of_it : accepted ≡ n = omega arith in
            record {
              came = record {
                copy = λ p. copy p ∙ ap (λ l. after mode w0 (take accepted l) p) inner;
                accepted = omega arith;
                made = omega arith;
                closed = omega arith;
                aborted = tt;
                within = subst (λ j. IfSome limit (λ x. j ≤ x)) (sym all_of_it) (some_within limit n s.within);
                cancelled = tt;
                cause = tt;
                late = tt;
              };
              calls = s.calls_are ∙ made_whole drive accepted (omega arith);
            }
        by false q inner given long count le =
            let all_of_it : length calls ≡ n = omega arith in
            let other : accepted ≢ length calls = eqb-false accepted (length calls) q in
            record {
              came = record {
                copy = λ p. copy p ∙ ap (λ l. after mode w0 (take accepted l) p) inner;
                accepted = omega arith;
                made = omega arith;
                closed = tt;
                aborted = omega arith;
                within = subst (λ j. IfSome limit (λ x. j ≤ x)) (sym all_of_it) (some_within limit n s.within);
                cancelled = cause_fits limit (length calls) accepted (length drive) (omega arith);
                cause = refl;
                late = tt;
              };
              calls = s.calls_are ∙ made_whole drive (length calls) long;
            }

    -- the number that stopped the driver was reported
    stops_told : (seen : Option ℕ) (fault : DriveFault) → StopsOn drive limit calls seen fault → IsNoneOrSame seen number → (n : ℕ)
        → late_of (Err fault) ≡ Some n → number ≡ Some n
    stops_told seen (fault.Editor (edit.Late m)) stop same n q = let saw : seen ≡ Some m = stop in
        subst (λ o. IsNoneOrSame o number) saw same ∙ q
    stops_told seen (fault.Editor (edit.Order o)) stop same n q = absurd cc
    stops_told seen (fault.Editor edit.NoEntry) stop same n q = absurd cc
    stops_told seen (fault.Editor edit.WrongKind) stop same n q = absurd cc
    stops_told seen (fault.Editor edit.WrongRevision) stop same n q = absurd cc
    stops_told seen (fault.Editor edit.BaseChecksum) stop same n q = absurd cc
    stops_told seen (fault.Editor edit.TextChecksum) stop same n q = absurd cc
    stops_told seen (fault.Editor edit.Memory) stop same n q = absurd cc
    stops_told seen (fault.Editor edit.EntryExists) stop same n q = absurd cc
    stops_told seen (fault.Editor edit.TooDeep) stop same n q = absurd cc
    stops_told seen (fault.Editor edit.TooLong) stop same n q = absurd cc
    stops_told seen (fault.Editor edit.Stopped) stop same n q = absurd cc
    stops_told seen fault.NoSuchTarget stop same n q = absurd cc
    stops_told seen fault.Memory stop same n q = absurd cc
    stops_told seen fault.Full stop same n q = absurd cc
    stops_told seen fault.NoRoot stop same n q = absurd cc
    stops_told seen fault.OtherRoot stop same n q = absurd cc

    pub comes : (end : Result DriveEnd DriveFault) (seen : Option ℕ) → SentAs drive limit calls seen end → IsNoneOrSame seen number
        → Came (threads_outcome limit end (length calls) accepted) calls
    comes (Ok (AllMade n)) seen sent same = whole n sent
    comes (Ok (GivenUp k)) seen sent same = stopped k sent.1 None (λ n e. absurd cc)
    comes (Err e) seen sent same = stopped sent.0.0 sent.0.1 (late_of (Err e)) (stops_told seen e sent.1 same)

module _ (drive : List Call) (all : AllInner drive) (mode : Mode) (limit : Option ℕ) (w0 : WorkingCopy)
    (accept : AllAccepted md5 mode w0 drive) (calls : List Call) where
  stopped_accepted : (k : ℕ) → IsStopped drive limit calls k → AllAccepted md5 mode w0 (unaborted calls)
  stopped_accepted k s =
      let inner : unaborted calls ≡ take k drive = ap unaborted s.calls_are ∙ unaborted-abort (take k drive) AbortEdit refl
      ∙ unaborted_all (take k drive) (inner-take k drive all) in
      subst (AllAccepted md5 mode w0) (sym inner) (accepted_first mode k [] w0 drive accept)

  -- the calls that were sent are accepted
  sent_accepted : (end : Result DriveEnd DriveFault) (seen : Option ℕ) → SentAs drive limit calls seen end
      → AllAccepted md5 mode w0 (unaborted calls)
  sent_accepted (Ok (AllMade n)) seen sent =
      subst (AllAccepted md5 mode w0) (sym (ap unaborted sent.calls_are ∙ unaborted_all drive all)) accept
  sent_accepted (Ok (GivenUp k)) seen sent = stopped_accepted k sent.1
  sent_accepted (Err e) seen sent = stopped_accepted sent.0.0 sent.0.1

-- the calls that were sent are those that were taken, and what the carrier made of them is reported
pub finished : (drive : List Call) (all : AllInner drive) (mode : Mode) (limit : Option ℕ) (w0 : WorkingCopy)
    → AllAccepted md5 mode w0 drive
    → (left : Nodes) (o : LinkEnd) (w : NoticeEnd) (i : LinkEnd) (n : NoticeEnd) (d : Driven) (u : Taken) (outcome : Outcome) (passed : Passed)
    → IsDriven drive limit o w d → IsTaken mode w0 i n u left → IsFinished limit d u outcome passed
    → CameTo drive mode limit w0 left outcome × (passed.sent ≡ calls_made drive (made_in outcome))
    × (passed.taken ≡ calls_made drive (made_in outcome))
finished drive all mode limit w0 accept left o w i n d u outcome passed driven taken f =
    let same : u.inbox.calls ≡ d.outbox.calls = sym f.taken ∙ f.whole ∙ f.sent in
    let sent = driven.sent (ap is_over (sym same) ∙ taken.over) in
    let accepted = subst (λ l. AllAccepted md5 mode w0 (unaborted l)) (sym same)
    (sent_accepted drive all mode limit w0 accept d.outbox.calls d.end d.watcher.number sent) in
    let counted = subst (λ l. IsCounted u.teller.number u.accepted (length (unaborted l))) same (taken.counted accepted) in
    let copy : (p : Path) → get_in left p ≡ after mode w0 (take u.accepted (unaborted d.outbox.calls)) p = λ p. taken.copy accepted p
    ∙ ap (λ l. after mode w0 (take u.accepted (unaborted l)) p) same in
    let c = comes drive all mode limit w0 left d.outbox.calls u.teller.number u.accepted counted copy d.end d.watcher.number sent f.seen in
    let is : outcome ≡ threads_outcome limit d.end (length d.outbox.calls) u.accepted = f.outcome
    ∙ ap (λ l. threads_outcome limit d.end (length l) u.accepted) f.sent in
    let made : calls_made drive (made_in (threads_outcome limit d.end (length d.outbox.calls) u.accepted))
    ≡ calls_made drive (made_in outcome) = ap (λ x. calls_made drive (made_in x)) (sym is) in
    (subst (λ x. CameTo drive mode limit w0 left x) (sym is) c.came, f.sent ∙ c.calls ∙ made, f.whole ∙ f.sent ∙ c.calls ∙ made)
