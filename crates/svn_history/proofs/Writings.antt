-- Changes, made and written one after another.
use Rattle.std.proofs.Common.{◌≡◌, ℕ, List, [], ◌∷◌, ◌++◌, Option, Some, None, Ok, Err, refl, subst, sym, ap, ◌∙◌, append-nil}
use Rattle.std.specs.List.{All, flat_map}
use Rattle.std.specs.Option.{option_or}
use Rattle.std.proofs.lemmas.Grind.{flat_map-append}
use Rattle.std.proofs.lemmas.List.Elements.{All-append, All-cons, All-nil}
use Rattle.svn_repo.specs.declared.change.Change.{Change}
use Rattle.svn_repo.specs.declared.change.CommitFault.{CommitFault}
use Rattle.svn_repo.specs.History.{History}
use Rattle.svn_repo.specs.Changes.{Pending, change_fault, changes_fault, after_change, latest_pending, IsRevision, IsCommit}
use Rattle.svn_repo.specs.Transactions.{OpenRevision, pending_of, IsBegun}
use Rattle.svn_dump.specs.declared.record.NodeRecord.{NodeRecord}
use Rattle.svn_dump.specs.Written.{written}
use Rattle.law_dump.specs.Laws.{IsNodeRecord}
use Rattle.svn_history.specs.declared.fault.LoadFault.{LoadFault}
use Rattle.svn_history.specs.Results.{Fails}
use Rattle.svn_history.specs.Steps.{Draft, draft_of, begun, with_changes, unless, one, IsMade}
use Rattle.svn_history.specs.Writing.{all, all_unless, record_of, records_of, AreWritten}
use Rattle.svn_history.proofs.Faults.{fails_through}
use Rattle.svn_history.proofs.Stepping.{changes_fault-append, with_changes-append}
use Rattle.svn_history.proofs.Endings.{begun_again}

pub one_made : (c : Change) (d d' : Draft) → IsMade (one c) d d'
    → (change_fault d.history d.pending c ≡ None) × (d' ≡ with_changes d (c ∷ []))
unfolding one
one_made c d d' h = by (change_fault d.history d.pending c) refl h.made
  where
    by : (f : Option CommitFault) → change_fault d.history d.pending c ≡ f → unless f c ≡ Ok h.changes
        → (change_fault d.history d.pending c ≡ None) × (d' ≡ with_changes d (c ∷ []))
    by None e m = (
        let same : h.changes ≡ c ∷ [] = cc in
        (e, h.after ∙ ap (with_changes d) same)
        )
    by (Some f) e m = absurd (cc)

-- ---- what a writer has made

pub none_written : (h : History) (o : OpenRevision) (bytes : List ℕ) → IsBegun h o → bytes ≡ [] → AreWritten o.history [] (draft_of o) bytes
none_written h o bytes is none =
    record { no_fault = refl; draft_is = begun_again h o is; bytes_are = none; lawful = All-nil IsNodeRecord }

pub records_of-append : (d : Draft) (cs ds : List Change) → records_of d (cs ++ ds) ≡ records_of d cs ++ records_of (with_changes d cs) ds
records_of-append d [] ds = refl
records_of-append d (c ∷ cs) ds = ap (λ (l : List NodeRecord). record_of d c ∷ l) (records_of-append (with_changes d (c ∷ [])) cs ds)

-- one change more
module _ (h : History) (cs : List Change) (c : Change) (d d' : Draft) (bytes bytes' : List ℕ) (before : AreWritten h cs d bytes)
    (step : IsMade (one c) d d') (is : bytes' ≡ bytes ++ written (record_of d c)) (is_lawful : IsNodeRecord (record_of d c)) where
  abbrev start : Draft
  start = begun h

  one_step : (change_fault d.history d.pending c ≡ None) × (d' ≡ with_changes d (c ∷ []))
  one_step = one_made c d d' step

  its_record : record_of d c ≡ record_of (with_changes start cs) c
  its_record = ap (λ (x : Draft). record_of x c) before.draft_is

  all_records : records_of start (cs ++ c ∷ []) ≡ records_of start cs ++ record_of d c ∷ []
  all_records = records_of-append start cs (c ∷ []) ∙ ap (λ (r : NodeRecord). records_of start cs ++ r ∷ []) (sym its_record)

  pub written_more : AreWritten h (cs ++ c ∷ []) d' bytes'
  written_more = record {
    no_fault = changes_fault-append h (latest_pending h) cs (c ∷ []) before.no_fault
        ∙ ap (λ (f : Option CommitFault). option_or f None)
        (ap (λ (x : Draft). change_fault x.history x.pending c) (sym before.draft_is) ∙ one_step.0);
    draft_is = one_step.1 ∙ ap (λ (x : Draft). with_changes x (c ∷ [])) before.draft_is ∙ sym (with_changes-append start cs (c ∷ []));
    bytes_are = is ∙ ap (λ (l : List ℕ). l ++ written (record_of d c)) before.bytes_are
        ∙ ap (λ (l : List ℕ). flat_map written (records_of start cs) ++ l) (sym (append-nil (written (record_of d c))))
        ∙ sym (flat_map-append written (records_of start cs) (record_of d c ∷ []))
        ∙ ap (flat_map written) (sym all_records);
    lawful = subst (All IsNodeRecord) (sym all_records)
        (All-append IsNodeRecord (records_of start cs) (record_of d c ∷ []) before.lawful
        (All-cons IsNodeRecord (record_of d c) [] is_lawful (All-nil IsNodeRecord)));
  }

-- and the history is the one before
pub made_more : (cs : List Change) (c : Change) (o o' : OpenRevision) (bytes bytes' : List ℕ) → AreWritten o.history cs (draft_of o) bytes
    → o'.history ≡ o.history → IsMade (one c) (draft_of o) (draft_of o') → bytes' ≡ bytes ++ written (record_of (draft_of o) c)
    → IsNodeRecord (record_of (draft_of o) c) → AreWritten o'.history (cs ++ c ∷ []) (draft_of o') bytes'
made_more cs c o o' bytes bytes' before same step is is_lawful =
    subst (λ (h : History). AreWritten h (cs ++ c ∷ []) (draft_of o') bytes') (sym same)
    (written_more o.history cs c (draft_of o) (draft_of o') bytes bytes' before step is is_lawful)

-- the commit of what was made
pub is_commit : (h' : History) (cs : List Change) (o : OpenRevision) (bytes : List ℕ) → AreWritten o.history cs (draft_of o) bytes
    → IsRevision o.history h' (pending_of o) → IsCommit o.history h' cs
is_commit h' cs o bytes made is =
    (made.no_fault, subst (λ (s : Pending). IsRevision o.history h' s) (ap (λ (d : Draft). d.pending) made.draft_is) is)

-- the first change that can't be made is the fault of all
pub first_refused : (h : History) (cs rest : List Change) (c : Change) (d : Draft) (bytes : List ℕ) (e : LoadFault) → AreWritten h cs d bytes
    → Fails e (one c d) → Fails e (all (cs ++ c ∷ rest) (begun h))
unfolding one
first_refused h cs rest c d bytes e made fails = fails_through e (one c d) (all (cs ++ c ∷ rest) (begun h)) through fails
  where
    F : Option CommitFault → Option CommitFault
    F o = option_or o (changes_fault d.history (after_change d.history d.pending c) rest)

    split : changes_fault h (latest_pending h) (cs ++ c ∷ rest) ≡ changes_fault d.history d.pending (c ∷ rest)
    split = changes_fault-append h (latest_pending h) cs (c ∷ rest) made.no_fault
        ∙ ap (λ (x : Draft). changes_fault x.history x.pending (c ∷ rest)) (sym made.draft_is)

    by : (f : Option CommitFault) → change_fault d.history d.pending c ≡ f → unless f c ≡ Err e → all (cs ++ c ∷ rest) (begun h) ≡ Err e
    by None is m = absurd (cc)
    by (Some f) is m = ap (λ (o : Option CommitFault). all_unless (cs ++ c ∷ rest) o) (split ∙ ap F is) ∙ m

    through : one c d ≡ Err e → all (cs ++ c ∷ rest) (begun h) ≡ Err e
    through m = by (change_fault d.history d.pending c) refl m
