-- Steps that are made one after the other.
use Rattle.std.proofs.Common.{◌≡◌, List, [], ◌∷◌, ◌++◌, Option, Some, None, Ok, refl, sym, ap, ◌∙◌, inl, inr}
use Rattle.std.specs.Prelude.{◌⊎◌, ◌≢◌}
use Rattle.std.specs.Option.{option_or}
use Rattle.svn_lists.proofs.Options.{option_or_none, option_or_next}
use Rattle.svn_repo.specs.declared.change.Change.{Change}
use Rattle.svn_repo.specs.declared.change.CommitFault.{CommitFault}
use Rattle.svn_repo.specs.declared.change.CommitFault.TheVariants as commit
use Rattle.svn_repo.specs.History.{History}
use Rattle.svn_repo.specs.Changes.{Pending, change_fault, changes_fault, after_change, after_changes}
use Rattle.svn_repo.specs.Transactions.{OpenRevision, IsBegun, IsChanged, pending_of}
use Rattle.svn_history.specs.declared.fault.LoadFault.{LoadFault}
use Rattle.svn_history.specs.Results.{◌>>=◌, Fails, of_commit}
use Rattle.svn_history.specs.Steps.{Draft, draft_of, begun, with_changes, Changes, Step, nothing, unless, one, ◌>>◌, IsMade}
use Rattle.svn_history.proofs.Faults.{fails_by, fails_through, fails_memory}

pub after_changes-append : (h : History) (s : Pending) (cs ds : List Change)
    → after_changes h s (cs ++ ds) ≡ after_changes h (after_changes h s cs) ds
after_changes-append h s [] ds = refl
after_changes-append h s (c ∷ cs) ds = after_changes-append h (after_change h s c) cs ds

pub changes_fault-append : (h : History) (s : Pending) (cs ds : List Change) → changes_fault h s cs ≡ None
    → changes_fault h s (cs ++ ds) ≡ changes_fault h (after_changes h s cs) ds
changes_fault-append h s [] ds e = refl
changes_fault-append h s (c ∷ cs) ds e =
    let parts = option_or_none (change_fault h s c) (changes_fault h (after_change h s c) cs) e in
    option_or_next (change_fault h s c) (changes_fault h (after_change h s c) (cs ++ ds)) parts.0
    ∙ changes_fault-append h (after_change h s c) cs ds parts.1

pub with_changes-append : (d : Draft) (cs ds : List Change) → with_changes d (cs ++ ds) ≡ with_changes (with_changes d cs) ds
with_changes-append d cs ds =
    let P : Pending → Draft = λ s. record { history = d.history; pending = s } in ap P (after_changes-append d.history d.pending cs ds)

-- ---- a step, and the next

pub then_is : (a b : Step) (d : Draft) (made more : List Change) → a d ≡ Ok made → b (with_changes d made) ≡ Ok more
    → (a >> b) d ≡ Ok (made ++ more)
unfolding ◌>>◌
then_is a b d made more first next =
    let F : Changes → Changes = λ r. r >>= λ made. b (with_changes d made) >>= λ more. Ok (made ++ more) in
    let G : Changes → Changes = λ r. r >>= λ more. Ok (made ++ more) in
    ap F first ∙ ap G next

pub made_then : (a b : Step) (d d1 d2 : Draft) → IsMade a d d1 → IsMade b d1 d2 → IsMade (a >> b) d d2
made_then a b d d1 d2 first next = record {
  changes = first.changes ++ next.changes;
  made = then_is a b d first.changes next.changes first.made (ap b (sym first.after) ∙ next.made);
  no_fault = changes_fault-append d.history d.pending first.changes next.changes first.no_fault
      ∙ ap (λ (x : Draft). changes_fault x.history x.pending next.changes) (sym first.after) ∙ next.no_fault;
  after = next.after ∙ ap (λ (x : Draft). with_changes x next.changes) first.after
      ∙ sym (with_changes-append d first.changes next.changes);
}

pub made_nothing : (d : Draft) → IsMade nothing d d
made_nothing d = record { changes = []; made = refl; no_fault = refl; after = refl }

pub first_fails : (a b : Step) (d : Draft) (e : LoadFault) → Fails e (a d) → Fails e ((a >> b) d)
unfolding ◌>>◌
first_fails a b d e h =
    let F : Changes → Changes = λ r. r >>= λ made. b (with_changes d made) >>= λ more. Ok (made ++ more) in
    fails_through e (a d) ((a >> b) d) (λ is. ap F is) h

pub next_fails : (a b : Step) (d d1 : Draft) (e : LoadFault) → IsMade a d d1 → Fails e (b d1) → Fails e ((a >> b) d)
unfolding ◌>>◌
next_fails a b d d1 e first h =
    let F : Changes → Changes = λ r. r >>= λ made. b (with_changes d made) >>= λ more. Ok (made ++ more) in
    let G : Changes → Changes = λ r. r >>= λ more. Ok (first.changes ++ more) in
    fails_through e (b d1) ((a >> b) d) (λ is. ap F first.made ∙ ap G (ap b (sym first.after) ∙ is)) h

-- ---- one change of a transaction

pub made_one : (o o' : OpenRevision) (c : Change) → change_fault o.history (pending_of o) c ≡ None → IsChanged o c o'
    → IsMade (one c) (draft_of o) (draft_of o')
unfolding one
made_one o o' c no_fault is = record {
  changes = c ∷ [];
  made = ap (λ (f : Option CommitFault). unless f c) no_fault;
  no_fault = ap (λ (f : Option CommitFault). option_or f None) no_fault;
  after = λ i. record { history = is.0 i; pending = is.1 i };
}

pub one_fails : (o : OpenRevision) (c : Change) (e : CommitFault)
    → (e ≡ commit.Memory) ⊎ (change_fault o.history (pending_of o) c ≡ Some e) → Fails (of_commit e) (one c (draft_of o))
unfolding one
one_fails o c e (inl is) = fails_memory (of_commit e) (one c (draft_of o)) (ap of_commit is)
one_fails o c e (inr is) = fails_by (of_commit e) (one c (draft_of o)) (ap (λ (f : Option CommitFault). unless f c) is)

-- a change that isn't made leaves the history
pub history_kept : (o o' : OpenRevision) (c : Change) (e : CommitFault)
    → (e ≡ commit.Memory) ⊎ (change_fault o.history (pending_of o) c ≡ Some e)
    → (e ≡ commit.Memory → change_fault o.history (pending_of o) c ≡ None) → (e ≢ commit.Memory → o' ≡ o)
    → (e ≡ commit.Memory → IsBegun o.history o') → o'.history ≡ o.history
history_kept o o' c e (inl is) memory same given_up = (given_up is).0
history_kept o o' c e (inr is) memory same given_up =
    let other : e ≢ commit.Memory = λ m. (let no : None ≡ Some e = sym (memory m) ∙ is in absurd (cc)) in
    ap (λ (x : OpenRevision). x.history) (same other)

pub begun_is : (h : History) (o : OpenRevision) → IsBegun h o → draft_of o ≡ begun h
begun_is h o is = λ i. record { history = is.0 i; pending = is.1 i }

-- a step that is another one here
pub made_along : (a b : Step) (d d1 : Draft) → a d ≡ b d → IsMade b d d1 → IsMade a d d1
made_along a b d d1 same h = record { changes = h.changes; made = same ∙ h.made; no_fault = h.no_fault; after = h.after }
