use Rattle.std.proofs.Common.{◌≡◌, ap, subst, sym, ◌∙◌}
use Rattle.std.specs.Prelude.{IsSome}
use Rattle.svn_lists.proofs.Results.{OnOk_from_both, OnOk_then}
use Rattle.svn_dump.specs.declared.fault.DumpFault.TheVariants as dump
use Rattle.svn_dump.specs.Counts.{Counts, Grows}
use Rattle.svn_dump.specs.Readers.{left_in, IsUnreadable}
use Rattle.svn_history.specs.declared.fault.LoadFault.{LoadFault}
use Rattle.svn_history.specs.declared.fault.LoadFault.TheVariants as faults
use Rattle.svn_history.specs.Places.{IsShown}
use Rattle.svn_history.specs.Parts.{loading, RefusesNext, RefusesPart}
use Rattle.svn_history.proofs.Causes.{no_next_fault}
use Rattle.svn_history.proofs.Faults.{IfErr_then, IfErr_both}
use Rattle.svn_history.proofs.Places.{shown_same, part_refused_at}
use Rattle.svn_history.proofs.Endings.{part_by, next_refused}
use Rattle.svn_history.proofs.loader.Loader.load_part.Goals as goal

pub returns-clause-part : goal.returns-clause-part
returns-clause-part g c =
    let view = loading g.R.Read.remaining in
    let old = c.args.self.now in
    let mid = c.load_nodes.new.self in
    let end = c.end.new.self in
    let new = c.begin.new.self in
    OnOk_from_both c.begin.result
    (λ begins next_is. part_by old.records.limits old.records.texts (IsShown g.R.Read.remaining old mid) (view old) (view mid) (view new) end.rev
    c.in_ok-next.next
    end.transaction.history new.transaction.history c.in_ok-next.ensures.nodes c.load_nodes.ensures.rev
    (c.end.ensures.rev ∙ c.load_nodes.ensures.rev) c.in_ok-end.ensures.ends begins c.begin.ensures.begun next_is
    (ap (left_in g.R.Read.remaining) (c.begin.ensures.records ∙ c.end.ensures.records)))
    c.begin.ensures.begins c.begin.ensures.rev

pub returns-clause-fault : goal.returns-clause-fault
returns-clause-fault g c =
    let view = loading g.R.Read.remaining in
    let old = c.args.self.now in
    let mid = c.load_nodes.new.self in
    let end = c.end.new.self in
    let new = c.begin.new.self in
    let shown = IsShown g.R.Read.remaining old new in
    let seen = IsShown g.R.Read.remaining old mid in
    IfErr_both (λ e. RefusesPart old.records.limits old.records.texts shown (view old) e new.transaction.history) c.begin.result
    c.begin.ensures.fault c.begin.ensures.stays
    (λ e why stays. part_refused_at old.records.limits old.records.texts seen shown
    (shown_same g.R.Read.remaining old.records mid.records new.records mid.rev new.rev (c.begin.ensures.records ∙ c.end.ensures.records)
    (stays ∙ c.end.ensures.rev)) (view old) e new.transaction.history
    (next_refused old.records.limits old.records.texts seen (view old) (view mid) end.rev c.in_ok-next.next end.transaction.history
    new.transaction.history e c.in_ok-next.ensures.nodes c.load_nodes.ensures.rev (c.end.ensures.rev ∙ c.load_nodes.ensures.rev)
    c.in_ok-end.ensures.ends why))

pub returns-clause-read : goal.returns-clause-read
returns-clause-read g c =
    let end = c.end.new.self in
    let new = c.begin.new.self in
    let ended = end.transaction.history in
    let h = new.transaction.history in
    IfErr_then (λ e. e ≡ faults.Dump dump.Read → IsUnreadable new.records) c.begin.result c.begin.ensures.fault
    (λ e why is. absurd (no_next_fault end.rev c.in_ok-next.next ended h
    (subst (λ (x : LoadFault). RefusesNext end.rev c.in_ok-next.next ended x h) is why)))

pub returns-clause-grown : goal.returns-clause-grown
returns-clause-grown g c =
    let before = c.args.self.now.records.source.taken in
    OnOk_then c.begin.result c.begin.ensures.rev
    (λ next_is some. subst (λ r. Grows before 1 r.source.taken) (sym (c.begin.ensures.records ∙ c.end.ensures.records))
    (c.in_ok-next.ensures.grown (subst IsSome next_is some)))

pub returns-clause-counted : goal.returns-clause-counted
returns-clause-counted g c =
    let old = c.args.self.now in
    let left = left_in g.R.Read.remaining in
    OnOk_then c.begin.result c.begin.ensures.rev
    (λ next_is. subst (λ r. Counts old.records.source.taken (left old.records) r.source.taken (left r))
    (sym (c.begin.ensures.records ∙ c.end.ensures.records)) c.in_ok-next.ensures.counted)
