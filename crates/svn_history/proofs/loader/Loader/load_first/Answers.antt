use Rattle.std.proofs.Common.{◌≡◌, None, refl, subst, sym, rules}
use Rattle.std.specs.Prelude.{IsSome}
use Rattle.svn_lists.proofs.Results.{IfErr_returned, IfOk_then, OnOk_then}
use Rattle.svn_history.specs.declared.fault.LoadFault.{LoadFault}
use Rattle.svn_history.specs.Places.{IsShown}
use Rattle.svn_history.specs.Parts.{loading, LoadsPart, LoadsOne, begins, ends, RefusesPart, RefusesOne, at_once, later}
use Rattle.svn_dump.proofs.Counting.{grows_on}
use Rattle.svn_history.proofs.Faults.{IfErr_then}
use Rattle.svn_history.proofs.Places.{shown_before, part_refused_at}
use Rattle.svn_history.proofs.Endings.{part_as, refuses_as}
use Rattle.svn_history.proofs.loader.Loader.load_first.Goals as goal

pub returns-in_err-load_part-clause-fault : goal.returns-in_err-load_part-clause-fault
returns-in_err-load_part-clause-fault g c =
    let old = c.args.self.now in
    let view = loading g.R.Read.remaining in
    let h = c.load_part.new.self.transaction.history in
    let shown = IsShown g.R.Read.remaining old c.load_part.new.self in
    IfErr_returned (λ e. e ≡ c.in_err-load_part.field-0.0) (λ e. RefusesOne old.records.limits old.records.texts shown (view old) e h)
    c.from_residual.result c.from_residual.ensures
    (λ e is. at_once (subst (λ (x : LoadFault). RefusesPart old.records.limits old.records.texts shown (view old) x h) (sym is)
    c.in_err-load_part.ensures.fault))

pub returns-clause-one : goal.returns-clause-one
returns-clause-one g c =
    let old = c.args.self.now in
    let mid = c.load_part.new.self in
    let some : IsSome mid.rev = search rules in
    let new = c.load_next.new.self in
    let view = loading g.R.Read.remaining in
    IfOk_then (λ done. (done ≡ mid.rev) × LoadsPart mid.records.limits mid.records.texts (view mid) (view new))
    (LoadsOne old.records.limits old.records.texts (view old) (view new)) c.load_next.result c.load_next.ensures.part
    (λ done h. begins (view mid) c.requires c.in_ok-load_part.ensures.part some h.0
    (part_as old.records.limits mid.records.limits old.records.texts mid.records.texts (view mid) (view new) c.load_part.ensures.limits
    c.load_part.ensures.texts h.1))

pub returns-clause-fault : goal.returns-clause-fault
returns-clause-fault g c =
    let old = c.args.self.now in
    let mid = c.load_part.new.self in
    let some : IsSome mid.rev = search rules in
    let view = loading g.R.Read.remaining in
    let left = c.load_next.new.self.transaction.history in
    let new = c.load_next.new.self in
    let shown = IsShown g.R.Read.remaining old new in
    let seen = IsShown g.R.Read.remaining mid new in
    IfErr_then {P = λ e. RefusesPart mid.records.limits mid.records.texts seen (view mid) e left}
    (λ e. RefusesOne old.records.limits old.records.texts shown (view old) e left) c.load_next.result c.load_next.ensures.fault
    (λ e h. later (view mid) c.requires c.in_ok-load_part.ensures.part some
    (part_refused_at old.records.limits old.records.texts seen shown
    (shown_before g.R.Read.remaining old.records mid.records new.records new.rev c.in_ok-load_part.ensures.counted
    c.load_part.ensures.limits) (view mid) e left
    (refuses_as old.records.limits mid.records.limits old.records.texts mid.records.texts seen (view mid) e left c.load_part.ensures.limits
    c.load_part.ensures.texts h)))

pub returns-then-is_none-clause-one : goal.returns-then-is_none-clause-one
returns-then-is_none-clause-one g c =
    let none : c.load_part.new.self.rev ≡ None = search rules in
    ends c.requires c.in_ok-load_part.ensures.part none refl

pub returns-clause-grown : goal.returns-clause-grown
returns-clause-grown g c =
    let mid = c.load_part.new.self in
    let began : IsSome mid.rev = search rules in
    OnOk_then c.load_next.result c.load_next.ensures.grown
    (λ more some. grows_on c.args.self.now.records.source.taken mid.records.source.taken c.load_next.new.self.records.source.taken
    (c.in_ok-load_part.ensures.grown began) (more some))

pub returns-clause-counted : goal.returns-clause-counted
returns-clause-counted g c =
    OnOk_then c.load_next.result c.load_next.ensures.counted (λ counted all of. counted all (c.in_ok-load_part.ensures.counted all of))
