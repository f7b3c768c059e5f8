use Rattle.std.proofs.Common.{ℕ, take, [], ◌∷◌, ◌++◌, sym, ap, subst, ◌∙◌}
use Rattle.std.specs.Prelude.{Option, None, MatchOption}
use Rattle.std.specs.BTreeSet.{BTreeSet}
use Rattle.svn_types.specs.Names.{Path}
use Rattle.svn_report.specs.Reports.{Entries, reporter_fault}
use Rattle.svn_report.specs.ReportOrder.{ComesLast, IsIndexed, IsKept}
use Rattle.svn_report.proofs.InOrder.{ordered_more}
use Rattle.svn_report.proofs.Listings.{welcome_added, before_last, lawful_added, kept_more, kept_same}
use Rattle.svn_report.proofs.listing.Listing.push.Goals as goal

pub returns-in_default-clause-ok : goal.returns-in_default-clause-ok
returns-in_default-clause-ok c =
    c.in_ok-insert.ensures.entries
    ∙ welcome_added c.self.inside.entries.entries c.args.path.now c.in_ok-clone.field-0 c.args.entry c.in_ok-clone.ensures.cases
    (ap (λ (es : Entries). reporter_fault es c.args.path.now c.args.entry) c.self.view_is ∙ c.requires)
    ∙ ap (λ (es : Entries). es ++ (c.args.path.now, c.args.entry) ∷ []) c.self.view_is

pub invariant_of-self-in_default : goal.invariant_of-self-in_default
invariant_of-self-in_default c =
    let es = c.self.inside.entries.entries in
    let p = c.args.path.now in
    let e = c.args.entry in
    let lawful = ap (λ (es : Entries). reporter_fault es p e) c.self.view_is ∙ c.requires in
    let added = c.in_ok-insert.ensures.entries ∙ welcome_added es p c.in_ok-clone.field-0 e c.in_ok-clone.ensures.cases lawful in
    let old = subst (λ (i : Option (BTreeSet Path)). IsIndexed i es) c.in_default.is c.leave_order.ensures.kept in
    let last = subst (λ (i : Option (BTreeSet Path)). MatchOption i (ComesLast es p) (λ _. Unit {0})) c.in_default.is
    c.in_ok-leave_order.ensures.last in
    subst (λ (i : Option (BTreeSet Path)). IsIndexed i c.insert.new.self.entries) (sym c.in_default.is)
    (subst (λ (fs : Entries). IsIndexed None fs) (sym added)
    (ordered_more es (p, e) old.0 last, lawful_added es p e old.1 lawful))

pub returns-in-Ok-clause-ok : goal.returns-in-Ok-clause-ok
returns-in-Ok-clause-ok c =
    c.in_ok-insert.ensures.entries
    ∙ welcome_added c.self.inside.entries.entries c.args.path.now c.in_ok-clone.field-0 c.args.entry c.in_ok-clone.ensures.cases
    (ap (λ (es : Entries). reporter_fault es c.args.path.now c.args.entry) c.self.view_is ∙ c.requires)
    ∙ ap (λ (es : Entries). es ++ (c.args.path.now, c.args.entry) ∷ []) c.self.view_is

pub invariant_of-self-in-Ok : goal.invariant_of-self-in-Ok
invariant_of-self-in-Ok c =
    let es = c.self.inside.entries.entries in
    let lawful = ap (λ (es : Entries). reporter_fault es c.args.path.now c.args.entry) c.self.view_is ∙ c.requires in
    let added = c.in_ok-insert.ensures.entries ∙ welcome_added es c.args.path.now c.in_ok-clone.field-0
    c.args.entry c.in_ok-clone.ensures.cases lawful in
    let kept = subst (λ (i : Option (BTreeSet Path)). IsIndexed i es) c.in-Some.is c.leave_order.ensures.kept in
    subst (λ (fs : Entries). IsKept c.insert-2.new.self fs) (sym added)
    (kept_more c.in-Some.index c.insert-2.new.self es c.args.path.now c.args.entry kept lawful c.in-Ok.ensures.added)

pub returns-in-Err-clause-err : goal.returns-in-Err-clause-err
returns-in-Err-clause-err c =
    let es = c.self.inside.entries.entries in
    let lawful = ap (λ (fs : Entries). reporter_fault fs c.args.path.now c.args.entry) c.self.view_is ∙ c.requires in
    let added = c.in_ok-insert.ensures.entries ∙ welcome_added es c.args.path.now c.in_ok-clone.field-0 c.args.entry
    c.in_ok-clone.ensures.cases lawful in
    c.truncate.ensures.entries
    ∙ ap (λ (fs : Entries). take c.len-count.result fs) added
    ∙ ap (λ (n : ℕ). take n (es ++ (c.args.path.now, c.args.entry) ∷ [])) c.len-count.ensures.len
    ∙ before_last es (c.args.path.now, c.args.entry)
    ∙ c.self.view_is

pub invariant_of-self-in-Err : goal.invariant_of-self-in-Err
invariant_of-self-in-Err c =
    let es = c.self.inside.entries.entries in
    let lawful = ap (λ (fs : Entries). reporter_fault fs c.args.path.now c.args.entry) c.self.view_is ∙ c.requires in
    let added = c.in_ok-insert.ensures.entries ∙ welcome_added es c.args.path.now c.in_ok-clone.field-0 c.args.entry
    c.in_ok-clone.ensures.cases lawful in
    let back = c.truncate.ensures.entries
    ∙ ap (λ (fs : Entries). take c.len-count.result fs) added
    ∙ ap (λ (n : ℕ). take n (es ++ (c.args.path.now, c.args.entry) ∷ [])) c.len-count.ensures.len
    ∙ before_last es (c.args.path.now, c.args.entry) in
    let kept = subst (λ (i : Option (BTreeSet Path)). IsIndexed i es) c.in-Some.is c.leave_order.ensures.kept in
    subst (λ (fs : Entries). IsKept c.insert-2.new.self fs) (sym back)
    (kept_same c.in-Some.index c.insert-2.new.self es kept c.in-Err.ensures.unchanged)
