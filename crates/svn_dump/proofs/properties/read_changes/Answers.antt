use Rattle.std.proofs.Common.{true, length, sym, subst, ◌∙◌}
use Rattle.std.proofs.lemmas.Result.{err_from_is_err_and}
use Rattle.svn_dump.specs.Properties.{changes_at}
use Rattle.svn_dump.proofs.PropertyLemmas.{GoesOn, one_change, no_change, bad_change}
use Rattle.svn_dump.proofs.properties.read_changes.Goals as goal

pub returns-in_err-change : goal.returns-in_err-change
returns-in_err-change c =
    let p = err_from_is_err_and c.from_residual.result c.from_residual.ensures.1 in
    rw (p.1, p.2)
    (bad_change true c.entries.changes.items c.entries.rest.now _ _ c.entries.invariant (sym c.is_end.ensures ∙ c.entries-test.true) c.in_err-change.ensures.parts)

pub entries-preserved : goal.entries-preserved
entries-preserved c =
    subst (λ l. GoesOn true l c.in_ok-change.after.now (changes_at true (length c.args.section.now) c.args.section.now)) (sym c.in_ok-push.ensures.items)
    (one_change true c.entries.changes.items c.entries.rest.now _ c.in_ok-change.change c.in_ok-change.after.now c.entries.invariant
    (sym c.is_end.ensures ∙ c.entries-test.true) c.in_ok-change.ensures.parts c.in_ok-change.ensures.shorter)

pub returns : goal.returns
returns c = no_change true c.entries.changes.items c.entries.rest.now _ c.entries.invariant (sym c.is_end.ensures ∙ c.entries-test.false)
