use Rattle.std.proofs.Common.{[], Some, refl, ap, ◌∙◌, length}
use Rattle.svn_lists.proofs.Results.{OnErr_from}
use Rattle.svn_pool.specs.Pools.{pushed, strings_at}
use Rattle.svn_edit.specs.declared.baton.Note.TheVariants.{Text as NewText}
use Rattle.svn_edit.proofs.PoolStrings.{said_one}
use Rattle.svn_edit.proofs.Saying.{first_noted, later_passed}
use Rattle.svn_edit.proofs.LeftPools.{unbegun, began_one}
use Rattle.svn_edit.proofs.baton.Baton.note_text.Goals as goal

pub returns-then-is_none-clause-noted : goal.returns-then-is_none-clause-noted
returns-then-is_none-clause-noted c =
    let old = c.args.self.now in
    said_one old (record old { notes = c.push-2.new.self; text = Some (record { place = c.in_ok-place.place }) }) c.args.pools.now c.push.new.pools NewText
    c.args.text.now refl refl c.in_ok-push.ensures.ok
    (first_noted (length (strings_at c.args.pools.now old.pool.0)) c.is_none.result old.text (record { place = c.in_ok-place.place }) c.is_none.ensures
    c.if-is_none.true c.in_ok-place.ensures.place) refl
    (c.in_ok-place.ensures.pushed ∙ ap (pushed c.args.pools.now old.pool.0) c.as_slice.ensures)

pub returns-else-is_none-clause-noted : goal.returns-else-is_none-clause-noted
returns-else-is_none-clause-noted c =
    let old = c.args.self.now in
    said_one old (record old { notes = c.push-2.new.self }) c.args.pools.now c.push.new.pools NewText
    c.args.text.now refl refl c.in_ok-push.ensures.ok
    (later_passed (length (strings_at c.args.pools.now old.pool.0)) c.is_none.result old.text c.is_none.ensures
    c.if-is_none.false) refl
    (c.in_ok-place.ensures.pushed ∙ ap (pushed c.args.pools.now old.pool.0) c.as_slice.ensures)

-- ---- the string or the note was refused

pub returns-in_err-place-clause-began : goal.returns-in_err-place-clause-began
returns-in_err-place-clause-began c =
    OnErr_from c.from_residual.result (unbegun _ c.args.self.now c.args.self.now c.args.pools.now c.push.new.pools refl refl
    c.in_err-place.ensures.refused)

pub returns-in_err-push-clause-began : goal.returns-in_err-push-clause-began
returns-in_err-push-clause-began c =
    let old = c.args.self.now in
    OnErr_from c.from_residual-in_err-push.result
    (began_one old (record old { notes = c.push-2.new.self }) c.args.pools.now c.push.new.pools
    c.args.text.now [] _ refl refl (c.in_ok-place.ensures.pushed ∙ ap (pushed c.args.pools.now old.pool.0) c.as_slice.ensures) refl)
