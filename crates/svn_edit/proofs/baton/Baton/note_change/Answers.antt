use Rattle.std.proofs.Common.{◌∷◌, List, ℕ, refl, sym, ap, subst, ◌∙◌, Option}
use Rattle.svn_lists.proofs.Results.{OnErr_from}
use Rattle.svn_pool.specs.Pools.{pushed}
use Rattle.svn_edit.specs.declared.baton.Note.TheVariants.{Set, Remove}
use Rattle.svn_edit.specs.Noted.{note_of_value, strings_of_value}
use Rattle.svn_edit.specs.Applying.{BatonSaid}
use Rattle.svn_edit.proofs.PoolStrings.{said_one, said_two}
use Rattle.svn_edit.proofs.LeftPools.{unbegun, began_one, began_two}
use Rattle.svn_edit.proofs.baton.Baton.note_change.Goals as goal

pub returns-in_default-clause-noted : goal.returns-in_default-clause-noted
returns-in_default-clause-noted c =
    let old = c.args.self.now in
    let new = record old { notes = c.push-in_default.new.self } in
    subst (λ (v : Option (List ℕ)). BatonSaid (note_of_value v) (c.args.name.now ∷ strings_of_value v) old c.args.pools.now new
    c.push.new.pools) (sym c.in_default.is)
    (said_one old new c.args.pools.now c.push.new.pools Remove c.args.name.now refl refl c.in_ok-push-2.ensures.ok refl refl
    (c.in_ok-push.ensures.pushed ∙ ap (pushed c.args.pools.now old.pool.0) (c.as_bytes.ensures.value ∙ c.as_str.ensures.value)))

pub returns-clause-noted : goal.returns-clause-noted
returns-clause-noted c =
    let old = c.args.self.now in
    let new = record old { notes = c.push-3.new.self } in
    subst (λ (v : Option (List ℕ)). BatonSaid (note_of_value v) (c.args.name.now ∷ strings_of_value v) old c.args.pools.now new
    c.push-2.new.pools) (sym c.in-Some.is)
    (said_two old new c.args.pools.now c.push-2.new.pools Set c.args.name.now c.in-Some.value refl refl c.in_ok-push-4.ensures.ok refl refl
    (c.in_ok-push-3.ensures.pushed ∙ (λ i. pushed (c.in_ok-push.ensures.pushed i) old.pool.0 (c.as_slice.ensures i))
    ∙ ap (λ (x : List ℕ). pushed (pushed c.args.pools.now old.pool.0 x) old.pool.0 c.in-Some.value)
    (c.as_bytes.ensures.value ∙ c.as_str.ensures.value)))

-- ---- a string or the note was refused

pub returns-in_err-push-clause-began : goal.returns-in_err-push-clause-began
returns-in_err-push-clause-began c =
    OnErr_from c.from_residual.result (unbegun _ c.args.self.now c.args.self.now c.args.pools.now c.push.new.pools refl refl
    c.in_err-push.ensures.refused)

pub returns-in_err-push-2-clause-began : goal.returns-in_err-push-2-clause-began
returns-in_err-push-2-clause-began c =
    let old = c.args.self.now in
    OnErr_from c.from_residual-in_err-push-2.result (began_one old (record old { notes = c.push-in_default.new.self })
    c.args.pools.now c.push.new.pools c.args.name.now (strings_of_value c.args.value.now) _ refl refl
    (c.in_ok-push.ensures.pushed ∙ ap (pushed c.args.pools.now old.pool.0) (c.as_bytes.ensures.value ∙ c.as_str.ensures.value)) refl)

pub returns-in_err-push-3-clause-began : goal.returns-in_err-push-3-clause-began
returns-in_err-push-3-clause-began c =
    let old = c.args.self.now in
    OnErr_from c.from_residual-in_err-push-3.result (began_one old old c.args.pools.now c.push-2.new.pools c.args.name.now
    (strings_of_value c.args.value.now) _ refl refl
    (c.in_err-push-3.ensures.refused ∙ c.in_ok-push.ensures.pushed
    ∙ ap (pushed c.args.pools.now old.pool.0) (c.as_bytes.ensures.value ∙ c.as_str.ensures.value))
    refl)

pub returns-in_err-push-4-clause-began : goal.returns-in_err-push-4-clause-began
returns-in_err-push-4-clause-began c =
    let old = c.args.self.now in
    OnErr_from c.from_residual-in_err-push-4.result (began_two old (record old { notes = c.push-3.new.self })
    c.args.pools.now c.push-2.new.pools c.args.name.now c.in-Some.value (c.args.name.now ∷ strings_of_value c.args.value.now) refl refl
    (c.in_ok-push-3.ensures.pushed ∙ (λ i. pushed (c.in_ok-push.ensures.pushed i) old.pool.0 (c.as_slice.ensures i))
    ∙ ap (λ (x : List ℕ). pushed (pushed c.args.pools.now old.pool.0 x) old.pool.0 c.in-Some.value)
    (c.as_bytes.ensures.value ∙ c.as_str.ensures.value))
    (ap (λ (v : Option (List ℕ)). c.args.name.now ∷ strings_of_value v) (sym c.in-Some.is)))
