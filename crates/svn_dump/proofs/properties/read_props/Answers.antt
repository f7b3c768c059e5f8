use Rattle.std.proofs.Common.{[], ◌∷◌, ◌++◌, Some, Ok, false, sym, ap, ◌∙◌}
use Rattle.std.proofs.lemmas.Result.{err_from_is_err_and}
use Rattle.svn_types.specs.Pairs.{with_value}
use Rattle.svn_types.specs.Props.{PropChange, with_changes}
use Rattle.svn_dump.specs.Reading.{◌>>=◌}
use Rattle.svn_dump.proofs.PropertyLemmas.{one_change, no_change, bad_change, one_more_set}
use Rattle.svn_dump.proofs.Sequences.{meets_first}
use Rattle.svn_dump.proofs.properties.read_props.Goals as goal

pub returns-in_err-name : goal.returns-in_err-name
returns-in_err-name c =
    let p = err_from_is_err_and c.from_residual.result c.from_residual.ensures.1 in
    let front = c.entries.invariant.0 in
    rw (p.1, p.2)
    (meets_first _ _ _ (bad_change false front c.entries.rest.now _ _ c.entries.invariant.2 (sym c.is_end.ensures ∙ c.entries-test.true) c.in_err-name.ensures.parts))

pub entries-preserved : goal.entries-preserved
entries-preserved c =
    let front = c.entries.invariant.0 in
    let change : PropChange = (c.in_ok-name.name, Some c.in_ok-name.value) in (
      front ++ change ∷ [],
      c.in_ok-insert.ensures.ok ∙ ap (λ props. with_value props c.in_ok-name.name (Some c.in_ok-name.value)) c.entries.invariant.1
          ∙ sym (one_more_set front change),
      one_change false front c.entries.rest.now _ change c.in_ok-name.after.now c.entries.invariant.2 (sym c.is_end.ensures ∙ c.entries-test.true)
          c.in_ok-name.ensures.parts c.in_ok-name.ensures.shorter,
    )

pub returns : goal.returns
returns c =
    let front = c.entries.invariant.0 in
    ap (λ r. r >>= λ changes. Ok (with_changes [] changes))
    (no_change false front c.entries.rest.now _ c.entries.invariant.2 (sym c.is_end.ensures ∙ c.entries-test.false))
    ∙ ap (λ props. Ok props) (sym c.entries.invariant.1)
