use Rattle.std.proofs.Common.{[], ◌∷◌, ◌++◌, Some, Ok, sym, ap, ◌∙◌}
use Rattle.std.proofs.lemmas.Result.{err_from_is_err_and}
use Rattle.svn_types.specs.Pairs.{with_value}
use Rattle.svn_types.specs.Props.{PropChange, with_changes}
use Rattle.svn_wcdb.specs.Reading.{◌>>=◌}
use Rattle.svn_wcdb.proofs.PropertyLemmas.{one_pair, no_pair, bad_pair, one_more_set}
use Rattle.svn_wcdb.proofs.ReadingLemmas.{fails_first}
use Rattle.svn_wcdb.proofs.properties.read_pairs.Goals as goal

pub returns-in_err-name : goal.returns-in_err-name
returns-in_err-name c =
    let p = err_from_is_err_and c.from_residual.result c.from_residual.ensures.1 in
    let front = c.pairs.invariant.0 in
    rw (p.1, p.2)
    (fails_first _ _ _ (bad_pair front c.pairs.rest.now _ _ c.pairs.invariant.2 (sym c.is_end.ensures ∙ c.pairs-test.true) c.in_err-name.ensures.parts))

pub pairs-preserved : goal.pairs-preserved
pairs-preserved c =
    let front = c.pairs.invariant.0 in
    let change : PropChange = (c.in_ok-name.name, Some c.in_ok-name.value) in (
      front ++ change ∷ [],
      c.in_ok-insert.ensures.ok ∙ ap (λ props. with_value props c.in_ok-name.name (Some c.in_ok-name.value)) c.pairs.invariant.1
          ∙ sym (one_more_set front change),
      one_pair front c.pairs.rest.now _ change c.in_ok-name.after.now c.pairs.invariant.2 (sym c.is_end.ensures ∙ c.pairs-test.true)
          c.in_ok-name.ensures.parts c.in_ok-name.ensures.shorter,
    )

pub returns : goal.returns
returns c =
    let front = c.pairs.invariant.0 in
    ap (λ r. r >>= λ changes. Ok (with_changes [] changes))
    (no_pair front c.pairs.rest.now _ c.pairs.invariant.2 (sym c.is_end.ensures ∙ c.pairs-test.false))
    ∙ ap (λ props. Ok props) (sym c.pairs.invariant.1)
