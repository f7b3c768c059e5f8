use Rattle.std.proofs.Common.{List, Ok, sym, ap, ◌∙◌}
use Rattle.std.specs.Prelude.{codes}
use Rattle.std.proofs.lemmas.Result.{err_from_is_err_and}
use Rattle.svn_wcdb.specs.declared.table.TableRow.{TableRow}
use Rattle.svn_wcdb.specs.Images.{seen_file}
use Rattle.svn_wcdb.specs.Reading.{◌>>=◌}
use Rattle.svn_wcdb.proofs.ReadingLemmas.{fails_first, fails_then}
use Rattle.svn_wcrows.specs.Tables.{rows_if_any, last_work, others_in}
use Rattle.svn_wcrows.proofs.read.others_in.Goals as goal

pub returns-in_err-sequence : goal.returns-in_err-sequence
unfolding others_in
returns-in_err-sequence c =
    let file = seen_file c.args.image.now in
    let schema : List TableRow = c.args.schema.now in
    let exit = err_from_is_err_and c.from_residual-in_err-sequence.result c.from_residual-in_err-sequence.ensures.1 in
    rw (exit.1, exit.2)
    (fails_then _ (rows_if_any file schema (codes "EXTERNALS")) c.in_ok-externals.externals.items
    (λ externals. rows_if_any file schema (codes "sqlite_sequence") >>= λ sequence. Ok (externals, last_work sequence)) c.in_ok-externals.ensures
    (fails_first _ (rows_if_any file schema (codes "sqlite_sequence"))
    (λ sequence. Ok (c.in_ok-externals.externals.items, last_work sequence)) c.in_err-sequence.ensures))

pub returns : goal.returns
unfolding others_in
returns c =
    rw (c.in_ok-externals.ensures, c.in_ok-sequence.ensures)
    (ap (λ n. Ok (c.in_ok-externals.externals.items, n)) (sym (c.last_work-last.ensures ∙ ap last_work c.deref.ensures.value)))
