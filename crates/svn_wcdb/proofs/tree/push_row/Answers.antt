use Rattle.std.proofs.Common.{◌∙◌}
use Rattle.std.proofs.lemmas.Result.{err_from_is_err_and}
use Rattle.svn_wcdb.proofs.TreeLemmas.{record_test, bad_payload, bad_row, row_pushed}
use Rattle.svn_wcdb.proofs.tree.push_row.Goals as goal

pub returns-in_err-bytes : goal.returns-in_err-bytes
returns-in_err-bytes c =
    let p = err_from_is_err_and c.from_residual.result c.from_residual.ensures.1 in
    rw (p.1, p.2) (bad_payload _ _ _ _ _ c.in_err-bytes.ensures)

pub returns-then-not-is_record : goal.returns-then-not-is_record
returns-then-not-is_record c =
    bad_row _ _ _ _ _ _ c.in_ok-bytes.ensures (record_test _ _ _ c.is_record.ensures c.deref.ensures.value ∙ c.if-not-is_record.true)

pub returns : goal.returns
returns c =
    row_pushed _ _ _ _ _ _ _ _ _ c.in_ok-bytes.ensures (record_test _ _ _ c.is_record.ensures c.deref.ensures.value ∙ c.if-not-is_record.false)
    c.rowid_of.ensures c.new.ensures c.in_ok-push.ensures.items
