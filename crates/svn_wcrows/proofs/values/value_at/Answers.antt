use Rattle.std.proofs.Common.{◌≡◌, ℕ, suc, ◌+◌, List, ap, ◌∙◌, arith}
use Rattle.svn_wcdb.specs.Columns.{column, column_in}
use Rattle.svn_wcrows.proofs.values.value_at.Goals as goal

pub passed-init : goal.passed-init
passed-init c = λ n.
    let same : n ≡ 0 + n = omega arith in
    ap (λ row. column_in row n) c.new-fields.ensures ∙ ap (λ (bytes : List ℕ). column bytes n) c.as_slice.ensures
    ∙ ap (column c.args.row.now.bytes) same

pub passed-preserved : goal.passed-preserved
passed-preserved c = λ n.
    let next : c.passed._passed + suc n ≡ c.passed._passed + 1 + n = omega arith in
    c.next_value.ensures.left n ∙ c.passed.invariant (suc n) ∙ ap (column c.args.row.now.bytes) next

pub returns : goal.returns
returns c =
    let here : c.passed._passed + 0 ≡ c.args.place = omega arith in
    c.next_value-2.ensures.value ∙ c.passed.invariant 0 ∙ ap (column c.args.row.now.bytes) here
