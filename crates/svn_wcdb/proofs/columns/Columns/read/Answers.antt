use Rattle.std.proofs.Common.{◌≡◌, suc, ◌+◌, ◌<◌, length, refl, ap, ◌∙◌, arith}
use Rattle.std.proofs.lemmas.List.{length-set}
use Rattle.svn_wcdb.specs.Columns.{column, column_in}
use Rattle.svn_wcdb.proofs.ColumnLemmas.{one_read}
use Rattle.svn_wcdb.proofs.columns.Columns.read.Goals as goal

pub loop-place-init : goal.loop-place-init
loop-place-init c = record {
  long = refl;
  read = λ n h. absurd (omega (arith, h));
  left = λ n.
      let same : n ≡ 0 + n = omega arith in
      ap (λ row. column_in row n) c.new-fields.ensures ∙ ap (column c.args.bytes.now) same;
}

pub loop-place-preserved : goal.loop-place-preserved
loop-place-preserved c =
    let inv = c.loop-place.invariant in
    let place = c.loop-place.place in
    let here : place + 0 ≡ place = omega arith in
    let within : place < length c.loop-place.values = omega (arith, inv.long, c.loop-place-test.true) in
    record {
      long = length-set c.loop-place.values place c.next_value.result ∙ inv.long;
      read = one_read place c.loop-place.values c.next_value.result c.args.bytes.now inv.read within
          (c.next_value.ensures.value ∙ inv.left 0 ∙ ap (column c.args.bytes.now) here);
      left = λ n.
          let next : place + suc n ≡ place + 1 + n = omega arith in
          c.next_value.ensures.left n ∙ inv.left (suc n) ∙ ap (column c.args.bytes.now) next;
    }

pub invariant_of-result : goal.invariant_of-result
invariant_of-result c = λ n h. c.loop-place.invariant.read n (omega (arith, h, c.loop-place-test.false))
