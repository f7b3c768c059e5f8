use Rattle.std.proofs.Common.{◌≤◌, ℕ, ◌+◌, List, [], length, sym, subst, arith}
use Rattle.std.proofs.lemmas.List.{append-nil, drop_all}
use Rattle.svn_wcdb.specs.declared.table.TableRow.{TableRow}
use Rattle.svn_image.specs.declared.item.Item.{Item}
use Rattle.svn_image.specs.Items.{AreSchemaRows}
use Rattle.svn_image.proofs.schema.push_items.Goals as goal

-- no item is left
pub returns : goal.returns
returns c =
    let all_done : length c.args.items.now ≤ c.loop-i.i = omega arith in
    let whole = c.loop-i.invariant [] []
    (subst (λ (rest : List Item). AreSchemaRows (c.loop-i.i + 1) rest [] []) (sym (drop_all c.loop-i.i c.args.items.now all_done)) tt) in
    rw (append-nil {A = ℕ}, append-nil {A = TableRow}) at whole
