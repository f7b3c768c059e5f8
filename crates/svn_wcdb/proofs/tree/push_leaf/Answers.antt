use Rattle.std.proofs.Common.{◌≡◌, true, ℕ, List, [], ◌<◌, ◌≤◌, length, get_or, sym, ap, subst, ◌∙◌, arith}
use Rattle.std.proofs.lemmas.Result.{err_from_is_err_and}
use Rattle.sqlite_format.specs.declared.kind.Tree.TheVariants.{Table}
use Rattle.sqlite_format.specs.Cell.{IsBody}
use Rattle.svn_wcdb.specs.Images.{page_in, seen_file}
use Rattle.svn_wcdb.specs.Pages.{bodies_of}
use Rattle.svn_wcdb.specs.Reading.{Fails}
use Rattle.svn_wcdb.specs.Tables.{seen_rows, row_after}
use Rattle.svn_wcdb.proofs.ReadingLemmas.{each_step, each_fault, each_end}
use Rattle.svn_wcdb.proofs.TreeLemmas.{body_whole, body_in, count_of, length-bodies_of}
use Rattle.svn_wcdb.proofs.tree.push_leaf.Goals as goal

pub push_row-requires : goal.push_row-requires
push_row-requires c =
    subst (λ (row : List ℕ). IsBody Table true c.args.image.now.usable row) (sym c.body_at.ensures)
    (body_whole c.args.node.now c.args.image.now.usable c.args.number c.loop-i.i c.requires.node c.requires.leaf c.loop-i-test.true)

pub returns-in_err-push_row : goal.returns-in_err-push_row
returns-in_err-push_row c =
    let p = err_from_is_err_and c.from_residual.result c.from_residual.ensures.1 in
    let node = c.args.node.now in
    let step = row_after (page_in (seen_file c.args.image.now)) c.args.image.now.usable in
    let bodies = bodies_of node.bytes.now c.args.number in
    let row : c.body_at.result.now ≡ get_or bodies c.loop-i.i [] =
    c.body_at.ensures ∙ body_in node c.args.image.now.usable c.args.number c.loop-i.i c.requires.node c.requires.leaf c.loop-i-test.true in
    let within : c.loop-i.i < length bodies =
    omega (arith, length-bodies_of node.bytes.now c.args.number, count_of node c.args.image.now.usable c.args.number c.requires.node, c.loop-i-test.true) in
    rw (p.1, p.2)
    (each_fault step bodies c.loop-i.i [] (seen_rows c.loop-i.table) c.in_err-push_row.field-0.0 _ within
    (subst (λ (b : List ℕ). Fails c.in_err-push_row.field-0.0 (step b (seen_rows c.loop-i.table))) row c.in_err-push_row.ensures) c.loop-i.invariant)

pub loop-i-preserved : goal.loop-i-preserved
loop-i-preserved c =
    let node = c.args.node.now in
    let step = row_after (page_in (seen_file c.args.image.now)) c.args.image.now.usable in
    let bodies = bodies_of node.bytes.now c.args.number in
    let row : c.body_at.result.now ≡ get_or bodies c.loop-i.i [] =
    c.body_at.ensures ∙ body_in node c.args.image.now.usable c.args.number c.loop-i.i c.requires.node c.requires.leaf c.loop-i-test.true in
    let within : c.loop-i.i < length bodies =
    omega (arith, length-bodies_of node.bytes.now c.args.number, count_of node c.args.image.now.usable c.args.number c.requires.node, c.loop-i-test.true) in
    each_step step bodies c.loop-i.i [] (seen_rows c.loop-i.table) _ _ within
    (sym (ap (λ (b : List ℕ). step b (seen_rows c.loop-i.table)) row) ∙ c.in_ok-push_row.ensures) c.loop-i.invariant

pub returns : goal.returns
returns c =
    let node = c.args.node.now in
    let bodies = bodies_of node.bytes.now c.args.number in
    let all_done : length bodies ≤ c.loop-i.i =
    omega (arith, length-bodies_of node.bytes.now c.args.number, count_of node c.args.image.now.usable c.args.number c.requires.node, c.loop-i-test.false) in
    each_end (row_after (page_in (seen_file c.args.image.now)) c.args.image.now.usable) bodies c.loop-i.i (seen_rows c.loop-i.table) _ all_done
    c.loop-i.invariant
