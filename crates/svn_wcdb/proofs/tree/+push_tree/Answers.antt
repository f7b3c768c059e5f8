use Rattle.std.proofs.Common.{◌≡◌, ℕ, ◌+◌, ◌-◌, ◌<◌, ◌≤◌, Bool, Ok, Result, length, sym, ap, subst, ◌∙◌, arith}
use Rattle.std.proofs.lemmas.Result.{err_from_is_err_and}
use Rattle.svn_wcdb.specs.declared.fault.Reason.{Reason}
use Rattle.svn_wcdb.specs.Images.{page_in, seen_file}
use Rattle.svn_wcdb.specs.Pages.{children_of}
use Rattle.svn_wcdb.specs.Reading.{Gives, Fails}
use Rattle.svn_wcdb.specs.Tables.{Rows, seen_rows, tree_after}
use Rattle.svn_wcdb.proofs.ReadingLemmas.{each_step, each_fault, each_end}
use Rattle.svn_wcdb.proofs.TreeLemmas.{count_of, length-children_of, no_level, tree_of_leaf, tree_of_pages, no_page_left, bad_node}
use Rattle.svn_wcdb.proofs.tree.+push_tree.Goals as goal

pub returns-then-levels-eq0 : goal.returns-then-levels-eq0
returns-then-levels-eq0 t c = no_level _ _ _ _ _ c.if-levels-eq0.true

pub returns-in_err-table : goal.returns-in_err-table
returns-in_err-table t c =
    let p = err_from_is_err_and c.from_residual.result c.from_residual.ensures.1 in
    rw (p.1, p.2) (no_page_left _ _ _ _ _ _ c.if-levels-eq0.false c.in_err-table.ensures.taken)

pub returns-in_err-node : goal.returns-in_err-node
returns-in_err-node t c =
    let p = err_from_is_err_and c.from_residual-in_err-node.result c.from_residual-in_err-node.ensures.1 in
    rw (p.1, p.2) (bad_node _ _ _ _ _ _ _ c.if-levels-eq0.false c.in_ok-table.ensures.taken c.in_err-node.ensures.page)

pub returns-then-node : goal.returns-then-node
returns-then-node t c =
    let node = c.in_ok-node.node in
    subst (λ (read : Result Rows Reason). Gives (λ (_ : Unit {0}). seen_rows c.push_leaf.new.table) c.push_leaf.result read)
    (tree_of_leaf _ _ _ _ _ (seen_rows c.args.table.now) node.bytes.now c.if-levels-eq0.false c.in_ok-table.ensures.taken
    (c.in_ok-node.ensures.page ∙ ap (λ (b : Bool). Ok (record { leaf = b; bytes = node.bytes.now })) c.if-node.true))
    c.push_leaf.ensures

pub loop-i-init : goal.loop-i-init
loop-i-init t c =
    let node = c.in_ok-node.node in
    let one : c.args.levels ≡ c.args.levels - 1 + 1 = omega (arith, c.if-levels-eq0.false) in
    tree_of_pages _ _ _ _ _ _ (seen_rows c.args.table.now) node.bytes.now one c.in_ok-table.ensures.taken
    (c.in_ok-node.ensures.page ∙ ap (λ (b : Bool). Ok (record { leaf = b; bytes = node.bytes.now })) c.if-node.false)

pub returns-in_err-push_tree : goal.returns-in_err-push_tree
returns-in_err-push_tree t c =
    let p = err_from_is_err_and c.from_residual-in_err-push_tree.result c.from_residual-in_err-push_tree.ensures.1 in
    let node = c.in_ok-node.node in
    let step = tree_after (page_in (seen_file c.args.image.now)) c.args.image.now.usable (c.args.levels - 1) in
    let children = children_of node.bytes.now c.args.number in
    let within : c.loop-i.i < length children =
    omega (arith, length-children_of node.bytes.now c.args.number, count_of node c.args.image.now.usable c.args.number c.in_ok-node.ensures.node, c.loop-i-test.true) in
    rw (p.1, p.2)
    (each_fault step children c.loop-i.i 0 (seen_rows c.loop-i.table) c.in_err-push_tree.field-0.0 _ within
    (subst (λ (n : ℕ). Fails c.in_err-push_tree.field-0.0 (step n (seen_rows c.loop-i.table))) c.child_at.ensures c.in_err-push_tree.ensures) c.loop-i.invariant)

pub loop-i-preserved : goal.loop-i-preserved
loop-i-preserved t c =
    let node = c.in_ok-node.node in
    let step = tree_after (page_in (seen_file c.args.image.now)) c.args.image.now.usable (c.args.levels - 1) in
    let children = children_of node.bytes.now c.args.number in
    let within : c.loop-i.i < length children =
    omega (arith, length-children_of node.bytes.now c.args.number, count_of node c.args.image.now.usable c.args.number c.in_ok-node.ensures.node, c.loop-i-test.true) in
    each_step step children c.loop-i.i 0 (seen_rows c.loop-i.table) _ _ within
    (sym (ap (λ (n : ℕ). step n (seen_rows c.loop-i.table)) c.child_at.ensures) ∙ c.in_ok-push_tree.ensures) c.loop-i.invariant

pub returns : goal.returns
returns t c =
    let node = c.in_ok-node.node in
    let children = children_of node.bytes.now c.args.number in
    let all_done : length children ≤ c.loop-i.i =
    omega (arith, length-children_of node.bytes.now c.args.number, count_of node c.args.image.now.usable c.args.number c.in_ok-node.ensures.node, c.loop-i-test.false) in
    each_end (tree_after (page_in (seen_file c.args.image.now)) c.args.image.now.usable (c.args.levels - 1)) children c.loop-i.i (seen_rows c.loop-i.table) _
    all_done c.loop-i.invariant
