use Rattle.std.proofs.Common.{◌≡◌, ◌-◌, drop}
use Rattle.svn_wcdb.specs.Images.{page_in, seen_file}
use Rattle.svn_wcdb.specs.Pages.{children_of}
use Rattle.svn_wcdb.specs.Reading.{each}
use Rattle.svn_wcdb.specs.Tables.{seen_rows, tree_after}
use Rattle.svn_wcdb.proofs.tree.+push_tree.Given as goal

abbrev pub decreases-push_tree : goal.decreases-push_tree
decreases-push_tree l = l.levels

-- the rows so far, and those of the other pages below
abbrev pub invariant-loop-i : goal.invariant-loop-i
invariant-loop-i l =
    let pages = page_in (seen_file l.image) in
    each (tree_after pages l.image.usable (l.levels - 1)) (drop l.i (children_of l.node.bytes.now l.number)) (seen_rows l.table)
    ≡ tree_after pages l.image.usable l.levels l.number (seen_rows l.fn.table)
