use Rattle.std.proofs.Common.{◌≡◌, drop}
use Rattle.svn_wcdb.specs.Images.{page_in, seen_file}
use Rattle.svn_wcdb.specs.Pages.{bodies_of}
use Rattle.svn_wcdb.specs.Reading.{each}
use Rattle.svn_wcdb.specs.Tables.{seen_rows, row_after}
use Rattle.svn_wcdb.proofs.tree.push_leaf.Given as goal

-- the rows so far, and those of the other cells
abbrev pub invariant-loop-i : goal.invariant-loop-i
invariant-loop-i l =
    let step = row_after (page_in (seen_file l.image)) l.image.usable in
    let bodies = bodies_of l.node.bytes.now l.number in
    each step (drop l.i bodies) (seen_rows l.table) ≡ each step bodies (seen_rows l.fn.table)
