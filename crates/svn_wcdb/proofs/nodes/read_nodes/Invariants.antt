use Rattle.std.proofs.Common.{◌≡◌, length}
use Rattle.std.specs.Prelude.{fold}
use Rattle.svn_wcdb.specs.Bases.{seen_references, seen_found, none_yet, placed_in}
use Rattle.svn_wcdb.specs.Reading.{each}
use Rattle.svn_wcdb.specs.Sparse.{left_out_after, nothing_left_out, seen_left_out}
use Rattle.svn_wcdb.proofs.nodes.read_nodes.Given as goal

abbrev pub decreases-rows : goal.decreases-rows
decreases-rows l = length l.rest

-- the rows so far gave what was found, and what is left out
abbrev pub invariant-rows : goal.invariant-rows
invariant-rows l =
    let step = placed_in l.to.takes (seen_references l.to) in
    let after = left_out_after l.to.takes l.to.folder.now in
    (each step l.rest (seen_found l.taken.found) ≡ each step l.rows none_yet)
    × (fold after (seen_left_out l.taken.left_out) l.rest ≡ fold after nothing_left_out l.rows)
