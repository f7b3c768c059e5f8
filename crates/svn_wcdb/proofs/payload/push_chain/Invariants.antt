use Rattle.std.proofs.Common.{◌≡◌}
use Rattle.svn_wcdb.specs.Images.{page_in, seen_file}
use Rattle.svn_wcdb.specs.Tables.{chain_after}
use Rattle.svn_wcdb.proofs.payload.push_chain.Given as goal

abbrev pub decreases-links : goal.decreases-links
decreases-links l = l.spare

-- the bytes so far, and those that the chain has from here on
abbrev pub invariant-links : goal.invariant-links
invariant-links l =
    let pages = page_in (seen_file l.image) in
    chain_after pages l.image.usable l.spare l.number l.left l.out.items ≡ chain_after pages l.image.usable l.fn.spare l.first l.len l.fn.out.items
