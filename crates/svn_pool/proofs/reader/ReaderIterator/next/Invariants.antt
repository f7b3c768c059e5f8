use Rattle.std.proofs.Common.{◌≡◌, length}
use Rattle.svn_pool.specs.Frames.{IsFramed}
use Rattle.svn_pool.specs.Readers.{targets, to_read}
use Rattle.svn_pool.proofs.reader.ReaderIterator.next.Given as goal

abbrev pub invariant-loop-self : goal.invariant-loop-self
invariant-loop-self g l =
    IsFramed l.self-inside.left l.self-inside.rest.now
    × (to_read l.self-inside.left l.self-inside.rest.now (targets l.self-inside.pages.items)
    ≡ to_read l.initial.self-inside.left l.initial.self-inside.rest.now (targets l.initial.self-inside.pages.items))

abbrev pub decreases-loop-self : goal.decreases-loop-self
decreases-loop-self g l = length l.self-inside.pages.items
