use Rattle.std.proofs.Common.{drop}
use Rattle.std.specs.Prelude.{All}
use Rattle.svn_image.specs.Items.{IsOrdered}
use Rattle.svn_image.proofs.order.check_items.Given as goal

-- all items are in order, if the others are
abbrev pub invariant-loop-place : goal.invariant-loop-place
invariant-loop-place l = All IsOrdered (drop l.place l.items) → All IsOrdered l.items
