use Rattle.std.proofs.Common.{drop}
use Rattle.svn_wcdb.specs.Images.{seen_file}
use Rattle.svn_image.specs.Written.{HaveRows}
use Rattle.svn_image.proofs.check.check_items.Given as goal

-- all tables have their rows, if those of the other items have
abbrev pub invariant-loop-i : goal.invariant-loop-i
invariant-loop-i l = HaveRows (seen_file l.image) (drop l.i l.items) (drop l.i l.roots) → HaveRows (seen_file l.image) l.items l.roots
