use Rattle.std.proofs.Common.{◌≡◌, true, take}
use Rattle.svn_disk.specs.Readings.{is_end}
use Rattle.svn_disk.specs.Signs.{IsEnded}
use Rattle.svn_disk.proofs.normal.with_line_ends.Given as goal

abbrev pub invariant-loop-sign : goal.invariant-loop-sign
invariant-loop-sign l = is_end l.end ≡ true → IsEnded l.end (take l.sign-index l.text) l.out.items l.before
