use Rattle.std.proofs.Common.{◌≡◌, ◌++◌, replicate}
use Rattle.std.specs.Prelude.{codes}
use Rattle.svn_disk.proofs.normal.push_blanked.Given as goal

abbrev pub invariant-blanks : goal.invariant-blanks
invariant-blanks l = l.out.items ≡ l.fn.out.items ++ (codes "$" ++ l.name ++ codes "::" ++ replicate l._blank 32)
