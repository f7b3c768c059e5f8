use Rattle.svn_disk.proofs.Rewriting.{IsAsFar}
use Rattle.svn_disk.proofs.normal.without_values.Given as goal

abbrev pub invariant-signs : goal.invariant-signs
invariant-signs l = IsAsFar l.text l.rest l.out.items
