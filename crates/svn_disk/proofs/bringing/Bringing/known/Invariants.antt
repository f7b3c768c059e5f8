use Rattle.std.proofs.Common.{◌≡◌, ℕ, true, List}
use Rattle.svn_disk.specs.Spared.{texts_of_either}
use Rattle.svn_disk.specs.Finding.{has_word}
use Rattle.svn_disk.proofs.bringing.Bringing.known.Given as goal

abbrev pub invariant-loop-item : goal.invariant-loop-item
invariant-loop-item l = (t : List ℕ) → has_word l.known t ≡ true → texts_of_either l.self.existing.now.tables.pristine.items l.self.wanted.now.copy t ≡ true
