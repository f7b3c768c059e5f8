use Rattle.std.proofs.Common.{◌≡◌, ℕ, true, List}
use Rattle.svn_disk.specs.Spared.{texts_in}
use Rattle.svn_disk.specs.Finding.{has_word}
use Rattle.svn_disk.proofs.known.KnownTexts.of.Given as goal

abbrev pub invariant-loop-row : goal.invariant-loop-row
invariant-loop-row l = (t : List ℕ) → has_word l.known t ≡ true → texts_in l.rows t ≡ true
