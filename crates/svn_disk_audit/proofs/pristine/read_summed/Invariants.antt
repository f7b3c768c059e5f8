use Rattle.std.proofs.Common.{◌≡◌, ◌-◌, ◌^◌, List, ℕ, []}
use Rattle.std.specs.Prelude.{◌↔◌, IsTrue}
use Rattle.std.specs.Io.KnownBytes.{Consumes}
use Rattle.sha1.specs.Sha1.{Holds as Sha1Holds}
use Rattle.svn_disk_audit.specs.Pristine.{Holds}
use Rattle.svn_disk_audit.proofs.pristine.read_summed.Given as goal

abbrev pub decreases-pieces : goal.decreases-pieces
decreases-pieces g l = 2 ^ 64 - 1 - l.tries.count

-- what the reader gave so far is summed, and kept if asked; whether that is nothing is noted
abbrev pub invariant-pieces : goal.invariant-pieces
invariant-pieces g l = record {
  front : List ℕ;
  taken : Consumes (g.R.Read.remaining l.initial.input) (g.R.Read.remaining l.input) front;
  summed : Sha1Holds l.sum front;
  held : Holds l.held front;
  texts : l.held.texts ≡ l.fn.texts;
  empty : IsTrue l.is_empty ↔ (front ≡ []);
}
