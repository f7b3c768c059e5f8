use Rattle.std.proofs.Common.{◌≡◌, ℕ, List, length}
use Rattle.std.proofs.lemmas.Map.Views.{All-keys-insert_entry}
use Rattle.svn_types.specs.Names.{name_cmp}
use Rattle.svn_wcdb.proofs.pristines.Pristines.add.Goals as goal

pub invariant_of-self-2 : goal.invariant_of-self-2
invariant_of-self-2 c =
    rw c.in_ok-insert.ensures.entries
    (All-keys-insert_entry name_cmp c.in_ok-word.word c.in_ok-word.size (λ (k : List ℕ). length k ≡ 46) c.self.inside.sizes.entries c.self.invariant
    c.in_ok-word.ensures.long)
