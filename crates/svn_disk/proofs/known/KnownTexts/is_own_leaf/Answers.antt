use Rattle.std.proofs.Common.{◌≡◌, ℕ, true, List, ap, sym, ◌∙◌, subst}
use Rattle.svn_folder.specs.Entries.{has_leaf}
use Rattle.svn_folder.specs.States.{seen}
use Rattle.svn_disk.specs.declared.on_disk.Found.{Found}
use Rattle.svn_disk.specs.Goes.{IsAlways}
use Rattle.svn_disk.specs.Finding.{has_word, IsFound}
use Rattle.svn_disk.proofs.Finding.{leaf_owns}
use Rattle.svn_disk.proofs.known.KnownTexts.is_own_leaf.Goals.{then-has, else-has+in_ok-has_reading-in-Leaf}
use Rattle.svn_disk.proofs.known.KnownTexts.is_own_leaf.Goals as goal

pub returns-then-branch-clause-own : goal.returns-then-branch-clause-own
returns-then-branch-clause-own g c =
    let now = g.F.Folder.past c.args.folder.now in
    let found = subst (λ (f : Found). IsAlways (λ s. IsFound f (seen s c.args.path.now)) now) c.in-Leaf.is c.in_ok-find.ensures in
    elim c.if-has.branch [
      | then-has w ↦
          leaf_owns (has_word c.args.self.now) now c.args.path.now c.in-Leaf.text
          (subst (λ (t : List ℕ). has_word c.args.self.now t ≡ true) c.as_slice.ensures (c.has.ensures w.if-has.true)) found
      | else-has+in_ok-has_reading-in-Leaf w ↦ w.in_ok-has_reading-in-Leaf.ensures (sym w.value-is ∙ c.if-branch.true)
    ]

pub returns-in-Nothing-clause-leafless : goal.returns-in-Nothing-clause-leafless
returns-in-Nothing-clause-leafless g c = λ none s steps is.
    ap has_leaf (subst (λ (f : Found). IsAlways (λ s. IsFound f (seen s c.args.path.now)) (g.F.Folder.past c.args.folder.now)) c.in-Nothing.is c.in_ok-find.ensures s steps is)

pub returns-in-Directory-clause-leafless : goal.returns-in-Directory-clause-leafless
returns-in-Directory-clause-leafless g c = λ none s steps is.
    ap has_leaf (subst (λ (f : Found). IsAlways (λ s. IsFound f (seen s c.args.path.now)) (g.F.Folder.past c.args.folder.now)) c.in-Directory.is c.in_ok-find.ensures s steps is)
