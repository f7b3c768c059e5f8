use Rattle.std.proofs.Common.{◌≡◌}
use Rattle.svn_folder.specs.States.{seen}
use Rattle.svn_disk.specs.Goes.{IsAlways}
use Rattle.svn_disk.specs.Places.{text_place}
use Rattle.svn_disk.specs.Crashes.{IsTextOf, EachText}
use Rattle.svn_disk.proofs.read_back.read_texts.Given as goal

-- the texts of what is left are all that is missing
abbrev pub invariant-loop-path : goal.invariant-loop-path
invariant-loop-path g l =
    IsAlways (λ s. EachText (λ t. IsTextOf t (seen s (text_place l.admin.name t))) l.path-iterator
    → EachText (λ t. IsTextOf t (seen s (text_place l.admin.name t))) l.copy)
    (g.F.Folder.past l.folder)
