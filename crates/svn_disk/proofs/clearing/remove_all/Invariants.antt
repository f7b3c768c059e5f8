use Rattle.std.proofs.Common.{◌≡◌, ℕ, true, List, [], ◌∷◌}
use Rattle.std.specs.List.{list_all}
use Rattle.svn_types.specs.Paths.{is_within}
use Rattle.svn_disk.specs.Goes.{Keeps}
use Rattle.svn_disk.specs.Places.{is_inside}
use Rattle.svn_disk.proofs.clearing.remove_all.Given as goal

abbrev pub invariant-directories : goal.invariant-directories
invariant-directories g l = record {
  steps : (n : List ℕ) → is_within (n ∷ []) l.path ≡ true → Keeps (is_inside n) (g.F.Folder.past l.fn.folder) (g.F.Folder.past l.folder);
  left : (n : List ℕ) → is_within (n ∷ []) l.path ≡ true → list_all (is_within (n ∷ [])) l.left.items ≡ true;
}
