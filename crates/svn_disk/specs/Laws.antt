-- What a checkout rests on when the administrative folder gets its name, what its steps, those of a change and those of a completion leave alone, and what is in
-- place once the changes of a list are.
use Rattle.std.specs.Prelude.{◌≡◌, ◌⊎◌, ℕ, Bool, true, false, List, [], ◌∷◌, bytes_eq, codes, Some, None}
use Rattle.std.specs.List.{list_all}
use Rattle.svn_types.specs.Names.{Path}
use Rattle.svn_types.specs.Paths.{is_within}
use Rattle.svn_model.specs.declared.base_node.BaseNode.{BaseNode}
use Rattle.svn_model.specs.Nodes.{get_in, is_present, is_file}
use Rattle.svn_folder.specs.declared.step.Step.{Step}
use Rattle.svn_folder.specs.declared.step.Step.TheVariants.{RenameDirectory}
use Rattle.svn_folder.specs.States.{Seen, State, seen}
use Rattle.svn_folder.specs.Steps.{after, run}
use Rattle.svn_folder.specs.Crashes.{RunMayLeave}
use Rattle.svn_folder.specs.Syncing.{IsSynced}
use Rattle.svn_folder.specs.Laws.{IsOnDisk}
use Rattle.svn_folder.specs.declared.entry.Entry.{Entry}
use Rattle.svn_folder.specs.Entries.{has_leaf}
use Rattle.svn_disk.specs.declared.plan.PathChange.{PathChange}
use Rattle.svn_disk.specs.Places.{is_node, is_of_copy, is_either, is_of_change}
use Rattle.svn_disk.specs.Spared.{EachIn, IsOwn, Spares}
use Rattle.svn_disk.specs.Ends.{IsAtPlace}
use Rattle.svn_disk.specs.Changes.{has_to_come, HasEachChange, AreChanged}

-- what was on the disk at a name in the folder, and below it, is there at another one
abbrev pub IsThereUnder : State → List ℕ → List ℕ → Seen → Type 0
IsThereUnder s m n left = (p : Path) → IsOnDisk s (m ∷ p) → left (n ∷ p) ≡ seen s (m ∷ p)

-- Once all of a folder is on the disk a directory in it gets another name, which is free, at once: a crash leaves nothing at that name, or all that was at the old one.
-- After the step all of that is on the disk at the new name.
abbrev pub a_directory_is_renamed_at_once : Type 0
a_directory_is_renamed_at_once =
    (s : State) (m n : List ℕ) → IsSynced s → bytes_eq m n ≡ false → seen s (n ∷ []) ≡ None
    → ((left : Seen) → RunMayLeave s (RenameDirectory m n ∷ []) left → (left (n ∷ []) ≡ None) ⊎ IsThereUnder s m n left)
    × IsThereUnder s m n (seen (after (RenameDirectory m n) s))
    × ((p : Path) → IsOnDisk s (m ∷ p) → IsOnDisk (after (RenameDirectory m n) s) (n ∷ p))

-- Steps of a checkout leave what is shown at a path that isn't in its folders, nor that of a node of the copy or below one.
abbrev pub a_checkout_changes_nothing_else : Type 0
a_checkout_changes_nothing_else =
    (copy : List (Path × BaseNode)) (s : State) (steps : List Step) (p : Path) → is_within (codes ".svn-new" ∷ []) p ≡ false
    → is_within (codes ".svn" ∷ []) p ≡ false → ((q : Path) → is_node copy q ≡ true → is_within q p ≡ false)
    → list_all (is_of_copy copy) steps ≡ true → seen (run s steps) p ≡ seen s p

-- Steps that bring a copy to another one leave what is shown at a path that isn't in the administrative folder, nor that of a node of either or below one.
abbrev pub a_change_changes_nothing_else : Type 0
a_change_changes_nothing_else =
    (old new : List (Path × BaseNode)) (s : State) (steps : List Step) (p : Path) → is_within (codes ".svn" ∷ []) p ≡ false
    → ((q : Path) → is_either old new q ≡ true → is_within q p ≡ false) → list_all (is_of_change old new) steps ≡ true → seen (run s steps) p ≡ seen s p

-- Steps that spare all but what has a known text leave any other file or link, outside of the administrative folder, as it is.
abbrev pub what_has_no_known_text_stays : Type 0
what_has_no_known_text_stays =
    (known : List ℕ → Bool) (n : List ℕ) (s : State) (steps : List Step) (p : Path) (e : Entry) → is_within (n ∷ []) p ≡ false → seen s p ≡ Some e
    → (IsOwn known (Some e) → ⊥) → EachIn (Spares known n) s steps → seen (run s steps) p ≡ Some e

-- Once the changes of a list are in place, and the list has each change: a node that had to come is at its place, and where a file was and the new copy has
-- nothing is no file and no link.
abbrev pub what_changes_is_in_place : Type 0
what_changes_is_in_place =
    (old new : List (Path × BaseNode)) (changes : List PathChange) (left : Seen) (p : Path) → HasEachChange old new changes → AreChanged old new changes left
    → ((node : BaseNode) → get_in new p ≡ Some node → has_to_come (get_in old p) (Some node) ≡ true → IsAtPlace node (left p))
    × (is_file (get_in old p) ≡ true → is_present (get_in new p) ≡ false → has_leaf (left p) ≡ false)
