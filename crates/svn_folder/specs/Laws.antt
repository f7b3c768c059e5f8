-- What a crash can't undo, that a file takes the place of another at once, and what steps elsewhere leave alone: what a step of an update rests on.
use Rattle.std.specs.Prelude.{◌≡◌, ◌↔◌, ◌⊎◌, Bool, true, false, ◌&&◌, not, List, [], ◌∷◌, ◌++◌, ⊤}
use Rattle.svn_types.specs.Names.{Path}
use Rattle.svn_types.specs.Paths.{is_within, is_root, parent, child}
use Rattle.svn_folder.specs.declared.step.Step.{Step}
use Rattle.svn_folder.specs.declared.step.Step.TheVariants.{Make, SyncFile, SyncDirectory, Rename, RenameDirectory, RemoveFile, RemoveDirectory}
use Rattle.svn_folder.specs.Entries.{has_directory}
use Rattle.svn_folder.specs.States.{Seen, Place, State, seen, empty}
use Rattle.svn_folder.specs.Steps.{is_none_older, run}
use Rattle.svn_folder.specs.Syncing.{IsSynced}
use Rattle.svn_folder.specs.Crashes.{MayLeave, RunMayLeave, shown}

-- the bytes and the name are on the disk
abbrev pub is_firm : Place → Bool
is_firm place = is_none_older place.older && place.now.is_synced

abbrev pub is_way_below : State → Path → Path → Bool
is_way_below s above [] = true
is_way_below s above (n ∷ p) = is_firm (s above) && has_directory (s above).now.entry && is_way_below s (child above n) p

-- each directory above a path is there, and its name is on the disk
abbrev pub is_way : State → Path → Bool
is_way s p = is_way_below s [] p

-- A crash may leave what is shown: a program that is stopped, while the power stays, leaves that.
abbrev pub what_is_shown_may_be_left : Type 0
what_is_shown_may_be_left = (s : State) → MayLeave s (shown (seen s))

-- What is on the disk, with each name on the way to it, is there after every crash.
abbrev pub what_is_synced_stays : Type 0
what_is_synced_stays = (s : State) (p : Path) (left : Seen) → is_way s p ≡ true → is_firm (s p) ≡ true → MayLeave s left → left p ≡ seen s p

-- A file whose bytes are on the disk gets the path of an entry that is on the disk with all of its way, and then the directory is synced.
abbrev pub replacing : Path → Path → List Step
replacing p q = Rename p q ∷ SyncDirectory (parent q) ∷ []

pub record CanReplace (s : State) (p q : Path) : Type 0 where
  pub way : is_way s q ≡ true
  pub old : is_firm (s q) ≡ true
  pub new : (s p).now.is_synced ≡ true
  pub apart : is_within p q ≡ false
  pub below : is_root q ≡ false

-- A crash at any moment of this leaves the old one or the new one, and a crash after it the new one.
abbrev pub a_file_is_replaced_at_once : Type 0
a_file_is_replaced_at_once =
    (s : State) (p q : Path) (left : Seen) → CanReplace s p q
    → (RunMayLeave s (replacing p q) left → (left q ≡ seen s q) ⊎ (left q ≡ seen s p)) × (MayLeave (run s (replacing p q)) left → left q ≡ seen s p)

-- ---- steps elsewhere

-- a step makes, puts, renames or removes nothing at a path, nor at a directory above it
abbrev pub is_apart : Step → Path → Bool
is_apart (Make q e t) p = not (is_within q p)
is_apart (SyncFile q) p = true
is_apart (SyncDirectory q) p = true
is_apart (Rename q r) p = not (is_within q p) && not (is_within r p)
is_apart (RenameDirectory m n) p = not (is_within (m ∷ []) p) && not (is_within (n ∷ []) p)
is_apart (RemoveFile q) p = not (is_within q p)
is_apart (RemoveDirectory q) p = not (is_within q p)

abbrev pub AreApart : List Step → Path → Type 0
AreApart [] p = ⊤
AreApart (step ∷ steps) p = (is_apart step p ≡ true) × AreApart steps p

-- Steps that are apart from a path leave what is shown there.
abbrev pub steps_apart_change_nothing : Type 0
steps_apart_change_nothing = (s : State) (steps : List Step) (p : Path) → AreApart steps p → seen (run s steps) p ≡ seen s p

-- it is on the disk, with each name on the way to it
abbrev pub IsOnDisk : State → Path → Type 0
IsOnDisk s p = (is_way s p ≡ true) × (is_firm (s p) ≡ true)

-- What is on the disk is there after a crash at any moment of steps that are apart from it, and on the disk after them.
abbrev pub what_is_synced_stays_meanwhile : Type 0
what_is_synced_stays_meanwhile =
    (s : State) (steps : List Step) (p : Path) → IsOnDisk s p → AreApart steps p
    → ((left : Seen) → RunMayLeave s steps left → left p ≡ seen s p) × IsOnDisk (run s steps) p

-- ---- steps one after the other

-- A crash at a moment of some steps and more is one during the former, or one during the latter, which begin where those end.
abbrev pub steps_are_joined : Type 0
steps_are_joined =
    (s : State) (steps more : List Step)
    → (run s (steps ++ more) ≡ run (run s steps) more)
    × ((left : Seen) → RunMayLeave s (steps ++ more) left ↔ RunMayLeave s steps left ⊎ RunMayLeave (run s steps) more left)

-- ---- all of it

-- Once all is on the disk a crash leaves what is shown. Each path in a directory that is there is then on the disk with all of its way, also one at
-- which nothing is. (Each entry is in a directory.)
abbrev pub a_synced_folder_stays : Type 0
a_synced_folder_stays =
    (s : State) → IsSynced s
    → ((left : Seen) → MayLeave s left → (p : Path) → left p ≡ seen s p)
    × ((p : Path) → has_directory (seen s (parent p)) ≡ true → IsOnDisk s p)

-- An empty folder is all on the disk.
abbrev pub an_empty_folder_is_synced : Type 0
an_empty_folder_is_synced = IsSynced empty
