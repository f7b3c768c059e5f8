-- What each step does to a folder, when it fits, and what a run of steps leaves.
--     fits step s      it can be taken
--     after step s      it has been taken
--     begun step s      in what states a crash may catch it, besides those before it and after it
--     run s steps      after all of them
use Rattle.std.specs.Prelude.{◌≡◌, ℕ, Bool, true, false, ◌&&◌, not, List, [], ◌∷◌, bytes_eq, None, if◌then◌else◌}
use Rattle.svn_types.specs.Names.{Path}
use Rattle.svn_types.specs.Paths.{path_eq, is_root, parent, child, last_name}
use Rattle.svn_folder.specs.declared.step.Step.{Step}
use Rattle.svn_folder.specs.declared.step.Step.TheVariants.{Make, SyncFile, SyncDirectory, Rename, RenameDirectory, RemoveFile, RemoveDirectory}
use Rattle.svn_folder.specs.Entries.{has_file, has_leaf, has_directory}
use Rattle.svn_folder.specs.States.{Held, State, seen, nothing, fresh, becomes, with_bytes, with_name, vacant}

-- ---- what a step does

abbrev pub put : Path → Held → State → State
put p held s q = if path_eq p q then becomes held (s q) else s q

abbrev pub sync_file : Path → State → State
sync_file p s q = if path_eq p q then with_bytes (s q) else s q

abbrev pub is_none_older : List Held → Bool
is_none_older [] = true
is_none_older (held ∷ older) = false

abbrev pub is_in : Path → Path → Bool
is_in d p = not (is_root p) && path_eq (parent p) d

-- The names in a directory are on the disk, if its own name is: else a crash may leave another directory at its path, one that was there before, and
-- nothing is known of that. So what is new is synced from above. (The name of a directory that is there is on the disk only if each above it is.)
abbrev pub sync_directory : Path → State → State
sync_directory d s p = if is_in d p && is_none_older (s d).older then with_name (s p) else s p

-- the directory at the name m, with what is below it, is at the name n too
abbrev pub copied : List ℕ → List ℕ → State → State
copied m n s [] = s []
copied m n s (k ∷ p) = if bytes_eq n k then s (m ∷ p) else s (k ∷ p)

-- nothing is at the name m or below it
abbrev pub cleared : List ℕ → State → State
cleared m s [] = s []
cleared m s (k ∷ p) = if bytes_eq m k then vacant else s (k ∷ p)

abbrev pub moved : List ℕ → List ℕ → State → State
moved m n s = cleared m (copied m n s)

abbrev pub after : Step → State → State
after (Make p e t) s = put p (fresh e) s
after (SyncFile p) s = sync_file p s
after (SyncDirectory p) s = sync_directory p s
after (Rename p q) s = put q (s p).now (put p nothing s)
after (RenameDirectory m n) s = sync_directory [] (moved m n s)
after (RemoveFile p) s = put p nothing s
after (RemoveDirectory p) s = put p nothing s

-- of a directory's two names each may be old or new, with all that is below it
abbrev pub begun : Step → State → List State
begun (Make p e t) s = []
begun (SyncFile p) s = []
begun (SyncDirectory p) s = []
begun (Rename p q) s = []
begun (RenameDirectory m n) s = copied m n s ∷ cleared m s ∷ moved m n s ∷ []
begun (RemoveFile p) s = []
begun (RemoveDirectory p) s = []

abbrev pub run : State → List Step → State
run s [] = s
run s (step ∷ steps) = run (after step s) steps

-- ---- when it fits

-- nothing is there, and a directory is above
abbrev pub IsFree : State → Path → Type 0
IsFree s p = (seen s p ≡ None) × (has_directory (seen s (parent p)) ≡ true)

-- a file can be put there: a directory is above, and none is there
abbrev pub TakesFile : State → Path → Type 0
TakesFile s p = (has_directory (seen s p) ≡ false) × (has_directory (seen s (parent p)) ≡ true)

abbrev pub IsEmpty : State → Path → Type 0
IsEmpty s p = (name : List ℕ) → seen s (child p name) ≡ None

abbrev pub fits : Step → State → Type 0
fits (Make p e t) s = IsFree s p
fits (SyncFile p) s = has_file (seen s p) ≡ true
fits (SyncDirectory p) s = has_directory (seen s p) ≡ true
fits (Rename p q) s = (has_leaf (seen s p) ≡ true) × TakesFile s q
fits (RenameDirectory m n) s = (has_directory (seen s (m ∷ [])) ≡ true) × (seen s (n ∷ []) ≡ None)
fits (RemoveFile p) s = has_leaf (seen s p) ≡ true
fits (RemoveDirectory p) s = (has_directory (seen s p) ≡ true) × (is_root p ≡ false) × IsEmpty s p

-- ---- the name of what it makes

-- the last name of the path that an entry is made at or put at, as a path
abbrev pub new_name : Step → Path
new_name (Make p e t) = last_name p
new_name (SyncFile p) = []
new_name (SyncDirectory p) = []
new_name (Rename p q) = last_name q
new_name (RenameDirectory m n) = n ∷ []
new_name (RemoveFile p) = []
new_name (RemoveDirectory p) = []
