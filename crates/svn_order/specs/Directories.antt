-- What is remembered of the directories that are open, the innermost last. Each is at the place that is the length of its path.
use Rattle.std.specs.Prelude.{◌≡◌, ℕ, ◌-◌, Bool, true, false, ◌&&◌, ◌||◌, not, List, [], ◌∷◌, ◌++◌, length, map, nat_eq, Option}
use Rattle.std.specs.Prelude.{Some, None, MatchOption, slice_get, take}
use Rattle.std.specs.Option.{option_map}
use Rattle.std.specs.Borrow.{Bor}
use Rattle.svn_types.specs.Names.{Path}
use Rattle.svn_types.specs.Paths.{path_eq, parent, is_root}
use Rattle.svn_order.specs.declared.directories.OpenedDirectory.{OpenedDirectory}
use Rattle.svn_order.specs.NameSets.{has_name, Inserts}

-- the last name of a path
abbrev pub entry_name : Path → List ℕ
entry_name [] = []
entry_name (n ∷ []) = n
entry_name (m ∷ n ∷ p) = entry_name (n ∷ p)

-- a path is the root, or an entry of its parent
pub record IsEntry (p q : Path) (n : List ℕ) : Type 0 where
  pub below_root : is_root p ≡ false
  pub parent_is : parent p ≡ q
  pub name_is : entry_name p ≡ n

abbrev pub EntrySplit : Path → Option (Bor (List ℕ) × Bor Path) → Type 0
EntrySplit p found = MatchOption found (is_root p ≡ true) (λ e. IsEntry p e.1.now e.0.now)

-- the token and the path of a directory
abbrev pub shown : OpenedDirectory → ℕ × Path
shown d = (d.token, d.path)

abbrev pub innermost_of : List OpenedDirectory → Option ℕ
innermost_of ds = option_map (λ d. d.token) (slice_get ds (length ds - 1))

abbrev pub changed_late_of : Option OpenedDirectory → Bool
changed_late_of None = false
changed_late_of (Some d) = d.is_changed_late

abbrev pub changed_late_in : List OpenedDirectory → Bool
changed_late_in ds = changed_late_of (slice_get ds (length ds - 1))

-- ---- entries, by their paths

abbrev pub is_directory : ℕ → Path → Option OpenedDirectory → Bool
is_directory t p None = false
is_directory t p (Some d) = nat_eq d.token t && path_eq d.path p

abbrev pub holds_entry : List OpenedDirectory → ℕ → Path → Bool
holds_entry ds t p = not (is_root p) && is_directory t (parent p) (slice_get ds (length (parent p)))

abbrev pub opened_of : List ℕ → Option OpenedDirectory → Bool
opened_of n None = false
opened_of n (Some d) = has_name d.opened n

abbrev pub deleted_of : List ℕ → Option OpenedDirectory → Bool
deleted_of n None = false
deleted_of n (Some d) = has_name d.deleted n

abbrev pub is_opened_in : List OpenedDirectory → Path → Bool
is_opened_in ds p = not (is_root p) && opened_of (entry_name p) (slice_get ds (length (parent p)))

abbrev pub is_deleted_in : List OpenedDirectory → Path → Bool
is_deleted_in ds p = not (is_root p) && deleted_of (entry_name p) (slice_get ds (length (parent p)))

-- ---- changes

pub record IsNew (p : Path) (t : ℕ) (d : OpenedDirectory) : Type 0 where
  pub shown : shown d ≡ (t, p)
  pub opened : d.opened ≡ []
  pub deleted : d.deleted ≡ []
  pub no_subdirectory : d.has_subdirectory ≡ false
  pub not_late : d.is_changed_late ≡ false

pub record InsertsOpened (n : List ℕ) (old new : OpenedDirectory) : Type 0 where
  pub shown : shown new ≡ shown old
  pub opened : Inserts old.opened n new.opened
  pub deleted : new.deleted ≡ old.deleted
  pub subdirectory : new.has_subdirectory ≡ old.has_subdirectory
  pub late : new.is_changed_late ≡ old.is_changed_late

pub record InsertsDeleted (n : List ℕ) (old new : OpenedDirectory) : Type 0 where
  pub shown : shown new ≡ shown old
  pub opened : new.opened ≡ old.opened
  pub deleted : Inserts old.deleted n new.deleted
  pub subdirectory : new.has_subdirectory ≡ old.has_subdirectory
  pub late : new.is_changed_late ≡ old.is_changed_late

-- one directory at most is another, and shows the same
pub record ChangesAt (i : ℕ) (Change : OpenedDirectory → OpenedDirectory → Type 0) (old new : List OpenedDirectory) : Type 0 where
  pub shown : map shown new ≡ map shown old
  pub others : (j : ℕ) (d : OpenedDirectory) → slice_get new j ≡ Some d → (j ≡ i → ⊥) → slice_get old j ≡ Some d
  pub changed : (d : OpenedDirectory) → slice_get new i ≡ Some d → (b : OpenedDirectory) × (slice_get old i ≡ Some b) × Change b d

abbrev pub OpensEntry : List OpenedDirectory → Path → List OpenedDirectory → Type 0
OpensEntry old p new = is_root p ≡ false → ChangesAt (length (parent p)) (InsertsOpened (entry_name p)) old new

abbrev pub DeletesEntry : List OpenedDirectory → Path → List OpenedDirectory → Type 0
DeletesEntry old p new = is_root p ≡ false → ChangesAt (length (parent p)) (InsertsDeleted (entry_name p)) old new

abbrev pub with_subdirectory : OpenedDirectory → OpenedDirectory
with_subdirectory d = record d { has_subdirectory = true }

abbrev pub with_change : OpenedDirectory → OpenedDirectory
with_change d = record d { is_changed_late = d.is_changed_late || d.has_subdirectory }

abbrev pub OpensSubdirectory : List OpenedDirectory → List OpenedDirectory → Type 0
OpensSubdirectory old new = ChangesAt (length old - 1) (λ b d. d ≡ with_subdirectory b) old new

abbrev pub ChangesProp : List OpenedDirectory → List OpenedDirectory → Type 0
ChangesProp old new = ChangesAt (length old - 1) (λ b d. d ≡ with_change b) old new

-- one more directory, which is open from now on
abbrev pub Opens : List OpenedDirectory → Path → ℕ → List OpenedDirectory → Type 0
Opens old p t new = (d : OpenedDirectory) × IsNew p t d × (new ≡ old ++ d ∷ [])

abbrev pub without_last : List OpenedDirectory → List OpenedDirectory
without_last ds = take (length ds - 1) ds
