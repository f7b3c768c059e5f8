-- What of a folder isn't on the disk yet, by marks at paths.
--     IsSyncedBut marks s      all is on the disk but the bytes of the marked files, and the names in the marked directories
--     IsSynced s      all is on the disk
use Rattle.std.specs.Prelude.{◌≡◌, Bool, true, false, ◌&&◌, ◌||◌, List, [], is_some}
use Rattle.svn_types.specs.Names.{Path}
use Rattle.svn_types.specs.Paths.{path_eq, parent}
use Rattle.svn_folder.specs.declared.step.Step.{Step}
use Rattle.svn_folder.specs.Entries.{has_directory}
use Rattle.svn_folder.specs.States.{Held, State, seen}
use Rattle.svn_folder.specs.Steps.{is_none_older, after, run, fits}
use Rattle.svn_folder.specs.Pasts.{Past, Known}

-- files whose bytes, and directories whose names may not be on the disk
pub record Marks : Type 0 where
  pub files : Path → Bool
  pub directories : Path → Bool

abbrev pub no_marks : Marks
no_marks = record { files = λ p. false; directories = λ p. false }

pub record IsSyncedBut (marks : Marks) (s : State) : Type 0 where
  -- the folder itself is there
  pub root : (has_directory (seen s []) && is_none_older (s []).older) ≡ true
  -- each entry is in a directory
  pub inside : (p : Path) → is_some (seen s p) ≡ true → has_directory (seen s (parent p)) ≡ true
  pub bytes : (p : Path) → (marks.files p || (s p).now.is_synced) ≡ true
  -- of what is in a directory that is there
  pub names : (p : Path) → has_directory (seen s (parent p)) ≡ true → (marks.directories (parent p) || is_none_older (s p).older) ≡ true

abbrev pub IsSynced : State → Type 0
IsSynced = IsSyncedBut no_marks

-- ---- marks that are enough

-- what is marked is marked by the others
abbrev pub AreWithin : Marks → Marks → Type 0
AreWithin marks more = (p : Path) → (marks.files p ≡ true → more.files p ≡ true) × (marks.directories p ≡ true → more.directories p ≡ true)

-- the marks before a step, and those after it
abbrev pub AreEnough : Step → Marks → Marks → Type 0
AreEnough step marks new = (s : State) → IsSyncedBut marks s → fits step s → IsSyncedBut new (after step s)

-- the same, for a step that puts something at a path
pub record AreEnoughFor (q : Path) (held : Held) (marks new : Marks) : Type 0 where
  pub bytes : (new.files q || held.is_synced) ≡ true
  pub name : new.directories (parent q) ≡ true
  pub names : has_directory held.entry ≡ true → new.directories q ≡ true
  pub elsewhere : (p : Path) → path_eq q p ≡ false → (marks.files p ≡ true → new.files p ≡ true) × (marks.directories p ≡ true → new.directories p ≡ true)

-- ---- of a folder of which something is known

abbrev pub AreMarksOf : Past → Marks → Type 0
AreMarksOf past marks = (s : State) (steps : List Step) → past ≡ Known s steps → IsSyncedBut marks (run s steps)

abbrev pub IsSyncedPast : Past → Type 0
IsSyncedPast past = AreMarksOf past no_marks
