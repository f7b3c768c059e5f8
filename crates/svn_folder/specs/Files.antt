-- Files that are made in pieces or from another file, and several steps at once.
--     MakesFile ..      what a file that comes in pieces makes of a folder
--     CopiesFile ..      what a copy of a file makes of it
--     TakesAll steps old result new      what steps make of it, one after the other, as far as they are taken
--     TakesSyncs old result new      the same of steps that sync, whichever they are
use Rattle.std.specs.Prelude.{◌≡◌, ◌⊎◌, ℕ, Bool, true, false, List, [], ◌∷◌, Option, Some, Result, Ok, IsOk, IsErr, OnOk, ⊤}
use Rattle.std.specs.Io.KnownBytes.{Appends}
use Rattle.svn_types.specs.Names.{Path}
use Rattle.svn_folder.specs.declared.entry.Mode.{Mode}
use Rattle.svn_folder.specs.declared.entry.Entry.TheVariants.{File}
use Rattle.svn_folder.specs.declared.step.Step.{Step}
use Rattle.svn_folder.specs.declared.step.Step.TheVariants.{Make, SyncFile, SyncDirectory, Rename, RenameDirectory, RemoveFile, RemoveDirectory}
use Rattle.svn_folder.specs.declared.fault.FolderFault.{FolderFault}
use Rattle.svn_folder.specs.Pasts.{Past, Takes, Shows}

-- ---- files

-- some bytes were given
abbrev pub Gives : Option (List ℕ) → Option (List ℕ) → Type 0
Gives old new = (bytes : List ℕ) × Appends old new bytes

-- a file is made at a path, of the bytes that were given meanwhile
pub record MakesFile (p : Path) (mode : Mode) (t : Option ℕ) (given all : Option (List ℕ)) (old : Past) (result : Result (Unit {0}) FolderFault) (new : Past) : Type 0 where
  pub bytes : List ℕ
  pub given_since : Appends given all bytes
  pub takes : Takes (Make p (File bytes mode) t) old result new

-- a file is made at the path q, with the bytes of the one at the path p
pub record CopiesFile (p q : Path) (mode : Mode) (t : Option ℕ) (old : Past) (result : Result (Unit {0}) FolderFault) (new : Past) : Type 0 where
  pub bytes : List ℕ
  pub source : OnOk result ((m : Mode) × Shows old p (Some (File bytes m)))
  pub takes : Takes (Make q (File bytes mode) t) old result new

-- ---- several steps

-- all are taken; or one isn't, and those before it are
abbrev pub TakesAll : List Step → Past → Result (Unit {0}) FolderFault → Past → Type 0
TakesAll [] old result new = IsOk result × (new ≡ old)
TakesAll (step ∷ steps) old result new = (IsErr result × Takes step old result new) ⊎ ((between : Past) × Takes step old (Ok tt) between × TakesAll steps between result new)

abbrev pub file_syncs : List Path → List Step
file_syncs [] = []
file_syncs (p ∷ paths) = SyncFile p ∷ file_syncs paths

abbrev pub is_sync : Step → Bool
is_sync (Make p e t) = false
is_sync (SyncFile p) = true
is_sync (SyncDirectory p) = true
is_sync (Rename p q) = false
is_sync (RenameDirectory m n) = false
is_sync (RemoveFile p) = false
is_sync (RemoveDirectory p) = false

abbrev pub AreSyncs : List Step → Type 0
AreSyncs [] = ⊤
AreSyncs (step ∷ steps) = (is_sync step ≡ true) × AreSyncs steps

pub record TakesSyncs (old : Past) (result : Result (Unit {0}) FolderFault) (new : Past) : Type 0 where
  pub steps : List Step
  pub are_syncs : AreSyncs steps
  pub takes : TakesAll steps old result new
