-- What of a folder is spared: a file or a link that has none of the texts which a copy keeps is neither replaced nor removed.
--     GoesIn P old result new      each step that a call takes has P in the state in which it is taken
--     IsOwn known found      what is found is the copy's: nothing, a directory, or what has one of these texts, which are known by their stand-ins
--     Spares known n s step      outside of the administrative folder n the step replaces or removes only what is the copy's
--     texts_in rows, texts_of copy      the texts that rows of PRISTINE have, and those of the files of a copy
use Rattle.std.specs.Prelude.{◌≡◌, ◌⊎◌, ℕ, Bool, true, false, ◌||◌, bytes_eq, List, [], ◌∷◌, ◌++◌, codes, Option, Some, None, Result, OnOk, OnErr, ⊤}
use Rattle.std.specs.List.{list_any}
use Rattle.svn_types.specs.Names.{Path}
use Rattle.svn_types.specs.Paths.{is_within}
use Rattle.svn_digits.specs.StandIns.{stand_in}
use Rattle.svn_repo.specs.History.{History}
use Rattle.svn_model.specs.declared.base_node.BaseNode.{BaseNode}
use Rattle.svn_model.specs.Nodes.{get_in, IsTrueOf}
use Rattle.svn_wcdb.specs.declared.table.TableRow.{TableRow}
use Rattle.svn_wcdb.specs.Columns.{column}
use Rattle.svn_wcrows.specs.Values.{text_given}
use Rattle.svn_folder.specs.declared.entry.Entry.{Entry}
use Rattle.svn_folder.specs.declared.entry.Entry.TheVariants.{File, Directory, Link}
use Rattle.svn_folder.specs.declared.step.Step.{Step}
use Rattle.svn_folder.specs.declared.step.Step.TheVariants.{Make, SyncFile, SyncDirectory, Rename, RenameDirectory, RemoveFile, RemoveDirectory}
use Rattle.svn_folder.specs.Entries.{has_directory}
use Rattle.svn_folder.specs.States.{State, seen}
use Rattle.svn_folder.specs.Steps.{after, run, IsEmpty}
use Rattle.svn_folder.specs.Pasts.{Past, Known, Broken}
use Rattle.svn_disk.specs.Readings.{IsReading}
use Rattle.svn_disk.specs.Plans.{text_of_node}

-- ---- steps, each in the state in which it is taken

abbrev pub EachIn : (State → Step → Type 0) → State → List Step → Type 0
EachIn P s [] = ⊤
EachIn P s (step ∷ steps) = P s step × EachIn P (after step s) steps

-- since these steps the folder has taken more, which have P; the system may have failed at the last one
pub record StandsIn (P : State → Step → Type 0) (s : State) (steps : List Step) (now : Past) : Type 0 where
  pub more : List Step
  pub each : EachIn P (run s steps) more
  pub past : now ≡ Known s (steps ++ more)

pub record EndsIn (P : State → Step → Type 0) (s : State) (steps : List Step) (now : Past) : Type 0 where
  pub more : List Step
  pub each : EachIn P (run s steps) more
  pub past : (now ≡ Known s (steps ++ more)) ⊎ (now ≡ Broken s (steps ++ more))

pub record KeepsIn (P : State → Step → Type 0) (old new : Past) : Type 0 where
  pub each : (s : State) (steps : List Step) → old ≡ Known s steps → StandsIn P s steps new

pub record StopsIn (P : State → Step → Type 0) (old new : Past) : Type 0 where
  pub each : (s : State) (steps : List Step) → old ≡ Known s steps → EndsIn P s steps new

abbrev pub GoesIn : {T : Type 0} → {E : Type 0} → (State → Step → Type 0) → Past → Result T E → Past → Type 0
GoesIn P old result new = OnOk result (KeepsIn P old new) × OnErr result (StopsIn P old new)

-- ---- what is the copy's

-- a file with these bytes may be one of the known texts, written in another way
pub record HasReading (known : List ℕ → Bool) (bytes : List ℕ) : Type 0 where
  pub text : List ℕ
  pub is : IsReading bytes text
  pub is_known : known (stand_in text) ≡ true

abbrev pub link_text : List ℕ → List ℕ
link_text target = codes "link " ++ target

abbrev pub IsOwn : (List ℕ → Bool) → Option Entry → Type 0
IsOwn known None = ⊤
IsOwn known (Some (File bytes mode)) = HasReading known bytes
IsOwn known (Some Directory) = ⊤
IsOwn known (Some (Link target)) = known (stand_in (link_text target)) ≡ true

-- ---- what a step spares

abbrev pub IsInside : List ℕ → Path → Type 0
IsInside n p = is_within (n ∷ []) p ≡ true

abbrev pub Spares : (List ℕ → Bool) → List ℕ → State → Step → Type 0
Spares known n s (Make p e t) = IsInside n p ⊎ (seen s p ≡ None)
Spares known n s (SyncFile p) = ⊤
Spares known n s (SyncDirectory p) = ⊤
Spares known n s (Rename p q) = IsInside n p × (IsInside n q ⊎ IsOwn known (seen s q))
Spares known n s (RenameDirectory k m) = ⊥
Spares known n s (RemoveFile p) = IsInside n p ⊎ IsOwn known (seen s p)
Spares known n s (RemoveDirectory p) = IsInside n p ⊎ ((has_directory (seen s p) ≡ true) × IsEmpty s p)

-- ---- which texts are known

-- it is there, and it is this one
abbrev pub is_that : List ℕ → Option (List ℕ) → Bool
is_that t None = false
is_that t (Some found) = bytes_eq t found

abbrev pub has_text : TableRow → List ℕ → Bool
has_text row t = is_that t (text_given (column row.bytes 0))

abbrev pub texts_in : List TableRow → List ℕ → Bool
texts_in rows t = list_any (λ row. has_text row t) rows

-- a copy has a file with it
abbrev pub texts_of : List (Path × BaseNode) → List ℕ → Bool
texts_of copy t = list_any (λ entry. is_that t (text_of_node entry.1)) copy

-- the rows have it, or the copy
abbrev pub texts_of_either : List TableRow → List (Path × BaseNode) → List ℕ → Bool
texts_of_either rows copy t = texts_in rows t || texts_of copy t

-- a call spares what has none of the texts which the rows have or a copy that is true of the repository
pub record SparesOthers (h : History) (rows : List TableRow) (goes : (State → Step → Type 0) → Type 0) : Type 0 where
  pub copy : List (Path × BaseNode)
  pub is_true : IsTrueOf h (get_in copy)
  pub spares : goes (Spares (texts_of_either rows copy) (codes ".svn"))
