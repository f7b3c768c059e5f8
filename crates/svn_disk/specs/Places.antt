-- Where the steps of an update are.
--     is_inside n step      what it makes, puts, renames or removes is at the name n in the folder, or below it
--     is_temporary n step      the same of the folder of what has no name yet in it
--     is_placing n free step      it makes something at a free path, or puts there what had no name yet in the administrative folder n
--     is_of_copy copy step      it is in the administrative folder of the copy that is made, gives it its name, or places a node
--     is_changing n free step      it makes a directory at a free path, puts there what had no name yet in the administrative folder n, or removes what is there
--     is_of_change old new step      it is in the administrative folder, or changes something at a node of the old or the new copy
--     text_place n stand_in, database_place n      the paths of a pristine text and of the database, in the administrative folder n
use Rattle.std.specs.Prelude.{◌≡◌, ℕ, Bool, true, false, ◌&&◌, ◌||◌, not, List, [], ◌∷◌, bytes_eq, codes, is_some}
use Rattle.std.specs.List.{list_any}
use Rattle.std.specs.Option.{unwrap_or}
use Rattle.svn_types.specs.Names.{Path, path_of_text}
use Rattle.svn_types.specs.Paths.{is_within, path_eq}
use Rattle.svn_model.specs.declared.base_node.BaseNode.{BaseNode}
use Rattle.svn_model.specs.Nodes.{get_in}
use Rattle.svn_wcdb.specs.Pristines.{pristine_path}
use Rattle.svn_folder.specs.Entries.{is_leaf}
use Rattle.svn_folder.specs.declared.step.Step.{Step}
use Rattle.svn_folder.specs.declared.step.Step.TheVariants.{Make, SyncFile, SyncDirectory, Rename, RenameDirectory, RemoveFile, RemoveDirectory}

abbrev pub is_inside : List ℕ → Step → Bool
is_inside n (Make p e t) = is_within (n ∷ []) p
is_inside n (SyncFile p) = true
is_inside n (SyncDirectory p) = true
is_inside n (Rename p q) = is_within (n ∷ []) p && is_within (n ∷ []) q
is_inside n (RenameDirectory k m) = false
is_inside n (RemoveFile p) = is_within (n ∷ []) p
is_inside n (RemoveDirectory p) = is_within (n ∷ []) p

-- ---- what is in the administrative folder, by its name

-- the folder of what has no name yet
abbrev pub temporary_place : List ℕ → Path
temporary_place n = n ∷ codes "tmp" ∷ []

-- what the stand-in of a text names, below the folder of the pristine texts
abbrev pub text_below : List ℕ → Path
text_below stand_in = path_of_text (unwrap_or (pristine_path stand_in) [])

abbrev pub text_place : List ℕ → List ℕ → Path
text_place n stand_in = n ∷ codes "pristine" ∷ text_below stand_in

abbrev pub database_place : List ℕ → Path
database_place n = n ∷ codes "wc.db" ∷ []

-- the database, before it has its name
abbrev pub new_database_place : List ℕ → Path
new_database_place n = n ∷ codes "tmp" ∷ codes "new-wc.db" ∷ []

abbrev pub is_temporary : List ℕ → Step → Bool
is_temporary n (Make p e t) = is_within (temporary_place n) p
is_temporary n (SyncFile p) = true
is_temporary n (SyncDirectory p) = true
is_temporary n (Rename p q) = is_within (temporary_place n) p && is_within (temporary_place n) q
is_temporary n (RenameDirectory k m) = false
is_temporary n (RemoveFile p) = is_within (temporary_place n) p
is_temporary n (RemoveDirectory p) = is_within (temporary_place n) p

-- a path is that of something in the folder of what has no name yet
abbrev pub IsTemporary : List ℕ → Path → Type 0
IsTemporary n p = (name : List ℕ) × (p ≡ n ∷ codes "tmp" ∷ name ∷ [])

-- ---- nodes of a copy

-- a path has the name of the administrative folder in it
abbrev pub is_reserved : Path → Bool
is_reserved = list_any (λ name. bytes_eq name (codes ".svn"))

-- a path isn't in the administrative folder, nor that of the copy itself
abbrev pub is_outside : Path → Bool
is_outside [] = false
is_outside (n ∷ p) = not (bytes_eq n (codes ".svn"))

abbrev pub is_node : List (Path × BaseNode) → Path → Bool
is_node copy p = is_outside p && list_any (λ entry. path_eq entry.0 p) copy

abbrev pub is_placing : List ℕ → (Path → Bool) → Step → Bool
is_placing n free (Make p e t) = free p
is_placing n free (SyncFile p) = true
is_placing n free (SyncDirectory p) = true
is_placing n free (Rename p q) = is_within (temporary_place n) p && free q
is_placing n free (RenameDirectory k m) = false
is_placing n free (RemoveFile p) = false
is_placing n free (RemoveDirectory p) = false

abbrev pub is_naming : Step → Bool
is_naming (Make p e t) = false
is_naming (SyncFile p) = false
is_naming (SyncDirectory p) = false
is_naming (Rename p q) = false
is_naming (RenameDirectory k m) = bytes_eq k (codes ".svn-new") && bytes_eq m (codes ".svn")
is_naming (RemoveFile p) = false
is_naming (RemoveDirectory p) = false

abbrev pub is_of_copy : List (Path × BaseNode) → Step → Bool
is_of_copy copy step = is_inside (codes ".svn-new") step || is_naming step || is_inside (codes ".svn") step || is_placing (codes ".svn") (is_node copy) step

-- ---- nodes of two copies, of which the new one takes the place of the old one

abbrev pub is_changing : List ℕ → (Path → Bool) → Step → Bool
is_changing n free (Make p e t) = not (is_leaf e) && free p
is_changing n free (SyncFile p) = true
is_changing n free (SyncDirectory p) = true
is_changing n free (Rename p q) = is_within (temporary_place n) p && free q
is_changing n free (RenameDirectory k m) = false
is_changing n free (RemoveFile p) = free p
is_changing n free (RemoveDirectory p) = free p

abbrev pub is_doing : List ℕ → (Path → Bool) → Step → Bool
is_doing n free step = is_inside n step || is_changing n free step

abbrev pub is_either : List (Path × BaseNode) → List (Path × BaseNode) → Path → Bool
is_either old new p = is_outside p && (is_some (get_in old p) || is_some (get_in new p))

abbrev pub is_of_change : List (Path × BaseNode) → List (Path × BaseNode) → Step → Bool
is_of_change old new step = is_doing (codes ".svn") (is_either old new) step
