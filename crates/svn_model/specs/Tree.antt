-- The steps of a drive as a walk makes them: a path's own, then those below it by names, then its close.
--     names_below d p      the names directly below a path in the source, in the target and in the report
--     tree_steps d late height p      the steps at a path and below it, as far down as the number says
--     late_steps d late height p      the texts and closes there that wait until all directories are closed
--     drive_steps d late height      all steps of a drive
use Rattle.std.specs.Prelude.{ℕ, zero, suc, Bool, ◌&&◌, ◌||◌, List, [], ◌∷◌, ◌++◌, map, fold, bytes_eq, Option, Some, None, if◌then◌else◌}
use Rattle.std.specs.BTreeSet.{insert_key}
use Rattle.std.specs.Map.{keys_of}
use Rattle.svn_types.specs.declared.kind.Kind.{Kind}
use Rattle.svn_types.specs.declared.kind.Kind.TheVariants.{File, Directory}
use Rattle.svn_types.specs.Names.{Path, name_cmp}
use Rattle.svn_types.specs.Paths.{child}
use Rattle.svn_types.specs.Props.{changes_between}
use Rattle.svn_repo.specs.History.{History}
use Rattle.svn_repo.specs.Readings.{entries_of, kind_of, props_of, text_of, is_directory_at}
use Rattle.svn_report.specs.declared.entry.ReportEntry.{ReportEntry}
use Rattle.svn_editor.specs.Steps.{Action, Open, Add, Change, Text, Close, Step, steps_at}
use Rattle.svn_model.specs.Sources.{governing_revision}
use Rattle.svn_model.specs.Follow.{DriveInput, follow, source_node, target_node}
use Rattle.svn_model.specs.Steps.{is_touched, is_new, source_props, source_text, gone_actions, text_actions, has_text}

-- ---- names

abbrev pub names_at : History → Option ℕ → List (List ℕ)
names_at h None = []
names_at h (Some n) = keys_of (entries_of h n)

abbrev pub entry_names : DriveInput → Option ℕ → List (List ℕ)
entry_names d o = names_at d.history o

-- the next name of the second path after the first, if it is below it
abbrev pub next_name : Path → Path → List (List ℕ)
next_name [] [] = []
next_name [] (n ∷ q) = n ∷ []
next_name (m ∷ p) [] = []
next_name (m ∷ p) (n ∷ q) = if bytes_eq m n then next_name p q else []

abbrev pub names_in : Path → List (Path × ReportEntry) → List (List ℕ)
names_in p [] = []
names_in p (e ∷ es) = next_name p e.0 ++ names_in p es

abbrev pub names_below : DriveInput → Path → List (List ℕ)
names_below d p =
    fold (insert_key name_cmp) [] (entry_names d (source_node d p) ++ entry_names d (target_node d p) ++ names_in p d.report.entries)

-- ---- the actions of a path, in three parts

abbrev pub is_entered : DriveInput → Path → Bool
is_entered d p = is_touched d p || is_new d p

abbrev pub enters_directory : DriveInput → Path → Bool
enters_directory d p = is_entered d p && is_directory_at d.history (target_node d p)

abbrev pub enter_action : DriveInput → Path → Kind → Action
enter_action d p k = if is_touched d p then Open k (governing_revision (follow d p).here) else Add k

abbrev pub old_props : DriveInput → Path → List (List ℕ × List ℕ)
old_props d p = if is_touched d p then source_props d p (source_node d p) else []

-- the open or the add, and the changes of properties
abbrev pub entry_actions : DriveInput → Path → ℕ → Kind → List Action
entry_actions d p n k = enter_action d p k ∷ map (Change k) (changes_between (old_props d p) (props_of d.history n))

-- the text of a file, and its close
abbrev pub file_end : DriveInput → Path → ℕ → List Action
file_end d p n =
    (if is_touched d p then text_actions d (source_text d (source_node d p)) (text_of d.history n) else Text None (text_of d.history n)
    ∷ [])
    ++ (Close File (Some (d.checksum (text_of d.history n))) ∷ [])

-- the text and the close of the path wait
abbrev pub is_late : DriveInput → Bool → Path → Bool
is_late d late p = late && has_text d p

-- what is done before the steps below the path
abbrev pub first_of : DriveInput → Bool → Path → ℕ → Kind → List Action
first_of d late p n Directory = entry_actions d p n Directory
first_of d late p n File = entry_actions d p n File ++ (if is_late d late p then [] else file_end d p n)

abbrev pub last_of : Kind → List Action
last_of Directory = Close Directory None ∷ []
last_of File = []

abbrev pub late_of : DriveInput → Bool → Path → ℕ → Kind → List Action
late_of d late p n Directory = []
late_of d late p n File = if is_late d late p then file_end d p n else []

abbrev pub first_at : DriveInput → Bool → Path → Option ℕ → List Action
first_at d late p None = []
first_at d late p (Some n) = if is_entered d p then first_of d late p n (kind_of d.history n) else []

abbrev pub last_at : DriveInput → Path → Option ℕ → List Action
last_at d p None = []
last_at d p (Some n) = if is_entered d p then last_of (kind_of d.history n) else []

abbrev pub late_at : DriveInput → Bool → Path → Option ℕ → List Action
late_at d late p None = []
late_at d late p (Some n) = if is_entered d p then late_of d late p n (kind_of d.history n) else []

abbrev pub first_actions : DriveInput → Bool → Path → List Action
first_actions d late p = gone_actions d p ++ first_at d late p (target_node d p)

abbrev pub last_actions : DriveInput → Path → List Action
last_actions d p = last_at d p (target_node d p)

abbrev pub late_actions : DriveInput → Bool → Path → List Action
late_actions d late p = late_at d late p (target_node d p)

-- ---- the tree

abbrev pub flat : {X : Type 0} → List (List X) → List X
flat [] = []
flat (xs ∷ xss) = xs ++ flat xss

-- what is at each name below a path, name by name
abbrev pub by_names : (Path → List Step) → Path → List (List ℕ) → List Step
by_names f p names = flat (map (λ name. f (child p name)) names)

abbrev pub below_of : DriveInput → (Path → List Step) → Path → List Step
below_of d f p = if enters_directory d p then by_names f p (names_below d p) else []

-- the steps at and below a path, as far down as the number says: those in front at a path, those below it, and those after
abbrev pub steps_by : DriveInput → (Path → List Action) → (Path → List Action) → ℕ → Path → List Step
steps_by d front back zero p = []
steps_by d front back (suc height) p = steps_at p (front p) ++ (below_of d (steps_by d front back height) p ++ steps_at p (back p))

abbrev pub no_actions : Path → List Action
no_actions p = []

abbrev pub tree_steps : DriveInput → Bool → ℕ → Path → List Step
tree_steps d late = steps_by d (first_actions d late) (last_actions d)

abbrev pub late_steps : DriveInput → Bool → ℕ → Path → List Step
late_steps d late = steps_by d (late_actions d late) no_actions

abbrev pub drive_steps : DriveInput → Bool → ℕ → List Step
drive_steps d late height = tree_steps d late height [] ++ late_steps d late height []
