-- The calls of a tree of steps, with their tokens.
--     call_at p parent own action      the call of an action, by the tokens of the parent and of the path itself
--     tree_size d height p      how many tokens are given at a path and below it
--     tree_calls d late height p parent own      the calls there, from the token of its own on
--     late_calls d height p own      those of the texts and closes that wait
use Rattle.std.specs.Prelude.{ℕ, zero, suc, ◌+◌, ◌-◌, Bool, List, [], ◌∷◌, ◌++◌, map, length, Option, Some, None, if◌then◌else◌}
use Rattle.svn_types.specs.declared.kind.Kind.TheVariants.{File, Directory}
use Rattle.svn_types.specs.Names.{Path}
use Rattle.svn_types.specs.Paths.{child, is_root}
use Rattle.svn_editor.specs.declared.call.Call.{Call}
use Rattle.svn_editor.specs.declared.call.Call.TheVariants.{SetTargetRevision, OpenRoot, DeleteEntry, AddDirectory, OpenDirectory}
use Rattle.svn_editor.specs.declared.call.Call.TheVariants.{ChangeDirProp, CloseDirectory, AddFile, OpenFile, ChangeFileProp, ApplyText}
use Rattle.svn_editor.specs.declared.call.Call.TheVariants.{CloseFile, CloseEdit}
use Rattle.svn_editor.specs.Steps.{Action, Delete, Open, Add, Change, Text, Close}
use Rattle.svn_model.specs.Follow.{DriveInput, target_node}
use Rattle.svn_model.specs.Tree.{names_below, is_entered, enters_directory, first_actions, last_actions, late_actions, no_actions}

abbrev pub call_at : Path → ℕ → ℕ → Action → Call
call_at p parent own (Delete revision) = DeleteEntry p revision parent
call_at p parent own (Open Directory base) = if is_root p then OpenRoot base own else OpenDirectory p parent base own
call_at p parent own (Open File base) = OpenFile p parent base own
call_at p parent own (Add Directory) = AddDirectory p parent own
call_at p parent own (Add File) = AddFile p parent own
call_at p parent own (Change Directory change) = ChangeDirProp own change.0 change.1
call_at p parent own (Change File change) = ChangeFileProp own change.0 change.1
call_at p parent own (Text base_md5 text) = ApplyText own base_md5 text
call_at p parent own (Close Directory checksum) = CloseDirectory own
call_at p parent own (Close File checksum) = CloseFile own checksum

abbrev pub calls_at : Path → ℕ → ℕ → List Action → List Call
calls_at p parent own actions = map (call_at p parent own) actions

-- the tokens below a path, name by name
abbrev pub sizes : (Path → ℕ) → Path → List (List ℕ) → ℕ
sizes size p [] = 0
sizes size p (name ∷ names) = size (child p name) + sizes size p names

abbrev pub size_below : DriveInput → (Path → ℕ) → Path → ℕ
size_below d size p = if enters_directory d p then sizes size p (names_below d p) else 0

-- the token of the path itself, where its node in the target is opened or added
abbrev pub own_size : DriveInput → Path → Option ℕ → ℕ
own_size d p None = 0
own_size d p (Some n) = if is_entered d p then 1 else 0

abbrev pub tree_size : DriveInput → ℕ → Path → ℕ
tree_size d zero p = 0
tree_size d (suc height) p = own_size d p (target_node d p) + size_below d (tree_size d height) p

-- the calls below a path, name by name, each with its first token
abbrev pub in_turn : (Path → ℕ → List Call) → (Path → ℕ) → Path → ℕ → List (List ℕ) → List Call
in_turn calls size p next [] = []
in_turn calls size p next (name ∷ names) = calls (child p name) next ++ in_turn calls size p (next + size (child p name)) names

abbrev pub calls_below : DriveInput → (Path → ℕ → List Call) → (Path → ℕ) → Path → ℕ → List Call
calls_below d calls size p next = if enters_directory d p then in_turn calls size p next (names_below d p) else []

abbrev pub calls_by : DriveInput → (Path → List Action) → (Path → List Action) → ℕ → Path → ℕ → ℕ → List Call
calls_by d front back zero p parent own = []
calls_by d front back (suc height) p parent own =
    calls_at p parent own (front p)
    ++ (calls_below d (λ q next. calls_by d front back height q own next) (tree_size d height) p (own + 1)
    ++ calls_at p parent own (back p))

abbrev pub tree_calls : DriveInput → Bool → ℕ → Path → ℕ → ℕ → List Call
tree_calls d late = calls_by d (first_actions d late) (last_actions d)

abbrev pub late_calls : DriveInput → Bool → ℕ → Path → ℕ → ℕ → List Call
late_calls d late = calls_by d (late_actions d late) no_actions

-- ---- by the length of the path

-- a path has at most 128 names
abbrev pub height_at : Path → ℕ
height_at p = 129 - length p

unfoldable pub visit_size : DriveInput → Path → ℕ
visit_size d p = tree_size d (height_at p) p

unfoldable pub visit_calls : DriveInput → Bool → Path → ℕ → ℕ → List Call
visit_calls d late p parent own = tree_calls d late (height_at p) p parent own

-- the calls of a whole drive
unfoldable pub drive_calls : DriveInput → Bool → List Call
drive_calls d late =
    SetTargetRevision d.target ∷ (visit_calls d late [] 0 0 ++ (late_calls d late 129 [] 0 0 ++ (CloseEdit ∷ [])))
