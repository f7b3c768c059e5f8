-- The calls of a drive: its steps with their tokens, between the first call and the last.
--     numbered opened steps      the calls of the steps, where tokens 0, 1, .. are those of the paths opened before
--     IsDrive d late calls      the calls are those of a drive
use Rattle.std.specs.Prelude.{◌≡◌, ℕ, suc, Bool, List, [], ◌∷◌, ◌++◌, length, if◌then◌else◌}
use Rattle.svn_types.specs.declared.kind.Kind.TheVariants.{File, Directory}
use Rattle.svn_types.specs.Names.{Path}
use Rattle.svn_types.specs.Paths.{path_eq, parent, is_root}
use Rattle.svn_editor.specs.declared.call.Call.{Call}
use Rattle.svn_editor.specs.declared.call.Call.TheVariants.{SetTargetRevision, OpenRoot, DeleteEntry, AddDirectory, OpenDirectory}
use Rattle.svn_editor.specs.declared.call.Call.TheVariants.{ChangeDirProp, CloseDirectory, AddFile, OpenFile, ChangeFileProp, ApplyText}
use Rattle.svn_editor.specs.declared.call.Call.TheVariants.{CloseFile, CloseEdit}
use Rattle.svn_editor.specs.Steps.{Action, Delete, Open, Add, Change, Text, Close, Step}
use Rattle.svn_model.specs.Follow.{DriveInput}
use Rattle.svn_model.specs.Steps.{IsDriveOf}

-- the token of a path, by its place among the paths opened so far
abbrev pub token_of : List Path → Path → ℕ
token_of [] p = 0
token_of (q ∷ opened) p = if path_eq p q then 0 else suc (token_of opened p)

abbrev pub call_of : List Path → Path → Action → Call
call_of opened p (Delete revision) = DeleteEntry p revision (token_of opened (parent p))
call_of opened p (Open Directory base) =
    if is_root p then OpenRoot base (length opened) else OpenDirectory p (token_of opened (parent p)) base (length opened)
call_of opened p (Open File base) = OpenFile p (token_of opened (parent p)) base (length opened)
call_of opened p (Add Directory) = AddDirectory p (token_of opened (parent p)) (length opened)
call_of opened p (Add File) = AddFile p (token_of opened (parent p)) (length opened)
call_of opened p (Change Directory change) = ChangeDirProp (token_of opened p) change.0 change.1
call_of opened p (Change File change) = ChangeFileProp (token_of opened p) change.0 change.1
call_of opened p (Text base_md5 text) = ApplyText (token_of opened p) base_md5 text
call_of opened p (Close Directory checksum) = CloseDirectory (token_of opened p)
call_of opened p (Close File checksum) = CloseFile (token_of opened p) checksum

abbrev pub opened_after : List Path → Path → Action → List Path
opened_after opened p (Open kind base) = opened ++ p ∷ []
opened_after opened p (Add kind) = opened ++ p ∷ []
opened_after opened p _ = opened

abbrev pub numbered : List Path → List Step → List Call
numbered opened [] = []
numbered opened (s ∷ steps) = call_of opened s.path s.action ∷ numbered (opened_after opened s.path s.action) steps

abbrev pub calls_of : ℕ → List Step → List Call
calls_of target steps = SetTargetRevision target ∷ numbered [] steps ++ (CloseEdit ∷ [])

pub record IsDrive (d : DriveInput) (late : Bool) (calls : List Call) : Type 0 where
  pub steps : List Step
  pub of_each_path : IsDriveOf d late steps
  pub numbered_calls : calls ≡ calls_of d.target steps
