-- Editor calls with the path of what they are about in the place of their tokens.
--     Mode      an update, which follows links in the target, or a switch of the whole copy, which brings its root to another path and follows none
--     step_of earlier call      the call as a step, where earlier calls gave its tokens
--     steps_of calls      the steps of a list of calls
use Rattle.std.specs.Prelude.{ℕ, List, [], ◌∷◌, ◌++◌, map, Option, Some, None}
use Rattle.std.specs.List.{cons_option}
use Rattle.svn_types.specs.declared.kind.Kind.{Kind}
use Rattle.svn_types.specs.declared.kind.Kind.TheVariants.{File, Directory}
use Rattle.svn_types.specs.Names.{Path}
use Rattle.svn_types.specs.Props.{PropChange}
use Rattle.svn_editor.specs.declared.call.Call.{Call}
use Rattle.svn_editor.specs.declared.call.Call.TheVariants.{SetTargetRevision, OpenRoot, DeleteEntry, AddDirectory, OpenDirectory}
use Rattle.svn_editor.specs.declared.call.Call.TheVariants.{ChangeDirProp, CloseDirectory, AddFile, OpenFile, ChangeFileProp, ApplyText}
use Rattle.svn_editor.specs.declared.call.Call.TheVariants.{CloseFile}
use Rattle.svn_editor.specs.Calls.{path_of}

pub data Action : Type 0 where
  Delete : (rev : ℕ) → Action
  Open : (kind : Kind) (base : ℕ) → Action
  Add : (kind : Kind) → Action
  Change : (kind : Kind) (change : PropChange) → Action
  Text : (base_md5 : Option (List ℕ)) (text : List ℕ) → Action
  Close : (kind : Kind) (md5 : Option (List ℕ)) → Action

pub record Step : Type 0 where
  pub path : Path
  pub action : Action

abbrev pub steps_at : Path → List Action → List Step
steps_at p actions = map (λ a. record { path = p; action = a }) actions

-- ---- calls as steps

abbrev pub step : Path → Action → Option Step
step p a = Some (record { path = p; action = a })

abbrev pub step_of : List Call → Call → Option Step
step_of earlier (OpenRoot base token) = step [] (Open Directory base)
step_of earlier (DeleteEntry path rev parent) = step path (Delete rev)
step_of earlier (AddDirectory path parent token) = step path (Add Directory)
step_of earlier (OpenDirectory path parent base token) = step path (Open Directory base)
step_of earlier (ChangeDirProp token name value) = step (path_of earlier token) (Change Directory (name, value))
step_of earlier (CloseDirectory token) = step (path_of earlier token) (Close Directory None)
step_of earlier (AddFile path parent token) = step path (Add File)
step_of earlier (OpenFile path parent base token) = step path (Open File base)
step_of earlier (ChangeFileProp token name value) = step (path_of earlier token) (Change File (name, value))
step_of earlier (ApplyText token base_md5 text) = step (path_of earlier token) (Text base_md5 text)
step_of earlier (CloseFile token text_md5) = step (path_of earlier token) (Close File text_md5)
step_of earlier _ = None

abbrev pub steps_after : List Call → List Call → List Step
steps_after earlier [] = []
steps_after earlier (c ∷ calls) = cons_option (step_of earlier c) (steps_after (earlier ++ c ∷ []) calls)

abbrev pub steps_of : List Call → List Step
steps_of calls = steps_after [] calls

-- the revision that the calls lead to
abbrev pub target_of : List Call → ℕ
target_of [] = 0
target_of (SetTargetRevision rev ∷ calls) = rev
target_of (_ ∷ calls) = target_of calls
