-- What an applier makes of a call.
--     TakesCall mode edit nodes call answer edit' nodes'      its mode, the edit and the copy before, the call, its result, and both after
--     IncompleteAreOpen w calls      each incomplete directory of the copy was opened by the calls, and not closed
--     IsInShape mode was_level edit nodes      as long as the edit goes on, the copy has the shape that its calls leave, and if it was level before them,
--                                              only the directories that they opened are incomplete
use Rattle.std.specs.Prelude.{◌≡◌, ◌≢◌, ℕ, Bool, true, false, Some, List, [], ◌∷◌, ◌++◌, Result, OnOk, OnErr, IfErr}
use Rattle.md5.specs.Md5.{md5}
use Rattle.svn_types.specs.declared.kind.Kind.TheVariants.{Directory}
use Rattle.svn_types.specs.Names.{Path}
use Rattle.svn_editor.specs.declared.call.Call.{Call}
use Rattle.svn_editor.specs.declared.fault.EditFault.{EditFault}
use Rattle.svn_editor.specs.declared.fault.EditFault.TheVariants.{Memory}
use Rattle.svn_editor.specs.Calls.{Given, kind_eq, given, is_closed, is_last, is_abort}
use Rattle.svn_editor.specs.declared.mode.Mode.{Mode}
use Rattle.svn_editor.specs.declared.mode.Mode.TheVariants.{Update}
use Rattle.svn_model.specs.declared.base_node.BaseNode.{BaseNode}
use Rattle.svn_model.specs.Nodes.{WorkingCopy, get_in, is_incomplete}
use Rattle.svn_model.specs.Effects.{refusal}
use Rattle.svn_model.specs.Answering.{AnswersCall, WantsInOrder}
use Rattle.law_copy.specs.Laws.{IsShapedAfter}
use Rattle.svn_edit.specs.declared.edit.Edit.{Edit}
use Rattle.svn_edit.specs.declared.edit.Stage.TheVariants.{Going}
use Rattle.svn_edit.specs.Leaving.{PoolsAfter}
use Rattle.svn_edit.specs.Applying.{StandsAfter, HasEnded, IsRefused, StaysRefused, StaysEnded, LeavesRefused}

pub record TakesCall (mode : Mode) (old : Edit) (w : List (Path × BaseNode)) (call : Call) (answer : Result (Unit {0}) EditFault)
    (new : Edit) (w' : List (Path × BaseNode)) : Type 0 where
  pub answers : (w0 : WorkingCopy) (calls : List Call) → StandsAfter mode w0 old w calls
      → AnswersCall (refusal md5 mode calls call w) answer
  -- Memory is returned for no call that is out of order
  pub in_order : (w0 : WorkingCopy) (calls : List Call) → StandsAfter mode w0 old w calls → WantsInOrder calls call answer
  pub accepted : OnOk answer ((w0 : WorkingCopy) (calls : List Call) → StandsAfter mode w0 old w calls
      → StandsAfter mode w0 new w' (calls ++ call ∷ []))
  pub shape : OnOk answer ((w0 : WorkingCopy) (calls : List Call) → StandsAfter mode w0 old w calls
      → IsShapedAfter mode (get_in w) calls → IsShapedAfter mode (get_in w') (calls ++ call ∷ []))
  pub refused : OnErr answer ((w0 : WorkingCopy) (calls : List Call) → StandsAfter mode w0 old w calls → w' ≡ w)
  pub dead : LeavesRefused old.stage answer new
  pub was_refused : IsRefused old → StaysRefused call answer new × (w' ≡ w)
  pub ended : HasEnded old → StaysEnded old answer new × (w' ≡ w)
  -- after a refusal too the pools are those of what is open
  pub pools : PoolsAfter mode old w call answer new
  -- Memory isn't returned for the last call of an update
  pub last : is_last call ≡ true → mode ≡ Update → IfErr answer (λ e. e ≢ Memory)
  -- nor for `AbortEdit`
  pub abort : is_abort call ≡ true → IfErr answer (λ e. e ≢ Memory)

-- the calls opened a directory at the path, and did not close it
pub record IsOpenAt (calls : List Call) (p : Path) : Type 0 where
  pub token : ℕ
  pub given_as : Given
  pub is : given calls token ≡ Some given_as
  pub path : given_as.path ≡ p
  pub kind : kind_eq given_as.kind Directory ≡ true
  pub unclosed : is_closed calls token ≡ false

abbrev pub IncompleteAreOpen : WorkingCopy → List Call → Type 0
IncompleteAreOpen w calls = (p : Path) → is_incomplete (w p) ≡ true → IsOpenAt calls p

-- the edit is after some calls, and these left the copy in its shape
pub record GoesOn (mode : Mode) (was_level : Bool) (edit : Edit) (nodes : List (Path × BaseNode)) : Type 0 where
  pub start : WorkingCopy
  pub calls : List Call
  pub stands : StandsAfter mode start edit nodes calls
  pub shape : IsShapedAfter mode (get_in nodes) calls
  pub opened : was_level ≡ true → IncompleteAreOpen (get_in nodes) calls

abbrev pub IsInShape : Mode → Bool → Edit → List (Path × BaseNode) → Type 0
IsInShape mode was_level edit nodes = edit.stage ≡ Going → GoesOn mode was_level edit nodes
