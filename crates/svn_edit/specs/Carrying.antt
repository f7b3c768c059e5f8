-- An edit without the check of the order of its calls, after a list of calls, with its copy; and what it makes of one more call.
--     CarriedOut mode w0 edit nodes calls      the edit began with the copy w0, and took these calls, each in that mode
--     Carries mode old nodes call answer new nodes2      it took an edit and nodes to these
use Rattle.std.specs.Prelude.{◌≡◌, true, false, List, [], ◌∷◌, ◌++◌, None, Result, Ok, OnOk, OnErr, IfErr}
use Rattle.std.specs.List.{list_any}
use Rattle.md5.specs.Md5.{md5}
use Rattle.svn_types.specs.Names.{Path}
use Rattle.svn_editor.specs.declared.call.Call.{Call}
use Rattle.svn_editor.specs.declared.fault.EditFault.{EditFault}
use Rattle.svn_editor.specs.declared.fault.EditFault.TheVariants.{Memory}
use Rattle.svn_editor.specs.Calls.{is_last, is_abort}
use Rattle.svn_editor.specs.Order.{IsLawful}
use Rattle.svn_editor.specs.declared.mode.Mode.{Mode}
use Rattle.svn_model.specs.declared.base_node.BaseNode.{BaseNode}
use Rattle.svn_model.specs.Nodes.{WorkingCopy, InPathOrder, get_in}
use Rattle.svn_model.specs.Effects.{after, refusal}
use Rattle.svn_edit.specs.declared.pending.Pending.{Pending}
use Rattle.svn_edit.specs.Applying.{Holds, IsNoted, batons_of}

pub record CarriedOut (mode : Mode) (w0 : WorkingCopy) (edit : Pending) (nodes : List (Path × BaseNode)) (calls : List Call) : Type 0 where
  pub lawful : IsLawful calls
  pub copy : (p : Path) → get_in nodes p ≡ after mode w0 calls p
  pub going : list_any is_last calls ≡ false → Holds edit calls
  pub noted : list_any is_last calls ≡ false → IsNoted calls (batons_of edit) nodes

-- After a call that is in order and not refused the copy has its effect, or the fault is Memory. Of any call a fault leaves the copy as it was, and
-- giving up changes nothing there.
pub record Carries (mode : Mode) (old : Pending) (nodes : List (Path × BaseNode)) (call : Call) (answer : Result (Unit {0}) EditFault)
    (new : Pending) (nodes2 : List (Path × BaseNode)) : Type 0 where
  pub carried : OnOk answer ((w0 : WorkingCopy) (calls : List Call) → CarriedOut mode w0 old nodes calls
      → refusal md5 mode calls call nodes ≡ None → CarriedOut mode w0 new nodes2 (calls ++ call ∷ []))
  pub memory : IfErr answer (λ e. (w0 : WorkingCopy) (calls : List Call) → CarriedOut mode w0 old nodes calls
      → refusal md5 mode calls call nodes ≡ None → e ≡ Memory)
  pub refused : OnErr answer (nodes2 ≡ nodes)
  pub abort : is_abort call ≡ true → (answer ≡ Ok tt) × (nodes2 ≡ nodes)
  pub order : InPathOrder nodes
