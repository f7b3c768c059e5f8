-- What a call that is in order makes of an edit and of the nodes of its copy, and what it returns.
--     Takes mode old nodes call answer new nodes2      it took an edit and nodes to these
use Rattle.std.specs.Prelude.{◌≡◌, ◌≢◌, true, false, List, [], ◌∷◌, ◌++◌, Result, OnOk, OnErr, IfErr}
use Rattle.md5.specs.Md5.{md5}
use Rattle.svn_types.specs.Names.{Path}
use Rattle.svn_editor.specs.declared.call.Call.{Call}
use Rattle.svn_editor.specs.declared.fault.EditFault.{EditFault}
use Rattle.svn_editor.specs.declared.fault.EditFault.TheVariants.{Memory}
use Rattle.svn_editor.specs.Calls.{is_last, is_abort}
use Rattle.svn_editor.specs.declared.mode.Mode.{Mode}
use Rattle.svn_editor.specs.declared.mode.Mode.TheVariants.{Update}
use Rattle.svn_model.specs.declared.base_node.BaseNode.{BaseNode}
use Rattle.svn_model.specs.Nodes.{get_in}
use Rattle.svn_model.specs.Effects.{effect, edit_fault}
use Rattle.svn_edit.specs.declared.pending.Pending.{Pending}
use Rattle.svn_edit.specs.Applying.{batons_of, Applied, IsNoted, KeepsBases, OpensBase, Holds, IsNext, OneIsLeft}
use Rattle.svn_edit.specs.Leaving.{HoldsPools}

-- the nodes are what the call's effect makes of them, or it is refused by the call's fault and they stay
abbrev pub AppliesCall : Mode → Pending → List (Path × BaseNode) → Call → Result (Unit {0}) EditFault → List (Path × BaseNode) → Type 0
AppliesCall mode old nodes c answer nodes2 =
    (calls : List Call) → IsNext old calls c → IsNoted calls (batons_of old) nodes
    → Applied (edit_fault md5 mode calls c nodes) (effect mode calls c (get_in nodes)) nodes answer nodes2

-- an edit that goes on holds what it should
abbrev pub HoldsCall : Pending → Call → Result (Unit {0}) EditFault → Pending → Type 0
HoldsCall old c answer new =
    OnOk answer ((calls : List Call) → IsNext old calls c → is_last c ≡ false → Holds new (calls ++ c ∷ []))

-- and so does what is noted of the texts of its open files
abbrev pub KeepsCallBases : Pending → Call → Result (Unit {0}) EditFault → Pending → Type 0
KeepsCallBases old c answer new =
    OnOk answer ((calls : List Call) → IsNext old calls c → is_last c ≡ false
    → KeepsBases c (batons_of old) (batons_of new))

-- a refused one has the pools of the accepted calls
abbrev pub LeavesCallPools : Pending → Call → Result (Unit {0}) EditFault → Pending → Type 0
LeavesCallPools old c answer new =
    OnErr answer ((calls : List Call) → IsNext old calls c → HoldsPools new.pools (batons_of new) calls c)

-- one that ended has one pool
abbrev pub LeavesOne : Pending → Call → Result (Unit {0}) EditFault → Pending → Type 0
LeavesOne old c answer new =
    is_last c ≡ true → OnOk answer ((calls : List Call) → IsNext old calls c → OneIsLeft new)

pub record Takes (mode : Mode) (old : Pending) (nodes : List (Path × BaseNode)) (c : Call) (answer : Result (Unit {0}) EditFault)
    (new : Pending) (nodes2 : List (Path × BaseNode)) : Type 0 where
  pub applied : AppliesCall mode old nodes c answer nodes2
  pub refused : OnErr answer (nodes2 ≡ nodes)
  pub holds : HoldsCall old c answer new
  pub last : is_last c ≡ true → mode ≡ Update → IfErr answer (λ e. e ≢ Memory)
  pub abort : is_abort c ≡ true → IfErr answer (λ e. e ≢ Memory)
  pub left : LeavesOne old c answer new
  pub bases : KeepsCallBases old c answer new
  pub base : OnOk answer (OpensBase c (batons_of new) nodes2)
  pub pools : LeavesCallPools old c answer new
