-- Drives into an applier: what they leave of the copy, and which call it refuses.
use Rattle.std.proofs.Common.{◌≡◌, ◌∙◌, ℕ, List, [], ◌∷◌, ◌++◌, refl, sym, subst, inl, inr}
use Rattle.std.specs.Prelude.{◌⊎◌, Option, Some, None, Result, Ok, Err}
use Rattle.md5.specs.Md5.{md5}
use Rattle.svn_types.specs.Names.{Path}
use Rattle.svn_editor.specs.declared.call.Call.{Call}
use Rattle.svn_editor.specs.declared.fault.EditFault.{EditFault}
use Rattle.svn_editor.specs.declared.fault.EditFault.TheVariants.{Memory}
use Rattle.svn_editor.specs.declared.mode.Mode.{Mode}
use Rattle.svn_editor.specs.declared.mode.Mode.TheVariants.{Update}
use Rattle.svn_model.specs.declared.base_node.BaseNode.{BaseNode}
use Rattle.svn_model.specs.declared.drive_end.DriveEnd.{DriveEnd}
use Rattle.svn_model.specs.declared.drive_fault.DriveFault.{DriveFault}
use Rattle.svn_model.specs.Answering.{IsAnswer}
use Rattle.svn_model.specs.Effects.{after, refusal}
use Rattle.svn_model.specs.Ends.{Drives}
use Rattle.svn_model.specs.Nodes.{WorkingCopy, get_in}
use Rattle.svn_edit.specs.declared.edit.Edit.{Edit}
use Rattle.svn_edit.specs.Applying.{StandsAfter}
use Rattle.svn_wc.specs.Taking.{TakesCall}
use Rattle.svn_answers.proofs.Driving.{RefusedCall, all_kept, kept}

is_answer : (fault : Option EditFault) (e : EditFault) → IsAnswer fault e → (e ≡ Memory) ⊎ (fault ≡ Some e)
is_answer fault Memory h = inl refl
is_answer fault e h = inr h

-- a call that is refused is one by the definition, unless memory ran out
pub record IsRefusal (w : WorkingCopy) (calls : List Call) (why : EditFault) : Type 0 where
  pub before : List Call
  pub call : Call
  pub rest : List Call
  pub calls_are : calls ≡ before ++ call ∷ rest
  pub left : List (Path × BaseNode)
  pub is_left : (p : Path) → get_in left p ≡ after Update w before p
  pub refused : (why ≡ Memory) ⊎ (refusal md5 Update before call left ≡ Some why)

-- an editor that is seen as an edit with nodes, which takes calls as an applier does
module _ {E : Type 0} (answers : E → Call → Result (Unit {0}) EditFault → E → Type 0) (edit_of : E → Edit) (nodes_of : E → List (Path × BaseNode))
    (mode_of : E → Mode)
    (takes : (e f : E) (c : Call) (answer : Result (Unit {0}) EditFault) → answers e c answer f
    → TakesCall (mode_of e) (edit_of e) (nodes_of e) c answer (edit_of f) (nodes_of f) × (mode_of f ≡ mode_of e)) (w : WorkingCopy) where
  abbrev pub Stands : E → List Call → Type 0
  Stands e calls = StandsAfter Update w (edit_of e) (nodes_of e) calls × (mode_of e ≡ Update)

  one_more : (e f : E) (c : Call) (before : List Call) → answers e c (Ok tt) f → Stands e before → Stands f (before ++ c ∷ [])
  one_more e f c before one at =
      let t = takes e f c (Ok tt) one in
      let stands : StandsAfter (mode_of e) w (edit_of e) (nodes_of e) before =
      subst (λ (m : Mode). StandsAfter m w (edit_of e) (nodes_of e) before) (sym at.1) at.0 in
      (subst (λ (m : Mode). StandsAfter m w (edit_of f) (nodes_of f) (before ++ c ∷ [])) at.1 (t.0.accepted w before stands), t.1 ∙ at.1)

  -- a drive to its end leaves what its calls leave
  pub left_by : (limit : Option ℕ) (fault : Option DriveFault) (calls : List Call) (x : DriveEnd) (e f : E) → limit ≡ None
      → Drives answers limit fault calls (Ok x) e f → Stands e [] → (p : Path) → get_in (nodes_of f) p ≡ after Update w calls p
  left_by limit fault calls x e f none drove at p = (all_kept answers Stands one_more limit fault calls x e f none drove at).0.copy p

  pub refusal_by : (calls : List Call) (e : E) (why : EditFault) → Stands e [] → RefusedCall answers calls e why → IsRefusal w calls why
  refusal_by calls e why at r =
      let stands : Stands r.mid r.before = kept answers Stands one_more r.before [] e r.mid r.leads at in
      let t = takes r.mid r.after r.call (Err why) r.refuses in
      let answered =
      t.0.answers w r.before
      (subst (λ (m : Mode). StandsAfter m w (edit_of r.mid) (nodes_of r.mid) r.before) (sym stands.1) stands.0) in
      record {
        before = r.before;
        call = r.call;
        rest = r.rest;
        calls_are = r.calls_are;
        left = nodes_of r.mid;
        is_left = λ p. stands.0.copy p;
        refused =
            subst (λ (m : Mode). (why ≡ Memory) ⊎ (refusal md5 m r.before r.call (nodes_of r.mid) ≡ Some why)) stands.1
            (is_answer (refusal md5 (mode_of r.mid) r.before r.call (nodes_of r.mid)) why answered);
      }
