-- The shape of the copy after a call of an applier.
use Rattle.std.proofs.Common.{◌≡◌, List, [], ◌∷◌, ◌++◌, sym, ◌∙◌, ap, subst}
use Rattle.std.specs.Prelude.{Result, Ok, Err, OnOk}
use Rattle.md5.specs.Md5.{md5}
use Rattle.svn_types.specs.Names.{Path}
use Rattle.svn_editor.specs.declared.call.Call.{Call}
use Rattle.svn_editor.specs.declared.fault.EditFault.{EditFault}
use Rattle.svn_editor.specs.declared.mode.Mode.{Mode}
use Rattle.svn_model.specs.declared.base_node.BaseNode.{BaseNode}
use Rattle.svn_edit.specs.declared.edit.Edit.{Edit}
use Rattle.svn_model.specs.Nodes.{WorkingCopy, get_in}
use Rattle.law_copy.specs.Laws.{OpensNamed, IsShapedAfter}
use Rattle.svn_model.specs.Effects.{effect, refusal}
use Rattle.svn_edit.specs.Applying.{StandsAfter}
use Rattle.svn_model.specs.Answering.{AnswersCall}
use Rattle.law_copy.proofs.Appending.{after-more}
use Rattle.law_copy.proofs.Shape.{shape_stays}

pub shaped_call : (mode : Mode) (result : Result (Unit {0}) EditFault) (edit edit2 : Edit) (nodes nodes2 : List (Path × BaseNode)) (c : Call)
    → OpensNamed c
    → OnOk result ((w0 : WorkingCopy) (calls : List Call) → StandsAfter mode w0 edit nodes calls
    → StandsAfter mode w0 edit2 nodes2 (calls ++ c ∷ []))
    → ((w0 : WorkingCopy) (calls : List Call) → StandsAfter mode w0 edit nodes calls
    → AnswersCall (refusal md5 mode calls c nodes) result)
    → OnOk result ((w0 : WorkingCopy) (calls : List Call) → StandsAfter mode w0 edit nodes calls
    → IsShapedAfter mode (get_in nodes) calls → IsShapedAfter mode (get_in nodes2) (calls ++ c ∷ []))
shaped_call mode (Ok done) edit edit2 nodes nodes2 c n f g = λ w0 calls s shape.
    let new = f w0 calls s in
    let before : get_in nodes ≡ _ = λ i p. s.copy p i in
    let after : get_in nodes2 ≡ _ = λ i p. new.copy p i in
    let stays = shape_stays md5 mode nodes calls c s.order.lawful (g w0 calls s) n shape in
    subst (λ (v : WorkingCopy). IsShapedAfter mode v (calls ++ c ∷ [])) (ap (effect mode calls c) before ∙ sym (after-more mode w0 calls c)
    ∙ sym after) stays
shaped_call mode (Err e) edit edit2 nodes nodes2 c n f g = tt
