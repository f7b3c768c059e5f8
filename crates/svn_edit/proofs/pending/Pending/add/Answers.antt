use Rattle.std.proofs.Common.{◌≡◌, List, Some, None, false, cond, sym, ap, subst, ◌∙◌}
use Rattle.std.specs.Prelude.{Option}
use Rattle.svn_types.specs.Names.{Path}
use Rattle.svn_editor.specs.declared.fault.EditFault.{EditFault}
use Rattle.svn_editor.specs.declared.fault.EditFault.TheVariants.{EntryExists}
use Rattle.svn_model.specs.declared.base_node.BaseNode.{BaseNode}
use Rattle.svn_model.specs.Nodes.{get_in, is_present}
use Rattle.svn_model.specs.Answering.{IsAnswer}
use Rattle.svn_edit.specs.Applying.{MakesNode}
use Rattle.svn_edit.proofs.Holding.{add_answer}
use Rattle.svn_edit.proofs.pending.Pending.add.Goals as goal
use Rattle.svn_edit.proofs.pending.Pending.add.Goals.{in-Ok+in-Err-add_node, in-Err}

pub returns-clause-applied : goal.returns-clause-applied
returns-clause-applied c = λ fault node made.
    let nodes = c.args.copy.now.entries in
    let at = c.args.path.now in
    let same : c.match-new.copy.entries ≡ nodes = elim c.match-new.branch [
      | in-Ok+in-Err-add_node w ↦ ap (λ n. n.entries) w.copy-is ∙ w.in-Err-add_node.ensures.refused
      | in-Err w ↦ ap (λ n. n.entries) w.copy-is
    ] in
    let shown : is_present (get_in nodes at) ≡ false → IsAnswer fault c.match-new.fault = elim c.match-new.branch [
      | in-Ok+in-Err-add_node w ↦ λ absent.
          let parts = subst (MakesNode at fault node) w.in-Ok.is made in
          subst (IsAnswer fault) (sym w.fault-is) (subst (λ (o : Option EditFault). IsAnswer o w.in-Err-add_node.fault)
          (ap (λ (p : Path). cond (is_present (get_in nodes p)) (Some EntryExists) None) parts.1
          ∙ ap (λ b. cond b (Some EntryExists) None) absent ∙ sym parts.0) w.in-Err-add_node.ensures.answers)
      | in-Err w ↦ λ absent. subst (IsAnswer fault) (sym w.fault-is) (subst (MakesNode at fault node) w.in-Err.is made)
    ] in (
      add_answer (is_present (get_in nodes at)) fault c.match-new.fault c.add_fault.result shown
          (c.add_fault.ensures ∙ ap (λ (o : Option BaseNode). cond (is_present o) EntryExists c.match-new.fault)
          (c.get.ensures.value ∙ ap (λ (l : List (Path × BaseNode)). get_in l at) same)),
      same,
    )
