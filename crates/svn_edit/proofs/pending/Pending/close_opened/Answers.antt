use Rattle.std.proofs.Common.{◌≡◌, Some, sym, subst, rules}
use Rattle.std.specs.Prelude.{Result, Err, filter_map}
use Rattle.md5.specs.Md5.{md5}
use Rattle.svn_editor.specs.declared.fault.EditFault.{EditFault}
use Rattle.svn_model.specs.Effects.{text_in}
use Rattle.svn_model.specs.Answering.{AnswersCall}
use Rattle.svn_nodes.specs.NodeTests.{sum_fault}
use Rattle.svn_edit.proofs.pending.Pending.close_opened.Goals as goal

pub returns-in_err-new_text-clause-answers : goal.returns-in_err-new_text-clause-answers
returns-in_err-new_text-clause-answers c =
    let same : c.from_residual.result ≡ Err c.in_err-new_text.field-0.0 = search rules in
    λ said s. subst (λ (r : Result (Unit {0}) EditFault). AnswersCall (sum_fault md5 c.args.text_md5.now (filter_map text_in said)
    (Some c.args.node.now)) r) (sym same) (c.in_err-new_text.ensures.checked said s)
