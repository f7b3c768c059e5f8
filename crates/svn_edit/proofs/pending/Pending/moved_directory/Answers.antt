use Rattle.std.proofs.Common.{◌≡◌, Some, None, sym, subst, rules}
use Rattle.std.specs.Prelude.{Option, Result, Err}
use Rattle.std.specs.Option.{option_or}
use Rattle.svn_types.specs.Names.{Path}
use Rattle.svn_types.specs.declared.kind.Kind.TheVariants.{Directory}
use Rattle.svn_editor.specs.declared.fault.EditFault.{EditFault}
use Rattle.svn_model.specs.Nodes.{node_path}
use Rattle.svn_model.specs.Answering.{IsAnswer}
use Rattle.svn_nodes.specs.NodeTests.{open_fault_of, deep_fault, AnswersAs}
use Rattle.svn_edit.specs.Applying.{MovesBy}
use Rattle.svn_edit.proofs.pending.Pending.moved_directory.Goals as goal

pub returns-in_err-moved-clause-answers : goal.returns-in_err-moved-clause-answers
returns-in_err-moved-clause-answers c = λ q moves.
    let node = Some c.args.node.now in
    let fault = deep_fault (q (node_path node)) in
    let same : c.from_residual.result ≡ Err c.in_err-moved.field-0.0 = search rules in
    let shut : open_fault_of Directory node c.args.base ≡ None = search rules in
    subst (λ (r : Result (Option Path) EditFault). AnswersAs (option_or (open_fault_of Directory node c.args.base) fault) r) (sym same)
    (subst (λ (o : Option EditFault). IsAnswer (option_or o fault) c.in_err-moved.field-0.0) (sym shut)
    (subst (MovesBy q) c.in_err-moved.was moves (node_path node)))
