use Rattle.std.proofs.Common.{◌≡◌, Some, sym, ap, subst, ◌∙◌, rules}
use Rattle.std.specs.Prelude.{IfOk, Result, Err, unwrap_or, filter_map}
use Rattle.md5.specs.Md5.{md5}
use Rattle.svn_lists.proofs.Results.{OnOk_then}
use Rattle.svn_types.specs.Names.{Path}
use Rattle.svn_editor.specs.declared.fault.EditFault.{EditFault}
use Rattle.svn_model.specs.declared.base_node.BaseNode.{BaseNode}
use Rattle.svn_model.specs.declared.base_node.BaseNode.TheVariants.{NotPresent}
use Rattle.svn_model.specs.Effects.{change_in, text_in, closed_file, moved_path, joined_path}
use Rattle.svn_model.specs.Answering.{IsAnswer, AnswersCall}
use Rattle.svn_nodes.specs.NodeTests.{sum_fault}
use Rattle.svn_edit.proofs.pending.Pending.close_new.Goals as goal

pub returns-in_err-close_opened-clause-answers : goal.returns-in_err-close_opened-clause-answers
returns-in_err-close_opened-clause-answers c =
    let sum = c.args.text_md5.now in
    let e = c.in_err-close_opened.field-0.0 in
    let refused : c.from_residual.result ≡ Err e = search rules in
    let absent : c.args.node.now ≡ NotPresent = search rules in
    λ said s. subst (λ (r : Result (Unit {0}) EditFault). AnswersCall (sum_fault md5 sum (filter_map text_in said) (Some c.args.node.now)) r)
    (sym refused)
    (subst (λ (n : BaseNode). IsAnswer (sum_fault md5 sum (filter_map text_in said) (Some n)) e) (sym absent)
    (subst (λ (n : BaseNode). IsAnswer (sum_fault md5 sum (filter_map text_in said) (Some n)) e) c.empty_file-file.ensures
    (c.in_err-close_opened.ensures.answers said s)))

pub returns-then-matches-clause-answers : goal.returns-then-matches-clause-answers
returns-then-matches-clause-answers c = λ said s.
    let sum = c.args.text_md5.now in
    let absent : c.args.node.now ≡ NotPresent = search rules in
    ap (λ (n : BaseNode). sum_fault md5 sum (filter_map text_in said) (Some n)) absent
    ∙ sym (ap (λ (n : BaseNode). sum_fault md5 sum (filter_map text_in said) (Some n)) c.empty_file-file.ensures)
    ∙ c.in_ok-close_opened.ensures.answers said s

pub returns-then-matches-clause-closed : goal.returns-then-matches-clause-closed
returns-then-matches-clause-closed c = λ said w p s at j.
    let target = c.args.self.now.target in
    let to = joined_path w p in
    let moved = moved_path c.args.mode.now w p in
    let absent : c.args.node.now ≡ NotPresent = search rules in
    c.in_ok-close_opened.ensures.closed said (λ was. to) to s (c.moved_to.ensures to j)
    ∙ ap (λ (n : BaseNode). closed_file target (λ was. to) to (filter_map change_in said) (filter_map text_in said) (Some n))
    c.empty_file-file.ensures
    ∙ sym (ap (λ (n : BaseNode). closed_file target moved to (filter_map change_in said) (filter_map text_in said) (Some n)) absent)

pub returns-clause-closed : goal.returns-clause-closed
returns-clause-closed c =
    let mode = c.args.mode.now in
    OnOk_then c.close_opened-2.result c.close_opened-2.ensures.closed (λ closed said w p s same j.
    closed said (moved_path mode w p) (joined_path w p) s
    (subst (λ (x : Path). IfOk c.args.joined (λ q. q ≡ joined_path w x)
    → IfOk c.moved_by-moved.result (λ m. (was : Path) → moved_path mode w x was ≡ unwrap_or m was))
    (c.as_rel_path.ensures ∙ sym same) (c.moved_by-moved.ensures w) j))
