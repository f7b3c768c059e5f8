use Rattle.std.proofs.Common.{◌≡◌, ℕ, List, None, Some, [], refl, sym, ap, subst, ◌∙◌, rules}
use Rattle.std.specs.Prelude.{Option, IfSome, Err}
use Rattle.std.specs.Option.{option_or}
use Rattle.md5.specs.Md5.{md5}
use Rattle.svn_lists.proofs.Results.{OnOk_then, OnErr_from}
use Rattle.svn_types.specs.Names.{Path}
use Rattle.svn_types.specs.declared.kind.Kind.TheVariants.{File}
use Rattle.svn_editor.specs.declared.fault.EditFault.{EditFault}
use Rattle.svn_editor.specs.Steps.{Open}
use Rattle.svn_model.specs.declared.base_node.BaseNode.{BaseNode}
use Rattle.svn_model.specs.Nodes.{get_in, node_path, node_text}
use Rattle.svn_model.specs.Effects.{step_fault, moved_path}
use Rattle.svn_model.specs.Answering.{IsAnswer}
use Rattle.svn_nodes.specs.NodeTests.{open_fault_of, deep_fault, IsSumOf}
use Rattle.svn_edit.specs.Applying.{MakesBaton}
use Rattle.law_copy.proofs.StepEffects.{effect_none}
use Rattle.svn_nodes.proofs.OpenFaults.{open_fault_is}
use Rattle.svn_edit.proofs.Holding.{applied_none}
use Rattle.svn_edit.proofs.LeftPools.{keeps_same, own_answer, gives_refused}
use Rattle.svn_edit.proofs.pending.Pending.open_file.Goals as goal

pub returns-in-Some-clause-gives : goal.returns-in-Some-clause-gives
returns-in-Some-clause-gives c =
    let old = c.args.self.now in
    let w = get_in c.args.copy.now.entries in
    let mode = c.args.mode.now in
    let p = c.args.path.now in
    let e = c.in-Some.fault in
    let shut : open_fault_of File (w p) c.args.base ≡ Some e = search rules in
    let fault : step_fault md5 mode [] w p (Open File c.args.base) ≡ Some e =
    sym (open_fault_is md5 mode [] w p File c.args.base) ∙ ap (λ o. option_or o (deep_fault (moved_path mode w p (node_path (w p))))) shut in
    gives_refused mode _ p c.args.token (Open File c.args.base) old c.args.copy.now.entries (Err e) e old c.args.copy.now.entries refl
    (subst (λ (o : Option EditFault). IsAnswer o e) (sym fault) (own_answer e)) refl refl

pub returns-in_err-test_moved-clause-gives : goal.returns-in_err-test_moved-clause-gives
returns-in_err-test_moved-clause-gives c =
    let old = c.args.self.now in
    let w = get_in c.args.copy.now.entries in
    let mode = c.args.mode.now in
    let p = c.args.path.now in
    let e = c.in_err-test_moved.field-0.0 in
    let same : c.from_residual.result ≡ Err e = search rules in
    let shut : open_fault_of File (w p) c.args.base ≡ None = search rules in
    let deep = deep_fault (moved_path mode w p (node_path (w p))) in
    let fault : step_fault md5 mode [] w p (Open File c.args.base) ≡ deep =
    sym (open_fault_is md5 mode [] w p File c.args.base) ∙ ap (λ o. option_or o deep) shut in
    gives_refused mode _ p c.args.token (Open File c.args.base) old c.args.copy.now.entries c.from_residual.result e old
    c.args.copy.now.entries same (subst (λ (o : Option EditFault). IsAnswer o e) (sym fault) c.in_err-test_moved.ensures)
    refl refl

pub returns-clause-gives : goal.returns-clause-gives
returns-clause-gives c =
    let old = c.args.self.now in
    let w = get_in c.args.copy.now.entries in
    let mode = c.args.mode.now in
    let p = c.args.path.now in
    let shut : open_fault_of File (w p) c.args.base ≡ None = search rules in
    let fault : step_fault md5 mode [] w p (Open File c.args.base) ≡ None =
    sym (open_fault_is md5 mode [] w p File c.args.base) ∙ ap (λ o. option_or o (deep_fault (moved_path mode w p (node_path (w p))))) shut
    ∙ c.in_ok-test_moved.ensures in
    record {
      opened = OnOk_then c.open_at.result c.open_at.ensures.opened (λ made.
          subst (λ n. MakesBaton n p c.args.token old c.open_at.new.self) c.root-root.ensures.root
          (subst (λ (q : Path). MakesBaton c.root-root.result.0 q c.args.token old c.open_at.new.self) c.standing.ensures.path made));
      keeps = c.open_at.ensures.keeps;
      applied = applied_none _ _ c.args.copy.now.entries c.open_at.result fault
          (effect_none mode old.target [] p (Open File c.args.base) w (λ o. refl) refl) c.open_at.ensures.fault;
    }

pub returns-clause-base : goal.returns-clause-base
returns-clause-base c = OnOk_then c.open_at.result c.open_at.ensures.base (λ is b there.
    subst (λ (o : Option (List ℕ)). IsSumOf o c.args.copy.now.entries c.args.path.now) (sym (is b there))
    (subst (λ (n : Option BaseNode). IfSome c.kept_sum.result (λ s. s ≡ md5 (node_text n))) c.standing.ensures.node c.kept_sum.ensures))

pub returns-in-Some-clause-unchanged : goal.returns-in-Some-clause-unchanged
returns-in-Some-clause-unchanged c = keeps_same c.args.self.now

pub returns-in_err-test_moved-clause-unchanged : goal.returns-in_err-test_moved-clause-unchanged
returns-in_err-test_moved-clause-unchanged c = OnErr_from c.from_residual.result (keeps_same c.args.self.now)
