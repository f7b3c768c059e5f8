use Rattle.std.proofs.Common.{◌≡◌, [], Some, cond, refl, sym, ap, subst, ◌∙◌, rules}
use Rattle.std.specs.Prelude.{Option, Err}
use Rattle.std.specs.Option.{option_or}
use Rattle.std.proofs.lemmas.Map.Steps.{set_value_same}
use Rattle.md5.specs.Md5.{md5}
use Rattle.svn_lists.proofs.Results.{OnErr_from}
use Rattle.svn_types.specs.Paths.{path_eq}
use Rattle.svn_types.specs.declared.kind.Kind.TheVariants.{Directory}
use Rattle.svn_editor.specs.declared.fault.EditFault.{EditFault}
use Rattle.svn_editor.specs.Steps.{Open}
use Rattle.svn_model.specs.declared.base_node.BaseNode.{BaseNode}
use Rattle.svn_model.specs.Nodes.{get_in, node_path}
use Rattle.svn_model.specs.Effects.{moved_path, opened_directory}
use Rattle.svn_model.specs.Answering.{IsAnswer}
use Rattle.svn_nodes.specs.NodeTests.{open_fault_of, deep_fault}
use Rattle.svn_edit.specs.Applying.{MakesBaton}
use Rattle.law_copy.proofs.Lookups.{get_in-updated}
use Rattle.law_copy.proofs.StepEffects.{effect_alone}
use Rattle.svn_nodes.proofs.OpenFaults.{open_fault_is}
use Rattle.svn_edit.proofs.LeftPools.{keeps_same, gives_refused}
use Rattle.svn_edit.proofs.pending.Pending.open_directory.Goals as goal

pub returns-in_err-moved-clause-gives : goal.returns-in_err-moved-clause-gives
returns-in_err-moved-clause-gives c =
    let old = c.args.self.now in
    let nodes = c.args.copy.now.entries in
    let w = get_in nodes in
    let mode = c.args.mode.now in
    let p = c.args.path.now in
    let e = c.in_err-moved.field-0.0 in
    let moved = moved_path mode w p in
    let same : c.from_residual.result ≡ Err e = search rules in
    gives_refused mode _ p c.args.token (Open Directory c.args.base) old nodes c.from_residual.result e _ _ same
    (subst (λ (o : Option EditFault). IsAnswer o e) (open_fault_is md5 mode [] w p Directory c.args.base)
    (subst (λ (o : Option BaseNode). IsAnswer (option_or (open_fault_of Directory o c.args.base) (deep_fault (moved (node_path o)))) e)
    c.in-Some.ensures.value (c.in_err-moved.ensures.answers moved c.moved-moved.ensures)))
    refl
    ((c.get_mut.follows.holds c.in-Some.node.now).0 ∙ set_value_same _ _ _ (sym c.in-Some.ensures.value))

pub returns-in_err-moved-clause-unchanged : goal.returns-in_err-moved-clause-unchanged
returns-in_err-moved-clause-unchanged c = OnErr_from c.from_residual.result (keeps_same c.args.self.now)

pub returns-in_err-open_at-clause-unchanged : goal.returns-in_err-open_at-clause-unchanged
returns-in_err-open_at-clause-unchanged c = OnErr_from c.from_residual-in_err-open_at.result c.in_err-open_at.ensures.unchanged

pub returns-in_err-open_at-clause-gives : goal.returns-in_err-open_at-clause-gives
returns-in_err-open_at-clause-gives c =
    let e = c.in_err-open_at.field-0.0 in
    let same : c.from_residual-in_err-open_at.result ≡ Err e = search rules in
    gives_refused c.args.mode.now _ c.args.path.now c.args.token (Open Directory c.args.base) c.args.self.now c.args.copy.now.entries
    c.from_residual-in_err-open_at.result e c.open_at.new.self _ same
    (subst (IsAnswer _) (sym c.in_err-open_at.ensures.fault) tt) c.in_err-open_at.ensures.keeps
    ((c.get_mut.follows.holds c.in-Some.node.now).0 ∙ set_value_same _ _ _ (sym c.in-Some.ensures.value))

pub returns-clause-gives : goal.returns-clause-gives
returns-clause-gives c =
    let old = c.args.self.now in
    let nodes = c.args.copy.now.entries in
    let w = get_in nodes in
    let mode = c.args.mode.now in
    let target = old.target in
    let p = c.args.path.now in
    let moved = moved_path mode w p in
    let opened : Some c.open_directory.new.node ≡ opened_directory target moved (w p) =
    c.open_directory.ensures moved (c.in_ok-moved.ensures.moved moved c.moved-moved.ensures)
    ∙ (λ i. opened_directory (c.in_ok-open_at.ensures.keeps i) moved (c.in-Some.ensures.value i)) in
    let written = c.get_mut.follows.holds c.open_directory.new.node in
    record {
      opened = subst (λ n. MakesBaton n p c.args.token old c.open_at.new.self) (c.pool_of-beneath.ensures ∙ c.baton_of-parent.ensures)
          c.in_ok-open_at.ensures.opened;
      keeps = c.in_ok-open_at.ensures.keeps;
      applied = (
        sym (open_fault_is md5 mode [] w p Directory c.args.base)
            ∙ ap (λ (o : Option BaseNode). option_or (open_fault_of Directory o c.args.base) (deep_fault (moved (node_path o))))
            (sym c.in-Some.ensures.value)
            ∙ c.in_ok-moved.ensures.answers moved c.moved-moved.ensures,
        λ q. get_in-updated nodes _ p (Some c.open_directory.new.node) (written.3 (rw (← c.in-Some.ensures.value) (search rules))).0 q
            ∙ ap (λ v. cond (path_eq p q) v (w q)) opened
            ∙ sym (effect_alone mode target [] p (Open Directory c.args.base) w (λ o. refl) q),
      );
    }
