use Rattle.std.proofs.Common.{◌≡◌, ◌++◌, true, Some, sym, ap, subst, ◌∙◌}
use Rattle.std.proofs.lemmas.Bool.{eqb-true}
use Rattle.svn_types.specs.Paths.{child, last_name}
use Rattle.svn_types.proofs.PathLemmas.{same_path, last_name-child}
use Rattle.svn_model.specs.declared.base_node.BaseNode.{BaseNode}
use Rattle.svn_model.specs.Nodes.{is_dir, node_path}
use Rattle.svn_wc.specs.Truths.{IsStep}
use Rattle.svn_wc.proofs.OwnPaths.{child_is_below}
use Rattle.svn_wc.proofs.truth.is_step.Goals as goal

pub returns-then-eq : goal.returns-then-eq
returns-then-eq c = λ at name known is unswitched.
    let above = c.args.above.now in
    let p = c.args.location.now.repos_path.now in
    let node = sym c.node.ensures ∙ c.in-Dir.is in
    let dir : is_dir (Some above.0) ≡ true = ap (λ (n : BaseNode). is_dir (Some n)) node in
    let front : node_path (Some above.0) ≡ c.in-Dir.repos_path = ap (λ (n : BaseNode). node_path (Some n)) node in
    let last = ap last_name is ∙ last_name-child at name in
    let below = child_is_below at name c.args.path.now above known is dir in
    let step : p ≡ child c.in-Dir.repos_path name =
    same_path p (node_path (Some above.0) ++ last_name c.args.path.now) (sym (c.is_unswitched.ensures below) ∙ unswitched)
    ∙ (λ i. front i ++ last i) in
    subst (λ (n : BaseNode). IsStep n c.args.location.now.rev p name) (sym node)
    (eqb-true c.in-Dir.rev c.args.location.now.rev (sym c.if-eq.ensures), step)
