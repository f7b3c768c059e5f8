use Rattle.std.proofs.Common.{◌≡◌, ◌++◌, ◌∷◌, [], Bool, true, Some, sym, ap, ◌∙◌}
use Rattle.svn_types.specs.Paths.{path_eq, last_name}
use Rattle.svn_model.specs.declared.base_node.BaseNode.{BaseNode}
use Rattle.svn_model.specs.Nodes.{node_path}
use Rattle.svn_wc.proofs.OwnPaths.{below_own, tests_path}
use Rattle.svn_wc.proofs.above.Above.is_unswitched.Goals as goal

pub returns-then-self : goal.returns-then-self
returns-then-self c = λ below.
    let known : c.args.self.now.1 ≡ true = ap (λ (a : BaseNode × Bool). a.1) (sym c.self.view_is) ∙ c.if-self.true in
    c.eq.ensures ∙ ap (path_eq c.args.repos_path.now) (below_own c.args.path.now c.args.self.now below known)

pub returns-in-Dir-Some : goal.returns-in-Dir-Some
returns-in-Dir-Some c = λ below.
    let last : last_name c.args.path.now ≡ c.in-Dir-Some.name.now ∷ [] = c.in-Dir-Some.ensures.name in
    let front : node_path (Some c.args.self.now.0) ≡ c.in-Dir-Some.front =
    ap (λ (a : BaseNode × Bool). node_path (Some a.0)) (sym c.self.view_is)
    ∙ ap (λ (n : BaseNode). node_path (Some n)) c.in-Dir-Some.is-0 in
    tests_path c.is_child_of.result c.args.repos_path.now
    (c.in-Dir-Some.front ++ c.in-Dir-Some.name.now ∷ []) c.is_child_of.ensures.child.0 c.is_child_of.ensures.child.1
    ∙ (λ i. path_eq c.args.repos_path.now (sym front i ++ sym last i))
