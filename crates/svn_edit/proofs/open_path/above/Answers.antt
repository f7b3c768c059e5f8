use Rattle.std.proofs.Common.{◌≡◌, ◌++◌, ◌∷◌, [], sym, ◌∙◌, ap, subst, rules}
use Rattle.std.specs.Prelude.{IfOk}
use Rattle.svn_types.specs.Names.{Path}
use Rattle.svn_types.specs.Paths.{parent}
use Rattle.svn_types.proofs.PathLemmas.{parent-child}
use Rattle.svn_edit.proofs.open_path.above.Goals as goal

pub returns-then-is_child_of : goal.returns-then-is_child_of
returns-then-is_child_of c =
    let same : c.args.path.now ≡ c.as_rel_path-above.result.now ++ c.in-Some-Some.name.now ∷ [] = c.is_child_of.ensures.child.0 c.if-is_child_of.true in
    subst (λ (q : Path). IfOk c.clone.result (λ p. p ≡ q))
    (sym (parent-child c.as_rel_path-above.result.now c.in-Some-Some.name.now) ∙ ap parent (sym same)) (search rules)
