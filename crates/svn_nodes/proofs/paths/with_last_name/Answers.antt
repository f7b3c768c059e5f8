use Rattle.std.proofs.Common.{◌≡◌, ◌++◌, ◌∷◌, [], ◌-◌, length, sym, ◌∙◌, ap, subst, rules}
use Rattle.std.specs.Prelude.{IfOk, slice_get}
use Rattle.svn_types.specs.Names.{Path}
use Rattle.svn_types.specs.Paths.{last_name}
use Rattle.law_copy.proofs.PathParts.{last_is}
use Rattle.svn_nodes.proofs.paths.with_last_name.Goals as goal

pub returns-then-is_child_of : goal.returns-then-is_child_of
returns-then-is_child_of c =
    let last : last_name c.args.path.now ≡ c.in-Some.name.now ∷ [] =
    last_is c.args.path.now c.in-Some.name.now (ap (λ (l : Path). slice_get l (length l - 1)) (sym c.components.ensures.names)
    ∙ sym c.in-Some.ensures.value) in
    let same : c.args.path.now ≡ c.args.above.now ++ c.in-Some.name.now ∷ [] = c.is_child_of.ensures.child.0 c.if-is_child_of.true in
    subst (λ (p : Path). IfOk c.clone.result (λ q. q ≡ p)) (same ∙ ap (λ (l : Path). c.args.above.now ++ l) (sym last))
    (search rules)

pub returns-else-is_child_of : goal.returns-else-is_child_of
returns-else-is_child_of c =
    let last : last_name c.args.path.now ≡ c.in-Some.name.now ∷ [] =
    last_is c.args.path.now c.in-Some.name.now (ap (λ (l : Path). slice_get l (length l - 1)) (sym c.components.ensures.names)
    ∙ sym c.in-Some.ensures.value) in
    subst (λ (l : Path). IfOk c.child_path.result (λ q. q ≡ c.args.above.now ++ l)) (sym last) c.child_path.ensures.path
