use Rattle.std.proofs.Common.{◌≡◌, ◌++◌, ◌-◌, ◌∷◌, [], length, sym, ap, ◌∙◌}
use Rattle.std.specs.Prelude.{slice_get}
use Rattle.svn_lists.proofs.Results.{IfOk_then}
use Rattle.svn_types.specs.Names.{Path}
use Rattle.svn_types.specs.Paths.{last_name}
use Rattle.law_copy.proofs.PathParts.{last_is}
use Rattle.svn_wc.proofs.building.joined.Goals as goal

pub returns-in-Some : goal.returns-in-Some
returns-in-Some c =
    let last : last_name c.args.path.now ≡ c.in-Some.name.now ∷ [] =
    last_is c.args.path.now c.in-Some.name.now
    (ap (λ (p : Path). slice_get p (length p - 1)) (sym c.components.ensures.names) ∙ sym c.in-Some.ensures.value) in
    IfOk_then (λ (p : Path). p ≡ c.args.above.now ++ c.in-Some.name.now ∷ [])
    (λ (p : Path). p ≡ c.args.above.now ++ last_name c.args.path.now) c.child_path.result c.child_path.ensures.path
    (λ p is. is ∙ ap (λ (q : Path). c.args.above.now ++ q) (sym last))
