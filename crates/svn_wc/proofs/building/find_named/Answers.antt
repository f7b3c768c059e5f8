use Rattle.std.proofs.Common.{◌≡◌, ◌++◌, ◌-◌, ◌∷◌, [], length, sym, ap, ◌∙◌}
use Rattle.std.specs.Prelude.{slice_get}
use Rattle.svn_types.specs.Names.{Path}
use Rattle.svn_types.specs.Paths.{last_name}
use Rattle.svn_repo.specs.History.{look}
use Rattle.svn_wc.specs.Truths.{entry_in}
use Rattle.law_copy.proofs.PathParts.{last_is}
use Rattle.svn_wc.proofs.Placing.{look_named}
use Rattle.svn_wc.proofs.building.find_named.Goals as goal

pub returns-in-Some : goal.returns-in-Some
returns-in-Some c =
    let last : last_name c.args.path.now ≡ c.in-Some.name.now ∷ [] =
    last_is c.args.path.now c.in-Some.name.now
    (ap (λ (p : Path). slice_get p (length p - 1)) (sym c.components.ensures.names) ∙ sym c.in-Some.ensures.value) in
    c.entry_under.ensures ∙ ap (λ o. entry_in c.args.repo.now o c.in-Some.name.now) c.lookup-id.ensures
    ∙ look_named c.args.repo.now c.args.rev c.args.above.now c.in-Some.name.now
    ∙ ap (λ (q : Path). look c.args.repo.now c.args.rev (c.args.above.now ++ q)) (sym last)
