use Rattle.std.proofs.Common.{◌≡◌, ℕ, List, Some, refl, sym, ap, ◌∙◌, cond}
use Rattle.std.specs.BTreeMap.{insert_entry}
use Rattle.svn_lists.proofs.Equality.{bytes_eq-same}
use Rattle.svn_types.specs.Names.{name_cmp}
use Rattle.svn_types.specs.Pairs.{value_of}
use Rattle.svn_types.proofs.NameLemmas.{Name}
use Rattle.svn_name_map.proofs.Changed.{put_back}
use Rattle.svn_repo.proofs.entries.Entries.redirect.Goals as goal

-- what was set is found, and set to what was there before
pub returns-clause-stays : goal.returns-clause-stays
returns-clause-stays c = λ n is above.
    let name = c.args.name.now in
    let es : List (Name × ℕ) = c.self.inside.map in
    let there : value_of c.set.new.self name ≡ Some c.args.node =
    c.in_ok-found.ensures.lookups c.in_ok-found.found refl name
    ∙ ap (λ b. cond b (Some c.args.node) (value_of es name)) (bytes_eq-same name) in
    rw (← c.self.view_is)
    (c.set-2.ensures.set c.args.node (c.set-2.ensures.before ∙ there)
    ∙ ap (λ (l : List (Name × ℕ)). insert_entry name_cmp l name c.in_ok-found.found)
    (c.in_ok-found.ensures.set c.in_ok-found.found refl)
    ∙ put_back es name c.in_ok-found.found c.args.node c.set.ensures.ordered (sym c.in_ok-found.ensures.before))
