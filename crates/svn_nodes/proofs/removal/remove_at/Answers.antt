use Rattle.std.proofs.Common.{◌≡◌, false, cond, Option, Some, None, sym, ap, ◌∙◌, rules}
use Rattle.std.specs.Option.{option_map_or}
use Rattle.svn_types.specs.Names.{Path}
use Rattle.svn_types.specs.Paths.{path_eq}
use Rattle.svn_model.specs.Nodes.{get_in}
use Rattle.law_copy.proofs.Lookups.{get_in-updated}
use Rattle.svn_nodes.proofs.removal.remove_at.Goals as goal

pub returns : goal.returns
returns c = λ p.
    let same : c.args.place.now ≡ Some c.in-Some.path = search rules in
    get_in-updated c.args.nodes.now.entries c.remove.new.self.entries c.in-Some.path None c.remove.ensures.updates.0 p
    ∙ ap (λ (o : Option Path). cond (option_map_or (λ q. path_eq q p) o false) None (get_in c.args.nodes.now.entries p)) (sym same)
