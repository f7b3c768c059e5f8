use Rattle.std.proofs.Common.{◌<◌, ◌||◌, cond, length, sym, ap, ◌∙◌, None, arith, take}
use Rattle.std.specs.List.{list_any}
use Rattle.std.proofs.lemmas.List.{take_more}
use Rattle.svn_lists.proofs.Options.{removed_twice}
use Rattle.svn_lists.proofs.Somewhere.{any_push}
use Rattle.svn_types.specs.Names.{Path}
use Rattle.svn_types.specs.Paths.{path_eq}
use Rattle.svn_model.specs.Nodes.{get_in}
use Rattle.law_copy.proofs.Lookups.{get_in-updated}
use Rattle.svn_nodes.proofs.removal.remove_all.Goals as goal

pub loop-path-preserved : goal.loop-path-preserved
loop-path-preserved c = λ p.
    let within : c.loop-path.path-index < length c.args.paths.now = omega arith in
    let more = take_more c.args.paths.now c.loop-path.path-index c.path-item.result within in
    get_in-updated c.loop-path.nodes.entries c.remove.new.self.entries c.path-item.result None c.remove.ensures.updates.0 p
    ∙ ap (cond (path_eq c.path-item.result p) None) (c.loop-path.invariant p)
    ∙ removed_twice (list_any (λ q. path_eq q p) (take c.loop-path.path-index c.args.paths.now)) (path_eq c.path-item.result p)
    (get_in c.args.nodes.now.entries p)
    ∙ ap (λ b. cond b None (get_in c.args.nodes.now.entries p))
    (ap (λ (q : Path). list_any (λ q. path_eq q p) (take c.loop-path.path-index c.args.paths.now) || path_eq q p) c.path-item.is
    ∙ sym (ap (list_any (λ q. path_eq q p)) more ∙ any_push (λ q. path_eq q p) (take c.loop-path.path-index c.args.paths.now) _))
