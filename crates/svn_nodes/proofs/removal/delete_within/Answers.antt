use Rattle.std.proofs.Common.{cond, ap, ◌∙◌, None}
use Rattle.svn_lists.proofs.Options.{removed_twice}
use Rattle.svn_types.specs.Paths.{path_eq, is_below}
use Rattle.svn_model.specs.Nodes.{get_in}
use Rattle.law_copy.proofs.Lookups.{get_in-updated}
use Rattle.svn_nodes.proofs.Ranges.{below_or_same}
use Rattle.svn_nodes.proofs.removal.delete_within.Goals as goal

pub returns : goal.returns
returns c = λ p.
    let path = c.args.path.now in
    let old = get_in c.args.nodes.now.entries p in
    get_in-updated c.remove_below.new.nodes.entries c.remove.new.self.entries path None c.remove.ensures.updates.0 p
    ∙ ap (cond (path_eq path p) None) (c.remove_below.ensures p)
    ∙ removed_twice (is_below path p) (path_eq path p) old
    ∙ ap (λ b. cond b None old) (below_or_same path p)
