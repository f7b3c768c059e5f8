use Rattle.std.proofs.Common.{not, ◌∙◌, rules}
use Rattle.svn_lists.proofs.Options.{left_out}
use Rattle.svn_types.specs.Paths.{is_below}
use Rattle.svn_model.specs.Nodes.{get_in}
use Rattle.svn_nodes.proofs.Retaining.{retained_by}
use Rattle.svn_nodes.proofs.removal.sweep_below.Goals as goal

pub returns : goal.returns
returns c = λ p.
    let path = c.args.path.now in
    retained_by (λ q. not (is_below path q)) _ _ (λ k v b w f' t. search rules) c.args.nodes.now.entries
    c.retain.new.self.entries c.retain.ensures.was_ordered c.retain.ensures.filtered p
    ∙ left_out (is_below path p) (get_in c.args.nodes.now.entries p)
